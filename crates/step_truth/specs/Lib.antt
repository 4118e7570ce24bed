-- Truth of the node atoms by words.
--   Nodes        what filling a node and a word of members is
--   WordLaws     windows, members and chains, bit by bit
--   LaneLaws     the values of the rows that differ in the innermost free variable alone
--   TruthLaws    truth of a node's atom by the bits of its parts
--   FillLaws     rows written to a state that knows the later nodes
--   TurnLaws     the turns of the loops that fill a node
pub mod Nodes
pub mod WordLaws
pub mod LaneLaws
pub mod TruthLaws
pub mod FillLaws
pub mod TurnLaws
