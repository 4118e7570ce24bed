-- Words of this crate's contracts, and their laws.
--   Texts, Actions     what is written of relations, nodes and actions, by numbers
--   Nodes              the same part by part
--   Bounds             a quantifier has a part
--   Parts, Patterns    terms of levels and parts of nodes by the table are those of the case's tree
--   Schemas            so actions are the case's
--   Cases              and the whole is the domain of the case
--   Lengths            which is not too long to be counted
pub mod Texts
pub mod Actions
pub mod Nodes
pub mod Bounds
pub mod Parts
pub mod Patterns
pub mod Schemas
pub mod Cases
pub mod Lengths
