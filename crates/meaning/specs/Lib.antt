-- What a case means, and what its steps prove: laws that the demands, and the code that builds and judges, rest on.
--   Meaning            the tree means what the rule as written means
--   Parts              trees: free levels, nodes by preorder number
--   Means              what each atom means in the proof phase; the nodes' actions keep to it
--   Valid              actions need, add and remove atoms of the problem only; a step on atoms
--   Holding            what holds, by picks
--   Rounds             after begin-proof: what is so while a round is proved, between two rounds, and past the last
--   Sound              steps that reach the goal set picks that solve the case
--   Moments            they go through every value of the `every` relation
--   Grounded           an accepted case's problem has what the laws ask of one
--   Kinds              the declared kinds as tested and as said
--   Grows              more literals, more picks: what stays true; fewer picks keep to the kinds
--   Picks              picks in the words of the definitions
--   Pairs              picks as relation and row, in the order of the atoms
--   Cells              all tuples of the `choose` relations, and the numbers of sets of them
--   Does               the proof phase of the built steps
--   Complete           the built steps reach the goal and are read as the picks
--   Count              how many they are, and that the bound is not passed
--   Lent               picks as words
--   Building           what building answers
--   Few                how many picks and steps a sheet can hold
--   Shown              what an accepted case shows on them is short
--   Layers             layers are their steps one by one
--   Windows            how far an atom lies from its literals, at the most
--   LayerTests         a layer tested without comparing its steps with each other
--   Levels             a step's layer from a table of levels
--   Placing            layers by counting: what a layer holds, where it starts
--   Layered            the built layers: what they are, that they are accepted, how many
--   LayerPlans         building layers is building steps with one buffer more
--   FewNodes           a rule's tree has at most 64 nodes, and a node at most 64 parts
--   PddlWords          no two actions, predicates or objects have one word in PDDL, even if case is ignored
-- What steps leave in a state, for the code that builds and that reads picks:
--   Changes            what a step changes, as an equation on atoms
--   HeldTuples         after steps, the tuples that hold are the picks read from them
--   Deciding           what an action's needs say where the later nodes are decided
--   Planning           the built steps found by what may be taken alone
--   Marking            between two rounds: what a round's end and the marks leave
--   BuiltState         so the steps and the state of building, and 17
--   KindRows           16 as a test of rows
pub mod Meaning
pub mod Parts
pub mod Means
pub mod Valid
pub mod Holding
pub mod Values
pub mod Rounds
pub mod Sound
pub mod Moments
pub mod Grounded
pub mod Kinds
pub mod Grows
pub mod Picks
pub mod Pairs
pub mod Cells
pub mod Does
pub mod Complete
pub mod Count
pub mod Lent
pub mod Building
pub mod Few
pub mod Shown
pub mod Layers
pub mod LayerTests
pub mod Windows
pub mod Levels
pub mod Placing
pub mod Layered
pub mod LayerPlans
pub mod FewNodes
pub mod PddlWords
pub mod Changes
pub mod HeldTuples
pub mod Deciding
pub mod Planning
pub mod Marking
pub mod BuiltState
pub mod KindRows
