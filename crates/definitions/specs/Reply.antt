-- What each call answers and leaves in what it is lent; the words of demand 3; the desk program.
pub mod Outcome
pub mod Demand
pub mod Desk
pub mod Rewritten
pub mod Untyped
pub mod Layers
pub mod Tally
pub mod Tries
pub mod Judgement
pub mod Finding
pub mod Monotone
pub mod Allowance
pub mod Page
pub mod Lifted
pub mod Pddl
pub mod PddlMeaning
