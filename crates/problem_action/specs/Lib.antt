-- The numbers of actions, by the table of a grounded problem.
pub mod Decoded
pub mod Found
