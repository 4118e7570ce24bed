-- Words of this crate's contracts, and their laws.
--   Wants    the profile by the node table and the kinds
--   Full     words of all ones hold all tuples
--   Answers  what the call answers, one law for each place where it ends
pub mod Wants
pub mod Full
pub mod Answers
