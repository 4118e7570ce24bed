-- Words of this crate's contracts, and their laws.
--   Answered   what reading a plan answers and leaves
pub mod Answered
