-- Words of this crate's contracts, and their laws.
pub mod Counts
pub mod Answers
pub mod Sizings
