-- Words of this crate's contracts.
pub mod Recorded
pub mod Each
pub mod Answers
