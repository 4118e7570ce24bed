-- Words of this crate's contracts.
pub mod Labels
pub mod Members
pub mod Marks
