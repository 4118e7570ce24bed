-- Words of this crate's contracts, and their laws.
pub mod Windows
