-- Words of this crate's contracts.
pub mod Drafts
