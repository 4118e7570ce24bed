-- Words of this crate's contracts.
pub mod Begun
pub mod Laws
