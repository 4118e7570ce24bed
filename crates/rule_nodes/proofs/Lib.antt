-- Laws of this crate's proofs.
pub mod Laws
pub mod Turns
