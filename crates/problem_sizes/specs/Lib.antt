-- Words of this crate's contracts, and their laws.
pub mod Sums
pub mod SumLaws
pub mod Refused
