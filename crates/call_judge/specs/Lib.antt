-- Words of this crate's contracts, and their laws: where judging can end.
pub mod Judges
pub mod Calls
