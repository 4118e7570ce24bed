-- Words of this crate's contracts, and their laws.
pub mod Layers
pub mod Upper
pub mod Placing
pub mod Builds
pub mod Calls
