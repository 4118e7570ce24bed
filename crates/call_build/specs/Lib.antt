-- Words of this crate's contracts.
--   Builds    where building from words can end
--   Calls     what the calls answer and leave
pub mod Builds
pub mod Calls
