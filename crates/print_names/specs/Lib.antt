-- Words of this crate's contracts, and their laws.
--   Naming   actions' names and their words, as the code has them
pub mod Naming
