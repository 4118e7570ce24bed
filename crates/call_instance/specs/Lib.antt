-- Words of this crate's contracts, and their laws.
--   Stated   what writing the instance answers and leaves
pub mod Stated
