-- Words of this crate's contracts, and their laws.
--   Written   what writing the plan of steps answers and leaves
pub mod Written
