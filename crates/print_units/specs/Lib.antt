-- Words of this crate's contracts, and their laws.
--   Units      the units of elements, as the code goes through them
--   Streams    the bytes of a step's lines, as the code writes them
pub mod Units
pub mod Streams
