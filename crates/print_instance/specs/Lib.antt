-- Words of this crate's contracts, and their laws.
--   Texts     what is written of tuples and relations, by numbers
--   Cases     so the whole is the instance of the case
--   Lengths   which is not too long to be counted
pub mod Texts
pub mod Cases
pub mod Lengths
