-- Words of this crate's contracts, and their laws.
--   Texts   what a call answers and leaves that writes a text of the case
--   Gates   what is refused of a case that was opened, and what is known where nothing is
pub mod Gates
pub mod Texts
