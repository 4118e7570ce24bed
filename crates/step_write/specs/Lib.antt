-- The steps of the nodes, read off a finished state.
--   Skipping    bits that are passed over are not set
--   Steps       their numbers as lists, and what writing some is
--   StepLaws    lists of them, piece by piece
--   RowLaws     the number that is found for a true atom is its step's
pub mod Skipping
pub mod Steps
pub mod StepLaws
pub mod RowLaws
