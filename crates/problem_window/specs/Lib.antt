-- The window by the tables.
--   Folds       what a node's parts give, and its numbers, from the last node up
--   FoldLaws    one turn of the loops; that the numbers are those of the problem's window
pub mod Folds
pub mod FoldLaws
