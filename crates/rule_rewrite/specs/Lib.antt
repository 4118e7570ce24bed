-- The tree of a formula that stands in a text, its rows, and what the walk over it asks and gives.
--   Trees, Sizes    the tree by the formula's form, its rows in postorder, and that a table can hold it
--   Ready           what the walk asks of a place, and what it gives
--   Rule            an accepted rule, its totalities, and the question that the table is of
pub mod Trees
pub mod Sizes
pub mod Ready
pub mod Rule
