-- What a node table says, and of which tree it is; the rows of a tree in postorder, the pass over them, and why the table that it
-- leaves is the tree's.
--   Tables                 definitions: what a table says of a tree, and that all is in range
--   Postorder, Pass        definitions: the rows, the table's parts and rows, what each row does
--   Free                   the free levels of a node from those of its parts
--   Laid, Shown, Bounds    what the pass leaves, that each node has its row there, that all is in range
--   Whole                  the table is the tree's
--   Lent                   rows that are lent as bytes
pub mod Tables
pub mod Postorder
pub mod Pass
pub mod Free
pub mod Laid
pub mod Shown
pub mod Bounds
pub mod Whole
pub mod Lent
