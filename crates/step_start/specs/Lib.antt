-- The initial state: what is written for each relation by the table, and that it is the definitions' initial state.
--   Rows, RowLaws               what is written, by the table
--   Initial                     what is promised, and what of the facts' words it takes
--   Parts, InitialLaws          what is written is what is promised
--   Marked                      the words that a site's reader leaves are such words
pub mod Rows
pub mod RowLaws
pub mod Initial
pub mod Parts
pub mod InitialLaws
pub mod Marked
