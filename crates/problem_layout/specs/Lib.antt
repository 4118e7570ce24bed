-- Where all numbers start, and the flat table that is filled from that.
--   Laid, LaidLaws, StartsAre      what a layout says, and the laws of its loops
--   SortLaws                       the sorts of a tree's nodes and parts
--   Filled                         definitions: what is written into the table
--   SpliceLaws, PartLaws           a line written into a list of numbers, and that of a part
--   RangeLaws                      the ranges of the sorts, counted and written
--   FilledLaws, TurnLaws           what the table then says, and the laws of its loops
pub mod Laid
pub mod LaidLaws
pub mod SortLaws
pub mod StartsAre
pub mod Filled
pub mod SpliceLaws
pub mod PartLaws
pub mod RangeLaws
pub mod FilledLaws
pub mod TurnLaws
