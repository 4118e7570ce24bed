-- Steps in layers.
--   Slots       levels in the upper bits of the steps
--   SlotLaws    what reading and writing them asks for
--   Sorting     numbers sorted by keys, stable, into places that are counted
--   Sorted      all placed: each layer stands where it starts
--   Raising     levels that are filled in are those of the law of levels
--   Blocks      the numbers of a node, some rows at a time, are placed
--   Keys        what stands in the entries after the first pass
--   Counts      as many steps as true node atoms
--   Aligning    the levels of a node stand one after another
--   Places      the true node atoms in the order of their steps: what these need, add and where their levels stand
--   Placeable   what is asked of a case and its picks, and what is given
--   Ended       the lent state knows all nodes, and no atoms lie behind these
--   Standing    the entries of a buffer one by one
--   Whole       one plan, first pass
--   Finished    one plan, second pass
--   Together    both passes, by what each part of the code leaves
pub mod Slots
pub mod SlotLaws
pub mod Sorting
pub mod Raising
pub mod Blocks
pub mod Places
pub mod Keys
pub mod Aligning
pub mod Sorted
pub mod Counts
pub mod Placeable
pub mod Ended
pub mod Standing
pub mod Whole
pub mod Finished
pub mod Together
