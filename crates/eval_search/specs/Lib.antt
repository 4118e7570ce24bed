-- Finding the least picks.
--   Digits   binary digits of the numbers of a run
--   Lanes    sixty-four runs side by side: the digits of their least and of their greatest numbers
--   Blocks   a run of numbers by its least and its greatest picks: what cannot be in it
--   Search   runs one after another: what each adds, and what is known where the search ends
--   Steps    where the search stands, what is known there, and what each step adds
--   Numbers  one digit of sixty-four numbers, as a word
--   Cells    which digit of a number is a cell's
--   Counts   cells and words counted through the relations of a table; the words of a number's picks
--   Filled   the words of cells, for sixty-four lanes
--   Worded   that such words say the picks of the numbers
--   Kinds    the kinds of a number's picks, by the test of their words
pub mod Digits
pub mod Lanes
pub mod Blocks
pub mod Search
pub mod Steps
pub mod Numbers
pub mod Cells
pub mod Counts
pub mod Filled
pub mod Worded
pub mod Kinds
