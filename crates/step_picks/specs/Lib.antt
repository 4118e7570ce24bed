-- Picks as bits in words.
--   Words, WordLaws    where the words of each `choose` start
--   Tests, TestLaws    the declared kinds by the table
--   KindLaws           that they are those of the definitions: 16
--   Copies             the picks' words by the lines of a table, and what copying them from a state leaves
--   CopyLaws           the words of the lines are those of the picks
--   Spare              spare bits of lent picks
--   Picked             words that hold picks, read from a text or lent
--   Handed             what a call tests of picks as they are handed over, by the words that hold them
pub mod Words
pub mod WordLaws
pub mod Tests
pub mod TestLaws
pub mod KindLaws
pub mod Copies
pub mod CopyLaws
pub mod Spare
pub mod Picked
pub mod Handed
