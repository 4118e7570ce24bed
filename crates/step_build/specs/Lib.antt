-- Building steps from picks.
--   Setting      the picks are set, as folds over the builder's progress
--   SetLaws      these step by step
--   Ways         actions taken and written one by one; setting the picks is that
--   Following    what building goes by, and what following the built steps is
--   Answers      what building gives, in the words of the definitions
--   BuiltLaws    so the state, the steps and the count are theirs
--   EndLaws      begin-proof by the table, and what is lent out
--   MarkLaws     a round's end and its marks by the table
--   RoundLaws    rounds, one after another
--   BuildLaws    what the test of the kinds found, as what the definitions give
--   Starts       what is asked of a case and its picks
--   Lending      the way followed in what is lent
--   Holding      building from the initial state on
pub mod Setting
pub mod SetLaws
pub mod Ways
pub mod Following
pub mod Answers
pub mod BuiltLaws
pub mod EndLaws
pub mod MarkLaws
pub mod RoundLaws
pub mod BuildLaws
pub mod Starts
pub mod Lending
pub mod Holding
