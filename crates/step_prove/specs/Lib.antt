-- What building by words asks of a row.
--   Tries, TryLaws           the actions for an atom by the table's numbers, and the first that passes
--   NeedLaws                 what each of them needs, once the values of the row are known
--   TurnLaws                 from one row of a node to the next, without division
--   RowLaws                  that it is the first that may be taken
--   Following, FollowLaws    the builder's progress: state, lent steps and count
pub mod Tries
pub mod TryLaws
pub mod NeedLaws
pub mod TurnLaws
pub mod Following
pub mod FollowLaws
pub mod RowLaws
