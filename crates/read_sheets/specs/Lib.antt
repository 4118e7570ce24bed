-- Words of this crate's contracts.
--   Reading    what a line and a whole sheet give
--   Opening    what is known of a case once its texts are read
pub mod Reading
pub mod Opening
