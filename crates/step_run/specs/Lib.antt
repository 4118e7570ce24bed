-- Steps taken one by one.
--   Ended      how they end, in the words of the definitions
--   RunLaws    the laws of the loop
--   Checks     steps from the initial state on
pub mod Ended
pub mod RunLaws
pub mod Checks
