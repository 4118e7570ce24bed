-- What the public call answers, in the words of the definitions.
--   Replies    layered plans that are checked
pub mod Replies
