-- What the public calls answer, in the words of the definitions.
--   Replies    steps that are checked
pub mod Replies
