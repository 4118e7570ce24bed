-- Sixty-four valuations at once.
--   Words    what is read off lines and words
--   Laws     a node's words as a search
pub mod Words
pub mod Laws
