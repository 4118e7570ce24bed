-- Words of this crate's contracts, and their laws.
--   Spelled   letters folded, words in brackets
--   Words     the words of a span
--   Lines     the lines of a plan, and their steps
--   Names     the name that a word is
--   Spans     a word as a span of the text
--   Domain    the names that the domain has
--   Objects   the objects of a line
--   Numbers   the number of a step, by the table
--   Tails     that it is the number of the step
--   Steps     the step of a line
--   Writing   the steps of all lines
pub mod Spelled
pub mod Words
pub mod Lines
pub mod Names
pub mod Spans
pub mod Domain
pub mod Objects
pub mod Numbers
pub mod Tails
pub mod Steps
pub mod Writing
