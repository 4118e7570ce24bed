-- Words of this crate's contracts, and their laws.
--   Words    terms, names and predicates by numbers
--   Loops    texts of numbers one after another
--   Lengths  how long they can be
--   Naming   the names that a question's signature gives
pub mod Words
pub mod Loops
pub mod Lengths
pub mod Naming
