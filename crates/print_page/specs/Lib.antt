-- Words of this crate's contracts, and their laws.
--   Elements   an action's words by the table, and by the problem
--   Steps      the lines of a step
--   Bodies     the lines of a page among those of all steps
--   Naming     names and arities by the numbers of relations
pub mod Elements
pub mod Steps
pub mod Bodies
pub mod Naming
