-- Words of this crate's contracts, and their laws.
--   Lines   the line of an action, by the table and as it is meant
--   Plans   the lines of steps: where a step is no action's, and how long they are
pub mod Lines
pub mod Plans
