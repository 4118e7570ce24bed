-- Words of this crate's contracts, and their laws.
--   Narrow   where every step has one line
--   Pages    one page of steps: of a problem, once they are run, and of the texts
pub mod Narrow
pub mod Pages
