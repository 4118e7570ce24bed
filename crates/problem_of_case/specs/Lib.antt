-- From a case to its table.
--   Numbered, NumberedLaws    relations by number
--   Grounds                   what the table and the sizes are of
pub mod Numbered
pub mod NumberedLaws
pub mod Grounds
