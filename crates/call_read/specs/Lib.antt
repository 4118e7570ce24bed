-- What reading picks from steps gives.
--   Reads    answers and buffers: of a problem, of a case that was read, of the texts
pub mod Reads
