-- Laws of rows, of labels, of tuples as bits, and of adding a tuple.
pub mod Rows
pub mod Naming
pub mod Joining
pub mod Bits
pub mod Adding
pub mod Words
