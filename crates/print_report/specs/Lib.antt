-- Words of this crate's contracts, and laws about the definitions of the desk program.
pub mod Cutting
pub mod Report
pub mod Agrees
pub mod Words
pub mod Short
pub mod Said
pub mod Opened
pub mod Answers
