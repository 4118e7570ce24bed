-- Words of this crate's contracts, and that what is printed is read back.
pub mod Printed
pub mod Lines
pub mod Decimals
