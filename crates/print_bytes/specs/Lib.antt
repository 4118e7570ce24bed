-- Words of this crate's contracts, and how parts of a text are written one after another.
pub mod Emitted
