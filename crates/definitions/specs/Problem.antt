-- Document 01, "From rule to tree", "Atoms" and "Actions": the numbered problem of a case, its steps, and the built ones.
pub mod Rows
pub mod Truth
pub mod Tree
pub mod Atoms
pub mod Actions
pub mod Strips
pub mod Built
