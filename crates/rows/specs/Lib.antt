-- Values of levels, and the laws of the loops over them.
pub mod Values
pub mod Laws
