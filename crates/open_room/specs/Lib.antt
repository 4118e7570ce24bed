-- What is said of closures that slices are lent to.
pub mod Lends
