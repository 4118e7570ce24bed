-- Laws of spans, of decimal numbers and of names.
pub mod Laws
pub mod Decimals
pub mod Names
