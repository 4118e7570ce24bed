-- Refusals of code: the numbers of their causes, and the answer of the definitions that a result of code says.
pub mod Numbers
pub mod Told
