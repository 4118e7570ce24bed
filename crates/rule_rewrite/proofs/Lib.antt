-- Laws of this crate's proofs.
--   Tables          tables of rows
--   Words           variables and relations in the text
--   Views           a formula by its kind
--   Turns, Ends     the walk, form by form
--   Calls           what its functions ask of those that they call, and give
--   Root            totalities and the whole rule
pub mod Tables
pub mod Words
pub mod Views
pub mod Turns
pub mod Ends
pub mod Calls
pub mod Root
