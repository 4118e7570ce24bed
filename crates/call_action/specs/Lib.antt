-- What the call answers, in the words of the definitions.
--   Asked      an action asked for by its number
pub mod Asked
