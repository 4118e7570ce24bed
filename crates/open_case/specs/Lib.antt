-- What every call begins with, in the words of the definitions.
--   Known      what is known once a case was read and its problem grounded
--   Usual      whether the usual limits refuse a case, by its tally
--   Within     it has at most as many elements as its limits allow
--   Fronts     what the opening of a call tells
--   Rooms      words for the facts: how many are enough
--   Elements   so words for picks over so many are enough
--   Replies    a call's reply as the definitions' answer; the third input
pub mod Known
pub mod Usual
pub mod Within
pub mod Fronts
pub mod Rooms
pub mod Elements
pub mod Replies
