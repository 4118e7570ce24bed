-- The lines of `eval_rule`, filled from a node table.
--   Lined       the numbers of each line
--   Numbers     the same as lists, and the laws of each function
--   Blocks      a node with the join under it, and its truth
--   Literals    a literal by its bit
--   Worded      words of sixty-four valuations
--   Told        that the lines say what `eval_rule` and `eval_valuations` ask
--   Everywhere  the rule beside every value of the `every` relation
pub mod Lined
pub mod Numbers
pub mod Blocks
pub mod Literals
pub mod Worded
pub mod Told
pub mod Everywhere
