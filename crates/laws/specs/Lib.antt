-- Laws about the definitions alone: what the code and the demands rest on. What a case means is in `meaning`.
--   Booleans, Lists    tests as facts; members of lists
--   Results            answers, accepted or refused
--   Positions          the first element that passes a test
--   Tuples             equal tuples, tuples among tuples
--   Repeats            lists without repeats
--   Members            ranges: ascending lists of elements
--   Rows               tuples and their rows, for any number of places
--   TupleRows          all tuples in order are the places of all rows
--   Blocks             runs of numbers, one after another
--   SetRows            the rows that set actions set
--   Numbers            the numbers of atoms and of actions
--   Words              states and picks as words
--   Copies             a buffer copied element by element
--   Walks              one walk of a tree: its visits and its counts
-- From a case that was read to its problem, each on those before it:
--   Asked              what every call begins with: the order of refusals, and what is known then
--   Alone              the same where the third input does not hang on labels
--   Labels             labels are one to one; what element fields mean by them
--   Reader             what an accepted question and site have
--   Sorts              a node's sort is 0 or that of a declared type
--   Valued             truth of a tree by a valuation of its literals
--   Digits             binary digits of numbers
--   Decimals           numbers written and read
--   Lines, Spelling    lines and fields of a text; elements written by number or by label
--   Told               what a sheet that was read tells of its text
--   Pages              lines and pages of steps: how long they are, and what they hold
--   Refusals           which numbers each call refuses with
--   Long               how long the lines of steps are
--   Writing            reading a rule's formula is the inverse of writing it
pub mod Booleans
pub mod Lists
pub mod Results
pub mod Positions
pub mod Tuples
pub mod Repeats
pub mod Members
pub mod Rows
pub mod TupleRows
pub mod Blocks
pub mod SetRows
pub mod Numbers
pub mod Words
pub mod Copies
pub mod Walks
pub mod Asked
pub mod Alone
pub mod Labels
pub mod Reader
pub mod Sorts
pub mod Valued
pub mod Digits
pub mod Decimals
pub mod Lines
pub mod Spelling
pub mod Told
pub mod Pages
pub mod Refusals
pub mod Long
pub mod Writing
