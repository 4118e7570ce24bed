-- Every limit of document 01 under one name. A limit is the largest number that still passes.
use Rattle.std.specs.Prelude.{ℕ}

-- "The sheets": bytes of a text, digits of a number, bytes of a relation's name and of a variable, arity, lines of each kind
-- (`type` lines are document 02's, job 4), variables in one list, brackets open at one time
abbrev pub text_limit : ℕ
text_limit = 1048576

abbrev pub digit_limit : ℕ
digit_limit = 7

abbrev pub name_limit : ℕ
name_limit = 12

abbrev pub variable_limit : ℕ
variable_limit = 8

abbrev pub arity_limit : ℕ
arity_limit = 3

abbrev pub rel_limit : ℕ
rel_limit = 8

abbrev pub type_limit : ℕ
type_limit = 8

abbrev pub choose_limit : ℕ
choose_limit = 4

abbrev pub list_limit : ℕ
list_limit = 4

-- of an `every` line (document 02, job 12): its arity, and the tuples of its relation
abbrev pub every_arity_limit : ℕ
every_arity_limit = 2

abbrev pub every_limit : ℕ
every_limit = 8

abbrev pub bracket_limit : ℕ
bracket_limit = 128

-- "From rule to tree": forms, quantifiers one inside another
abbrev pub form_limit : ℕ
form_limit = 64

abbrev pub nesting_limit : ℕ
nesting_limit = 4

-- "The sheets", "Atoms", "Actions": how many elements, atoms and actions a case may have, and, where it has an `every` line, what its bound
-- may be. What is read and grounded takes these as one record, so that one caller may have others than another.
pub record CaseLimits : Type 0 where
  pub elements : ℕ
  pub atoms : ℕ
  pub actions : ℕ
  pub steps : ℕ

abbrev pub usual : CaseLimits
usual = record { elements = 64; atoms = 1048576; actions = 4194304; steps = 1048576 }

-- the limits of document 01, which the desk program keeps
abbrev pub early : CaseLimits
early = record { elements = 16; atoms = 65536; actions = 131072; steps = 65536 }

-- "Refusal sheet": steps handed over
abbrev pub step_limit : ℕ
step_limit = 1048576

-- document 02, job 7: cells that are searched
abbrev pub cell_limit : ℕ
cell_limit = 20

-- "The desk program": bytes it reads, steps it has space for, words of its state (enough for all the atoms of an early case)
abbrev pub desk_bytes : ℕ
desk_bytes = 16384

abbrev pub desk_steps : ℕ
desk_steps = 8192

abbrev pub desk_words : ℕ
desk_words = 1024
