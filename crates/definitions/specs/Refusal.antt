-- Document 01, "Refusal sheet": an answer is a value, or a refusal with its number and place. Where each number is tested:
--    1  `read_text` here; too many lent steps: Outcome.take_steps; the desk program's bytes: Desk.answer
--    2  Sheets.entry_of
--    3  Sheets.add_rel, add_type, add_choose, add_every, add_rule, add_size, add_label, add_member, add_fact; another sheet's record: add_to_question,
--       add_to_site, add_to_picks, add_to_steps; missing: read_question, read_site; the ends of layers: Layers.ends_test
--    4  Sheets.is_new_name, and a type's: Sheets.add_type
--    5  Parsing.read_formula
--    6  Formula.all_forms, Formula.nesting
--    7  Formula.is_known in the rule, Sheets.used in `fact` and `pick`
--    8  Formula.is_scoped
--    9  Sheets.add_size, Sheets.add_label, Sheets.add_member, Sheets.add_tuple
--   10  Sheets.add_member, Sheets.add_tuple in a text, Outcome.spare_word in lent picks
--   11  Outcome.ground
--   12  Outcome.room_for
--   13, 14, 15  Strips.run_from, of layers Layers.run_layers_from; an action asked for by number: Outcome.action
--   16  Truth.first_of_other_kind, by Outcome.satisfying
--   17  Truth.rule_is_true, by Outcome.satisfying
-- and of document 02:
--   18  just after 9: Sheets.add_label, Sheets.add_member, Sheets.add_tuple
--   19  a type, just after 8: Sheets.add_type, Sheets.add_choose, Formula.is_typed in the rule, Sheets.add_member; one without members,
--       at the end of the site: Sheets.read_site
--   20  Finding.least_picks
--   21  Finding.least_picks, Monotone.monotone
--   22  a case with types, before 11: Pddl.no_types; a line of a plan that is no step, after 12: Pddl.steps_from. (A line that is none is 2:
--       Pddl.add_plan_line; a step to be written that is no action's number 13: Pddl.plan_from)
--   23  an `every` line, just after 11: Outcome.ground; where no such case is taken: Outcome.without_every
--   24  Monotone.monotone
use Rattle.std.specs.Prelude.{ℕ, zero, Bool, true, false, List, [], ◌∷◌, length, ltb}
use Rattle.std.proofs.Math.Option.{Option, none, some}
use Rattle.definitions.specs.Lists.{Text}
use Rattle.definitions.specs.Limits.{text_limit}
use Rattle.definitions.specs.Sheet.Text.{Line, lines}

pub data Result (A : Type 0) : Type 0 where
  refused : (number place : ℕ) → Result A
  accepted : A → Result A

infixl 20 ◌>>=◌
-- the first refusal stands; a `do` block is read by this
unfoldable pub ◌>>=◌ : {A B : Type 0} → Result A → (A → Result B) → Result B
◌>>=◌ (refused k place) f = refused k place
◌>>=◌ (accepted a) f = f a

-- the refusal k at a place where a test says so
unfoldable pub refuse_if : Bool → ℕ → ℕ → Result (Unit {0})
refuse_if true k place = refused k place
refuse_if false k place = accepted tt

-- what is there, or the refusal k at a place where nothing is
unfoldable pub given : {A : Type 0} → Option A → ℕ → ℕ → Result A
given none k place = refused k place
given (some a) k place = accepted a

-- How any sheet is read ("lines in order, in a line by number"): a text that is too long is 1, place 0; after that line by line,
-- each line's tests in the order in which `line` makes them.
unfoldable pub read_lines : {S : Type 0} → (S → Line → Result S) → S → List Line → Result S
read_lines line s [] = accepted s
read_lines line s (l ∷ ls) = line s l >>= λ s'. read_lines line s' ls

unfoldable pub read_text : {S : Type 0} → (S → Line → Result S) → S → Text → Result S
read_text line s text = refuse_if (ltb text_limit (length text)) 1 zero >>= λ _. read_lines line s (lines text)

-- ---- the numbers that a call may refuse with: where no problem is made of the texts; or a lent buffer is too short; steps that are
-- taken one by one; picks that are handed over; picks that are looked for; rules that only want more; where PDDL is written or read
abbrev pub case_numbers : List ℕ
case_numbers = 1 ∷ 2 ∷ 3 ∷ 4 ∷ 5 ∷ 6 ∷ 7 ∷ 8 ∷ 9 ∷ 10 ∷ 11 ∷ 18 ∷ 19 ∷ 23 ∷ []

abbrev pub ready_numbers : List ℕ
ready_numbers = 12 ∷ case_numbers

abbrev pub run_numbers : List ℕ
run_numbers = 13 ∷ 14 ∷ 15 ∷ []

abbrev pub picks_numbers : List ℕ
picks_numbers = 10 ∷ 16 ∷ 17 ∷ []

abbrev pub find_numbers : List ℕ
find_numbers = 20 ∷ 21 ∷ []

abbrev pub monotone_numbers : List ℕ
monotone_numbers = 24 ∷ 21 ∷ []

abbrev pub pddl_numbers : List ℕ
pddl_numbers = 22 ∷ ready_numbers
