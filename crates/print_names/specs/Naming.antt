-- The name of an action as the code says it, and its word. Assumes nothing.
use Rattle.std.specs.Prelude.{ℕ, ◌<◌, ◌≡◌}
use Rattle.std.proofs.Math.Path.{refl, ap}
use Rattle.std.proofs.Common.{sym, subst, ◌∙◌}
use Rattle.std.proofs.Math.Option.{Option, none, some}
use mathlib.Core.List.{List, [], ◌∷◌, ◌++◌}
use Rattle.definitions.specs.Sheet.Text.{bytes, decimal, decimal_in}
use Rattle.definitions.specs.Sheet.Relations.{is_chosen, is_universal}
use Rattle.definitions.specs.Problem.Truth.{Case}
use Rattle.definitions.specs.Problem.Atoms.{problem_of, problem_with, relation_at}
use Rattle.definitions.specs.Reply.Lifted.{ActionName, set_name, begin_name, goal_name, and_name, exists_name, first_name, next_name, or_name, relation_in}
use Rattle.definitions.specs.Reply.Pddl.{action_word, object_word}
use Rattle.laws.specs.Booleans.{or_l}
use Rattle.meaning.specs.PddlWords.{Named}
use Rattle.print_page.specs.Elements.{NamesAre, name_in}
use Rattle.print_names.specs.declared.Name.{Name}
use Rattle.print_names.specs.declared.Name.TheVariants.{Set, Begin, Goal, And, Exists, First, Next, Or, Nobody}

unfoldable pub name_of : Name → Option ActionName
name_of (Set r) = some (set_name r)
name_of Begin = some begin_name
name_of Goal = some goal_name
name_of (And v) = some (and_name v)
name_of (Exists v) = some (exists_name v)
name_of (First v) = some (first_name v)
name_of (Next v) = some (next_name v)
name_of (Or v i) = some (or_name v i)
name_of Nobody = none

-- and back
unfoldable pub named : ActionName → Name
named (set_name r) = Set r
named begin_name = Begin
named goal_name = Goal
named (and_name v) = And v
named (exists_name v) = Exists v
named (first_name v) = First v
named (next_name v) = Next v
named (or_name v i) = Or v i

pub name_of_lem : (a : ActionName) → name_of (named a) ≡ some a
unfolding name_of named
name_of_lem (set_name r) = refl
name_of_lem begin_name = refl
name_of_lem goal_name = refl
name_of_lem (and_name v) = refl
name_of_lem (exists_name v) = refl
name_of_lem (first_name v) = refl
name_of_lem (next_name v) = refl
name_of_lem (or_name v i) = refl

-- a relation has one of 18 numbers
unfoldable pub SmallName : Name → Type 0
SmallName (Set r) = r < 18
SmallName Begin = Unit {0}
SmallName Goal = Unit {0}
SmallName (And v) = Unit {0}
SmallName (Exists v) = Unit {0}
SmallName (First v) = Unit {0}
SmallName (Next v) = Unit {0}
SmallName (Or v i) = Unit {0}
SmallName Nobody = Unit {0}

pub set_small : (k : Name) (r : ℕ) → k ≡ Set r → SmallName k → r < 18
unfolding SmallName
set_small k r e h = subst SmallName e h

-- its word
unfoldable pub set_word : (question names : List ℕ) → ℕ → List ℕ
set_word question names r = bytes "set_" ++ (name_in question names r ++ bytes "_true")

unfoldable pub one_number : List ℕ → ℕ → List ℕ
one_number front v = front ++ decimal v

unfoldable pub two_numbers : List ℕ → ℕ → ℕ → List ℕ
two_numbers front v i = (front ++ decimal v) ++ ((95 ∷ []) ++ decimal i)

unfoldable pub word_in : (question names : List ℕ) → Name → List ℕ
word_in question names (Set r) = set_word question names r
word_in question names Begin = bytes "begin-proof"
word_in question names Goal = bytes "prove-goal"
word_in question names (And v) = one_number (bytes "prove_and_") v
word_in question names (Exists v) = one_number (bytes "prove_exists_") v
word_in question names (First v) = two_numbers (bytes "prove_forall_") v 1
word_in question names (Next v) = two_numbers (bytes "prove_forall_") v 2
word_in question names (Or v i) = two_numbers (bytes "prove_or_") v i
word_in question names Nobody = []

pub word_as : (question names : List ℕ) (k b : Name) (w : List ℕ) → k ≡ b → w ≡ word_in question names b → word_in question names k ≡ w
word_as question names k b w e q = ap (word_in question names) e ∙ sym q

-- part by part
pub object_parts : (x : ℕ) → object_word x ≡ (111 ∷ []) ++ decimal x
unfolding object_word
object_parts x = refl

pub set_parts : (question names : List ℕ) (r : ℕ) → set_word question names r ≡ bytes "set_" ++ (name_in question names r ++ bytes "_true")
unfolding set_word
set_parts question names r = refl

pub one_parts : (front : List ℕ) (v : ℕ) → one_number front v ≡ front ++ decimal v
unfolding one_number
one_parts front v = refl

pub two_parts : (front : List ℕ) (v i : ℕ) → two_numbers front v i ≡ one_number front v ++ ((95 ∷ []) ++ decimal i)
unfolding two_numbers one_number
two_parts front v i = refl

-- it is the word of the domain's action
module _ (c : Case) (question names : List ℕ) (N : NamesAre (problem_of c) question names) where
  set_is : (r : ℕ) → Named c (set_name r) → name_in question names r ≡ (relation_in c r).name
  unfolding Named relation_in problem_of problem_with relation_at
  set_is r (l, t) = N.name r l (or_l (is_chosen (relation_in c r).kind) (is_universal (relation_in c r).kind) t)

  pub word_is : (a : ActionName) → Named c a → word_in question names (named a) ≡ action_word c a
  unfolding word_in named action_word set_word one_number two_numbers decimal decimal_in
  word_is (set_name r) h = ap (λ (w : List ℕ). bytes "set_" ++ (w ++ bytes "_true")) (set_is r h)
  word_is begin_name h = refl
  word_is goal_name h = refl
  word_is (and_name v) h = refl
  word_is (exists_name v) h = refl
  word_is (first_name v) h = refl
  word_is (next_name v) h = refl
  word_is (or_name v i) h = refl
