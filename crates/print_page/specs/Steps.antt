-- The lines of a step, as the code writes and counts them. Assumes nothing.
use Rattle.std.specs.Prelude.{ℕ, zero, suc, ◌<◌, ◌≡◌, Bool}
use Rattle.std.proofs.Math.Path.{refl, sym, ap, ap₂}
use Rattle.std.proofs.Common.{◌∙◌, arith, get_or-take, length-take}
use Rattle.std.proofs.Math.Bool.{true, false}
use Rattle.std.proofs.Math.Option.{Option, none, some}
use mathlib.Core.List.{List, [], ◌∷◌, ◌++◌, append-nil}
use Rattle.std.proofs.Math.ListN.{length, take, get_or}
use Rattle.definitions.specs.Lists.{option, flat_map}
use Rattle.definitions.specs.Sheet.Sheets.{Label}
use Rattle.definitions.specs.Problem.Atoms.{Problem}
use Rattle.definitions.specs.Problem.Actions as A
use Rattle.definitions.specs.Reply.Desk as D
use Rattle.definitions.specs.Reply.Page.{units, packed, step_head, step_lines, ended_line, shown_elements, part_word}
use Rattle.laws.specs.Booleans.{T_of}
use Rattle.laws.specs.Numbers.{IsAction, action_is}
use Rattle.laws.specs.Pages.{lines_at, headed_count}
use Rattle.print_line.specs.Lines.{said_by}
use Rattle.rows.specs.Values.{Within}
use Rattle.problem_table.specs.Of.{Is, said, act_of}
use Rattle.problem_table.specs.declared.Act.{Act}
use Rattle.problem_table.specs.declared.Act.TheVariants.{Set, Begin, And, Or, Exists, Forall, Goal, RoundEnd, MarkIn, MarkOut, Nothing}
use Rattle.print_units.specs.Units.{all_units, units_are}
use Rattle.print_units.specs.Streams.{streamed, streamed_is, lines_in, lines_are}
use Rattle.print_page.specs.Elements.{NamesAre, elements_in, part_in, head_in, elements_are, part_is, head_is}

unfoldable pub is_there : Act → Bool
is_there (Set a) = true
is_there Begin = true
is_there (And a) = true
is_there (Or a) = true
is_there (Exists a) = true
is_there (Forall a) = true
is_there Goal = true
is_there RoundEnd = true
is_there (MarkIn a) = true
is_there (MarkOut a) = true
is_there Nothing = false

pub there_unless : (a : Act) → (a ≡ Nothing → ⊥) → true ≡ is_there a
unfolding is_there
there_unless (Set t) h = refl
there_unless Begin h = refl
there_unless (And t) h = refl
there_unless (Or t) h = refl
there_unless (Exists t) h = refl
there_unless (Forall t) h = refl
there_unless Goal h = refl
there_unless RoundEnd h = refl
there_unless (MarkIn t) h = refl
there_unless (MarkOut t) h = refl
there_unless Nothing h = absurd (h refl)

there : (x : A.Action) → is_there (said x) ≡ true
unfolding is_there said
there (A.set r row) = refl
there A.begin_proof = refl
there (A.prove_and v row) = refl
there (A.prove_or v row i) = refl
there (A.prove_exists v row x) = refl
there (A.prove_forall v row x) = refl
there A.prove_goal = refl
there A.round_end = refl
there (A.mark_in r row) = refl
there (A.mark_out r row) = refl

pub within_five : (n : ℕ) → 0 < n → Within n (0 ∷ 0 ∷ 0 ∷ 0 ∷ 0 ∷ [])
within_five n h zero = h
within_five n h (suc zero) = h
within_five n h (suc (suc zero)) = h
within_five n h (suc (suc (suc zero))) = h
within_five n h (suc (suc (suc (suc zero)))) = h
within_five n h (suc (suc (suc (suc (suc i))))) = h

module _ (p : Problem) (w question names site labels : List ℕ) (ls : List Label) (is : Is p w) (N : NamesAre p question names) (says : said_by site labels ≡ D.said ls) (i k : ℕ) (a : Act) (is-act : a ≡ act_of (A.action_at p k)) where
  -- the units of the action
  units_of : (x : A.Action) → IsAction p x → units ls (part_word x) (shown_elements p x) ≡ all_units (said_by site labels) (part_in (said x)) (elements_in w names (said x))
  units_of x v =
      ap₂ (units ls) (sym (part_is x)) (sym (elements_are p w question names is N x v))
      ∙ units_are ls (part_in (said x)) (elements_in w names (said x)) ∙ ap (λ (say : ℕ → List ℕ). all_units say (part_in (said x)) (elements_in w names (said x))) (sym says)

  lines_of : (x : A.Action) → IsAction p x → flat_map ended_line (step_lines ls p i k x) ≡ head_in question names i k (said x) ++ streamed 0 (all_units (said_by site labels) (part_in (said x)) (elements_in w names (said x)))
  unfolding step_lines
  lines_of x v =
      streamed_is (step_head p i k x) [] (units ls (part_word x) (shown_elements p x))
      ∙ ap₂ (λ (h : List ℕ) (us : List (List ℕ)). h ++ streamed 0 us) (append-nil (step_head p i k x) ∙ sym (head_is p w question names is N i k x v)) (units_of x v)

  count_of : (x : A.Action) → IsAction p x → length (step_lines ls p i k x) ≡ lines_in 0 (all_units (said_by site labels) (part_in (said x)) (elements_in w names (said x)))
  unfolding step_lines
  count_of x v = headed_count (step_head p i k x) (packed [] (units ls (part_word x) (shown_elements p x))) ∙ lines_are [] (units ls (part_word x) (shown_elements p x)) ∙ ap (lines_in 0) (units_of x v)

  pub step_none : is_there a ≡ false → lines_at ls p i k ≡ []
  unfolding option act_of
  step_none t = by_option (A.action_at p k) is-act
    where
      by_option : (o : Option A.Action) → a ≡ act_of o → option o [] (step_lines ls p i k) ≡ []
      by_option none e = refl
      by_option (some x) e = let z : false ≡ true = sym t ∙ ap is_there e ∙ there x in absurd (T_of z)

  pub step_is : is_there a ≡ true → flat_map ended_line (lines_at ls p i k) ≡ head_in question names i k a ++ streamed 0 (all_units (said_by site labels) (part_in a) (elements_in w names a))
  unfolding option act_of is_there
  step_is t = by_option (A.action_at p k) refl is-act
    where
      by_option : (o : Option A.Action) → A.action_at p k ≡ o → a ≡ act_of o → flat_map ended_line (option o [] (step_lines ls p i k)) ≡ head_in question names i k a ++ streamed 0 (all_units (said_by site labels) (part_in a) (elements_in w names a))
      by_option none q e = let z : false ≡ true = sym (ap is_there e) ∙ t in absurd (T_of z)
      by_option (some x) q e = lines_of x (action_is p k x q) ∙ ap (λ (b : Act). head_in question names i k b ++ streamed 0 (all_units (said_by site labels) (part_in b) (elements_in w names b))) (sym e)

  pub step_count : is_there a ≡ true → length (lines_at ls p i k) ≡ lines_in 0 (all_units (said_by site labels) (part_in a) (elements_in w names a))
  unfolding option act_of is_there
  step_count t = by_option (A.action_at p k) refl is-act
    where
      by_option : (o : Option A.Action) → A.action_at p k ≡ o → a ≡ act_of o → length (option o [] (step_lines ls p i k)) ≡ lines_in 0 (all_units (said_by site labels) (part_in a) (elements_in w names a))
      by_option none q e = let z : false ≡ true = sym (ap is_there e) ∙ t in absurd (T_of z)
      by_option (some x) q e = count_of x (action_is p k x q) ∙ ap (λ (b : Act). lines_in 0 (all_units (said_by site labels) (part_in b) (elements_in w names b))) (sym e)

-- the values at the front are elements as all are
pub front_within : (n k : ℕ) (values : List ℕ) → Within n values → (i : ℕ) → i < length (take k values) → get_or (take k values) i 0 < n
front_within n k values h i l = rw (get_or-take k values i 0 (omega (arith, length-take k values))) (h i)
