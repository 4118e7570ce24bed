-- The kinds of a number's picks, by the test of their words.
use Rattle.std.specs.Prelude.{ℕ, ◌≡◌, Bool, List, length, take}
use Rattle.std.proofs.Math.Path.{refl, sym, ap}
use Rattle.std.proofs.Common.{◌∙◌}
use Rattle.std.proofs.Math.Bool.{true, false}
use Rattle.std.proofs.Math.Option.{none}
use Rattle.definitions.specs.Lists.{position}
use Rattle.definitions.specs.Problem.Truth.{Case, are_picks, are_of_kinds, first_of_other_kind}
use Rattle.definitions.specs.Problem.Atoms.{problem_of}
use Rattle.definitions.specs.Problem.Built.{chosen_numbers}
use Rattle.definitions.specs.Reply.Outcome.{picks_length, pick_words}
use Rattle.definitions.specs.Reply.Finding.{numbered}
use Rattle.laws.specs.Booleans.{T_true}
use Rattle.laws.specs.Lists.{none_some}
use Rattle.laws.specs.Repeats.{once_distinct}
use Rattle.laws.specs.Reader.{Accepted}
use Rattle.meaning.specs.Building.{kinds_hold, kinds_told}
use Rattle.meaning.specs.Cells.{cell_inside, cells_once, numbered_mem, numbered_once}
use Rattle.meaning.specs.Grounded.{good}
use Rattle.meaning.specs.Picks.{inside_picks}
use Rattle.problem_table.specs.Lines.{relations_in}
use Rattle.problem_relations.specs.Bare.{bare, kinds_same}
use Rattle.std.specs.Prelude.{Some, None, not}
use Rattle.std.specs.Option.{is_some}
use Rattle.std.specs.Prelude as P
use Rattle.step_picks.specs.KindLaws.{kinds_are}
use Rattle.step_picks.specs.Tests.{told, broken_at}
use Rattle.step_picks.specs.Words.{rows_in}
use Rattle.eval_search.specs.Counts.{words_to, digits_to, Searchable}
use Rattle.eval_search.specs.Steps.{Sought, cells_of}
use Rattle.eval_search.specs.Worded.{all_cells, picked, front_is}

-- the picks of a number are picks
pub numbered_picks : (c : Case) → Accepted c → (m : ℕ) → are_picks c (numbered (cells_of c) m) ≡ true
numbered_picks c A m = T_true (are_picks c (numbered (cells_of c) m))
    (inside_picks c A (numbered (cells_of c) m) (λ t i. cell_inside (problem_of c) (good c A) t (numbered_mem (cells_of c) m t i))
    (once_distinct (numbered (cells_of c) m) (numbered_once (cells_of c) m (cells_once (problem_of c) (good c A)))))

module _ (c : Case) (table : List ℕ) (s : Sought c table) (cells : ℕ) (e : Searchable table cells) (m : ℕ) (t : List ℕ) (f : take (words_to table (relations_in table)) t ≡ digits_to table cells m (relations_in table)) where
  counted : cells ≡ length (cells_of c)
  counted = e.counted ∙ all_cells (problem_of c) table s.is

  -- the words' front is written for the picks
  pub front : take (picks_length (problem_of c)) t ≡ pick_words (problem_of c) (numbered (cells_of c) m)
  front = front_is (problem_of c) table s.is (good c s.accepted_case) cells counted m t f

  module _ (k : P.Option ℕ) (q : told k ≡ position (broken_at (bare (problem_of c)) (rows_in (bare (problem_of c)) t)) (chosen_numbers (bare (problem_of c)))) where
    told_is : told k ≡ first_of_other_kind c (numbered (cells_of c) m)
    told_is = q ∙ kinds_same (problem_of c) t ∙ kinds_are c s.accepted_case (numbered (cells_of c) m) (numbered_picks c s.accepted_case m) t (picked (problem_of c) table s.is (good c s.accepted_case) cells counted m t f)

    pub kinds_kept : k ≡ None → true ≡ are_of_kinds c (numbered (cells_of c) m)
    unfolding told
    kinds_kept z = sym (kinds_told c (numbered (cells_of c) m) (sym told_is ∙ ap told z))

    pub kinds_broken : (i : ℕ) → k ≡ Some i → false ≡ are_of_kinds c (numbered (cells_of c) m)
    unfolding told
    kinds_broken i z = sym (by_test (are_of_kinds c (numbered (cells_of c) m)) (kinds_hold c (numbered (cells_of c) m)))
      where
        by_test : (b : Bool) → (b ≡ true → first_of_other_kind c (numbered (cells_of c) m) ≡ none) → b ≡ false
        by_test true r = absurd (none_some (sym (r refl) ∙ sym told_is ∙ ap told z))
        by_test false r = refl

    -- ... which is whether nothing is found
    pub kinds_told_by : (b : Bool) → is_some k ≡ not b → b ≡ are_of_kinds c (numbered (cells_of c) m)
    kinds_told_by b e = by_answer k refl
      where
        one : (d : Bool) → false ≡ not d → d ≡ true
        one true h = refl
        one false h = h

        other : (d : Bool) → true ≡ not d → d ≡ false
        other true h = h
        other false h = refl

        by_answer : (x : P.Option ℕ) → k ≡ x → b ≡ are_of_kinds c (numbered (cells_of c) m)
        by_answer None z = one b (sym (ap is_some z) ∙ e) ∙ kinds_kept z
        by_answer (Some i) z = other b (sym (ap is_some z) ∙ e) ∙ kinds_broken i z
