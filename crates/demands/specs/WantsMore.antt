-- Rules that only ever want more: some picks make them true exactly if all tuples picked do; and what the call answers.
use Rattle.std.specs.Prelude.{ℕ, zero, ◌≡◌, ◌↔◌, Bool, not, ◌&&◌, List}
use Rattle.std.proofs.Math.Path.{refl}
use Rattle.std.proofs.Common.{sym, subst, ◌∙◌, arith}
use Rattle.std.proofs.Math.Bool.{true, false}
use Rattle.std.proofs.Math.Option.{none, some}
use Rattle.std.proofs.Math.Dec.{T}
use Rattle.definitions.specs.Limits.{CaseLimits}
use Rattle.definitions.specs.Lists.{all, is_some}
use Rattle.definitions.specs.Refusal.{Result, refused, accepted, ◌>>=◌, refuse_if}
use Rattle.definitions.specs.Sheet.Relations.{Relation, Tuple, is_function}
use Rattle.definitions.specs.Sheet.Sheets.{Label}
use Rattle.definitions.specs.Problem.Truth.{Case, are_picks, are_of_kinds, rule_holds, rule_is_true}
use Rattle.definitions.specs.Problem.Tree.{tree_of}
use Rattle.definitions.specs.Problem.Atoms.{Problem, problem_of}
use Rattle.definitions.specs.Reply.Outcome.{read_filed, ground, asked, nothing}
use Rattle.definitions.specs.Reply.Finding.{cells}
use Rattle.definitions.specs.Reply.Monotone.{only_wants_more, monotone}
use Rattle.laws.specs.Booleans.{T_of, T_true, T_false, T_and_l, T_and_r}
use Rattle.laws.specs.Lists.{none_some}
use Rattle.laws.specs.Results.{refused_accepted, refused_number}
use Rattle.laws.specs.Repeats.{once_distinct}
use Rattle.laws.specs.Reader.{Accepted, not_some}
use Rattle.meaning.specs.Meaning.{tree_means}
use Rattle.meaning.specs.Grounded.{good}
use Rattle.meaning.specs.Grows.{more_holds, plain_kinds}
use Rattle.meaning.specs.Picks.{picks_inside, inside_picks}
use Rattle.meaning.specs.Cells.{cell_inside, inside_cell, cells_once}
use Rattle.demands.specs.Every.{plain_true}
use Rattle.demands.specs.Finds.{Solves}

module _ (c : Case) (A : Accepted c) where
  abbrev p : Problem
  p = problem_of c

  abbrev Plain : Bool
  Plain = all (λ (k : Relation). not (is_function k.kind)) c.question.chosen

  -- (what the profile says, part by part)
  no_every : T (only_wants_more c.question) → c.question.every ≡ none
  unfolding only_wants_more
  no_every w = not_some c.question.every (T_and_l (not (is_some c.question.every)) _ (T_and_l (not (is_some c.question.every) && Plain) _ w))

  all_plain : T (only_wants_more c.question) → T Plain
  unfolding only_wants_more
  all_plain w = T_and_r (not (is_some c.question.every)) _ (T_and_l (not (is_some c.question.every) && Plain) _ w)

  -- all tuples are picks
  pub all_picks : are_picks c (cells p) ≡ true
  all_picks = T_true (are_picks c (cells p)) (inside_picks c A (cells p) (cell_inside p (good c A)) (once_distinct (cells p) (cells_once p (good c A))))

  -- within the profile picks of which the rule is true can be all tuples
  all_do : T (only_wants_more c.question) → (P : List Tuple) → Solves c P → rule_is_true c (cells p) ≡ true
  unfolding only_wants_more
  all_do w P s =
      let (a, k, r) = s in
      let plain = no_every w in
      plain_true c A plain (cells p) ∙ T_true (rule_holds c (cells p)) (subst T (tree_means c (cells p) A) (more_holds c P (cells p) (λ t i. inside_cell p (good c A) t (picks_inside c A P (T_of a) t i)) _ (tree_of c.question)
      (T_and_r (not (is_some c.question.every) && Plain) _ w) (subst T (sym (tree_means c P A)) (T_of (sym (plain_true c A plain P) ∙ r)))))

  pub all_or_none : only_wants_more c.question ≡ true → ((P : List Tuple) × Solves c P) ↔ (rule_is_true c (cells p) ≡ true)
  all_or_none w = (
    (λ h. all_do (T_of w) h.0 h.1),
    (λ r. (cells p, (all_picks, T_true (are_of_kinds c (cells p)) (plain_kinds c (cells p) (all_plain (T_of w))), r))),
  )

  -- ---- the call on this case
  module _ (L : CaseLimits) (question site : List ℕ) (labels : List Label) (is_filed : read_filed L question site ≡ accepted (record { case = c; labels = labels })) (grounds : ground L c ≡ accepted p) where
    abbrev answer : Result ℕ
    answer = monotone L question site

    -- the three ways it can end
    pub data Ends : Type 0 where
      outside : only_wants_more c.question ≡ false → answer ≡ refused 24 zero → Ends
      none_do : only_wants_more c.question ≡ true → ((P : List Tuple) → Solves c P → ⊥) → answer ≡ refused 21 zero → Ends
      some_do : only_wants_more c.question ≡ true → (P : List Tuple) × Solves c P → answer ≡ accepted zero → Ends

    pub ends : Ends
    unfolding monotone asked nothing refuse_if ◌>>=◌
    ends = by_profile (only_wants_more c.question) refl
      where
        by_rule : only_wants_more c.question ≡ true → (b : Bool) → rule_is_true c (cells p) ≡ b → Ends
        by_rule w true r = some_do w ((all_or_none w).1 r) (rw (is_filed, grounds, w, r) refl)
        by_rule w false r = none_do w (λ P s. T_of (sym r ∙ all_do (T_of w) P s)) (rw (is_filed, grounds, w, r) refl)

        by_profile : (b : Bool) → only_wants_more c.question ≡ b → Ends
        by_profile true w = by_rule w (rule_is_true c (cells p)) refl
        by_profile false w = outside w (rw (is_filed, grounds, w) refl)

    wrong : (j k : ℕ) → (j ≡ k → ⊥) → answer ≡ refused j zero → answer ≡ refused k zero → ⊥
    wrong j k n e f = n (refused_number j k zero zero (sym e ∙ f))

    pub wants_some : (answer ≡ accepted zero) ↔ ((only_wants_more c.question ≡ true) × ((P : List Tuple) × Solves c P))
    wants_some = (λ a. by_end ends a, λ h. from_end ends h.0 h.1)
      where
        by_end : Ends → answer ≡ accepted zero → (only_wants_more c.question ≡ true) × ((P : List Tuple) × Solves c P)
        by_end (outside w e) a = absurd (refused_accepted (sym e ∙ a))
        by_end (none_do w n e) a = absurd (refused_accepted (sym e ∙ a))
        by_end (some_do w s e) a = (w, s)

        from_end : Ends → only_wants_more c.question ≡ true → (P : List Tuple) × Solves c P → answer ≡ accepted zero
        from_end (outside w e) v s = absurd (T_of (sym w ∙ v))
        from_end (none_do w n e) v s = absurd (n s.0 s.1)
        from_end (some_do w t e) v s = e

    pub wants_none : (answer ≡ refused 21 zero) ↔ ((only_wants_more c.question ≡ true) × ((P : List Tuple) → Solves c P → ⊥))
    wants_none = (λ a. by_end ends a, λ h. from_end ends h.0 h.1)
      where
        by_end : Ends → answer ≡ refused 21 zero → (only_wants_more c.question ≡ true) × ((P : List Tuple) → Solves c P → ⊥)
        by_end (outside w e) a = absurd (wrong 24 21 (λ n. omega arith) e a)
        by_end (none_do w n e) a = (w, n)
        by_end (some_do w s e) a = absurd (refused_accepted (sym a ∙ e))

        from_end : Ends → only_wants_more c.question ≡ true → ((P : List Tuple) → Solves c P → ⊥) → answer ≡ refused 21 zero
        from_end (outside w e) v s = absurd (T_of (sym w ∙ v))
        from_end (none_do w n e) v s = e
        from_end (some_do w t e) v s = absurd (s t.0 t.1)

    pub wants_else : (answer ≡ refused 24 zero) ↔ (only_wants_more c.question ≡ false)
    wants_else = (λ a. by_end ends a, λ h. from_end ends h)
      where
        by_end : Ends → answer ≡ refused 24 zero → only_wants_more c.question ≡ false
        by_end (outside w e) a = w
        by_end (none_do w n e) a = absurd (wrong 21 24 (λ n. omega arith) e a)
        by_end (some_do w s e) a = absurd (refused_accepted (sym a ∙ e))

        from_end : Ends → only_wants_more c.question ≡ false → answer ≡ refused 24 zero
        from_end (outside w e) v = e
        from_end (none_do w n e) v = absurd (T_of (sym v ∙ w))
        from_end (some_do w t e) v = absurd (T_of (sym v ∙ w))

    -- with an `every` line the case is outside the profile
    pub wants_every : (k : Relation) → c.question.every ≡ some k → answer ≡ refused 24 zero
    wants_every k e = wants_else.1 (T_false (only_wants_more c.question) (λ w. none_some (sym (no_every w) ∙ e)))
