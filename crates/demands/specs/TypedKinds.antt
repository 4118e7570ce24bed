-- Kinds with types: what it means that picks are of them, which tuples have a set action, and how many a relation has.
use Rattle.std.specs.Prelude.{ℕ, zero, suc, ◌+◌, ◌*◌, ◌/◌, ◌%◌, ◌<◌, ◌≡◌, ◌↔◌, if◌then◌else◌}
use Rattle.std.proofs.Math.Path.{refl, subst}
use Rattle.std.proofs.Common.{sym, ap, ◌∙◌}
use Rattle.std.proofs.Math.Bool.{true, not}
use Rattle.std.proofs.Math.Option.{some}
use mathlib.Core.List.{List, Memᴰ}
use native.Mathlib.Omega.{arith}
use Rattle.std.proofs.Math.Dec.{T}
use Rattle.std.proofs.Math.ListN.{length, get_or}
use borrow.Author.Tests.{not-false}
use Rattle.definitions.specs.Lists.{map_from}
use Rattle.definitions.specs.Sheet.Relations.{Relation, Tuple, is_chosen, is_function}
use Rattle.definitions.specs.Sheet.Sheets.{first_chosen}
use Rattle.definitions.specs.Problem.Truth.{Case, members_of, each_chosen, is_of_kind, are_of_kinds, first_of_other_kind}
use Rattle.definitions.specs.Problem.Atoms.{Problem, problem_of, problem_with, relation_at, tuples_of}
use Rattle.definitions.specs.Problem.Actions.{set, action_at, set_start}
use Rattle.laws.specs.Booleans.{T_of, T_true}
use Rattle.laws.specs.Lists.{each_at, each_of, get_or_map_from, length_map_from}
use Rattle.laws.specs.Positions.{some_position}
use Rattle.laws.specs.Numbers.{no_relation, IsAction, action_at_lem, action_is, set_next}
use Rattle.laws.specs.SetRows.{set_row_lem, row_set, sets_all}
use Rattle.meaning.specs.Means.{Good}
use Rattle.laws.specs.Reader.{Accepted}
use Rattle.meaning.specs.Grounded.{good}
use Rattle.demands.specs.BothSides.{Keeps, kind_means}

module _ (c : Case) (picks : List Tuple) where
  abbrev first : ℕ
  first = first_chosen c.question

  abbrev chosen : List Relation
  chosen = c.question.chosen

  -- picks are of the declared kinds if those of each `choose` keep to its kind
  pub kinds_are : (are_of_kinds c picks ≡ true) ↔ ((j : ℕ) → j < length chosen → Keeps c picks (first + j) (get_or chosen j no_relation))
  unfolding are_of_kinds each_chosen
  kinds_are = (
    (λ e j l. (kind_means c picks (first + j) (get_or chosen j no_relation)).0 (T_true _ (each_at (is_of_kind c picks) first chosen no_relation (T_of e) j l))),
    (λ h. T_true _ (each_of (is_of_kind c picks) first chosen no_relation (λ j l. T_of ((kind_means c picks (first + j) (get_or chosen j no_relation)).1 (h j l))))),
  )

  -- and otherwise the first that does not is told
  pub first_is : (i : ℕ) → first_of_other_kind c picks ≡ some i
      → (i < length chosen) × (Keeps c picks (first + i) (get_or chosen i no_relation) → ⊥) × ((j : ℕ) → j < i → Keeps c picks (first + j) (get_or chosen j no_relation))
  unfolding first_of_other_kind each_chosen
  first_is i e =
      let (l, t, before) = some_position not (map_from (is_of_kind c picks) first chosen) true i e in
      let n = length_map_from (is_of_kind c picks) first chosen in
      let h : i < length chosen = omega arith in (
        h,
        (λ k. subst T (ap not (at i h ∙ (kind_means c picks (first + i) (get_or chosen i no_relation)).1 k)) (T_of t)),
        (λ j b. (kind_means c picks (first + j) (get_or chosen j no_relation)).0 (sym (at j (omega arith)) ∙ not-false _ (before j b))),
      )
    where
      at : (j : ℕ) → j < length chosen → get_or (map_from (is_of_kind c picks) first chosen) j true ≡ is_of_kind c picks (first + j) (get_or chosen j no_relation)
      at j h = get_or_map_from (is_of_kind c picks) first j chosen no_relation true h

module _ (c : Case) (A : Accepted c) where
  abbrev p : Problem
  p = problem_of c

  abbrev G : Good p
  G = good c A

  ranges_are : p.range ≡ members_of c
  unfolding problem_of problem_with
  ranges_are = refl

  abbrev Typed : ℕ → ℕ → (ℕ → List ℕ) → Type 0
  Typed r row R = Memᴰ (row / p.size) (R (relation_at p r).firsts) × Memᴰ (row % p.size) (R (relation_at p r).seconds)

  -- a row of a `choose` has a set action exactly if its places, of a function kind, are in the ranges of its types
  pub settable : (r row : ℕ)
      → ((k : ℕ) × (action_at (problem_of c) k ≡ some (set r row)))
      ↔ ((r < length (problem_of c).relations) × (is_chosen (relation_at (problem_of c) r).kind ≡ true) × (row < tuples_of (problem_of c).size (relation_at (problem_of c) r))
      × (is_function (relation_at (problem_of c) r).kind ≡ true → Memᴰ (row / (problem_of c).size) (members_of c (relation_at (problem_of c) r).firsts) × Memᴰ (row % (problem_of c).size) (members_of c (relation_at (problem_of c) r).seconds)))
  unfolding IsAction
  settable r row = (
    (λ q. let v = action_is p q.0 (set r row) q.1 in let (t, h, s) = set_row_lem p.size p.range (relation_at p r) row v.2 in
        (v.0, T_true _ t, h, λ f. subst (Typed r row) ranges_are (s (T_of f)))),
    (λ q. let (l, t, h, s) = q in
        (_, action_at_lem p (set r row) (l, T_of t, row_set p.size p.range (relation_at p r) row (T_of t) h (λ f. subst (Typed r row) (sym ranges_are) (s (T_true _ f)))))),
  )

  -- how many set actions there are before each relation's
  pub set_counts : (r : ℕ) → r < length (problem_of c).relations
      → set_start (problem_of c) (suc r) ≡ set_start (problem_of c) r
      + (if is_function (relation_at (problem_of c) r).kind then length (members_of c (relation_at (problem_of c) r).firsts) * length (members_of c (relation_at (problem_of c) r).seconds)
      else if is_chosen (relation_at (problem_of c) r).kind then tuples_of (problem_of c).size (relation_at (problem_of c) r) else zero)
  set_counts r l = set_next p r l ∙ ap (λ (x : ℕ). set_start p r + x) (sets_all p.size p.range (relation_at p r) (λ s. G.ranged s) (G.pairs r l)
      ∙ ap (λ (R : ℕ → List ℕ). if is_function (relation_at p r).kind then length (R (relation_at p r).firsts) * length (R (relation_at p r).seconds) else if is_chosen (relation_at p r).kind then tuples_of p.size (relation_at p r) else zero) ranges_are)
