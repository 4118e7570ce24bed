-- The refusal by size is that of grounding the case, and where there is none the counts are the problem's.
use Rattle.std.specs.Prelude.{◌≡◌, Bool, ◌&&◌, ◌||◌, if◌then◌else◌}
use Rattle.std.proofs.Math.Path.{refl, ap}
use Rattle.std.proofs.Common.{sym, ◌∙◌, arith}
use Rattle.std.proofs.Math.Bool.{true, false}
use Rattle.std.proofs.lemmas.Bool.{false≢true}
use Rattle.std.proofs.Math.Option.{Option, none, some}
use Prim.Native.Nat.{ℕ, zero, ◌^◌, ◌<◌, ◌≤◌}
use Rattle.std.proofs.Math.Decide.{dec_lt}
use borrow.Author.Tests.{lt-ltb, le-ltb, ltb-false, le-leb, leb-false}
use Rattle.std.proofs.Math.Dec.{ltb, leb}
use Rattle.definitions.specs.Lists.{option, is_some}
use Rattle.definitions.specs.Limits.{CaseLimits}
use Rattle.definitions.specs.Refusal.{refused, accepted, ◌>>=◌, refuse_if}
use Rattle.definitions.specs.Sheet.Relations.{Relation}
use Rattle.definitions.specs.Problem.Truth.{Case, every_tuples}
use Rattle.definitions.specs.Problem.Atoms.{problem_of, problem_with, atoms}
use Rattle.definitions.specs.Problem.Actions.{actions}
use Rattle.definitions.specs.Problem.Built.{bound}
use Rattle.definitions.specs.Reply.Outcome.{ground, too_many_values}
use Rattle.laws.specs.Booleans.{or_both}
use Rattle.laws.specs.Walks.{tally_is, told_bound, told_sizes}
use Rattle.problem_sizes.specs.declared.Tally.{Tally}
use Rattle.problem_sizes.specs.declared.Limits.{Limits}
use Rattle.problem_sizes.specs.Sums.{Tallied, refusal_in}

-- the number by its two tests
abbrev number_by : Bool → Bool → ℕ
number_by a b = if a then 11 else if b then 23 else 0

-- ---- by the tests in the code
module _ (t : Tally) (l : Limits) where
  pub many_atoms : l.atoms < t.atoms → 11 ≡ refusal_in t l
  unfolding refusal_in
  many_atoms h = rw (lt-ltb l.atoms t.atoms h) refl

  module _ (a : t.atoms ≤ l.atoms) where
    pub many_actions : l.actions < t.actions → 11 ≡ refusal_in t l
    unfolding refusal_in
    many_actions h = rw (le-ltb l.atoms t.atoms a, lt-ltb l.actions t.actions h) refl

    module _ (b : t.actions ≤ l.actions) where
      pub no_every : t.every ≡ false → 0 ≡ refusal_in t l
      unfolding refusal_in
      no_every h = rw (le-ltb l.atoms t.atoms a, le-ltb l.actions t.actions b, h) refl

      module _ (e : t.every ≡ true) where
        pub many_tuples : 8 < t.tuples → 23 ≡ refusal_in t l
        unfolding refusal_in
        many_tuples h = rw (le-ltb l.atoms t.atoms a, le-ltb l.actions t.actions b, e, lt-ltb 8 t.tuples h) refl

        pub many_steps : t.tuples ≤ 8 → l.steps < t.bound → 23 ≡ refusal_in t l
        unfolding refusal_in
        many_steps k h = rw (le-ltb l.atoms t.atoms a, le-ltb l.actions t.actions b, e, le-ltb 8 t.tuples k, lt-ltb l.steps t.bound h) refl

        pub within_all : t.tuples ≤ 8 → t.bound ≤ l.steps → 0 ≡ refusal_in t l
        unfolding refusal_in
        within_all k h = rw (le-ltb l.atoms t.atoms a, le-ltb l.actions t.actions b, e, le-ltb 8 t.tuples k, le-ltb l.steps t.bound h) refl

  -- none: both counts are within the limits
  pub counts_within : refusal_in t l ≡ 0 → (t.atoms ≤ l.atoms) × (t.actions ≤ l.actions)
  unfolding refusal_in
  counts_within e = by_test (ltb l.atoms t.atoms || ltb l.actions t.actions) refl e
    where
      by_test : (b : Bool) → (ltb l.atoms t.atoms || ltb l.actions t.actions) ≡ b
          → number_by b (t.every && (ltb 8 t.tuples || ltb l.steps t.bound)) ≡ 0 → (t.atoms ≤ l.atoms) × (t.actions ≤ l.actions)
      by_test true q e = absurd (omega arith)
      by_test false q e = let (a, b) = or_both (ltb l.atoms t.atoms) (ltb l.actions t.actions) q in (ltb-false l.atoms t.atoms a, ltb-false l.actions t.actions b)

-- ---- of a case
no_tuples : (c : Case) → is_some c.question.every ≡ false → every_tuples c ≡ 0
unfolding is_some every_tuples option
no_tuples c e = by_option c.question.every e
  where
    by_option : (o : Option Relation) → is_some o ≡ false → option o zero (λ (k : Relation). c.site.size ^ k.arity) ≡ 0
    by_option none e = refl
    by_option (some k) e = absurd (false≢true (sym e))

module _ (c : Case) (t : Tally) (T : Tallied (problem_of c) t) where
  pub atoms_told : t.atoms ≡ atoms (problem_of c)
  unfolding told_sizes
  atoms_told = T.atoms_are ∙ ap (λ x. x.sizes.atom_count) (tally_is c)

  pub actions_told : t.actions ≡ actions (problem_of c)
  unfolding told_sizes
  actions_told = T.actions_are ∙ ap (λ x. x.sizes.action_count) (tally_is c)

  pub every_told : t.every ≡ is_some c.question.every
  every_told = T.every_is ∙ ap (λ x. x.has_every) (tally_is c)

  pub tuples_told : t.tuples ≡ every_tuples c
  tuples_told = T.tuples_are ∙ ap (λ x. x.tuples) (tally_is c)

  pub bound_told : t.bound ≡ told_bound c
  unfolding told_sizes
  bound_told = T.bound_is ∙ ap (λ x. x.sizes.step_bound) (tally_is c)

  -- the bound is told wherever 23 has to look at it
  told_alike : (L : CaseLimits) → too_many_values L (problem_of c) ≡ (is_some c.question.every && (ltb 8 (every_tuples c) || ltb L.steps (told_bound c)))
  unfolding too_many_values told_bound problem_of problem_with
  told_alike L = ap (λ (b : Bool). is_some c.question.every && b) (by_test (leb (every_tuples c) 8) refl)
    where
      by_test : (b : Bool) → leb (every_tuples c) 8 ≡ b → (ltb 8 (every_tuples c) || ltb L.steps (bound (problem_of c))) ≡ (ltb 8 (every_tuples c) || ltb L.steps (if b then bound (problem_of c) else zero))
      by_test true e = refl
      by_test false e = let h : ltb 8 (every_tuples c) ≡ true = lt-ltb 8 (every_tuples c) (leb-false (every_tuples c) 8 e) in rw h refl

  module _ (L : CaseLimits) (l : Limits) (x : L.atoms ≡ l.atoms) (y : L.actions ≡ l.actions) (z : L.steps ≡ l.steps) where
    abbrev many : Bool
    many = ltb L.atoms (atoms (problem_of c)) || ltb L.actions (actions (problem_of c))

    refusal_is : refusal_in t l ≡ number_by many (too_many_values L (problem_of c))
    unfolding refusal_in
    refusal_is = rw (told_alike L, x, y, z, ← atoms_told, ← actions_told, ← every_told, ← tuples_told, ← bound_told) refl

    ground_is : ground L c ≡ (refuse_if many 11 zero >>= λ _. refuse_if (too_many_values L (problem_of c)) 23 zero >>= λ _. accepted (problem_of c))
    unfolding ground
    ground_is = refl

    pub grounded_by : refusal_in t l ≡ 0 → ground L c ≡ accepted (problem_of c)
    unfolding refuse_if ◌>>=◌
    grounded_by e = ground_is ∙ by_tests many (too_many_values L (problem_of c)) (sym refusal_is ∙ e)
      where
        by_tests : (a b : Bool) → number_by a b ≡ 0 → (refuse_if a 11 zero >>= λ _. refuse_if b 23 zero >>= λ _. accepted (problem_of c)) ≡ accepted (problem_of c)
        by_tests true b e = absurd (omega arith)
        by_tests false true e = absurd (omega arith)
        by_tests false false e = refl

    pub refused_by : (refusal_in t l ≡ 0 → ⊥) → ground L c ≡ refused (refusal_in t l) 0
    unfolding refuse_if ◌>>=◌
    refused_by n = ground_is ∙ by_tests many (too_many_values L (problem_of c)) (λ e. n (refusal_is ∙ e)) ∙ ap (λ (k : ℕ). refused k 0) (sym refusal_is)
      where
        by_tests : (a b : Bool) → (number_by a b ≡ 0 → ⊥) → (refuse_if a 11 zero >>= λ _. refuse_if b 23 zero >>= λ _. accepted (problem_of c)) ≡ refused (number_by a b) 0
        by_tests true b n = refl
        by_tests false true n = refl
        by_tests false false n = absurd (n refl)

  -- none: the `every` relation has at most 8 tuples, and the bound is the problem's
  pub tuples_within : (l : Limits) → refusal_in t l ≡ 0 → every_tuples c ≤ 8
  tuples_within l e = by_every (is_some c.question.every) refl
    where
      by_every : (b : Bool) → is_some c.question.every ≡ b → every_tuples c ≤ 8
      by_every false q = omega (arith, no_tuples c q)
      by_every true q = by_place (dec_lt 8 t.tuples)
        where
          by_place : Dec (8 < t.tuples) → every_tuples c ≤ 8
          by_place (yes h) = let (a, b) = counts_within t l e in let r = many_tuples t l a b (every_told ∙ q) h in absurd (omega (arith, r, e))
          by_place (no h) = omega (arith, tuples_told)

  pub bound_within : (l : Limits) → refusal_in t l ≡ 0 → t.bound ≡ bound (problem_of c)
  unfolding told_bound
  bound_within l e = bound_told ∙ rw (le-leb (every_tuples c) 8 (tuples_within l e)) refl
