-- Between picks that meet the rule and steps that reach the goal, for an accepted case: each gives the other.
use Rattle.std.specs.Prelude.{ℕ, ◌≡◌, ◌↔◌, true, ◌&&◌}
use Rattle.std.proofs.Math.Path.{refl, ap}
use Rattle.std.proofs.Common.{sym, subst, ◌∙◌}
use Rattle.std.proofs.Math.Option.{Option, none, some}
use mathlib.Core.List.Memᴰ
use mathlib.Core.List.{List, [], map, Memᴰ}
use Rattle.definitions.specs.Lists.{all, option}
use Rattle.definitions.specs.Sheet.Relations.{Tuple, is_among}
use Rattle.definitions.specs.Problem.Truth.{Case, are_picks, are_of_kinds, rule_is_true}
use Rattle.definitions.specs.Problem.Atoms.{Problem, problem_of, problem_with}
use Rattle.definitions.specs.Problem.Actions.{Action, set, begin_proof, prove_and, prove_or, prove_exists, prove_forall, prove_goal, round_end, mark_in, mark_out, action_at}
use Rattle.definitions.specs.Problem.Strips.{reaches_goal, pick_of, picks_of}
use Rattle.definitions.specs.Problem.Built.{built_steps}
use Rattle.definitions.specs.Reply.Demand.{are_same_picks}
use Rattle.laws.specs.Booleans.{T_of, T_true, and_T}
use Rattle.laws.specs.Lists.{all_of, flat_mem, mem_flat}
use Rattle.laws.specs.Tuples.{among_mem, mem_among}
use Rattle.laws.specs.Reader.{Accepted}
use Rattle.meaning.specs.Sound.{tuple_at, OfKinds, sound}
use Rattle.meaning.specs.Grounded.{good}
use Rattle.meaning.specs.Kinds.{tested_kinds, rule_everywhere, steps_sound}
use Rattle.meaning.specs.Pairs.{tuple_of, pairs, picked_in, in_picked}
use Rattle.meaning.specs.Complete.{complete, read_built}
use Rattle.meaning.specs.Picks.{picks_inside, inside_picks}

-- ---- the tuples that steps set
module _ (p : Problem) where
  pick_set : (a : Action) (t : Tuple) → Memᴰ t (pick_of p a) → (r : ℕ) × (row : ℕ) × (a ≡ set r row) × (t ≡ tuple_at p r row)
  unfolding pick_of
  pick_set (set r row) t m = (r, row, refl, Memᴰ.eq_of_singleton m)
  pick_set begin_proof t m = absurd (Memᴰ.not-nil m)
  pick_set (prove_and v row) t m = absurd (Memᴰ.not-nil m)
  pick_set (prove_or v row i) t m = absurd (Memᴰ.not-nil m)
  pick_set (prove_exists v row x) t m = absurd (Memᴰ.not-nil m)
  pick_set (prove_forall v row z) t m = absurd (Memᴰ.not-nil m)
  pick_set prove_goal t m = absurd (Memᴰ.not-nil m)
  pick_set round_end t m = absurd (Memᴰ.not-nil m)
  pick_set (mark_in r row) t m = absurd (Memᴰ.not-nil m)
  pick_set (mark_out r row) t m = absurd (Memᴰ.not-nil m)

  abbrev at_step : ℕ → List Tuple
  at_step k = option (action_at p k) [] (pick_of p)

  step_set : (k : ℕ) (t : Tuple) → Memᴰ t (at_step k) → (r : ℕ) × (row : ℕ) × (action_at p k ≡ some (set r row)) × (t ≡ tuple_at p r row)
  unfolding option
  step_set k t m = by_option (action_at p k) m
    where
      by_option : (o : Option Action) → Memᴰ t (option o [] (pick_of p)) → (r : ℕ) × (row : ℕ) × (o ≡ some (set r row)) × (t ≡ tuple_at p r row)
      by_option none m = absurd (Memᴰ.not-nil m)
      by_option (some a) m = let (r, row, e, f) = pick_set a t m in (r, row, ap some e, f)

  set_step : (k r row : ℕ) → action_at p k ≡ some (set r row) → Memᴰ (tuple_at p r row) (at_step k)
  unfolding option pick_of
  set_step k r row e = rw e (Memᴰ.head refl)

  -- the picks read from steps are the tuples of the set actions among them
  pub set_tuples : (steps : List ℕ) (t : Tuple) → (is_among t (picks_of p steps) ≡ true) ↔ ((k : ℕ) × Memᴰ k steps × ((r : ℕ) × (row : ℕ) × (action_at p k ≡ some (set r row)) × (t ≡ tuple_at p r row)))
  unfolding picks_of
  set_tuples steps t = (
    (λ e. let (k, m, q) = flat_mem at_step steps t (among_mem t (picks_of p steps) (T_of e)) in (k, m, step_set k t q)),
    (λ h. let (k, m, s) = h in T_true (is_among t (picks_of p steps)) (mem_among t (picks_of p steps) (subst (λ (u : Tuple). Memᴰ u (picks_of p steps)) (sym s.3) (mem_flat at_step steps k (tuple_at p s.0 s.1) m (set_step k s.0 s.1 s.2))))),
  )

pub same_picks : (P F : List Tuple) → ((t : Tuple) → Memᴰ t P → Memᴰ t F) → ((t : Tuple) → Memᴰ t F → Memᴰ t P) → are_same_picks P F ≡ true
unfolding are_same_picks
same_picks P F f g = T_true (all (λ t. is_among t F) P && all (λ u. is_among u P) F)
    (and_T (all (λ t. is_among t F) P) _ (all_of (λ t. is_among t F) P (λ x m. mem_among x F (f x m))) (all_of (λ u. is_among u P) F (λ x m. mem_among x P (g x m))))

module _ (c : Case) (A : Accepted c) where
  abbrev p : Problem
  p = problem_of c

  -- ---- from steps to picks
  pub sound_case : (steps : List ℕ) → reaches_goal p steps ≡ true → (are_picks c (picks_of p steps) ≡ true) × (are_of_kinds c (picks_of p steps) ≡ true) × (rule_is_true c (picks_of p steps) ≡ true)
  sound_case steps e =
      let s = sound p (good c A) steps (T_of e) in
      let q = steps_sound c A steps e in
      (T_true (are_picks c (picks_of p steps)) (inside_picks c A (picks_of p steps) s.kinds.inside s.distinct), q.0, q.1)

  -- picks, taken in the order of the atoms, are the same tuples
  pub in_order : (F : List Tuple) → are_picks c F ≡ true → are_same_picks (map (tuple_of p) (pairs p F)) F ≡ true
  in_order F P = same_picks (map (tuple_of p) (pairs p F)) F (picked_in p F) (in_picked p (good c A) F (picks_inside c A F (T_of P)))

  -- ---- from picks to steps
  module _ (F : List Tuple) (P : are_picks c F ≡ true) (k : are_of_kinds c F ≡ true) where
    abbrev K : OfKinds p (good c A) F
    K = tested_kinds c A F (picks_inside c A F (T_of P)) (T_of k)

    pub complete_case : rule_is_true c F ≡ true → (reaches_goal p (built_steps p F) ≡ true) × (are_same_picks (picks_of p (built_steps p F)) F ≡ true)
    unfolding problem_of problem_with
    complete_case r =
        let t = rule_everywhere c A F (T_of r) in
        (T_true (reaches_goal p (built_steps p F)) (complete p (good c A) F K t), ap (λ (l : List Tuple). are_same_picks l F) (read_built p (good c A) F K t) ∙ in_order F P)
