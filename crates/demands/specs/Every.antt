-- Document 02, job 12: the values of the `every` relation in plain words, and what a case without an `every` line keeps of document 01.
use Prim.Native.Nat.{ℕ, zero, suc, ◌+◌, ◌*◌, ◌/◌, ◌^◌, ◌<◌, ◌≤◌}
use Rattle.std.specs.Prelude.{◌≡◌, ◌↔◌, Bool, true, false, not, ◌&&◌, ◌||◌, ltb, length}
use Rattle.std.proofs.Math.Path.{refl, sym, ap, subst}
use Rattle.std.proofs.Common.{ap₂, ◌∙◌, ltb-false}
use Rattle.std.proofs.Math.Bool.{and-true}
use Rattle.std.proofs.Math.Option.{Option, none, some}
use mathlib.Core.List.{List, [], ◌∷◌, ◌++◌, Memᴰ}
use native.Mathlib.Omega.{arith}
use Rattle.std.proofs.Math.Nat.{pow-succ'}
use Rattle.std.proofs.Math.Dec.{T, T_not}
use Rattle.definitions.specs.Limits.{CaseLimits}
use Rattle.definitions.specs.Lists.{option, is_some, all, any, from, below}
use Rattle.definitions.specs.Refusal.{accepted, ◌>>=◌, refuse_if}
use Rattle.definitions.specs.Sheet.Relations.{Relation, Tuple, same_tuple, is_among, is_universal, built_in}
use Rattle.definitions.specs.Sheet.Sheets.{relations_of, every_number}
use Rattle.definitions.specs.Problem.Truth.{Case, every_tuples, values, digit, every_value, rule_holds, rule_is_true}
use Rattle.definitions.specs.Problem.Atoms.{Problem, problem_of, problem_with, relation_at, places_of, row_of, tuples_of, tuple, not_tuple, marked, atom_number, relation_start, node_start, last_start, last_tuples, atoms}
use Rattle.definitions.specs.Problem.Actions.{Action, begin_proof, prove_goal, round_end, mark_in, mark_out, action_at, actions, proof_start, marks_before, root_atom}
use Rattle.definitions.specs.Problem.Strips.{reaches_goal, run}
use Rattle.definitions.specs.Problem.Built.{set_steps, node_steps, built_actions, bound}
use Rattle.definitions.specs.Reply.Outcome.{too_many_values, ground}
use Rattle.laws.specs.Booleans.{T_of, T_true, T_false, T_ext, or_both}
use Rattle.laws.specs.Results.{accepted_eq, bind_parts, not_refused}
use Rattle.laws.specs.Lists.{all_at, all_of, mem_below}
use Rattle.laws.specs.Tuples.{among_mem, mem_among}
use Rattle.laws.specs.Rows.{length_places, places_below, places_row, row_lt}
use Rattle.laws.specs.Numbers.{IsAtom, IsAction, last_width, action_is, early_start, last_first, last_next, atoms_end, mark_first, mark_next, actions_end}
use Rattle.laws.specs.Digits.{digit_first, digit_next, is_odd_lem, is_even}
use Rattle.meaning.specs.Values.{one_value, value_mem, mem_value, with_zero}
use Rattle.laws.specs.Reader.{Accepted, relations_none}
use Rattle.meaning.specs.Changes.{any_append}
use Rattle.meaning.specs.Sound.{tup, tuple_at}
use Rattle.meaning.specs.Complete.{built_plain}
use Rattle.meaning.specs.Moments.{rounds}
use Rattle.meaning.specs.Grounded.{good}
use Rattle.demands.specs.AnyOrder

-- ---- every set of rows is that of some number's digits
pub every_set : (S : ℕ → Bool) (m : ℕ) → (k : ℕ) × (k < 2 ^ m) × ((row : ℕ) → row < m → digit k row ≡ S row)
every_set S zero = (zero, omega arith, λ row h. absurd (omega arith))
every_set S (suc m) = let (k, l, h) = every_set (λ i. S (suc i)) m in by_test (S 0) refl k l h
  where
    by_test : (b : Bool) → S 0 ≡ b → (k : ℕ) → k < 2 ^ m → ((row : ℕ) → row < m → digit k row ≡ S (suc row)) → (j : ℕ) × (j < 2 ^ suc m) × ((row : ℕ) → row < suc m → digit j row ≡ S row)
    by_test true e k l h = (suc (2 * k), (let a = pow-succ' 2 m in omega arith), λ row i. at row i)
      where
        at : (row : ℕ) → row < suc m → digit (suc (2 * k)) row ≡ S row
        at zero i = digit_first (suc (2 * k)) ∙ is_odd_lem (suc (2 * k)) (omega arith) ∙ sym e
        at (suc row) i = let q : suc (2 * k) / 2 ≡ k = omega arith in digit_next (suc (2 * k)) row ∙ ap (λ (x : ℕ). digit x row) q ∙ h row (omega arith)
    by_test false e k l h = (2 * k, (let a = pow-succ' 2 m in omega arith), λ row i. at row i)
      where
        at : (row : ℕ) → row < suc m → digit (2 * k) row ≡ S row
        at zero i = digit_first (2 * k) ∙ is_even (2 * k) (omega arith) ∙ sym e
        at (suc row) i = let q : 2 * k / 2 ≡ k = omega arith in digit_next (2 * k) row ∙ ap (λ (x : ℕ). digit x row) q ∙ h row (omega arith)

-- a tuple of the relation of an `every` line, over the elements
abbrev pub OfEvery : Case → Tuple → Type 0
OfEvery c t = (e : Relation) × (c.question.every ≡ some e) × (t.relation ≡ every_number c.question) × (length t.places ≡ e.arity) × T (all (λ x. ltb x c.site.size) t.places)

module _ (c : Case) (A : Accepted c) where
  abbrev p : Problem
  p = problem_of c

  abbrev n : ℕ
  n = c.site.size

  -- value k has the tuples whose digits are 1
  pub value_is : (k : ℕ) (t : Tuple) → (is_among t (every_value c k) ≡ true) ↔ ((e : Relation) × (c.question.every ≡ some e) × ((row : ℕ) × (row < every_tuples c) × (digit k row ≡ true) × (t ≡ record { relation = every_number c.question; places = places_of c.site.size e.arity row })))
  unfolding problem_of problem_with is_some
  value_is k t = (
    (λ h. let (s, v) = value_mem p (good c A) k t (among_mem t (every_value c k) (T_of h)) in let (row, l, d, q) = v in by_option c.question.every refl s (row, l, T_true (digit k row) d, q)),
    (λ h. let (e, i, v) = h in let (row, l, d, q) = v in T_true (is_among t (every_value c k)) (mem_among t (every_value c k) (subst (λ (u : Tuple). Memᴰ u (every_value c k)) (sym (q ∙ sym (at_row e i row))) (mem_value p (good c A) (subst (λ (o : Option Relation). T (is_some o)) (sym i) tt) k row l (T_of d))))),
  )
    where
      at_row : (e : Relation) → c.question.every ≡ some e → (row : ℕ) → tuple_at p (every_number c.question) row ≡ tup (every_number c.question) (places_of c.site.size e.arity row)
      at_row e i row = ap (λ (k : Relation). tup (every_number c.question) (places_of c.site.size k.arity row)) ((good c A).every_is e i).1

      by_option : (o : Option Relation) → c.question.every ≡ o → T (is_some o) → (row : ℕ) × (row < every_tuples c) × (digit k row ≡ true) × (t ≡ tuple_at p (every_number c.question) row)
          → (e : Relation) × (o ≡ some e) × ((row : ℕ) × (row < every_tuples c) × (digit k row ≡ true) × (t ≡ tup (every_number c.question) (places_of c.site.size e.arity row)))
      by_option none i s v = absurd s
      by_option (some e) i s v = let (row, l, d, q) = v in (e, refl, (row, l, d, q ∙ at_row e i row))

  -- each tuple of a value is one of the relation; and each set of these is a value
  value_of : (k : ℕ) (t : Tuple) → Memᴰ t (every_value c k) → OfEvery c t
  value_of k t m =
      let (e, i, v) = (value_is k t).0 (T_true (is_among t (every_value c k)) (mem_among t (every_value c k) m)) in
      let (row, l, d, q) = v in
      (e, i, ap (λ (u : Tuple). u.relation) q, ap (λ (u : Tuple). length u.places) q ∙ length_places n e.arity row, subst (λ (u : Tuple). T (all (λ x. ltb x c.site.size) u.places)) (sym q) (places_below n e.arity row A.site_fits.some_element))

  row_in : (t : Tuple) → OfEvery c t → (t ≡ tuple_at p (every_number c.question) (row_of n t.places)) × (row_of n t.places < every_tuples c) × T (is_some c.question.every)
  unfolding problem_of problem_with every_tuples option is_some
  row_in t o =
      let (e, i, r, a, b) = o in
      let q = ((good c A).every_is e i).1 in (
        sym (ap₂ tup (sym r) (ap (λ (k : ℕ). places_of n k (row_of n t.places)) (ap (λ (k : Relation). k.arity) q ∙ sym a) ∙ places_row n t.places A.site_fits.some_element b)),
        subst (λ (o : Option Relation). row_of n t.places < option o zero (λ (k : Relation). n ^ k.arity)) (sym i) (subst (λ (k : ℕ). row_of n t.places < n ^ k) a (row_lt n t.places b)),
        subst (λ (o : Option Relation). T (is_some o)) (sym i) tt,
      )

  value_there : (k : ℕ) → T (is_some c.question.every) → (row : ℕ) → row < every_tuples c → T (digit k row) → Memᴰ (tuple_at p (every_number c.question) row) (every_value c k)
  unfolding problem_of problem_with
  value_there k s row l j = mem_value p (good c A) s k row l j

  value_here : (k : ℕ) (t : Tuple) → Memᴰ t (every_value c k) → (row : ℕ) × (row < every_tuples c) × T (digit k row) × (t ≡ tuple_at p (every_number c.question) row)
  unfolding problem_of problem_with
  value_here k t m = (value_mem p (good c A) k t m).1

  pub set_value : (E : List Tuple) → ((t : Tuple) → Memᴰ t E → OfEvery c t) → (k : ℕ) × (k < values c) × ((t : Tuple) → is_among t E ≡ is_among t (every_value c k))
  unfolding values
  set_value E h = let (k, l, d) = every_set (λ row. is_among (tuple_at p (every_number c.question) row) E) (every_tuples c) in (k, l, λ t. alike k d t)
    where
      alike : (k : ℕ) → ((row : ℕ) → row < every_tuples c → digit k row ≡ is_among (tuple_at p (every_number c.question) row) E) → (t : Tuple) → is_among t E ≡ is_among t (every_value c k)
      alike k d t = T_ext (is_among t E) (is_among t (every_value c k))
          (λ i. let (q, l, s) = row_in t (h t (among_mem t E i)) in
          subst (λ (u : Tuple). T (is_among u (every_value c k))) (sym q) (mem_among _ (every_value c k) (value_there k s (row_of n t.places) l (subst T (sym (d (row_of n t.places) l)) (subst (λ (u : Tuple). T (is_among u E)) q i)))))
          (λ i. let (row, l, j, q) = value_here k t (among_mem t (every_value c k) i) in subst (λ (u : Tuple). T (is_among u E)) (sym q) (subst T (d row l) j))

  -- so the rule is true of picks exactly if it is so with every set of tuples of the relation
  same_after : (picks E W : List Tuple) → ((t : Tuple) → is_among t E ≡ is_among t W) → (t : Tuple) → is_among t (picks ++ E) ≡ is_among t (picks ++ W)
  unfolding is_among
  same_after picks E W h t = any_append (same_tuple t) picks E ∙ ap (λ (b : Bool). any (same_tuple t) picks || b) (h t) ∙ sym (any_append (same_tuple t) picks W)

  pub every_sets : (picks : List Tuple) → (rule_is_true c picks ≡ true) ↔ ((E : List Tuple) → ((t : Tuple) → Memᴰ t E → OfEvery c t) → rule_holds c (picks ++ E) ≡ true)
  unfolding rule_is_true
  every_sets picks = (
    (λ e E h. let (k, l, d) = set_value E h in AnyOrder.holds_same c A (picks ++ E) (picks ++ every_value c k) (same_after picks E (every_value c k) d) ∙ T_true _ (all_at (λ k. rule_holds c (picks ++ every_value c k)) (below (values c)) (T_of e) k (mem_below (values c) k l))),
    (λ h. T_true (all (λ k. rule_holds c (picks ++ every_value c k)) (below (values c))) (all_of (λ k. rule_holds c (picks ++ every_value c k)) (below (values c)) (λ k m. T_of (h (every_value c k) (value_of k))))),
  )

  -- ---- without an `every` line
  module _ (plain : c.question.every ≡ none) where
    pub alone : T (not (is_some (problem_of c).source.question.every))
    unfolding problem_of problem_with is_some
    alone = rw plain tt

    early : (r : ℕ) → r < length (problem_of c).relations → is_universal (relation_at (problem_of c) r).kind ≡ false
    early r l = T_false (is_universal (relation_at (problem_of c) r).kind) (λ u. none_there ((good c A).every_one r l u).1)
      where
        none_there : T (is_some (problem_of c).source.question.every) → ⊥
        none_there t = T_not (is_some (problem_of c).source.question.every) alone t

    -- the relations, and where the atoms of their tuples start; how many atoms and actions there are
    pub plain_relations : relations_of c.question ≡ built_in ++ (c.question.rels ++ c.question.chosen)
    unfolding relations_of
    plain_relations = rw plain (relations_none c.question.rels c.question.chosen)

    pub plain_tuple : (r row : ℕ) → r < length (problem_of c).relations → atom_number (problem_of c) (tuple r row) ≡ relation_start (problem_of c) r + row
    unfolding atom_number
    plain_tuple r row l = ap (λ (x : ℕ). x + row) (early_start (problem_of c) r (early r l))

    pub plain_not : (r row : ℕ) → r < length (problem_of c).relations → atom_number (problem_of c) (not_tuple r row) ≡ relation_start (problem_of c) r + tuples_of (problem_of c).size (relation_at (problem_of c) r) + row
    unfolding atom_number
    plain_not r row l = ap (λ (x : ℕ). x + tuples_of (problem_of c).size (relation_at (problem_of c) r) + row) (early_start (problem_of c) r (early r l))

    none_last : (r : ℕ) → r ≤ length (problem_of c).relations → (last_start (problem_of c) r ≡ node_start (problem_of c) (length (problem_of c).node_list)) × (marks_before (problem_of c) r ≡ 0)
    unfolding last_width last_tuples
    none_last zero h = (last_first (problem_of c), mark_first (problem_of c))
    none_last (suc r) h =
        let (a, b) = none_last r (omega arith) in
        let e = early r (omega arith) in
        let w : last_tuples (problem_of c).size (relation_at (problem_of c) r) ≡ 0 = rw e refl in
        let i = last_next (problem_of c) r (omega arith) in
        let j = mark_next (problem_of c) r (omega arith) in
        (omega arith, omega arith)

    pub plain_atoms : atoms (problem_of c) ≡ node_start (problem_of c) (length (problem_of c).node_list)
    plain_atoms = sym (atoms_end (problem_of c)) ∙ (none_last (length (problem_of c).relations) (omega arith)).0

    pub plain_actions : actions (problem_of c) ≡ proof_start (problem_of c) (length (problem_of c).node_list) + 1
    plain_actions = let a = actions_end (problem_of c) in let b = (none_last (length (problem_of c).relations) (omega arith)).1 in omega arith

    -- no action ends a round or marks a tuple, and no atom is a mark; the goal is proved by an action of its own
    pub the_goal : IsAction (problem_of c) prove_goal
    unfolding IsAction
    the_goal = alone

    pub no_round : IsAction (problem_of c) round_end → ⊥
    unfolding IsAction
    no_round v = T_not (is_some (problem_of c).source.question.every) alone v

    pub no_mark_in : (r row : ℕ) → IsAction (problem_of c) (mark_in r row) → ⊥
    unfolding IsAction
    no_mark_in r row v = subst T (early r v.0) v.1

    pub no_mark_out : (r row : ℕ) → IsAction (problem_of c) (mark_out r row) → ⊥
    unfolding IsAction
    no_mark_out r row v = subst T (early r v.0) v.1

    pub no_marked : (r row : ℕ) → IsAtom (problem_of c) (marked r row) → ⊥
    unfolding IsAtom
    no_marked r row v = subst T (early r v.0) v.1

    pub plain_action : (k : ℕ) (a : Action) → action_at (problem_of c) k ≡ some a → (a ≡ round_end → ⊥) × ((r row : ℕ) → (a ≡ mark_in r row → ⊥) × (a ≡ mark_out r row → ⊥))
    plain_action k a e =
        let v = action_is (problem_of c) k a e in (
          (λ i. no_round (subst (IsAction (problem_of c)) i v)),
          (λ r row. ((λ i. no_mark_in r row (subst (IsAction (problem_of c)) i v)), (λ i. no_mark_out r row (subst (IsAction (problem_of c)) i v)))),
        )

    -- the rule is true as it is written, totality included; and there is one round, which ends by proving the goal
    pub plain_true : (picks : List Tuple) → rule_is_true c picks ≡ rule_holds c picks
    unfolding rule_is_true problem_of problem_with all below from
    plain_true picks = rw (one_value (problem_of c) (good c A) alone) (and-true (rule_holds c (picks ++ every_value c 0)) ∙ ap (rule_holds c) (with_zero (problem_of c) (good c A) picks))

    pub plain_built : (picks : List Tuple) → built_actions (problem_of c) picks ≡ set_steps (problem_of c) picks ++ (begin_proof ∷ (node_steps (problem_of c) picks zero (problem_of c).node_list ++ (prove_goal ∷ [])))
    plain_built picks = built_plain (problem_of c) (good c A) alone picks

    -- and only 11 may refuse what is grounded
    pub plain_ground : (L : CaseLimits) → ground L c ≡ (refuse_if (ltb L.atoms (atoms (problem_of c)) || ltb L.actions (actions (problem_of c))) 11 zero >>= λ _. accepted (problem_of c))
    unfolding ground too_many_values problem_of problem_with is_some refuse_if ◌>>=◌
    plain_ground L = rw plain refl

-- ---- what is within the limits
pub few_values : (L : CaseLimits) (c : Case) (e : Relation) → c.question.every ≡ some e → (p : Problem) → ground L c ≡ accepted p → (every_tuples c ≤ 8) × (bound p ≤ L.steps)
unfolding ground too_many_values problem_of problem_with is_some
few_values L c e i p g =
    let (u, a, g₁) = bind_parts (refuse_if _ 11 zero) (λ _. refuse_if (too_many_values L (problem_of c)) 23 zero >>= λ _. accepted (problem_of c)) p g in
    let (v, b, g₂) = bind_parts (refuse_if (too_many_values L (problem_of c)) 23 zero) (λ _. accepted (problem_of c)) p g₁ in
    let f = not_refused (too_many_values L (problem_of c)) 23 zero v b in
    let (m, k) = or_both (ltb 8 (every_tuples c)) (ltb L.steps (bound (problem_of c))) (sym (ap (λ (o : Option Relation). is_some o && (ltb 8 (every_tuples c) || ltb L.steps (bound (problem_of c)))) i) ∙ f) in
    (ltb-false 8 (every_tuples c) m, subst (λ (x : Problem). bound x ≤ L.steps) (accepted_eq (problem_of c) p g₂) (ltb-false L.steps (bound (problem_of c)) k))

-- ---- every value has its round
pub each_round : (c : Case) (A : Accepted c) (e : Relation) → c.question.every ≡ some e → (steps : List ℕ) → reaches_goal (problem_of c) steps ≡ true → (k : ℕ) → k < 2 ^ every_tuples c
    → (js : List ℕ) × (ks : List ℕ) × (steps ≡ js ++ ks) × ((run (problem_of c) js).state (atom_number (problem_of c) (root_atom (problem_of c))) ≡ true)
    × ((row : ℕ) → row < every_tuples c → (run (problem_of c) js).state (atom_number (problem_of c) (tuple (every_number c.question) row)) ≡ digit k row)
unfolding problem_of problem_with values is_some
each_round c A e i steps t k l =
    let (js, ks, q, w) = rounds (problem_of c) (good c A) (subst (λ (o : Option Relation). T (is_some o)) (sym i) tt) steps (T_of t) k l in
    (js, ks, q, T_true _ w.0, w.1)
