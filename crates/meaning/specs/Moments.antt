-- Steps that reach the goal go through every value of the `every` relation: for each there is a moment in which the root's atom holds, and of that
-- relation just the tuples of the value.
use Prim.Native.Nat.{ℕ, zero, suc, ◌<◌}
use Rattle.std.specs.Prelude.{◌≡◌, ◌⊎◌, Bool, not}
use Rattle.std.proofs.Math.Path.{refl, ap, subst}
use Rattle.std.proofs.Common.{sym, ap₂, ◌∙◌, arith, T_not, eqb→eq}
use Rattle.std.proofs.Math.Logic.{inl, inr, ⊎_elim}
use Rattle.std.proofs.Math.Bool.{true, false}
use Rattle.std.proofs.Math.Option.{some}
use mathlib.Core.List.Memᴰ
use mathlib.Core.List.{List, [], ◌∷◌, ◌++◌, Memᴰ}
use Rattle.std.proofs.Math.Dec.{T, eqb, not_T}
use borrow.Author.Tests.{eqb-false}
use Rattle.definitions.specs.Lists.{option, is_some}
use Rattle.definitions.specs.Sheet.Relations.{Tuple, is_universal}
use Rattle.definitions.specs.Problem.Truth.{holds, every_tuples, values, digit, every_value}
use Rattle.definitions.specs.Problem.Atoms.{Problem, relation_at, places_of, Atom, guess, proof, goal, tuple, not_tuple, free_domain, free_range, holds_node, marked, atom_number, is_initial, tuple_holds, State, initial}
use Rattle.definitions.specs.Problem.Actions.{Action, set, begin_proof, prove_and, prove_or, prove_exists, prove_forall, prove_goal, round_end, mark_in, mark_out, action_at, root_atom, adds, removes}
use Rattle.definitions.specs.Problem.Strips.{may_take, after, reaches_from, reaches_goal, run_from, run}
use Rattle.laws.specs.Booleans.{T_and_l, T_of, T_true, T_ext}
use Rattle.laws.specs.Numbers.{IsAction, IsAtom, action_is, chosen_early}
use Rattle.meaning.specs.Means.{Good, means}
use Rattle.meaning.specs.Valid.{after_add, after_keep, free_cases, nodes_mem, every_there}
use Rattle.meaning.specs.Values.{E, HasEvery, Chosen, every_high, tuples_are, in_value, value_in}
use Rattle.meaning.specs.Holding.{holds_empty}
use Rattle.meaning.specs.Rounds.{Meant, SeenBelow, Stage, stage_goal, stage_step}
use Rattle.meaning.specs.Sound.{is_tuple, Guessing, asks, guessing_set, begins, step_cases, sets_or_begins, first_guess, initial_at}

-- whether an atom is a not-tuple; its relation and its row
unfoldable is_not : Atom → Bool
is_not guess = false
is_not proof = false
is_not goal = false
is_not (tuple r row) = false
is_not (not_tuple r row) = true
is_not (free_domain r x) = false
is_not (free_range r y) = false
is_not (holds_node v row) = false
is_not (marked r row) = false

unfoldable relation_in : Atom → ℕ
relation_in guess = zero
relation_in proof = zero
relation_in goal = zero
relation_in (tuple r row) = r
relation_in (not_tuple r row) = r
relation_in (free_domain r x) = r
relation_in (free_range r y) = r
relation_in (holds_node v row) = v
relation_in (marked r row) = r

unfoldable row_in : Atom → ℕ
row_in guess = zero
row_in proof = zero
row_in goal = zero
row_in (tuple r row) = row
row_in (not_tuple r row) = row
row_in (free_domain r x) = x
row_in (free_range r y) = y
row_in (holds_node v row) = row
row_in (marked r row) = row

module _ (p : Problem) (G : Good p) (h : HasEvery p G) where
  -- ---- each tuple of the relation is in or out
  abbrev InOrOut : State → Type 0
  InOrOut s = (row : ℕ) → row < every_tuples p.source → T (s (atom_number p (tuple (E p G) row))) ⊎ T (s (atom_number p (not_tuple (E p G) row)))

  is_tuple_lem : (row : ℕ) → row < every_tuples p.source → IsAtom p (tuple (E p G) row)
  unfolding IsAtom
  is_tuple_lem row l = ((every_there p G h).0, let a = tuples_are p G h in omega arith)

  is_not_lem : (row : ℕ) → row < every_tuples p.source → IsAtom p (not_tuple (E p G) row)
  unfolding IsAtom
  is_not_lem row l = ((every_there p G h).0, let a = tuples_are p G h in omega arith)

  -- an action that removes neither
  both_stay : (s : State) (a : Action) → IsAction p a → InOrOut s → ((x : Atom) → Memᴰ x (removes p a) → T (is_tuple x) → relation_in x ≡ E p G → ⊥)
      → ((x : Atom) → Memᴰ x (removes p a) → T (is_not x) → relation_in x ≡ E p G → ⊥) → InOrOut (after p s a)
  unfolding is_tuple is_not relation_in
  both_stay s a v F n m row l = ⊎_elim
      (λ t. inl (after_keep p G s a (tuple (E p G) row) v (is_tuple_lem row l) t (λ q. n _ q tt refl)))
      (λ t. inr (after_keep p G s a (not_tuple (E p G) row) v (is_not_lem row l) t (λ q. m _ q tt refl)))
      (F row l)

  -- an action that removes nothing
  none_gone : (s : State) (a : Action) → IsAction p a → removes p a ≡ [] → InOrOut s → InOrOut (after p s a)
  none_gone s a v e F = both_stay s a v F (λ x m. absurd (Memᴰ.not-nil (subst (Memᴰ x) e m))) (λ x m. absurd (Memᴰ.not-nil (subst (Memᴰ x) e m)))

  -- a tuple goes in, and one goes out
  goes_in : (s : State) → InOrOut s → (r i : ℕ) → IsAction p (mark_in r i) → InOrOut (after p s (mark_in r i))
  unfolding removes adds IsAction is_tuple is_not row_in
  goes_in s F r i v row l = ⊎_elim
      (λ t. inl (after_keep p G s (mark_in r i) (tuple (E p G) row) v (is_tuple_lem row l) t (λ q. ⊎_elim (λ e. subst (λ (y : Atom). T (not (is_tuple y))) (sym e) tt) (λ e. subst (λ (y : Atom). T (not (is_tuple y))) (sym (Memᴰ.eq_of_singleton e)) tt) (Memᴰ.cases_cons q))))
      (λ t. by_test (eqb row i) refl t)
      (F row l)
    where
      by_test : (b : Bool) → eqb row i ≡ b → T (s (atom_number p (not_tuple (E p G) row))) → T (after p s (mark_in r i) (atom_number p (tuple (E p G) row))) ⊎ T (after p s (mark_in r i) (atom_number p (not_tuple (E p G) row)))
      by_test true e t = inl (after_add p G s (mark_in r i) (tuple (E p G) row) (Memᴰ.head (ap₂ tuple (sym (G.every_one r v.0 v.1).0) (eqb→eq row i (T_of e)))))
      by_test false e t = inr (after_keep p G s (mark_in r i) (not_tuple (E p G) row) v (is_not_lem row l) t
          (λ q. ⊎_elim (λ k. subst (λ (y : Atom). T (not (is_not y))) (sym k) tt) (λ k. eqb-false row i e (ap row_in (Memᴰ.eq_of_singleton k))) (Memᴰ.cases_cons q)))

  goes_out : (s : State) → InOrOut s → (r i : ℕ) → IsAction p (mark_out r i) → InOrOut (after p s (mark_out r i))
  unfolding removes adds IsAction is_tuple is_not row_in
  goes_out s F r i v row l = ⊎_elim
      (λ t. by_test (eqb row i) refl t)
      (λ t. inr (after_keep p G s (mark_out r i) (not_tuple (E p G) row) v (is_not_lem row l) t (λ q. ⊎_elim (λ e. subst (λ (y : Atom). T (not (is_not y))) (sym e) tt) (λ e. subst (λ (y : Atom). T (not (is_not y))) (sym (Memᴰ.eq_of_singleton e)) tt) (Memᴰ.cases_cons q))))
      (F row l)
    where
      by_test : (b : Bool) → eqb row i ≡ b → T (s (atom_number p (tuple (E p G) row))) → T (after p s (mark_out r i) (atom_number p (tuple (E p G) row))) ⊎ T (after p s (mark_out r i) (atom_number p (not_tuple (E p G) row)))
      by_test true e t = inr (after_add p G s (mark_out r i) (not_tuple (E p G) row) (Memᴰ.head (ap₂ not_tuple (sym (G.every_one r v.0 v.1).0) (eqb→eq row i (T_of e)))))
      by_test false e t = inl (after_keep p G s (mark_out r i) (tuple (E p G) row) v (is_tuple_lem row l) t
          (λ q. ⊎_elim (λ k. subst (λ (y : Atom). T (not (is_tuple y))) (sym k) tt) (λ k. eqb-false row i e (ap row_in (Memᴰ.eq_of_singleton k))) (Memᴰ.cases_cons q)))

  goes_on : (s : State) → InOrOut s → (a : Action) → IsAction p a → InOrOut (after p s a)
  unfolding removes IsAction is_tuple is_not relation_in
  goes_on s F (set r row) v = both_stay s (set r row) v F
      (λ x m t e. ⊎_elim (λ q. subst (λ (y : Atom). T (is_tuple y)) q t) (λ q. ⊎_elim (λ c. subst (λ (y : Atom). T (is_tuple y)) c.1 t) (λ c. subst (λ (y : Atom). T (is_tuple y)) c.1 t) (free_cases p G p.size r row (relation_at p r) x q)) (Memᴰ.cases_cons m))
      (λ x m t e. ⊎_elim
      (λ q. chosen_early (relation_at p r).kind v.1 (subst (λ (y : ℕ). T (is_universal (relation_at p y).kind)) (sym (sym (ap relation_in q) ∙ e)) (every_there p G h).1))
      (λ q. ⊎_elim (λ c. subst (λ (y : Atom). T (is_not y)) c.1 t) (λ c. subst (λ (y : Atom). T (is_not y)) c.1 t) (free_cases p G p.size r row (relation_at p r) x q))
      (Memᴰ.cases_cons m))
  goes_on s F begin_proof v = both_stay s begin_proof v F
      (λ x m t e. subst (λ (y : Atom). T (is_tuple y)) (Memᴰ.eq_of_singleton m) t)
      (λ x m t e. subst (λ (y : Atom). T (is_not y)) (Memᴰ.eq_of_singleton m) t)
  goes_on s F (prove_and w row) v = none_gone s (prove_and w row) v refl F
  goes_on s F (prove_or w row i) v = none_gone s (prove_or w row i) v refl F
  goes_on s F (prove_exists w row x) v = none_gone s (prove_exists w row x) v refl F
  goes_on s F (prove_forall w row z) v = none_gone s (prove_forall w row z) v refl F
  goes_on s F prove_goal v = none_gone s prove_goal v refl F
  goes_on s F round_end v = both_stay s round_end v F
      (λ x m t e. ⊎_elim (λ q. subst (λ (y : Atom). T (is_tuple y)) q t) (λ q. let (j, row, a, b, c) = nodes_mem p.size zero p.node_list x q in subst (λ (y : Atom). T (is_tuple y)) c t) (Memᴰ.cases_cons m))
      (λ x m t e. ⊎_elim (λ q. subst (λ (y : Atom). T (is_not y)) q t) (λ q. let (j, row, a, b, c) = nodes_mem p.size zero p.node_list x q in subst (λ (y : Atom). T (is_not y)) c t) (Memᴰ.cases_cons m))
  goes_on s F (mark_in r i) v = goes_in s F r i v
  goes_on s F (mark_out r i) v = goes_out s F r i v

  all_out : InOrOut (initial p)
  unfolding is_initial tuple_holds
  all_out row l = inr (subst T (sym (initial_at p G (not_tuple (E p G) row) (is_not_lem row l))) (not_T (holds p.source [] (E p G) (places_of p.size (relation_at p (E p G)).arity row)) (λ t. holds_empty p.source (E p G) _ (every_high p G) t)))

  -- ---- a moment: the root's atom holds, and of the relation just the tuples of value k
  abbrev pub Proved : ℕ → State → Type 0
  Proved k s = T (s (atom_number p (root_atom p))) × ((row : ℕ) → row < every_tuples p.source → s (atom_number p (tuple (E p G) row)) ≡ digit k row)

  abbrev pub Moment : State → List ℕ → ℕ → Type 0
  Moment s ks k = (js : List ℕ) × (ls : List ℕ) × (ks ≡ js ++ ls) × ((i : ℕ) → Proved k (run_from p s i js).state)

  later : (s : State) (k : ℕ) (ks : List ℕ) (a : Action) → action_at p k ≡ some a → T (may_take p s a) → (j : ℕ) → Moment (after p s a) ks j → Moment s (k ∷ ks) j
  unfolding run_from option
  later s k ks a e ok j m = let (js, ls, q, t) = m in (k ∷ js, ls, ap (λ (l : List ℕ). k ∷ l) q, λ i. rw (e, T_true (may_take p s a) ok) (t (suc i)))

  module _ (P : List Tuple) (K : Chosen p G P) where
    now : (s : State) → InOrOut s → (ks : List ℕ) (k : ℕ) → Meant p G (P ++ every_value p.source k) s → T (s (atom_number p (root_atom p))) → Moment s ks k
    unfolding run_from means
    now s F ks k I r = (
      [],
      ks,
      refl,
      λ i. (
        r,
        λ row l. T_ext (s (atom_number p (tuple (E p G) row))) (digit k row) (λ t. in_value p G P K h k row l (I (tuple (E p G) row) (is_tuple_lem row l) t))
            (λ d. ⊎_elim (λ t. t) (λ t. absurd (T_not (holds p.source (P ++ every_value p.source k) (E p G) (places_of p.size (relation_at p (E p G)).arity row)) (I (not_tuple (E p G) row) (is_not_lem row l) t) (value_in p G P K h k row l d))) (F row l)),
      ),
    )

    in_rounds : (Seen : ℕ → Type 0) (ks : List ℕ) (s : State) → Stage p G Seen P s → InOrOut s → ((j : ℕ) → Moment s ks j → Seen j) → T (reaches_from p s ks) → SeenBelow p G Seen (values p.source)
    unfolding reaches_from means
    in_rounds Seen [] s S F lift t = stage_goal p G Seen P s S (λ k q. absurd (T_not (is_some p.source.question.every) (T_and_l (not (is_some p.source.question.every)) _ q) h)) t
    in_rounds Seen (k ∷ ks) s S F lift t =
        let (a, e, ok, rest) = step_cases p G s k ks t in
        let v = action_is p k a e in
        in_rounds Seen ks (after p s a) (stage_step p G Seen P K s S (λ j I r. lift j (now s F (k ∷ ks) j I r)) a v ok) (goes_on s F a v) (λ j m. lift j (later s k ks a e ok j m)) rest

  in_guess : (ks : List ℕ) (P : List Tuple) (s : State) → Guessing p G P s → InOrOut s → T (reaches_from p s ks) → (j : ℕ) → j < values p.source → Moment s ks j
  unfolding reaches_from asks IsAtom
  in_guess [] P s I F t j l = absurd (I.asked goal tt t)
  in_guess (k ∷ ks) P s I F t j l =
      let (a, e, ok, rest) = step_cases p G s k ks t in
      let v = action_is p k a e in
      later s k ks a e ok j (⊎_elim (λ q. let (r, row, i) = q in at_set (λ P' s' J H u. in_guess ks P' s' J H u j l) a v ok rest r row i) (λ i. at_begin a v rest i) (sets_or_begins p G P s I a v ok))
    where
      at_set : ((P' : List Tuple) (s' : State) → Guessing p G P' s' → InOrOut s' → T (reaches_from p s' ks) → Moment s' ks j) → (a : Action) → IsAction p a → T (may_take p s a) → T (reaches_from p (after p s a) ks) → (r row : ℕ) → a ≡ set r row → Moment (after p s a) ks j
      at_set next a v ok rest r row i = subst (λ (b : Action). IsAction p b → T (may_take p s b) → T (reaches_from p (after p s b) ks) → Moment (after p s b) ks j) (sym i)
          (λ v ok rest. next _ (after p s (set r row)) (guessing_set p G P s r row I v ok) (goes_on s F (set r row) v) rest) v ok rest

      at_begin : (a : Action) → IsAction p a → T (reaches_from p (after p s a) ks) → a ≡ begin_proof → Moment (after p s a) ks j
      at_begin a v rest i = subst (λ (b : Action). IsAction p b → T (reaches_from p (after p s b) ks) → Moment (after p s b) ks j) (sym i)
          (λ v rest. in_rounds P (λ t m. (I.kinds.inside t m).chosen) (Moment (after p s begin_proof) ks) ks (after p s begin_proof) (begins p G (Moment (after p s begin_proof) ks) P s I v) (goes_on s F begin_proof v) (λ j m. m) rest j l) v rest

  pub rounds : (ks : List ℕ) → T (reaches_goal p ks) → (k : ℕ) → k < values p.source → (js : List ℕ) × (ls : List ℕ) × (ks ≡ js ++ ls) × Proved k (run p js).state
  unfolding reaches_goal run
  rounds ks t k l = let (js, ls, e, q) = in_guess ks [] (initial p) (first_guess p G) all_out t k l in (js, ls, e, q zero)
