-- STRIPS-1, without an `every` line: an action that removes something removes a need that no action adds, so no legal run takes it twice.
use Prim.Native.Nat.{ℕ, zero, suc, ◌<◌}
use Rattle.std.specs.Prelude.{◌≡◌, ◌⊎◌, Bool, not, ◌&&◌, eqb, length, if◌then◌else◌}
use Rattle.std.proofs.Math.Path.{refl, subst}
use Rattle.std.proofs.Common.{sym, ◌∙◌, ⊎_elim, T_not}
use Rattle.std.proofs.Math.Logic.{inl, inr}
use Rattle.std.proofs.Math.Bool.{true, false}
use Rattle.std.proofs.Math.Option.{Option, none, some}
use mathlib.Core.List.Memᴰ
use mathlib.Core.List.{List, [], ◌∷◌, ◌++◌, Memᴰ}
use Rattle.std.proofs.Math.Dec.{T}
use Rattle.definitions.specs.Lists.{option, is_some}
use Rattle.definitions.specs.Sheet.Relations.{is_universal}
use Rattle.definitions.specs.Refusal.{Result, refused, accepted}
use Rattle.definitions.specs.Problem.Atoms.{Problem, relation_at, Atom, guess, proof, goal, tuple, not_tuple, free_domain, free_range, holds_node, marked, atom_number, State, initial}
use Rattle.definitions.specs.Problem.Actions.{Action, set, begin_proof, prove_and, prove_or, prove_exists, prove_forall, prove_goal, round_end, mark_in, mark_out, action_at, needs, adds, removes}
use Rattle.definitions.specs.Problem.Strips.{may_take, after, run_from, run}
use Rattle.laws.specs.Booleans.{T_of}
use Rattle.laws.specs.Lists.{some_eq}
use Rattle.laws.specs.Numbers.{IsAction, IsAtom, action_is}
use Rattle.meaning.specs.Means.{Good}
use Rattle.meaning.specs.Valid.{needs_valid, after_cases, may_at}

unfoldable is_added : Atom → Bool
is_added guess = false
is_added proof = true
is_added goal = true
is_added (tuple r row) = true
is_added (not_tuple r row) = false
is_added (free_domain r x) = false
is_added (free_range r y) = false
is_added (holds_node v row) = true
is_added (marked r row) = true

-- a problem without an `every` line
module _ (p : Problem) (G : Good p) (n : T (not (is_some p.source.question.every))) where
  no_mark : (r : ℕ) → r < length p.relations → T (is_universal (relation_at p r).kind) → ⊥
  no_mark r l u = T_not (is_some p.source.question.every) n (G.every_one r l u).1

  added : (b : Action) → IsAction p b → (x : Atom) → Memᴰ x (adds p b) → T (is_added x)
  unfolding adds is_added IsAction
  added (set r row) v x m = subst (λ (a : Atom). T (is_added a)) (sym (Memᴰ.eq_of_singleton m)) tt
  added begin_proof v x m = subst (λ (a : Atom). T (is_added a)) (sym (Memᴰ.eq_of_singleton m)) tt
  added (prove_and w row) v x m = subst (λ (a : Atom). T (is_added a)) (sym (Memᴰ.eq_of_singleton m)) tt
  added (prove_or w row i) v x m = subst (λ (a : Atom). T (is_added a)) (sym (Memᴰ.eq_of_singleton m)) tt
  added (prove_exists w row y) v x m = subst (λ (a : Atom). T (is_added a)) (sym (Memᴰ.eq_of_singleton m)) tt
  added (prove_forall w row z) v x m = subst (λ (a : Atom). T (is_added a)) (sym (Memᴰ.eq_of_singleton m)) tt
  added prove_goal v x m = subst (λ (a : Atom). T (is_added a)) (sym (Memᴰ.eq_of_singleton m)) tt
  added round_end v x m = absurd (T_not (is_some p.source.question.every) n v)
  added (mark_in r row) v x m = absurd (no_mark r v.0 v.1)
  added (mark_out r row) v x m = absurd (no_mark r v.0 v.1)

  pub strips_1 : (a : Action) → IsAction p a → (removes p a ≡ []) ⊎ ((x : Atom) × Memᴰ x (removes p a) × Memᴰ x (needs p a) × ((b : Action) → IsAction p b → Memᴰ x (adds p b) → ⊥))
  unfolding removes needs is_added IsAction
  strips_1 (set r row) v = inr (not_tuple r row, Memᴰ.head refl, Memᴰ.tail (Memᴰ.head refl), λ b w m. added b w (not_tuple r row) m)
  strips_1 begin_proof v = inr (guess, Memᴰ.head refl, Memᴰ.head refl, λ b w m. added b w guess m)
  strips_1 (prove_and w row) v = inl refl
  strips_1 (prove_or w row i) v = inl refl
  strips_1 (prove_exists w row x) v = inl refl
  strips_1 (prove_forall w row z) v = inl refl
  strips_1 prove_goal v = inl refl
  strips_1 round_end v = absurd (T_not (is_some p.source.question.every) n v)
  strips_1 (mark_in r row) v = absurd (no_mark r v.0 v.1)
  strips_1 (mark_out r row) v = absurd (no_mark r v.0 v.1)

-- ---- legal runs: the steps are refused neither by 13 nor by 14
unfoldable is_legal : Result ℕ → Bool
is_legal (accepted count) = true
is_legal (refused k place) = not (eqb k 13) && not (eqb k 14)

module _ (p : Problem) (G : Good p) where
  -- a step of a legal run, and the rest
  legal_step : (s : State) (i k : ℕ) (ks : List ℕ) → T (is_legal (run_from p s i (k ∷ ks)).answer) → (a : Action) × (action_at p k ≡ some a) × T (may_take p s a) × T (is_legal (run_from p (after p s a) (suc i) ks).answer)
  unfolding run_from option is_legal
  legal_step s i k ks h = by_option (action_at p k) refl h
    where
      may : (a : Action) → action_at p k ≡ some a → (b : Bool) → may_take p s a ≡ b
          → T (is_legal (if b then run_from p (after p s a) (suc i) ks else record { answer = refused 14 i; state = s }).answer) → (a : Action)
          × (action_at p k ≡ some a) × T (may_take p s a) × T (is_legal (run_from p (after p s a) (suc i) ks).answer)
      may a e true q h = (a, e, T_of q, h)
      may a e false q h = absurd h

      by_option : (o : Option Action) → action_at p k ≡ o
          → T (is_legal (option o (record { answer = refused 13 i; state = s })
          (λ a. if may_take p s a then run_from p (after p s a) (suc i) ks else record { answer = refused 14 i; state = s })).answer) → (a : Action)
          × (action_at p k ≡ some a) × T (may_take p s a) × T (is_legal (run_from p (after p s a) (suc i) ks).answer)
      by_option none e h = absurd h
      by_option (some a) e h = may a e (may_take p s a) refl h

  -- an atom that nothing adds, once gone, stays away; so an action that needs it is not taken later
  never : (x : Atom) → IsAtom p x → ((b : Action) → IsAction p b → Memᴰ x (adds p b) → ⊥) → (k : ℕ) (a : Action) → action_at p k ≡ some a → Memᴰ x (needs p a) → (ks ms : List ℕ) (s : State) (i : ℕ) → (T (s (atom_number p x)) → ⊥) → T (is_legal (run_from p s i (ks ++ (k ∷ ms))).answer) → ⊥
  never x w n k a e m [] ms s i gone h =
      let (b, f, ok, rest) = legal_step s i k ms h in
      let q : b ≡ a = some_eq (sym f ∙ e) in
      gone (may_at p G s b ok x (subst (λ (z : Action). Memᴰ x (needs p z)) (sym q) m))
  never x w n k a e m (j ∷ ks) ms s i gone h =
      let (b, f, ok, rest) = legal_step s i j (ks ++ (k ∷ ms)) h in
      never x w n k a e m ks ms (after p s b) (suc i) (λ t. ⊎_elim (λ q. gone q.0) (λ q. n b (action_is p j b f) q) (after_cases p G s b x (action_is p j b f) w t)) rest

  twice : T (not (is_some p.source.question.every)) → (k : ℕ) (a : Action) → action_at p k ≡ some a → (js ks ms : List ℕ) (s : State) (i : ℕ) → T (is_legal (run_from p s i (js ++ (k ∷ (ks ++ (k ∷ ms))))).answer) → removes p a ≡ []
  twice alone k a e [] ks ms s i h =
      let (b, f, ok, rest) = legal_step s i k (ks ++ (k ∷ ms)) h in
      let q : b ≡ a = some_eq (sym f ∙ e) in
      ⊎_elim (λ r. r)
      (λ r. let (x, mr, mn, n) = r in
      let v = action_is p k a e in
      let w = needs_valid p G a v x mn in
      absurd (never x w n k a e mn ks ms (after p s b) (suc i)
      (λ t. ⊎_elim (λ o. o.1 (subst (λ (z : Action). Memᴰ x (removes p z)) (sym q) mr)) (λ o. n b (action_is p k b f) o) (after_cases p G s b x (action_is p k b f) w t)) rest))
      (strips_1 p G alone a (action_is p k a e))
  twice alone k a e (j ∷ js) ks ms s i h = let (b, f, ok, rest) = legal_step s i j (js ++ (k ∷ (ks ++ (k ∷ ms)))) h in twice alone k a e js ks ms (after p s b) (suc i) rest

  -- the run is legal if it is accepted or ends without the goal
  pub once_only : T (not (is_some p.source.question.every)) → (k : ℕ) (a : Action) → action_at p k ≡ some a → (js ks ms : List ℕ) (n : ℕ) → ((run p (js ++ (k ∷ (ks ++ (k ∷ ms))))).answer ≡ accepted n) ⊎ ((run p (js ++ (k ∷ (ks ++ (k ∷ ms))))).answer ≡ refused 15 n) → removes p a ≡ []
  unfolding run is_legal
  once_only alone k a e js ks ms n h = twice alone k a e js ks ms (initial p) zero (⊎_elim (λ q. subst (λ (r : Result ℕ). T (is_legal r)) (sym q) tt) (λ q. subst (λ (r : Result ℕ). T (is_legal r)) (sym q) tt) h)
