-- A layer tested as code tests it, without comparing its steps with each other and without a copy of the state: each step may be taken
-- before; they may be taken one after another; and after that each still has what it needs and does not itself remove.
use Rattle.std.specs.Prelude.{ℕ, suc, ◌≡◌, ◌⊎◌, Bool, ◌&&◌, ◌||◌, eqb}
use Rattle.std.proofs.Math.Path.{refl, sym, ap, subst}
use Rattle.std.proofs.Common.{◌∙◌}
use Rattle.std.proofs.Math.Logic.{inl, inr, ⊎_elim}
use Rattle.std.proofs.Math.Bool.{true, false, not}
use Rattle.std.proofs.Math.Option.{some}
use mathlib.Core.List.Memᴰ
use mathlib.Core.List.{List, [], ◌∷◌, map, Memᴰ}
use Rattle.std.proofs.Math.Dec.{T, T_not, not_T}
use Rattle.definitions.specs.Lists.{all, any, option, is_in}
use Rattle.definitions.specs.Refusal.{Result, refused, accepted}
use Rattle.definitions.specs.Problem.Atoms.{Problem, Atom, guess, proof, goal, tuple, not_tuple, free_domain, free_range, holds_node, marked, atom_number, State}
use Rattle.definitions.specs.Problem.Actions.{Action, set, begin_proof, prove_and, prove_or, prove_exists, prove_forall, prove_goal, round_end, mark_in, mark_out, action_at, needs, removes}
use Rattle.definitions.specs.Problem.Strips.{may_take, after, Run, run_from}
use Rattle.definitions.specs.Reply.Layers.{may_take_all, after_all, actions_at}
use Rattle.laws.specs.Booleans.{and_T, T_and_l, T_and_r, T_or, or_l, or_r, T_of, T_ext}
use Rattle.laws.specs.Lists.{all_at, all_of, map_mem, mem_map}
use Rattle.laws.specs.Members.{in_mem, mem_in}
use Rattle.laws.specs.Numbers.{IsAction, IsAtom, atom_injective, action_is}
use Rattle.meaning.specs.Means.{Good}
use Rattle.meaning.specs.Valid.{removes_valid, free_cases}
use Rattle.meaning.specs.Layers.{is_needed, is_added, is_removed, are_removed, removed_some, added_some, some_removed, may_needed, needed_at, needed_may, all_may, are_apart_lem, may_all, first_after, first_taken, none_after, actions_cons, actions_none, run_step, go_through, may_stay, one_or_apart, through_apart, NoEvery, no_round, no_mark, never_both, Actions}

is_guess : Atom → Bool
is_guess guess = true
is_guess proof = false
is_guess goal = false
is_guess (tuple r row) = false
is_guess (not_tuple r row) = false
is_guess (free_domain r x) = false
is_guess (free_range r y) = false
is_guess (holds_node v row) = false
is_guess (marked r row) = false

-- all steps of a run were taken
unfoldable pub was_taken : Result ℕ → Bool
was_taken (accepted k) = true
was_taken (refused n k) = eqb n 15

module _ (p : Problem) where
  -- one after another
  unfoldable pub takes_all : State → List Action → Bool
  takes_all s [] = true
  takes_all s (a ∷ l) = may_take p s a && takes_all (after p s a) l

  -- after the layer: a set step has its `guess` (all else that it needs it removes), begin-proof needs nothing that it does not remove
  unfoldable pub stays : State → Action → Bool
  stays s (set r row) = s (atom_number p guess)
  stays s begin_proof = true
  stays s (prove_and v row) = may_take p s (prove_and v row)
  stays s (prove_or v row i) = may_take p s (prove_or v row i)
  stays s (prove_exists v row x) = may_take p s (prove_exists v row x)
  stays s (prove_forall v row z) = may_take p s (prove_forall v row z)
  stays s prove_goal = may_take p s prove_goal
  stays s round_end = may_take p s round_end
  stays s (mark_in r row) = may_take p s (mark_in r row)
  stays s (mark_out r row) = may_take p s (mark_out r row)

  -- ---- a run tells whether all were taken
  none_to_take : (s : State) (i : ℕ) (b : Bool) → s (atom_number p goal) ≡ b → was_taken (run_from p s i []).answer ≡ true
  unfolding run_from was_taken
  none_to_take s i true q = rw q refl
  none_to_take s i false q = rw q refl

  not_now : (k : ℕ) (ks : List ℕ) (a : Action) (s : State) (i : ℕ) → action_at p k ≡ some a → may_take p s a ≡ false → was_taken (run_from p s i (k ∷ ks)).answer ≡ false
  unfolding run_from option was_taken
  not_now k ks a s i f e = rw (f, e) refl

  by_may : (k : ℕ) (ks : List ℕ) (a : Action) (m : List Action) (s : State) (i : ℕ) → action_at p k ≡ some a → was_taken (run_from p (after p s a) (suc i) ks).answer ≡ takes_all (after p s a) m → (b : Bool) → may_take p s a ≡ b
      → was_taken (run_from p s i (k ∷ ks)).answer ≡ (may_take p s a && takes_all (after p s a) m)
  by_may k ks a m s i f r true e = ap (λ (x : Run). was_taken x.answer) (run_step p k ks a s i f (T_of e)) ∙ r ∙ ap (λ (b : Bool). b && takes_all (after p s a) m) (sym e)
  by_may k ks a m s i f r false e = not_now k ks a s i f e ∙ ap (λ (b : Bool). b && takes_all (after p s a) m) (sym e)

  pub run_tells : (ks : List ℕ) (l : List Action) (s : State) (i : ℕ) → actions_at p ks ≡ some l → was_taken (run_from p s i ks).answer ≡ takes_all s l
  unfolding takes_all
  run_tells [] l s i e = subst (λ (l : List Action). was_taken (run_from p s i []).answer ≡ takes_all s l) (actions_none p l e) (none_to_take s i (s (atom_number p goal)) refl)
  run_tells (k ∷ ks) l s i e =
      let (a, m, f, g, q) = actions_cons p k ks l e in
      subst (λ (l : List Action). was_taken (run_from p s i (k ∷ ks)).answer ≡ takes_all s l) q (by_may k ks a m s i f (run_tells ks m (after p s a) (suc i) g) (may_take p s a) refl)

  taken_of : (l : List Action) (s : State) → T (may_take_all p s l) → T (takes_all s l)
  unfolding takes_all
  taken_of [] s t = tt
  taken_of (a ∷ l) s t = let (x, y, z) = first_taken p s a l t in and_T (may_take p s a) _ x (taken_of l (after p s a) y)

  -- what may be taken may stay
  stay_may : (s : State) (a : Action) → T (may_take p s a) → T (may_stay p s a)
  unfolding may_stay may_take
  stay_may s a t = all_of (λ x. s (atom_number p x) || is_removed p a (atom_number p x)) (needs p a) (λ x m. or_l (s (atom_number p x)) _ (all_at (λ x. s (atom_number p x)) (needs p a) t x m))

  removed_stay : (s : State) (a : Action) (x : Atom) → Memᴰ x (removes p a) → T (s (atom_number p x) || is_removed p a (atom_number p x))
  unfolding is_in
  removed_stay s a x m = or_r (s (atom_number p x)) _ (mem_in (atom_number p x) (map (atom_number p) (removes p a)) (mem_map (atom_number p) (removes p a) x m))

  stays_stay : (s : State) (a : Action) → T (stays s a) → T (may_stay p s a)
  unfolding stays may_stay needs removes all
  stays_stay s (set r row) t = and_T (s (atom_number p guess) || is_removed p (set r row) (atom_number p guess)) _ (or_l (s (atom_number p guess)) _ t)
      (all_of (λ x. s (atom_number p x) || is_removed p (set r row) (atom_number p x)) (removes p (set r row)) (λ x m. removed_stay s (set r row) x m))
  stays_stay s begin_proof t = all_of (λ x. s (atom_number p x) || is_removed p begin_proof (atom_number p x)) (removes p begin_proof) (λ x m. removed_stay s begin_proof x m)
  stays_stay s (prove_and v row) t = stay_may s (prove_and v row) t
  stays_stay s (prove_or v row i) t = stay_may s (prove_or v row i) t
  stays_stay s (prove_exists v row x) t = stay_may s (prove_exists v row x) t
  stays_stay s (prove_forall v row z) t = stay_may s (prove_forall v row z) t
  stays_stay s prove_goal t = stay_may s prove_goal t
  stays_stay s round_end t = stay_may s round_end t
  stays_stay s (mark_in r row) t = stay_may s (mark_in r row) t
  stays_stay s (mark_out r row) t = stay_may s (mark_out r row) t

module _ (p : Problem) (G : Good p) where
  pub actions_valid : (ks : List ℕ) (l : List Action) → actions_at p ks ≡ some l → Actions p G l
  actions_valid [] l e a m = absurd (Memᴰ.not-nil (subst (Memᴰ a) (sym (actions_none p l e)) m))
  actions_valid (k ∷ ks) l e a m =
      let (b, r, f, g, q) = actions_cons p k ks l e in
      ⊎_elim (λ j. subst (IsAction p) (sym j) (action_is p k b f)) (λ j. actions_valid ks r g a j) (Memᴰ.cases_cons (subst (Memᴰ a) (sym q) m))

  -- ---- a set step does not remove `guess`
  not_guess : (r row : ℕ) (x : Atom) → Memᴰ x (removes p (set r row)) → T (not (is_guess x))
  unfolding removes is_guess
  not_guess r row x m = ⊎_elim
      (λ e. subst (λ (a : Atom). T (not (is_guess a))) (sym e) tt)
      (λ q. ⊎_elim (λ k. subst (λ (a : Atom). T (not (is_guess a))) (sym k.1) tt) (λ k. subst (λ (a : Atom). T (not (is_guess a))) (sym k.1) tt) (free_cases p G p.size r row _ x q))
      (Memᴰ.cases_cons m)

  pub guess_kept : (r row : ℕ) → IsAction p (set r row) → T (is_removed p (set r row) (atom_number p guess)) → ⊥
  unfolding is_in IsAtom is_guess
  guess_kept r row v t =
      let (x, m, e) = map_mem (atom_number p) (removes p (set r row)) (atom_number p guess) (in_mem (atom_number p guess) (map (atom_number p) (removes p (set r row))) t) in
      let q : guess ≡ x = atom_injective p guess x tt (removes_valid p G (set r row) v x m) e in
      T_not (is_guess x) (not_guess r row x m) (subst (λ (a : Atom). T (is_guess a)) q tt)

  -- ---- the state after steps taken one by one is that after all of them
  none_left : (s : State) (i : ℕ) → (run_from p s i []).state ≡ s
  unfolding run_from
  none_left s i = refl

  module _ (plain : NoEvery p) where
    pub run_leaves : (ks : List ℕ) (l : List Action) (s : State) (i : ℕ) → actions_at p ks ≡ some l → T (takes_all p s l) → (run_from p s i ks).state ≡ after_all p s l
    unfolding takes_all
    run_leaves [] l s i e t = none_left s i ∙ sym (none_after p s) ∙ ap (after_all p s) (actions_none p l e)
    run_leaves (k ∷ ks) l s i e t =
        let (a, m, f, g, q) = actions_cons p k ks l e in
        let v : Actions p G (a ∷ m) = subst (Actions p G) (sym q) (actions_valid (k ∷ ks) l e) in
        let u : T (may_take p s a && takes_all p (after p s a) m) = subst (λ (l : List Action). T (takes_all p s l)) (sym q) t in
        ap (λ (x : Run). x.state) (run_step p k ks a s i f (T_and_l (may_take p s a) _ u))
        ∙ run_leaves ks m (after p s a) (suc i) g (T_and_r (may_take p s a) _ u)
        ∙ sym (first_after p s a m (λ j c r. let (b, n, h) = removed_some p m j r in never_both p G plain b a (v b (Memᴰ.tail n)) (v a (Memᴰ.head refl)) j h c))
        ∙ ap (after_all p s) q

    -- ---- taken one by one, and each may be taken before: so without what they add
    abbrev Gone : ℕ → Type 0
    Gone i = (c : Action) × IsAction p c × T (is_removed p c i)

    abbrev Keeps : State → State → State → Type 0
    Keeps s₀ s s' = (i : ℕ) → T (s₀ i) → T (s i) ⊎ (Gone i × (T (s' i) → ⊥))

    keeps_on : (s₀ s s' : State) (a : Action) → IsAction p a → Keeps s₀ s s' → Keeps s₀ (λ i. s i && not (is_removed p a i)) (after p s' a)
    unfolding after
    keeps_on s₀ s s' a v h i t = by_cases (h i t) (is_removed p a i) refl
      where
        by_cases : T (s i) ⊎ (Gone i × (T (s' i) → ⊥)) → (b : Bool) → is_removed p a i ≡ b → T (s i && not b) ⊎ (Gone i × (T ((s' i && not (is_removed p a i)) || is_added p a i) → ⊥))
        by_cases (inl q) true e = inr ((a, v, T_of e), λ u. ⊎_elim (λ w. T_not (is_removed p a i) (T_and_r (s' i) _ w) (T_of e)) (λ w. never_both p G plain a a v v i (T_of e) w) (T_or (s' i && not (is_removed p a i)) _ u))
        by_cases (inl q) false e = inl (and_T (s i) true q tt)
        by_cases (inr ((c, x, r), n)) b e = inr ((c, x, r), λ u. ⊎_elim (λ w. n (T_and_l (s' i) _ w)) (λ w. never_both p G plain c a x v i r w) (T_or (s' i && not (is_removed p a i)) _ u))

    through : (l : List Action) (s₀ s s' : State) → Actions p G l → Keeps s₀ s s' → ((a : Action) → Memᴰ a l → T (may_take p s₀ a)) → T (takes_all p s' l) → T (go_through p s l)
    unfolding takes_all go_through
    through [] s₀ s s' v h m t = tt
    through (a ∷ l) s₀ s s' v h m t = and_T (may_take p s a) _
        (needed_may p s a (λ i n. ⊎_elim (λ q. q) (λ q. absurd (q.1 (may_needed p s' a (T_and_l (may_take p s' a) _ t) i n))) (h i (may_needed p s₀ a (m a (Memᴰ.head refl)) i n))))
        (through l s₀ (λ i. s i && not (is_removed p a i)) (after p s' a) (λ b k. v b (Memᴰ.tail k)) (keeps_on s₀ s s' a (v a (Memᴰ.head refl)) h) (λ b k. m b (Memᴰ.tail k)) (T_and_r (may_take p s' a) _ t))

    -- ---- what is removed is gone after all
    after_gone : (l : List Action) (s : State) → Actions p G l → (b : Action) → Memᴰ b l → (i : ℕ) → T (is_removed p b i) → T (after_all p s l i) → ⊥
    unfolding after_all
    after_gone l s v b m i r t = ⊎_elim (λ q. T_not (are_removed p l i) (T_and_r (s i) _ q) (some_removed p l b i m r))
        (λ q. let (c, k, j) = added_some p l i q in never_both p G plain b c (v b m) (v c k) i r j) (T_or (s i && not (are_removed p l i)) _ t)

    -- what a step of a layer needs and does not itself remove is there after the layer
    needed_after : (s : State) (l : List Action) → T (may_take_all p s l) → (a : Action) → Memᴰ a l → (i : ℕ) → T (is_needed p a i) → (T (is_removed p a i) → ⊥) → T (after_all p s l i)
    unfolding after_all
    needed_after s l t a m i n own = or_l (s i && not (are_removed p l i)) _ (and_T (s i) _ (may_needed p s a (all_may p s l t a m) i n) (not_T (are_removed p l i) (λ r.
        let (b, k, q) = removed_some p l i r in
        ⊎_elim (λ f. own (subst (λ (x : Action). T (is_removed p x i)) (sym f) q)) (λ f. f.1 i q (inl n)) (one_or_apart p l (are_apart_lem p s l t) a b m k))))

    stays_plain : (s : State) (l : List Action) → T (may_take_all p s l) → (a : Action) → Memᴰ a l → removes p a ≡ [] → T (may_take p (after_all p s l) a)
    unfolding any
    stays_plain s l t a m e = needed_may p (after_all p s l) a (λ i n. needed_after s l t a m i n (λ r. subst (λ (x : List Atom). T (any (eqb i) (map (atom_number p) x))) e r))

    first_need : (r row : ℕ) → Memᴰ guess (needs p (set r row))
    unfolding needs
    first_need r row = Memᴰ.head refl

    stays_of : (s : State) (l : List Action) → Actions p G l → T (may_take_all p s l) → (a : Action) → Memᴰ a l → T (stays p (after_all p s l) a)
    unfolding stays removes IsAction
    stays_of s l v t (set r row) m = needed_after s l t (set r row) m (atom_number p guess) (needed_at p (set r row) guess (first_need r row)) (guess_kept r row (v (set r row) m))
    stays_of s l v t begin_proof m = tt
    stays_of s l v t (prove_and w row) m = stays_plain s l t (prove_and w row) m refl
    stays_of s l v t (prove_or w row j) m = stays_plain s l t (prove_or w row j) m refl
    stays_of s l v t (prove_exists w row x) m = stays_plain s l t (prove_exists w row x) m refl
    stays_of s l v t (prove_forall w row z) m = stays_plain s l t (prove_forall w row z) m refl
    stays_of s l v t prove_goal m = stays_plain s l t prove_goal m refl
    stays_of s l v t round_end m = absurd (no_round p G plain (v round_end m))
    stays_of s l v t (mark_in r row) m = absurd (no_mark p G plain r row (v (mark_in r row) m))
    stays_of s l v t (mark_out r row) m = absurd (no_mark p G plain r row (v (mark_out r row) m))

    -- the three tests are the test of a layer
    pub three_tests : (s : State) (l : List Action) → Actions p G l → may_take_all p s l ≡ (all (may_take p s) l && (takes_all p s l && all (stays p (after_all p s l)) l))
    three_tests s l v = T_ext (may_take_all p s l) (all (may_take p s) l && (takes_all p s l && all (stays p (after_all p s l)) l))
        (λ t. and_T (all (may_take p s) l) _ (all_of (may_take p s) l (all_may p s l t)) (and_T (takes_all p s l) _ (taken_of p l s t) (all_of (stays p (after_all p s l)) l (stays_of s l v t))))
        (λ t.
        let m = all_at (may_take p s) l (T_and_l (all (may_take p s) l) _ t) in
        let u = T_and_r (all (may_take p s) l) _ t in
        may_all p s l m (through_apart p G plain l s (after_all p s l) v (through l s s s v (λ i h. inl h) m (T_and_l (takes_all p s l) _ u)) (after_gone l s v)
        (λ a k. stays_stay p (after_all p s l) a (all_at (stays p (after_all p s l)) l (T_and_r (takes_all p s l) _ u) a k))))
