-- Layers of steps: taken together they do what they do one by one.
use Rattle.std.specs.Prelude.{ℕ, suc, ◌+◌, ◌<◌, ◌≡◌, ◌⊎◌, Bool, ◌&&◌, ◌||◌, eqb, if◌then◌else◌}
use Rattle.std.proofs.Math.Path.{refl, sym, ap, ap₂, subst, fun_ext}
use Rattle.std.proofs.Common.{◌∙◌, inl, inr, arith, add-zero, length-append}
use Rattle.std.proofs.Math.Logic.{⊎_elim}
use Rattle.std.proofs.Math.Bool.{true, false, not}
use Rattle.std.proofs.Math.Option.{Option, none, some}
use mathlib.Core.List.Memᴰ
use mathlib.Core.List.{List, [], ◌∷◌, ◌++◌, map, Memᴰ}
use Rattle.std.proofs.Math.Dec.{T, T_not, not_T}
use Rattle.std.proofs.Math.ListN.{length}
use Rattle.definitions.specs.Lists.{all, any, option, is_some, flat_map, is_in}
use Rattle.definitions.specs.Refusal.{refused, accepted}
use Rattle.definitions.specs.Problem.Atoms.{Problem, Atom, guess, proof, goal, tuple, not_tuple, free_domain, free_range, holds_node, marked, relation_at, tuples_of, atom_number, State}
use Rattle.definitions.specs.Sheet.Relations.{is_universal}
use Rattle.definitions.specs.Problem.Actions.{Action, set, begin_proof, prove_and, prove_or, prove_exists, prove_forall, prove_goal, round_end, mark_in, mark_out, action_at, needs, adds, removes}
use Rattle.definitions.specs.Problem.Strips.{may_take, after, Run, run_from}
use Rattle.definitions.specs.Reply.Layers.{disturbs, are_apart, may_take_all, after_all, actions_at, run_layers_from, flat}
use Rattle.laws.specs.Booleans.{and_T, T_and_l, T_and_r, T_or, or_l, or_r, T_of, T_true, not_or_l, not_or_r}
use Rattle.laws.specs.Results.{accepted_eq, refused_accepted}
use Rattle.laws.specs.Lists.{all_at, all_of, any_at, any_of, flat_mem, mem_flat, map_mem, mem_map, none_some, some_eq}
use Rattle.laws.specs.Members.{in_mem, mem_in}
use Rattle.laws.specs.Numbers.{IsAction, atom_injective}
use Rattle.meaning.specs.Means.{Good}
use Rattle.meaning.specs.Valid.{adds_valid, removes_valid, free_cases}
use Rattle.meaning.specs.Changes.{any_append}

-- ---- lists put together
pub map_append : {A B : Type 0} (f : A → B) (l m : List A) → map f (l ++ m) ≡ map f l ++ map f m
map_append f [] m = refl
map_append f (x ∷ l) m = ap (◌∷◌ (f x)) (map_append f l m)

module _ (p : Problem) where
  -- ---- whether an action, or one of several, needs, adds or removes the atom of a number
  abbrev pub is_needed : Action → ℕ → Bool
  is_needed a i = any (eqb i) (map (atom_number p) (needs p a))

  abbrev pub is_added : Action → ℕ → Bool
  is_added a i = any (eqb i) (map (atom_number p) (adds p a))

  abbrev pub is_removed : Action → ℕ → Bool
  is_removed a i = any (eqb i) (map (atom_number p) (removes p a))

  abbrev pub are_added : List Action → ℕ → Bool
  are_added l i = any (eqb i) (flat_map (λ a. map (atom_number p) (adds p a)) l)

  abbrev pub are_removed : List Action → ℕ → Bool
  are_removed l i = any (eqb i) (flat_map (λ a. map (atom_number p) (removes p a)) l)

  pub added_cons : (a : Action) (l : List Action) (i : ℕ) → are_added (a ∷ l) i ≡ (is_added a i || are_added l i)
  unfolding flat_map
  added_cons a l i = any_append (eqb i) (map (atom_number p) (adds p a)) (flat_map (λ a. map (atom_number p) (adds p a)) l)

  pub removed_cons : (a : Action) (l : List Action) (i : ℕ) → are_removed (a ∷ l) i ≡ (is_removed a i || are_removed l i)
  unfolding flat_map
  removed_cons a l i = any_append (eqb i) (map (atom_number p) (removes p a)) (flat_map (λ a. map (atom_number p) (removes p a)) l)

  pub removed_some : (l : List Action) (i : ℕ) → T (are_removed l i) → (b : Action) × Memᴰ b l × T (is_removed b i)
  unfolding is_in
  removed_some l i t = let (b, m, q) = flat_mem (λ a. map (atom_number p) (removes p a)) l i (in_mem i (flat_map (λ a. map (atom_number p) (removes p a)) l) t) in (b, m, mem_in i (map (atom_number p) (removes p b)) q)

  pub added_some : (l : List Action) (i : ℕ) → T (are_added l i) → (b : Action) × Memᴰ b l × T (is_added b i)
  unfolding is_in
  added_some l i t = let (b, m, q) = flat_mem (λ a. map (atom_number p) (adds p a)) l i (in_mem i (flat_map (λ a. map (atom_number p) (adds p a)) l) t) in (b, m, mem_in i (map (atom_number p) (adds p b)) q)

  pub some_removed : (l : List Action) (b : Action) (i : ℕ) → Memᴰ b l → T (is_removed b i) → T (are_removed l i)
  unfolding is_in
  some_removed l b i m t = mem_in i (flat_map (λ a. map (atom_number p) (removes p a)) l) (mem_flat (λ a. map (atom_number p) (removes p a)) l b i m (in_mem i (map (atom_number p) (removes p b)) t))

  pub some_added : (l : List Action) (b : Action) (i : ℕ) → Memᴰ b l → T (is_added b i) → T (are_added l i)
  unfolding is_in
  some_added l b i m t = mem_in i (flat_map (λ a. map (atom_number p) (adds p a)) l) (mem_flat (λ a. map (atom_number p) (adds p a)) l b i m (in_mem i (map (atom_number p) (adds p b)) t))

  -- ---- an action may be taken where every number that it needs holds
  pub may_needed : (s : State) (a : Action) → T (may_take p s a) → (i : ℕ) → T (is_needed a i) → T (s i)
  unfolding may_take is_in
  may_needed s a t i n =
      let (x, m, e) = map_mem (atom_number p) (needs p a) i (in_mem i (map (atom_number p) (needs p a)) n) in
      subst (λ (k : ℕ). T (s k)) (sym e) (all_at (λ x. s (atom_number p x)) (needs p a) t x m)

  pub needed_at : (a : Action) (x : Atom) → Memᴰ x (needs p a) → T (is_needed a (atom_number p x))
  unfolding is_in
  needed_at a x m = mem_in (atom_number p x) (map (atom_number p) (needs p a)) (mem_map (atom_number p) (needs p a) x m)

  pub needed_may : (s : State) (a : Action) → ((i : ℕ) → T (is_needed a i) → T (s i)) → T (may_take p s a)
  unfolding may_take
  needed_may s a h = all_of (λ x. s (atom_number p x)) (needs p a) (λ x m. h (atom_number p x) (needed_at a x m))

  pub may_more : (s s' : State) (a : Action) → ((i : ℕ) → T (s i) → T (s' i)) → T (may_take p s a) → T (may_take p s' a)
  may_more s s' a h t = needed_may s' a (λ i n. h i (may_needed s a t i n))

  -- ---- an action does not disturb another
  abbrev pub Spares : Action → Action → Type 0
  Spares a b = (i : ℕ) → T (is_removed a i) → T (is_needed b i) ⊎ T (is_added b i) → ⊥

  both_tests : (b : Action) (i : ℕ) → any (eqb i) (map (atom_number p) (needs p b ++ adds p b)) ≡ (is_needed b i || is_added b i)
  both_tests b i = ap (any (eqb i)) (map_append (atom_number p) (needs p b) (adds p b)) ∙ any_append (eqb i) (map (atom_number p) (needs p b)) (map (atom_number p) (adds p b))

  pub disturbing : (a b : Action) (i : ℕ) → T (is_removed a i) → T (is_needed b i) ⊎ T (is_added b i) → T (disturbs p a b)
  unfolding disturbs is_in
  disturbing a b i r q = any_of (λ i. any (eqb i) (map (atom_number p) (needs p b ++ adds p b))) (map (atom_number p) (removes p a)) i (in_mem i (map (atom_number p) (removes p a)) r)
      (subst T (sym (both_tests b i)) (⊎_elim (λ n. or_l (is_needed b i) (is_added b i) n) (λ c. or_r (is_needed b i) (is_added b i) c) q))

  pub disturbed : (a b : Action) → T (disturbs p a b) → (i : ℕ) × T (is_removed a i) × (T (is_needed b i) ⊎ T (is_added b i))
  unfolding disturbs is_in
  disturbed a b t =
      let (i, m, e) = any_at (λ i. any (eqb i) (map (atom_number p) (needs p b ++ adds p b))) (map (atom_number p) (removes p a)) t in
      (i, mem_in i (map (atom_number p) (removes p a)) m, T_or (is_needed b i) (is_added b i) (subst T (both_tests b i) e))

  pub spares : (a b : Action) → T (not (disturbs p a b)) → Spares a b
  spares a b t i r q = T_not (disturbs p a b) t (disturbing a b i r q)

  pub sparing : (a b : Action) → Spares a b → T (not (disturbs p a b))
  sparing a b h = not_T (disturbs p a b) (λ t. let (i, r, q) = disturbed a b t in h i r q)

  abbrev pub Apart : Action → Action → Type 0
  Apart a b = Spares a b × Spares b a

  pub apart_both : (a b : Action) → T (not (disturbs p a b || disturbs p b a)) → Apart a b
  apart_both a b t = (spares a b (not_or_l (disturbs p a b) (disturbs p b a) t), spares b a (not_or_r (disturbs p a b) (disturbs p b a) t))

  pub both_apart : (a b : Action) → Apart a b → T (not (disturbs p a b || disturbs p b a))
  both_apart a b h = not_T (disturbs p a b || disturbs p b a) (λ t. ⊎_elim (λ q. T_not (disturbs p a b) (sparing a b h.0) q) (λ q. T_not (disturbs p b a) (sparing b a h.1) q) (T_or (disturbs p a b) (disturbs p b a) t))

  pub apart_head : (a : Action) (l : List Action) → T (are_apart p (a ∷ l)) → (b : Action) → Memᴰ b l → Apart a b
  unfolding are_apart
  apart_head a l t b m = apart_both a b (all_at (λ b. not (disturbs p a b || disturbs p b a)) l (T_and_l (all (λ b. not (disturbs p a b || disturbs p b a)) l) _ t) b m)

  pub apart_tail : (a : Action) (l : List Action) → T (are_apart p (a ∷ l)) → T (are_apart p l)
  unfolding are_apart
  apart_tail a l t = T_and_r (all (λ b. not (disturbs p a b || disturbs p b a)) l) _ t

  pub apart_cons : (a : Action) (l : List Action) → ((b : Action) → Memᴰ b l → Apart a b) → T (are_apart p l) → T (are_apart p (a ∷ l))
  unfolding are_apart
  apart_cons a l h t = and_T (all (λ b. not (disturbs p a b || disturbs p b a)) l) _ (all_of (λ b. not (disturbs p a b || disturbs p b a)) l (λ b m. both_apart a b (h b m))) t

  -- ---- a layer that may be taken
  pub all_may : (s : State) (l : List Action) → T (may_take_all p s l) → (a : Action) → Memᴰ a l → T (may_take p s a)
  unfolding may_take_all
  all_may s l t a m = all_at (may_take p s) l (T_and_l (all (may_take p s) l) _ t) a m

  pub are_apart_lem : (s : State) (l : List Action) → T (may_take_all p s l) → T (are_apart p l)
  unfolding may_take_all
  are_apart_lem s l t = T_and_r (all (may_take p s) l) _ t

  pub may_all : (s : State) (l : List Action) → ((a : Action) → Memᴰ a l → T (may_take p s a)) → T (are_apart p l) → T (may_take_all p s l)
  unfolding may_take_all
  may_all s l h t = and_T (all (may_take p s) l) _ (all_of (may_take p s) l h) t

  -- ---- its first step may be taken, then the others as a layer, and the state after is the same
  mix : (b r R c C : Bool) → (T c → T R → ⊥) → ((b && not (r || R)) || (c || C)) ≡ ((((b && not r) || c) && not R) || C)
  mix b r true true C h = absurd (h tt tt)
  mix true true true false C h = refl
  mix true false true false C h = refl
  mix false true true false C h = refl
  mix false false true false C h = refl
  mix true true false true C h = refl
  mix true false false true C h = refl
  mix false true false true C h = refl
  mix false false false true C h = refl
  mix true true false false C h = refl
  mix true false false false C h = refl
  mix false true false false C h = refl
  mix false false false false C h = refl

  pub first_after : (s : State) (a : Action) (l : List Action) → ((i : ℕ) → T (is_added a i) → T (are_removed l i) → ⊥) → after_all p s (a ∷ l) ≡ after_all p (after p s a) l
  unfolding after_all after
  first_after s a l h = fun_ext (λ i. ap₂ (λ (x y : Bool). (s i && not x) || y) (removed_cons a l i) (added_cons a l i) ∙ mix (s i) (is_removed a i) (are_removed l i) (is_added a i) (are_added l i) (h i))

  pub none_after : (s : State) → after_all p s [] ≡ s
  unfolding after_all flat_map any
  none_after s = fun_ext (λ i. by_test (s i))
    where
      by_test : (b : Bool) → ((b && not false) || false) ≡ b
      by_test true = refl
      by_test false = refl

  keeps_on : (s : State) (a : Action) (i : ℕ) → T (s i) → (T (is_removed a i) → ⊥) → T (after p s a i)
  unfolding after
  keeps_on s a i t n = or_l (s i && not (is_removed a i)) (is_added a i) (and_T (s i) _ t (not_T (is_removed a i) n))

  pub first_taken : (s : State) (a : Action) (l : List Action) → T (may_take_all p s (a ∷ l)) → T (may_take p s a) × T (may_take_all p (after p s a) l) × (after_all p s (a ∷ l) ≡ after_all p (after p s a) l)
  first_taken s a l t = (
    all_may s (a ∷ l) t a (Memᴰ.head refl),
    may_all (after p s a) l (λ b m. needed_may (after p s a) b (λ i n. keeps_on s a i (may_needed s b (all_may s (a ∷ l) t b (Memᴰ.tail m)) i n) (λ r. (apart_head a l (are_apart_lem s (a ∷ l) t) b m).0 i r (inl n)))) (apart_tail a l (are_apart_lem s (a ∷ l) t)),
    first_after s a l (λ i c r. let (b, m, q) = removed_some l i r in (apart_head a l (are_apart_lem s (a ∷ l) t) b m).1 i q (inr c)),
  )

  -- ---- the steps of a layer, run one by one
  pub actions_cons : (k : ℕ) (ks : List ℕ) (l : List Action) → actions_at p (k ∷ ks) ≡ some l → (a : Action) × (m : List Action) × (action_at p k ≡ some a) × (actions_at p ks ≡ some m) × (a ∷ m ≡ l)
  unfolding actions_at option
  actions_cons k ks l e = by_option (action_at p k) refl e
    where
      by_rest : (a : Action) → action_at p k ≡ some a → (o : Option (List Action)) → actions_at p ks ≡ o → option o none (λ m. some (a ∷ m)) ≡ some l → (a : Action) × (m : List Action) × (action_at p k ≡ some a) × (actions_at p ks ≡ some m) × (a ∷ m ≡ l)
      by_rest a q none f e = absurd (none_some e)
      by_rest a q (some m) f e = (a, m, q, f, some_eq e)

      by_option : (o : Option Action) → action_at p k ≡ o → option o none (λ a. option (actions_at p ks) none (λ m. some (a ∷ m))) ≡ some l → (a : Action) × (m : List Action) × (action_at p k ≡ some a) × (actions_at p ks ≡ some m) × (a ∷ m ≡ l)
      by_option none q e = absurd (none_some e)
      by_option (some a) q e = by_rest a q (actions_at p ks) refl e

  pub actions_none : (l : List Action) → actions_at p [] ≡ some l → [] ≡ l
  unfolding actions_at
  actions_none l e = some_eq e

  pub run_step : (k : ℕ) (ks : List ℕ) (a : Action) (s : State) (i : ℕ) → action_at p k ≡ some a → T (may_take p s a) → run_from p s i (k ∷ ks) ≡ run_from p (after p s a) (suc i) ks
  unfolding run_from option
  run_step k ks a s i e t = let m : may_take p s a ≡ true = T_true (may_take p s a) t in rw (e, m) refl

  pub layer_runs : (ks : List ℕ) (l : List Action) (s : State) (i : ℕ) (rest : List ℕ) → actions_at p ks ≡ some l → T (may_take_all p s l) → run_from p s i (ks ++ rest) ≡ run_from p (after_all p s l) (i + length ks) rest
  layer_runs [] l s i rest e t =
      let q : [] ≡ l = actions_none l e in
      ap₂ (λ (x : State) (j : ℕ). run_from p x j rest) (sym (none_after s) ∙ ap (after_all p s) q) (sym (add-zero i))
  layer_runs (k ∷ ks) l s i rest e t =
      let (a, m, f, g, q) = actions_cons k ks l e in
      let (x, y, z) = first_taken s a m (subst (λ (l : List Action). T (may_take_all p s l)) (sym q) t) in
      let j : suc i + length ks ≡ i + suc (length ks) = omega arith in
      run_step k (ks ++ rest) a s i f x ∙ layer_runs ks m (after p s a) (suc i) rest g y ∙ ap₂ (λ (u : State) (v : ℕ). run_from p u v rest) (sym z ∙ ap (after_all p s) q) j

  -- ---- layers that are accepted, run as one list of steps: accepted, with as many steps, and the same state
  pub flat_run : (layers : List (List ℕ)) (s : State) (i j n : ℕ) → (run_layers_from p s i layers).answer ≡ accepted n
      → (n ≡ i + length layers) × (run_from p s j (flat layers) ≡ record { answer = accepted (j + length (flat layers)); state = (run_layers_from p s i layers).state })
  unfolding run_layers_from flat run_from option
  flat_run [] s i j n e = by_test (s (atom_number p goal)) refl e
    where
      by_test : (b : Bool) → s (atom_number p goal) ≡ b → (if b then accepted i else refused 15 i) ≡ accepted n
          → (n ≡ i + 0) × (◌≡◌ {A = Run} (record { answer = if b then accepted j else refused 15 j; state = s }) (record { answer = accepted (j + 0); state = s }))
      by_test true q e = (sym (accepted_eq i n e) ∙ sym (add-zero i), ap (λ (k : ℕ). record { answer = accepted k; state = s }) (sym (add-zero j)))
      by_test false q e = absurd (refused_accepted e)
  flat_run (ks ∷ layers) s i j n e = by_option (actions_at p ks) refl e (λ l q. flat_run layers (after_all p s l) (suc i) (j + length ks) n q)
    where
      tail : List Action → Run
      tail l = run_layers_from p (after_all p s l) (suc i) layers

      by_may : (l : List Action) → actions_at p ks ≡ some l → (b : Bool) → may_take_all p s l ≡ b → (if b then tail l else record { answer = refused 14 i; state = s }).answer ≡ accepted n
          → ((tail l).answer ≡ accepted n → (n ≡ suc i + length layers) × (run_from p (after_all p s l) (j + length ks) (flat layers) ≡ record { answer = accepted (j + length ks + length (flat layers)); state = (tail l).state }))
          → (n ≡ i + suc (length layers)) × (run_from p s j (ks ++ flat layers) ≡ record { answer = accepted (j + length (ks ++ flat layers)); state = (if b then tail l else record { answer = refused 14 i; state = s }).state })
      by_may l a true t e r =
          let (x, y) = r e in
          let k : j + length ks + length (flat layers) ≡ j + length (ks ++ flat layers) = omega (arith, length-append ks (flat layers)) in
          (omega arith, layer_runs ks l s j (flat layers) a (T_of t) ∙ y ∙ ap (λ (c : ℕ). record { answer = accepted c; state = (tail l).state }) k)
      by_may l a false t e r = absurd (refused_accepted e)

      by_option : (o : Option (List Action)) → actions_at p ks ≡ o
          → (option o (record { answer = refused 13 i; state = s }) (λ l. if may_take_all p s l then tail l else record { answer = refused 14 i; state = s })).answer ≡ accepted n
          → ((l : List Action) → (tail l).answer ≡ accepted n → (n ≡ suc i + length layers) × (run_from p (after_all p s l) (j + length ks) (flat layers) ≡ record { answer = accepted (j + length ks + length (flat layers)); state = (tail l).state }))
          → (n ≡ i + suc (length layers)) × (run_from p s j (ks ++ flat layers) ≡ record { answer = accepted (j + length (ks ++ flat layers)); state = (option o (record { answer = refused 13 i; state = s }) (λ l. if may_take_all p s l then tail l else record { answer = refused 14 i; state = s })).state })
      by_option none a e r = absurd (refused_accepted e)
      by_option (some l) a e r = by_may l a (may_take_all p s l) refl e (r l)

  -- ---- steps gone through in turn, each with what it removes but not what it adds; and what a step needs and does not itself remove
  unfoldable pub go_through : State → List Action → Bool
  go_through s [] = true
  go_through s (a ∷ l) = may_take p s a && go_through (λ i. s i && not (is_removed a i)) l

  unfoldable pub may_stay : State → Action → Bool
  may_stay s a = all (λ x. s (atom_number p x) || is_removed a (atom_number p x)) (needs p a)

  -- two that stand in a layer are one and the same, or apart
  pub one_or_apart : (l : List Action) → T (are_apart p l) → (a b : Action) → Memᴰ a l → Memᴰ b l → (a ≡ b) ⊎ Apart a b
  one_or_apart [] t a b m k = absurd (Memᴰ.not-nil m)
  one_or_apart (c ∷ l) t a b m k = by_cases (Memᴰ.cases_cons m) (Memᴰ.cases_cons k) (one_or_apart l (apart_tail c l t) a b)
    where
      by_cases : (a ≡ c) ⊎ Memᴰ a l → (b ≡ c) ⊎ Memᴰ b l → (Memᴰ a l → Memᴰ b l → (a ≡ b) ⊎ Apart a b) → (a ≡ b) ⊎ Apart a b
      by_cases (inl e) (inl f) r = inl (e ∙ sym f)
      by_cases (inl e) (inr j) r = inr (subst (λ (x : Action). Apart x b) (sym e) (apart_head c l t b j))
      by_cases (inr i) (inl f) r = inr (subst (λ (x : Action). Apart a x) (sym f) (let q = apart_head c l t a i in (q.1, q.0)))
      by_cases (inr i) (inr j) r = r i j

  -- steps that are gone through may all be taken in the state before
  through_may : (l : List Action) (s : State) → T (go_through s l) → (b : Action) → Memᴰ b l → T (may_take p s b)
  unfolding go_through
  through_may [] s t b m = absurd (Memᴰ.not-nil m)
  through_may (a ∷ l) s t b m = ⊎_elim
      (λ e. subst (λ (x : Action). T (may_take p s x)) (sym e) (T_and_l (may_take p s a) _ t))
      (λ k. may_more (λ i. s i && not (is_removed a i)) s b (λ i q. T_and_l (s i) _ q) (through_may l (λ i. s i && not (is_removed a i)) (T_and_r (may_take p s a) _ t) b k))
      (Memᴰ.cases_cons m)

  stay_needed : (w : State) (a : Action) → T (may_stay w a) → (i : ℕ) → T (is_needed a i) → T (w i) ⊎ T (is_removed a i)
  unfolding may_stay is_in
  stay_needed w a t i n =
      let (x, m, e) = map_mem (atom_number p) (needs p a) i (in_mem i (map (atom_number p) (needs p a)) n) in
      subst (λ (k : ℕ). T (w k) ⊎ T (is_removed a k)) (sym e) (T_or (w (atom_number p x)) _ (all_at (λ x. w (atom_number p x) || is_removed a (atom_number p x)) (needs p a) t x m))

-- ---- Without an `every` line what an action removes it needs, and no action adds. (With one a round's end removes what it does not need, and
-- the next round adds that again.)
abbrev pub NoEvery : Problem → Type 0
NoEvery p = T (not (is_some p.source.question.every))

unfoldable pub comes : Atom → Bool
comes guess = false
comes proof = true
comes goal = true
comes (tuple r row) = true
comes (not_tuple r row) = false
comes (free_domain r x) = false
comes (free_range r y) = false
comes (holds_node v row) = true
comes (marked r row) = false

module _ (p : Problem) (G : Good p) where
  abbrev pub Actions : List Action → Type 0
  Actions l = (a : Action) → Memᴰ a l → IsAction p a

  module _ (plain : NoEvery p) where
    pub no_round : T (is_some p.source.question.every) → ⊥
    no_round v = T_not (is_some p.source.question.every) plain v

    pub no_mark : (r row : ℕ) → (r < length p.relations) × T (is_universal (relation_at p r).kind) × (row < tuples_of p.size (relation_at p r)) → ⊥
    no_mark r row v = no_round (G.every_one r v.0 v.1).1

    removes_needs : (a : Action) → IsAction p a → (x : Atom) → Memᴰ x (removes p a) → Memᴰ x (needs p a)
    unfolding removes needs IsAction
    removes_needs (set r row) v x m = Memᴰ.tail m
    removes_needs begin_proof v x m = m
    removes_needs (prove_and w row) v x m = absurd (Memᴰ.not-nil m)
    removes_needs (prove_or w row i) v x m = absurd (Memᴰ.not-nil m)
    removes_needs (prove_exists w row y) v x m = absurd (Memᴰ.not-nil m)
    removes_needs (prove_forall w row z) v x m = absurd (Memᴰ.not-nil m)
    removes_needs prove_goal v x m = absurd (Memᴰ.not-nil m)
    removes_needs round_end v x m = absurd (no_round v)
    removes_needs (mark_in r row) v x m = m
    removes_needs (mark_out r row) v x m = m

    pub added_comes : (a : Action) → IsAction p a → (x : Atom) → Memᴰ x (adds p a) → T (comes x)
    unfolding adds comes IsAction
    added_comes (set r row) v x m = subst (λ (a : Atom). T (comes a)) (sym (Memᴰ.eq_of_singleton m)) tt
    added_comes begin_proof v x m = subst (λ (a : Atom). T (comes a)) (sym (Memᴰ.eq_of_singleton m)) tt
    added_comes (prove_and w row) v x m = subst (λ (a : Atom). T (comes a)) (sym (Memᴰ.eq_of_singleton m)) tt
    added_comes (prove_or w row i) v x m = subst (λ (a : Atom). T (comes a)) (sym (Memᴰ.eq_of_singleton m)) tt
    added_comes (prove_exists w row y) v x m = subst (λ (a : Atom). T (comes a)) (sym (Memᴰ.eq_of_singleton m)) tt
    added_comes (prove_forall w row z) v x m = subst (λ (a : Atom). T (comes a)) (sym (Memᴰ.eq_of_singleton m)) tt
    added_comes prove_goal v x m = subst (λ (a : Atom). T (comes a)) (sym (Memᴰ.eq_of_singleton m)) tt
    added_comes round_end v x m = absurd (no_round v)
    added_comes (mark_in r row) v x m = absurd (no_mark r row v)
    added_comes (mark_out r row) v x m = absurd (no_mark r row v)

    removed_goes : (a : Action) → IsAction p a → (x : Atom) → Memᴰ x (removes p a) → T (not (comes x))
    unfolding removes comes IsAction
    removed_goes (set r row) v x m = ⊎_elim
        (λ e. subst (λ (a : Atom). T (not (comes a))) (sym e) tt)
        (λ q. ⊎_elim (λ k. subst (λ (a : Atom). T (not (comes a))) (sym k.1) tt) (λ k. subst (λ (a : Atom). T (not (comes a))) (sym k.1) tt) (free_cases p G p.size r row _ x q))
        (Memᴰ.cases_cons m)
    removed_goes begin_proof v x m = subst (λ (a : Atom). T (not (comes a))) (sym (Memᴰ.eq_of_singleton m)) tt
    removed_goes (prove_and w row) v x m = absurd (Memᴰ.not-nil m)
    removed_goes (prove_or w row i) v x m = absurd (Memᴰ.not-nil m)
    removed_goes (prove_exists w row y) v x m = absurd (Memᴰ.not-nil m)
    removed_goes (prove_forall w row z) v x m = absurd (Memᴰ.not-nil m)
    removed_goes prove_goal v x m = absurd (Memᴰ.not-nil m)
    removed_goes round_end v x m = absurd (no_round v)
    removed_goes (mark_in r row) v x m = absurd (no_mark r row v)
    removed_goes (mark_out r row) v x m = absurd (no_mark r row v)

    pub removed_needed : (a : Action) → IsAction p a → (i : ℕ) → T (is_removed p a i) → T (is_needed p a i)
    unfolding is_in
    removed_needed a v i t =
        let (x, m, e) = map_mem (atom_number p) (removes p a) i (in_mem i (map (atom_number p) (removes p a)) t) in
        subst (λ (k : ℕ). T (is_needed p a k)) (sym e) (needed_at p a x (removes_needs a v x m))

    pub never_both : (a b : Action) → IsAction p a → IsAction p b → (i : ℕ) → T (is_removed p a i) → T (is_added p b i) → ⊥
    unfolding is_in
    never_both a b v w i r c =
        let (x, m, e) = map_mem (atom_number p) (removes p a) i (in_mem i (map (atom_number p) (removes p a)) r) in
        let (y, k, f) = map_mem (atom_number p) (adds p b) i (in_mem i (map (atom_number p) (adds p b)) c) in
        let q : x ≡ y = atom_injective p x y (removes_valid p G a v x m) (adds_valid p G b w y k) (sym e ∙ f) in
        T_not (comes x) (removed_goes a v x m) (subst (λ (z : Atom). T (comes z)) (sym q) (added_comes b w y k))

    -- a step of the first pass finds nothing removed by those before it
    through_spares : (a : Action) (l : List Action) (s : State) → T (go_through p s l) → ((i : ℕ) → T (is_removed p a i) → T (s i) → ⊥) → (b : Action) → Memᴰ b l → (i : ℕ) → T (is_removed p a i) → T (is_needed p b i) → ⊥
    through_spares a l s t gone b m i r n = gone i r (may_needed p s b (through_may p l s t b m) i n)

    pub through_apart : (l : List Action) (s w : State) → Actions l → T (go_through p s l) → ((b : Action) → Memᴰ b l → (i : ℕ) → T (is_removed p b i) → T (w i) → ⊥) → ((a : Action) → Memᴰ a l → T (may_stay p w a)) → T (are_apart p l)
    unfolding go_through are_apart
    through_apart [] s w v t gone h = tt
    through_apart (a ∷ l) s w v t gone h = apart_cons p a l (λ b m. (first b m, second b m)) (through_apart l (λ i. s i && not (is_removed p a i)) w (λ b m. v b (Memᴰ.tail m)) rest (λ b m. gone b (Memᴰ.tail m)) (λ b m. h b (Memᴰ.tail m)))
      where
        rest : T (go_through p (λ i. s i && not (is_removed p a i)) l)
        rest = T_and_r (may_take p s a) _ t

        own : (b : Action) → Memᴰ b l → (i : ℕ) → T (is_removed p a i) → T (is_needed p b i) → ⊥
        own b m i r n = through_spares a l (λ i. s i && not (is_removed p a i)) rest (λ i r q. T_not (is_removed p a i) (T_and_r (s i) _ q) r) b m i r n

        first : (b : Action) → Memᴰ b l → Spares p a b
        first b m i r (inl n) = own b m i r n
        first b m i r (inr c) = never_both a b (v a (Memᴰ.head refl)) (v b (Memᴰ.tail m)) i r c

        second : (b : Action) → Memᴰ b l → Spares p b a
        second b m i r (inl n) = ⊎_elim (λ q. gone b (Memᴰ.tail m) i r q) (λ q. own b m i q (removed_needed b (v b (Memᴰ.tail m)) i r)) (stay_needed p w a (h a (Memᴰ.head refl)) i n)
        second b m i r (inr c) = never_both b a (v b (Memᴰ.tail m)) (v a (Memᴰ.head refl)) i r c
