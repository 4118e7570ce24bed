-- Completeness: the built steps of picks that solve the case reach the goal and are read as those picks.
use Prim.Native.Nat.{ℕ, zero, suc, ◌+◌, ◌*◌, ◌/◌, ◌%◌, ◌^◌, ◌<◌, ◌≤◌}
use Rattle.std.specs.Prelude.{◌≡◌, ◌⊎◌, Bool, not, eqb, length, if◌then◌else◌}
use Rattle.std.proofs.Math.Path.{refl, sym, ap, ap₂, subst, subst₂}
use Rattle.std.proofs.Common.{◌∙◌, inl, inr, zero-add, eqb→eq, eq-eqb}
use Rattle.std.proofs.Math.Logic.{⊎_elim}
use Rattle.std.proofs.Math.Bool.{true, false}
use Rattle.std.proofs.Math.Option.{Option, none, some}
use mathlib.Core.List.Memᴰ
use mathlib.Core.List.{List, [], ◌∷◌, ◌++◌, map, append_assoc, append-nil, Memᴰ}
use native.Mathlib.Omega.{arith}
use Rattle.std.proofs.Math.Nat.{pow-succ', one-le-pow}
use Rattle.std.proofs.Math.Dec.{T, T_not, not_T}
use Rattle.std.proofs.Math.ListN.{get_or}
use Rattle.std.proofs.lemmas.Bool.{eqb-false}
use Rattle.definitions.specs.Lists.{flat_map, option, is_some, from, below}
use Rattle.definitions.specs.Sheet.Relations.{Relation, Tuple, is_chosen, is_universal, is_function, is_injective}
use Rattle.definitions.specs.Problem.Truth.{holds, every_tuples, values, is_odd, digit, every_value}
use Rattle.definitions.specs.Problem.Tree.{Tree, leaf, forall_node, exists_node, and_node, or_node}
use Rattle.definitions.specs.Sheet.Sheets.{first_chosen}
use Rattle.definitions.specs.Problem.Atoms.{Problem, relation_at, node_at, places_of, tuples_of, Atom, guess, proof, goal, tuple, not_tuple, free_domain, free_range, holds_node, marked, atom_number, is_initial, tuple_holds, State, initial}
use Rattle.definitions.specs.Problem.Actions.{Action, set, begin_proof, prove_goal, round_end, mark_in, mark_out, finish, action_number, root_atom, needs, adds, removes, free_atoms}
use Rattle.definitions.specs.Problem.Strips.{may_take, after, reaches_from, reaches_goal, pick_of, picks_of}
use Rattle.definitions.specs.Problem.Built.{tree_holds, set_steps, node_steps, marks_from, marks_after, round_steps, built_actions, built_steps, step_for, true_rows}
use Rattle.laws.specs.Booleans.{T_of}
use Rattle.laws.specs.Lists.{flat_append, snoc_cases}
use Rattle.laws.specs.Repeats.{Once}
use Rattle.laws.specs.Numbers.{IsAction, IsAtom, action_at_lem, finish_is, finish_goal, finish_round, inj_fun, set_below}
use Rattle.meaning.specs.Means.{Good, means}
use Rattle.meaning.specs.Valid.{finish_needs, nodes_mem, every_there, needs_valid, after_add, after_keep, may_of, free_cases, pair_of}
use Rattle.laws.specs.Digits.{odd_is, even_is, even_next, digit_at, digit_other, out_other, out_at, out_next, shift_none}
use Rattle.meaning.specs.Values.{E, HasEvery, Chosen, no_tuples, one_value, tuples_are, some_tuple, with_zero, in_value, value_in, tuple_moves, not_moves}
use Rattle.meaning.specs.Rounds.{mark_here, goal_past}
use Rattle.meaning.specs.Sound.{holds_mono, holds_new, tup, holds_split, holds_pick, holds_empty, OfKinds, asks, tuple_at, same_row, initial_at}
use Rattle.meaning.specs.Pairs.{pair_action, Pair, set_of, tuple_of, PairsReady, pairs, sets_are, pairs_once, pairs_ready, picked_in, in_picked}
use Rattle.meaning.specs.Does.{Takes, ends, takes_append, ends_append, takes_reach, Has, Does, High, Low, nodes_do, part_low}

-- ---- atoms of different kinds differ
unfoldable tag : Atom → ℕ
tag guess = 0
tag proof = 1
tag goal = 2
tag (tuple r row) = 3
tag (not_tuple r row) = 4
tag (free_domain r x) = 5
tag (free_range r y) = 6
tag (holds_node v row) = 7
tag (marked r row) = 8

num_clash : {m n : ℕ} → T (not (eqb m n)) → m ≡ n → ⊥
num_clash {m} {n} d e = T_not (eqb m n) d (T_of (eq-eqb m n e))

-- the relation and the row of a tuple or not-tuple
unfoldable relation_in : Atom → ℕ
relation_in guess = 0
relation_in proof = 0
relation_in goal = 0
relation_in (tuple r row) = r
relation_in (not_tuple r row) = r
relation_in (free_domain r x) = r
relation_in (free_range r y) = r
relation_in (holds_node v row) = 0
relation_in (marked r row) = r

unfoldable row_in : Atom → ℕ
row_in guess = 0
row_in proof = 0
row_in goal = 0
row_in (tuple r row) = row
row_in (not_tuple r row) = row
row_in (free_domain r x) = 0
row_in (free_range r y) = 0
row_in (holds_node v row) = 0
row_in (marked r row) = row

module _ (p : Problem) (G : Good p) where
  -- the state has at least what is asked
  abbrev Exact : List Tuple → State → Type 0
  Exact P s = (x : Atom) → IsAtom p x → asks p G P x → T (s (atom_number p x))

  -- ---- one set step
  module _ (P : List Tuple) (s : State) (r row : ℕ) (E : Exact P s) (v : IsAction p (set r row)) (new : T (holds p.source P r (places_of p.size (relation_at p r).arity row)) → ⊥)
      (nf : T (is_function (relation_at p r).kind) → (y : ℕ) → Memᴰ (tup r (row / p.size ∷ y ∷ [])) P → ⊥) (ni : T (is_injective (relation_at p r).kind) → (x : ℕ) → Memᴰ (tup r (x ∷ row % p.size ∷ [])) P → ⊥) where
    set_legal : T (may_take p s (set r row))
    unfolding needs asks
    set_legal = may_of p G s (set r row) (λ x m. E x (needs_valid p G (set r row) v x m) (by_atom x (Memᴰ.cases_cons m)))
      where
        frees : (x : Atom) → (T (is_function (relation_at p r).kind) × (x ≡ free_domain r (row / p.size))) ⊎ (T (is_injective (relation_at p r).kind) × (x ≡ free_range r (row % p.size))) → asks p G P x
        frees x (inl k) = subst (asks p G P) (sym k.1) (nf k.0)
        frees x (inr k) = subst (asks p G P) (sym k.1) (ni k.0)

        by_atom : (x : Atom) → (x ≡ guess) ⊎ Memᴰ x (not_tuple r row ∷ free_atoms p.size (relation_at p r) r row) → asks p G P x
        by_atom x (inl e) = subst (asks p G P) (sym e) tt
        by_atom x (inr m) = ⊎_elim (λ e. subst (asks p G P) (sym e) (not_T (holds p.source P r (places_of p.size (relation_at p r).arity row)) new)) (λ q. frees x (free_cases p G p.size r row (relation_at p r) x q)) (Memᴰ.cases_cons m)

    abbrev P₁ : List Tuple
    P₁ = P ++ (tuple_at p r row ∷ [])

    stays : (x : Atom) → IsAtom p x → asks p G P x → (Memᴰ x (removes p (set r row)) → ⊥) → T (after p s (set r row) (atom_number p x))
    stays x w a n = after_keep p G s (set r row) x v w (E x w a) n

    here : Memᴰ (tuple_at p r row) P₁
    here = Memᴰ.append_right P (Memᴰ.head refl)

    chosen_high : first_chosen p.source.question ≤ r
    unfolding IsAction
    chosen_high = G.high_chosen r v.1

    removed : (x : Atom) → (x ≡ not_tuple r row → ⊥) → (T (is_function (relation_at p r).kind) → x ≡ free_domain r (row / p.size) → ⊥) → (T (is_injective (relation_at p r).kind) → x ≡ free_range r (row % p.size) → ⊥) → Memᴰ x (removes p (set r row)) → ⊥
    unfolding removes
    removed x a b d m = ⊎_elim a (λ q. ⊎_elim (λ k. b k.0 k.1) (λ k. d k.0 k.1) (free_cases p G p.size r row (relation_at p r) x q)) (Memᴰ.cases_cons m)

    pair_mem : T (is_function (relation_at p r).kind) → Memᴰ (tup r (row / p.size ∷ row % p.size ∷ [])) P₁
    unfolding IsAction
    pair_mem f = subst (λ (xs : List ℕ). Memᴰ (tup r xs) P₁) (pair_of p G r row v.0 (set_below p r row v) f).0 here

    set_exact : Exact P₁ (after p s (set r row))
    unfolding asks adds IsAtom tag IsAction
    set_exact guess w a = stays guess w tt (removed guess (λ e. num_clash tt (ap tag e)) (λ f e. num_clash tt (ap tag e)) (λ f e. num_clash tt (ap tag e)))
    set_exact proof w a = absurd a
    set_exact goal w a = absurd a
    set_exact (tuple r' row') w a = ⊎_elim
        (λ q. stays (tuple r' row') w q (removed (tuple r' row') (λ e. num_clash tt (ap tag e)) (λ f e. num_clash tt (ap tag e)) (λ f e. num_clash tt (ap tag e))))
        (λ q. let k = same_row p G r row r' row' (set_below p r row v) w.1 q in after_add p G s (set r row) (tuple r' row') (Memᴰ.head (ap₂ tuple k.0 k.1)))
        (holds_new p.source P (tuple_at p r row) r' _ a)
    set_exact (not_tuple r' row') w a =
        stays (not_tuple r' row') w (not_T (holds p.source P r' (places_of p.size (relation_at p r').arity row'))
        (λ t. T_not (holds p.source P₁ r' (places_of p.size (relation_at p r').arity row')) a
        (holds_mono p.source P P₁ (λ t m. Memᴰ.append_left (tuple_at p r row ∷ []) m) r' _ t)))
        (removed (not_tuple r' row') (λ e. T_not (holds p.source P₁ r (places_of p.size (relation_at p r).arity row)) (subst (asks p G P₁) e a) (holds_pick p.source P₁ r _ chosen_high here)) (λ f e. num_clash tt (ap tag e)) (λ f e. num_clash tt (ap tag e)))
    set_exact (free_domain r' x) w a = stays (free_domain r' x) w (λ y m. a y (Memᴰ.append_left (tuple_at p r row ∷ []) m))
        (removed (free_domain r' x) (λ e. num_clash tt (ap tag e)) (λ f e. subst (asks p G P₁) e a (row % p.size) (pair_mem f)) (λ f e. num_clash tt (ap tag e)))
    set_exact (free_range r' y) w a = stays (free_range r' y) w (λ x m. a x (Memᴰ.append_left (tuple_at p r row ∷ []) m))
        (removed (free_range r' y) (λ e. num_clash tt (ap tag e)) (λ f e. num_clash tt (ap tag e)) (λ f e. subst (asks p G P₁) e a (row / p.size) (pair_mem (inj_fun (relation_at p r).kind f))))
    set_exact (holds_node k row') w a = absurd a
    set_exact (marked r' row') w a = absurd a

  -- ---- all the set steps, from what is picked already
  empty_holds : (r : ℕ) (xs : List ℕ) → T (is_chosen (relation_at p r).kind) → T (holds p.source [] r xs) → ⊥
  empty_holds r xs c t = holds_empty p.source r xs (G.high_chosen r c) t

  module _ (F : List Tuple) (K : OfKinds p G F) where
    sets_run : (l : List Pair) → Once l → PairsReady p F l → (P : List Tuple) → ((t : Tuple) → Memᴰ t P → Memᴰ t F)
        → ((q : Pair) → Memᴰ q l → Memᴰ (tuple_of p q) P → ⊥) → (s : State) → Exact P s → Takes p G s (map set_of l)
        × Exact (P ++ map (tuple_of p) l) (ends p G s (map set_of l))
    unfolding Takes ends Once IsAction
    sets_run [] o R P sub fresh s E = (tt, subst (λ (Q : List Tuple). Exact Q s) (sym (append-nil P)) E)
    sets_run (q ∷ l) o R P sub fresh s E =
        let (w, m) = R q (Memᴰ.head refl) in
        let v = pair_action p G F K q w m in
        let n = fresh q (Memᴰ.head refl) in
        let h = sets_run l o.1 (λ u k. R u (Memᴰ.tail k)) (P ++ (tuple_of p q ∷ [])) (sub1 q m) (fresh1 q l o.0 v (λ u k. let (x, y) = R u (Memᴰ.tail k) in pair_action p G F K u x y) (λ u k. fresh u (Memᴰ.tail k))) (after p s (set_of q))
        (set_exact P s q.0 q.1 E v (new q v n) (nf q v m n) (ni q v m n)) in (
          (v, set_legal P s q.0 q.1 E v (new q v n) (nf q v m n) (ni q v m n), h.0),
          subst (λ (Q : List Tuple). Exact Q (ends p G (after p s (set_of q)) (map set_of l))) (append_assoc P (tuple_of p q ∷ []) (map (tuple_of p) l)) h.1,
        )
      where
        new : (q : Pair) → IsAction p (set_of q) → (Memᴰ (tuple_of p q) P → ⊥) → T (holds p.source P q.0 (places_of p.size (relation_at p q.0).arity q.1)) → ⊥
        new q v n t = ⊎_elim (λ k. empty_holds q.0 _ v.1 k) (λ k. n k.1) (holds_split p.source P q.0 _ t)

        pair : (q : Pair) → IsAction p (set_of q) → T (is_function (relation_at p q.0).kind) → places_of p.size (relation_at p q.0).arity q.1 ≡ q.1 / p.size ∷ q.1 % p.size ∷ []
        pair q v f = (pair_of p G q.0 q.1 v.0 (set_below p q.0 q.1 v) f).0

        nf : (q : Pair) → IsAction p (set_of q) → Memᴰ (tuple_of p q) F → (Memᴰ (tuple_of p q) P → ⊥) → T (is_function (relation_at p q.0).kind) → (y : ℕ) → Memᴰ (tup q.0 (q.1 / p.size ∷ y ∷ [])) P → ⊥
        nf q v m n f y k =
            let e : y ≡ q.1 % p.size = K.fun q.0 (q.1 / p.size) y (q.1 % p.size) f (sub (tup q.0 (q.1 / p.size ∷ y ∷ [])) k) (subst (λ (xs : List ℕ). Memᴰ (tup q.0 xs) F) (pair q v f) m) in
            n (subst (λ (xs : List ℕ). Memᴰ (tup q.0 xs) P) (ap (λ (z : ℕ). q.1 / p.size ∷ z ∷ []) e ∙ sym (pair q v f)) k)

        ni : (q : Pair) → IsAction p (set_of q) → Memᴰ (tuple_of p q) F → (Memᴰ (tuple_of p q) P → ⊥) → T (is_injective (relation_at p q.0).kind) → (x : ℕ) → Memᴰ (tup q.0 (x ∷ q.1 % p.size ∷ [])) P → ⊥
        ni q v m n f x k =
            let g = inj_fun (relation_at p q.0).kind f in
            let e : x ≡ q.1 / p.size = K.inj q.0 x (q.1 / p.size) (q.1 % p.size) f (sub (tup q.0 (x ∷ q.1 % p.size ∷ [])) k) (subst (λ (xs : List ℕ). Memᴰ (tup q.0 xs) F) (pair q v g) m) in
            n (subst (λ (xs : List ℕ). Memᴰ (tup q.0 xs) P) (ap (λ (z : ℕ). z ∷ q.1 % p.size ∷ []) e ∙ sym (pair q v g)) k)

        sub1 : (q : Pair) → Memᴰ (tuple_of p q) F → (t : Tuple) → Memᴰ t (P ++ (tuple_of p q ∷ [])) → Memᴰ t F
        sub1 q m t k = ⊎_elim (λ a. sub t a) (λ e. subst (λ (z : Tuple). Memᴰ z F) (sym e) m) (snoc_cases P (tuple_of p q) t k)

        fresh1 : (q : Pair) (l : List Pair) → (Memᴰ q l → ⊥) → IsAction p (set_of q) → ((u : Pair) → Memᴰ u l → IsAction p (set_of u)) → ((u : Pair) → Memᴰ u l → Memᴰ (tuple_of p u) P → ⊥) → (u : Pair) → Memᴰ u l → Memᴰ (tuple_of p u) (P ++ (tuple_of p q ∷ [])) → ⊥
        fresh1 q l n v vs h u m k =
            ⊎_elim (λ a. h u m a) (λ e. let w = vs u m in let j = same_row p G q.0 q.1 u.0 u.1 (set_below p q.0 q.1 v)
            (set_below p u.0 u.1 w) e in n (Memᴰ.cast (ap₂ (λ (a b : ℕ). (a, b)) (sym j.0) (sym j.1)) m))
            (snoc_cases P (tuple_of p q) (tuple_of p u) k)

    abbrev P₀ : List Tuple
    P₀ = map (tuple_of p) (pairs p F)

    asks_initial : (x : Atom) → asks p G [] x → T (is_initial p x)
    unfolding asks is_initial tuple_holds
    asks_initial guess a = tt
    asks_initial proof a = a
    asks_initial goal a = a
    asks_initial (tuple r row) a = a
    asks_initial (not_tuple r row) a = a
    asks_initial (free_domain r x) a = tt
    asks_initial (free_range r y) a = tt
    asks_initial (holds_node v row) a = a
    asks_initial (marked r row) a = a

    initial_exact : Exact [] (initial p)
    initial_exact x v a = subst T (sym (initial_at p G x v)) (asks_initial x a)

    -- ---- begin-proof
    begin_has : (s : State) → Exact P₀ s → Has p G (Low p G F (length p.node_list)) (after p s begin_proof)
    unfolding means High asks IsAtom removes adds IsAction tag
    begin_has s E guess w a = absurd a.1
    begin_has s E proof w a = after_add p G s begin_proof proof (Memᴰ.head refl)
    begin_has s E goal w a = absurd a.1
    begin_has s E (tuple r row) w a = after_keep p G s begin_proof (tuple r row) tt w (E (tuple r row) w (holds_mono p.source F P₀ (in_picked p G F K.inside) r _ a.0)) (λ m. num_clash tt (ap tag (Memᴰ.eq_of_singleton m)))
    begin_has s E (not_tuple r row) w a =
        after_keep p G s begin_proof (not_tuple r row) tt w
        (E (not_tuple r row) w (not_T (holds p.source P₀ r (places_of p.size (relation_at p r).arity row))
        (λ t. T_not (holds p.source F r (places_of p.size (relation_at p r).arity row)) a.0
        (holds_mono p.source P₀ F (picked_in p F) r _ t)))) (λ m. num_clash tt (ap tag (Memᴰ.eq_of_singleton m)))
    begin_has s E (free_domain r x) w a = absurd a.1
    begin_has s E (free_range r y) w a = absurd a.1
    begin_has s E (marked r row) w a = absurd a.1
    begin_has s E (holds_node k row) w a = absurd (let h = a.1 in let l = w.0 in omega arith)

    -- ---- a round: with the value before it, its nodes are proved, and it ends
    abbrev Q : ℕ → List Tuple
    Q k = F ++ every_value p.source k

    abbrev N : ℕ → List Action
    N k = node_steps p (F ++ every_value p.source k) zero p.node_list

    chosen : Chosen p G F
    chosen t m = (K.inside t m).chosen

    D : (k : ℕ) → Does p G (Low p G (F ++ every_value p.source k) (length p.node_list)) (node_steps p (F ++ every_value p.source k) zero p.node_list) (Low p G (F ++ every_value p.source k) zero)
    unfolding node_at
    D k = nodes_do p G (F ++ every_value p.source k) p.node_list zero (λ j l. ap (λ (x : ℕ). get_or p.node_list x (leaf true zero [])) (zero-add j)) (zero-add (length p.node_list))

    finish_may : (k : ℕ) (s : State) → T (tree_holds p.source (F ++ every_value p.source k) (λ _. zero) p.root) → Has p G (Low p G (F ++ every_value p.source k) zero) s → T (may_take p s (finish p))
    unfolding root_atom
    finish_may k s t H = may_of p G s (finish p) (λ x m. H x (needs_valid p G (finish p) (finish_is p).0 x m)
        (subst (Low p G (F ++ every_value p.source k) zero) (sym (Memᴰ.eq_of_singleton (subst (λ (l : List Atom). Memᴰ x l) (finish_needs p G) m))) (part_low p G (F ++ every_value p.source k) zero zero p.root (λ _. zero) (omega arith) G.root_here (λ l. G.element) t)))

    -- ---- between two rounds, with the mark at tuple i: the value's tuples and not-tuples are there, and the mark
    unfoldable Waits : List Tuple → ℕ → Atom → Type 0
    Waits P i guess = ⊥
    Waits P i proof = ⊥
    Waits P i goal = ⊥
    Waits P i (tuple r row) = T (holds p.source P r (places_of p.size (relation_at p r).arity row))
    Waits P i (not_tuple r row) = T (not (holds p.source P r (places_of p.size (relation_at p r).arity row)))
    Waits P i (free_domain r x) = ⊥
    Waits P i (free_range r y) = ⊥
    Waits P i (holds_node v row) = ⊥
    Waits P i (marked r row) = row ≡ i

    -- a round's end removes the proof phase and atoms of nodes only
    ends_keep : (x : Atom) → (x ≡ proof → ⊥) → ((v row : ℕ) → x ≡ holds_node v row → ⊥) → Memᴰ x (removes p round_end) → ⊥
    unfolding removes
    ends_keep x a b m = ⊎_elim a (λ q. let (j, row, l, h, e) = nodes_mem p.size zero p.node_list x q in b (zero + j) row e) (Memᴰ.cases_cons m)

    module _ (every : HasEvery p G) where
      end_waits : (k : ℕ) (s : State) → Has p G (Low p G (F ++ every_value p.source k) zero) s → Has p G (Waits (F ++ every_value p.source k) 0) (after p s round_end)
      unfolding Waits means High IsAtom adds IsAction tag
      end_waits k s H guess w a = absurd a
      end_waits k s H proof w a = absurd a
      end_waits k s H goal w a = absurd a
      end_waits k s H (tuple r row) w a = after_keep p G s round_end (tuple r row) every w (H (tuple r row) w (a, tt)) (ends_keep (tuple r row) (λ e. num_clash tt (ap tag e)) (λ v x e. num_clash tt (ap tag e)))
      end_waits k s H (not_tuple r row) w a = after_keep p G s round_end (not_tuple r row) every w (H (not_tuple r row) w (a, tt)) (ends_keep (not_tuple r row) (λ e. num_clash tt (ap tag e)) (λ v x e. num_clash tt (ap tag e)))
      end_waits k s H (free_domain r x) w a = absurd a
      end_waits k s H (free_range r y) w a = absurd a
      end_waits k s H (holds_node v row) w a = absurd a
      end_waits k s H (marked r row) w a =
          let c = tuples_are p G every in
          let z = some_tuple p G every in
          after_add p G s round_end (marked r row) (Memᴰ.head (ap₂ marked (G.every_one r w.0 w.1).0 a ∙ sym (mark_here p (E p G) 0 (omega arith))))

      -- ---- one mark
      module _ (i m : ℕ) (l : i < every_tuples p.source) (s : State) (W : Has p G (Waits (F ++ every_value p.source (m * 2 ^ i)) i) s) where
        here_tuple : i < tuples_of p.size (relation_at p (E p G))
        here_tuple = let c = tuples_are p G every in omega arith

        in_is : IsAction p (mark_in (E p G) i)
        unfolding IsAction
        in_is = let (a, b) = every_there p G every in (a, b, here_tuple)

        out_is : IsAction p (mark_out (E p G) i)
        unfolding IsAction
        out_is = let (a, b) = every_there p G every in (a, b, here_tuple)

        mark_there : T (s (atom_number p (marked (E p G) i)))
        unfolding Waits IsAtom
        mark_there = W (marked (E p G) i) (let (a, b) = every_there p G every in (a, b, here_tuple)) refl

        in_may : is_odd m ≡ false → T (may_take p s (mark_in (E p G) i))
        unfolding needs Waits IsAtom
        in_may o = may_of p G s (mark_in (E p G) i) (λ x q. ⊎_elim
            (λ e. subst (λ (y : Atom). T (s (atom_number p y))) (sym e) mark_there)
            (λ u. subst (λ (y : Atom). T (s (atom_number p y))) (sym (Memᴰ.eq_of_singleton u)) (W (not_tuple (E p G) i) ((every_there p G every).0, here_tuple)
            (not_T (holds p.source (F ++ every_value p.source (m * 2 ^ i)) (E p G) (places_of p.size (relation_at p (E p G)).arity i)) (λ t. subst T (digit_at i m ∙ o) (in_value p G F chosen every (m * 2 ^ i) i l t)))))
            (Memᴰ.cases_cons q))

        out_may : is_odd m ≡ true → T (may_take p s (mark_out (E p G) i))
        unfolding needs Waits IsAtom
        out_may o = may_of p G s (mark_out (E p G) i) (λ x q. ⊎_elim
            (λ e. subst (λ (y : Atom). T (s (atom_number p y))) (sym e) mark_there)
            (λ u. subst (λ (y : Atom). T (s (atom_number p y))) (sym (Memᴰ.eq_of_singleton u)) (W (tuple (E p G) i) ((every_there p G every).0, here_tuple) (value_in p G F chosen every (m * 2 ^ i) i l (T_of (digit_at i m ∙ o)))))
            (Memᴰ.cases_cons q))

        two_gone : (x a b : Atom) → (x ≡ a → ⊥) → (x ≡ b → ⊥) → Memᴰ x (a ∷ b ∷ []) → ⊥
        two_gone x a b f g q = ⊎_elim f (λ u. g (Memᴰ.eq_of_singleton u)) (Memᴰ.cases_cons q)

        -- the tuple goes in: with the next value, all is there for a round
        in_has : is_odd m ≡ false → Has p G (Low p G (F ++ every_value p.source (suc m * 2 ^ i)) (length p.node_list)) (after p s (mark_in (E p G) i))
        unfolding means High Waits IsAtom removes adds tag relation_in row_in
        in_has o guess w a = absurd a.1
        in_has o proof w a = after_add p G s (mark_in (E p G) i) proof (Memᴰ.tail (Memᴰ.head refl))
        in_has o goal w a = absurd a.1
        in_has o (tuple r row) w a = by_row (is_universal (relation_at p r).kind) refl (eqb row i) refl
          where
            keep : (r ≡ E p G → row ≡ i → ⊥) → T (after p s (mark_in (E p G) i) (atom_number p (tuple r row)))
            keep n = after_keep p G s (mark_in (E p G) i) (tuple r row) in_is w (W (tuple r row) w (tuple_moves p G F chosen every (suc m * 2 ^ i) (m * 2 ^ i) r row w.0 w.1 (λ f d. subst T (digit_other i m row o (n f)) d) a.0)) (two_gone (tuple r row) _ _ (λ e. num_clash tt (ap tag e)) (λ e. num_clash tt (ap tag e)))

            by_row : (u : Bool) → is_universal (relation_at p r).kind ≡ u → (b : Bool) → eqb row i ≡ b → T (after p s (mark_in (E p G) i) (atom_number p (tuple r row)))
            by_row true f true e = after_add p G s (mark_in (E p G) i) (tuple r row) (Memᴰ.head (ap₂ tuple (G.every_one r w.0 (T_of f)).0 (eqb→eq row i (T_of e))))
            by_row true f false e = keep (λ _ q. eqb-false row i e q)
            by_row false f b e = keep (λ q _. subst T f (subst (λ (x : ℕ). T (is_universal (relation_at p x).kind)) (sym q) (every_there p G every).1))
        in_has o (not_tuple r row) w a = after_keep p G s (mark_in (E p G) i) (not_tuple r row) in_is w
            (W (not_tuple r row) w (not_moves p G F chosen every (suc m * 2 ^ i) (m * 2 ^ i) r row w.0 w.1 (λ f d. subst T (sym (digit_other i m row o (λ e. subst T (ap (digit (m * 2 ^ i)) e ∙ digit_at i m ∙ o) d))) d) a.0))
            (two_gone (not_tuple r row) _ _ (λ e. num_clash tt (ap tag e)) (λ e. T_not (holds p.source (F ++ every_value p.source (suc m * 2 ^ i)) r (places_of p.size (relation_at p r).arity row)) a.0 (gone r row w e)))
          where
            gone : (r row : ℕ) → IsAtom p (not_tuple r row) → not_tuple r row ≡ not_tuple (E p G) i → T (holds p.source (F ++ every_value p.source (suc m * 2 ^ i)) r (places_of p.size (relation_at p r).arity row))
            gone r row w e = subst₂ (λ (x y : ℕ). T (holds p.source (F ++ every_value p.source (suc m * 2 ^ i)) x (places_of p.size (relation_at p x).arity y))) (sym (ap relation_in e)) (sym (ap row_in e)) (value_in p G F chosen every (suc m * 2 ^ i) i l (T_of (digit_at i (suc m) ∙ even_next m o)))
        in_has o (free_domain r x) w a = absurd a.1
        in_has o (free_range r y) w a = absurd a.1
        in_has o (holds_node v row) w a = absurd (let h = a.1 in let k = w.0 in omega arith)
        in_has o (marked r row) w a = absurd a.1

        -- the tuple goes out: the mark is at the next tuple
        out_waits : is_odd m ≡ true → Has p G (Waits (F ++ every_value p.source (m / 2 * 2 ^ suc i)) (suc i)) (after p s (mark_out (E p G) i))
        unfolding Waits IsAtom removes adds tag relation_in row_in
        out_waits o guess w a = absurd a
        out_waits o proof w a = absurd a
        out_waits o goal w a = absurd a
        out_waits o (tuple r row) w a = after_keep p G s (mark_out (E p G) i) (tuple r row) out_is w
            (W (tuple r row) w (tuple_moves p G F chosen every (m / 2 * 2 ^ suc i) (m * 2 ^ i) r row w.0 w.1 (λ f d. subst T (out_other i m o row (λ e. subst T (ap (digit (m / 2 * 2 ^ suc i)) e ∙ out_at i m o) d)) d) a))
            (two_gone (tuple r row) _ _ (λ e. num_clash tt (ap tag e)) (λ e. subst T (out_at i m o) (in_value p G F chosen every (m / 2 * 2 ^ suc i) i l (there e))))
          where
            there : tuple r row ≡ tuple (E p G) i → T (holds p.source (F ++ every_value p.source (m / 2 * 2 ^ suc i)) (E p G) (places_of p.size (relation_at p (E p G)).arity i))
            there e = subst₂ (λ (x y : ℕ). T (holds p.source (F ++ every_value p.source (m / 2 * 2 ^ suc i)) x (places_of p.size (relation_at p x).arity y))) (ap relation_in e) (ap row_in e) a
        out_waits o (not_tuple r row) w a = by_row (is_universal (relation_at p r).kind) refl (eqb row i) refl
          where
            keep : (r ≡ E p G → row ≡ i → ⊥) → T (after p s (mark_out (E p G) i) (atom_number p (not_tuple r row)))
            keep n = after_keep p G s (mark_out (E p G) i) (not_tuple r row) out_is w (W (not_tuple r row) w (not_moves p G F chosen every (m / 2 * 2 ^ suc i) (m * 2 ^ i) r row w.0 w.1 (λ f d. subst T (sym (out_other i m o row (n f))) d) a)) (two_gone (not_tuple r row) _ _ (λ e. num_clash tt (ap tag e)) (λ e. num_clash tt (ap tag e)))

            by_row : (u : Bool) → is_universal (relation_at p r).kind ≡ u → (b : Bool) → eqb row i ≡ b → T (after p s (mark_out (E p G) i) (atom_number p (not_tuple r row)))
            by_row true f true e = after_add p G s (mark_out (E p G) i) (not_tuple r row) (Memᴰ.head (ap₂ not_tuple (G.every_one r w.0 (T_of f)).0 (eqb→eq row i (T_of e))))
            by_row true f false e = keep (λ _ q. eqb-false row i e q)
            by_row false f b e = keep (λ q _. subst T f (subst (λ (x : ℕ). T (is_universal (relation_at p x).kind)) (sym q) (every_there p G every).1))
        out_waits o (free_domain r x) w a = absurd a
        out_waits o (free_range r y) w a = absurd a
        out_waits o (holds_node v row) w a = absurd a
        out_waits o (marked r row) w a =
            let q = (G.every_one r w.0 w.1).0 in
            let c : suc i < tuples_of p.size (relation_at p (E p G)) = subst₂ (λ (x y : ℕ). y < tuples_of p.size (relation_at p x)) q a w.2 in
            after_add p G s (mark_out (E p G) i) (marked r row) (Memᴰ.tail (Memᴰ.head (ap₂ marked q a ∙ sym (mark_here p (E p G) (suc i) c))))

        -- and past the last tuple the goal is there
        out_goal : every_tuples p.source ≡ suc i → T (after p s (mark_out (E p G) i) (atom_number p goal))
        unfolding adds
        out_goal e = let c = tuples_are p G every in after_add p G s (mark_out (E p G) i) goal (Memᴰ.tail (Memᴰ.head (sym (goal_past p (E p G) (suc i) (omega arith)))))

      -- ---- all the marks after a round
      abbrev Marked : ℕ → ℕ → ℕ → State → Type 0
      Marked left i m s =
          (suc m < 2 ^ left → Has p G (Low p G (F ++ every_value p.source (suc m * 2 ^ i)) (length p.node_list)) (ends p G s (marks_from (E p G) left i m)))
          × (0 < left → suc m ≡ 2 ^ left → T (ends p G s (marks_from (E p G) left i m) (atom_number p goal)))

      marks_run : (left i m : ℕ) → i + left ≡ every_tuples p.source → m < 2 ^ left → (s : State) → Has p G (Waits (F ++ every_value p.source (m * 2 ^ i)) i) s → Takes p G s (marks_from (E p G) left i m) × Marked left i m s
      unfolding marks_from Takes ends
      marks_run zero i m e b s W = (tt, ((λ h. absurd (omega arith)), (λ h. absurd (omega arith))))
      marks_run (suc left) i m e b s W = by_test (is_odd m) refl (λ o. marks_run left (suc i) (m / 2) (omega arith) (half o).0 (after p s (mark_out (E p G) i)) (out_waits i m (omega arith) s W o))
        where
          half : is_odd m ≡ true → (m / 2 < 2 ^ left) × ((suc m < 2 ^ suc left → suc (m / 2) < 2 ^ left) × (suc m ≡ 2 ^ suc left → suc (m / 2) ≡ 2 ^ left))
          half o = let a = pow-succ' 2 left in let c = odd_is m o in (omega arith, ((λ h. omega arith), (λ h. omega arith)))

          even_end : is_odd m ≡ false → suc m ≡ 2 ^ suc left → ⊥
          even_end o h = let a = pow-succ' 2 left in let c = even_is m o in omega arith

          last : (l : ℕ) → left ≡ l → is_odd m ≡ true → ((0 < left → suc (m / 2) ≡ 2 ^ left → T (ends p G (after p s (mark_out (E p G) i)) (marks_from (E p G) left (suc i) (m / 2)) (atom_number p goal)))) → suc m ≡ 2 ^ suc left
              → T (ends p G (after p s (mark_out (E p G) i)) (marks_from (E p G) left (suc i) (m / 2)) (atom_number p goal))
          last zero z o r h = subst (λ (l : ℕ). T (ends p G (after p s (mark_out (E p G) i)) (marks_from (E p G) l (suc i) (m / 2)) (atom_number p goal))) (sym z) (out_goal i m (omega arith) s W (omega (arith, e, z)))
          last (suc l) z o r h = r (omega arith) ((half o).1.1 h)

          by_test : (t : Bool) → is_odd m ≡ t → (is_odd m ≡ true → Takes p G (after p s (mark_out (E p G) i)) (marks_from (E p G) left (suc i) (m / 2)) × Marked left (suc i) (m / 2) (after p s (mark_out (E p G) i))) → Takes p G s (if t then mark_out (E p G) i ∷ marks_from (E p G) left (suc i) (m / 2) else mark_in (E p G) i ∷ [])
              × ((suc m < 2 ^ suc left → Has p G (Low p G (F ++ every_value p.source (suc m * 2 ^ i)) (length p.node_list)) (ends p G s (if t then mark_out (E p G) i ∷ marks_from (E p G) left (suc i) (m / 2) else mark_in (E p G) i ∷ [])))
              × (0 < suc left → suc m ≡ 2 ^ suc left → T (ends p G s (if t then mark_out (E p G) i ∷ marks_from (E p G) left (suc i) (m / 2) else mark_in (E p G) i ∷ []) (atom_number p goal))))
          by_test false o ih = (
            (in_is i m (omega arith) s W, in_may i m (omega arith) s W o, tt),
            ((λ h. in_has i m (omega arith) s W o), (λ z h. absurd (even_end o h))),
          )
          by_test true o ih =
              let r = ih o in (
                (out_is i m (omega arith) s W, out_may i m (omega arith) s W o, r.0),
                (
                  (λ h. subst (λ (k : ℕ). Has p G (Low p G (F ++ every_value p.source k) (length p.node_list)) (ends p G (after p s (mark_out (E p G) i)) (marks_from (E p G) left (suc i) (m / 2)))) (out_next i m o) (r.1.0 ((half o).1.0 h))),
                  (λ z h. last left refl o r.1.1 h),
                ),
              )

    -- ---- the built steps
    pub built_are : built_actions p F ≡ map set_of (pairs p F) ++ (begin_proof ∷ flat_map (round_steps p F) (below (values p.source)))
    unfolding built_actions
    built_are = ap (λ (l : List Action). l ++ (begin_proof ∷ flat_map (round_steps p F) (below (values p.source)))) (sets_are p F)

    set_part : Takes p G (initial p) (map set_of (pairs p F)) × Exact P₀ (ends p G (initial p) (map set_of (pairs p F)))
    set_part = sets_run (pairs p F) (pairs_once p F) (pairs_ready p F) [] (λ t m. absurd (Memᴰ.not-nil m)) (λ q m k. Memᴰ.not-nil k) (initial p) initial_exact

    abbrev s₁ : State
    s₁ = ends p G (initial p) (map set_of (pairs p F))

    abbrev s₂ : State
    s₂ = after p s₁ begin_proof

    begin_low : Has p G (Low p G (F ++ every_value p.source 0) (length p.node_list)) s₂
    begin_low = subst (λ (P : List Tuple). Has p G (Low p G P (length p.node_list)) s₂) (sym (with_zero p G F)) (begin_has s₁ set_part.1)

    begin_may : T (may_take p s₁ begin_proof)
    unfolding needs asks IsAtom
    begin_may = may_of p G s₁ begin_proof (λ x m. subst (λ (a : Atom). T (s₁ (atom_number p a))) (sym (Memᴰ.eq_of_singleton m)) (set_part.1 guess tt tt))

    -- ---- what a round leaves: all that the next round needs, or the goal after the last
    abbrev Leaves : ℕ → List Action → State → Type 0
    Leaves k l s =
        Takes p G s l
        × ((suc k < values p.source → Has p G (Low p G (F ++ every_value p.source (suc k)) (length p.node_list)) (ends p G s l))
        × (suc k ≡ values p.source → T (ends p G s l (atom_number p goal))))

    end_with : HasEvery p G → (k : ℕ) → k < values p.source → (s : State) → Has p G (Low p G (F ++ every_value p.source k) zero) s → T (may_take p s round_end) → Leaves k (round_end ∷ marks_after p k) s
    unfolding marks_after Takes ends values IsAction
    end_with h k l s H ok =
        let W = subst (λ (j : ℕ). Has p G (Waits (F ++ every_value p.source j) 0) (after p s round_end)) (sym (shift_none k)) (end_waits h k s H) in
        let r = marks_run h (every_tuples p.source) 0 k (zero-add (every_tuples p.source)) l (after p s round_end) W in (
          (h, ok, r.0),
          (
            (λ g. subst (λ (j : ℕ). Has p G (Low p G (F ++ every_value p.source j) (length p.node_list)) (ends p G (after p s round_end) (marks_from (E p G) (every_tuples p.source) 0 k))) (shift_none (suc k)) (r.1.0 g)),
            (λ g. r.1.1 (some_tuple p G h) g),
          ),
        )

    end_without : T (not (is_some p.source.question.every)) → (k : ℕ) (s : State) → T (may_take p s prove_goal) → Leaves k (prove_goal ∷ marks_after p k) s
    unfolding marks_after marks_from Takes ends adds IsAction
    end_without n k s ok =
        let v = one_value p G n in
        subst (λ (c : ℕ). Leaves k (prove_goal ∷ marks_from (E p G) c 0 k) s) (sym (no_tuples p G n)) ((n, ok, tt), ((λ g. absurd (omega arith)), (λ g. after_add p G s prove_goal goal (Memᴰ.head refl))))

    round_end_lem : (k : ℕ) → k < values p.source → (s : State) → Has p G (Low p G (F ++ every_value p.source k) zero) s → T (may_take p s (finish p)) → Leaves k (finish p ∷ marks_after p k) s
    round_end_lem k l s H ok = by_test (is_some p.source.question.every) refl
      where
        by_test : (b : Bool) → is_some p.source.question.every ≡ b → Leaves k (finish p ∷ marks_after p k) s
        by_test true e = subst (λ (a : Action). T (may_take p s a) → Leaves k (a ∷ marks_after p k) s) (sym (finish_round p (T_of e))) (end_with (T_of e) k l s H) ok
        by_test false e = let n = T_of (ap not e) in subst (λ (a : Action). T (may_take p s a) → Leaves k (a ∷ marks_after p k) s) (sym (finish_goal p n)) (end_without n k s) ok

    module _ (true_of : (k : ℕ) → k < values p.source → T (tree_holds p.source (F ++ every_value p.source k) (λ _. zero) p.root)) where
      round_run : (k : ℕ) → k < values p.source → (s : State) → Has p G (Low p G (F ++ every_value p.source k) (length p.node_list)) s → Leaves k (round_steps p F k) s
      unfolding round_steps
      round_run k l s H =
          let H₃ = (D k).leaves s H in
          let r = round_end_lem k l (ends p G s (node_steps p (F ++ every_value p.source k) zero p.node_list)) H₃ (finish_may k (ends p G s (node_steps p (F ++ every_value p.source k) zero p.node_list)) (true_of k l) H₃) in
          let e = ends_append p G (node_steps p (F ++ every_value p.source k) zero p.node_list) (finish p ∷ marks_after p k) s in (
            takes_append p G (node_steps p (F ++ every_value p.source k) zero p.node_list) (finish p ∷ marks_after p k) s ((D k).legal s H) r.0,
            (
              (λ h. subst (λ (z : State). Has p G (Low p G (F ++ every_value p.source (suc k)) (length p.node_list)) z) (sym e) (r.1.0 h)),
              (λ h. subst (λ (z : State). T (z (atom_number p goal))) (sym e) (r.1.1 h)),
            ),
          )

      rounds_run : (d k : ℕ) → k + suc d ≡ values p.source → (s : State) → Has p G (Low p G (F ++ every_value p.source k) (length p.node_list)) s
          → Takes p G s (flat_map (round_steps p F) (from k (suc d))) × T (ends p G s (flat_map (round_steps p F) (from k (suc d))) (atom_number p goal))
      unfolding flat_map from Takes ends
      rounds_run zero k e s H =
          let r = round_run k (omega arith) s H in
          (takes_append p G (round_steps p F k) [] s r.0 tt, subst (λ (z : State). T (z (atom_number p goal))) (sym (ends_append p G (round_steps p F k) [] s)) (r.1.1 (omega arith)))
      rounds_run (suc d) k e s H =
          let r = round_run k (omega arith) s H in
          let q = rounds_run d (suc k) (omega arith) (ends p G s (round_steps p F k)) (r.1.0 (omega arith)) in (
            takes_append p G (round_steps p F k) (flat_map (round_steps p F) (from (suc k) (suc d))) s r.0 q.0,
            subst (λ (z : State). T (z (atom_number p goal))) (sym (ends_append p G (round_steps p F k) (flat_map (round_steps p F) (from (suc k) (suc d))) s)) q.1,
          )

      all_rounds : Takes p G s₂ (flat_map (round_steps p F) (below (values p.source))) × T (ends p G s₂ (flat_map (round_steps p F) (below (values p.source))) (atom_number p goal))
      unfolding below values
      all_rounds = from_this (2 ^ every_tuples p.source) refl (one-le-pow (every_tuples p.source) 2 (omega arith))
        where
          from_this : (n : ℕ) → 2 ^ every_tuples p.source ≡ n → 1 ≤ n → Takes p G s₂ (flat_map (round_steps p F) (from zero n)) × T (ends p G s₂ (flat_map (round_steps p F) (from zero n)) (atom_number p goal))
          from_this zero e h = absurd (omega arith)
          from_this (suc d) e h = rounds_run d 0 (zero-add (suc d) ∙ sym e) s₂ begin_low

      pub built_takes : Takes p G (initial p) (map set_of (pairs p F) ++ (begin_proof ∷ flat_map (round_steps p F) (below (values p.source))))
      unfolding Takes ends IsAction
      built_takes = takes_append p G (map set_of (pairs p F)) (begin_proof ∷ flat_map (round_steps p F) (below (values p.source))) (initial p) set_part.0 (tt, begin_may, all_rounds.0)

      built_ends : T (ends p G (initial p) (map set_of (pairs p F) ++ (begin_proof ∷ flat_map (round_steps p F) (below (values p.source)))) (atom_number p goal))
      unfolding ends
      built_ends = subst (λ (s : State). T (s (atom_number p goal))) (sym (ends_append p G (map set_of (pairs p F)) (begin_proof ∷ flat_map (round_steps p F) (below (values p.source))) (initial p))) all_rounds.1

      -- the built steps reach the goal
      pub complete : T (reaches_goal p (built_steps p F))
      unfolding reaches_goal built_steps
      complete = subst (λ (l : List Action). T (reaches_from p (initial p) (map (action_number p) l))) (sym built_are)
          (subst T (sym (takes_reach p G (map set_of (pairs p F) ++ (begin_proof ∷ flat_map (round_steps p F) (below (values p.source)))) (initial p) built_takes)) built_ends)

      -- ---- and are read as the picks
      read_takes : (l : List Action) (s : State) → Takes p G s l → picks_of p (map (action_number p) l) ≡ flat_map (pick_of p) l
      unfolding Takes picks_of flat_map option
      read_takes [] s t = refl
      read_takes (a ∷ l) s t = rw (action_at_lem p a t.0) (ap (λ (m : List Tuple). pick_of p a ++ m) (read_takes l (after p s a) t.2))

      sets_read : (l : List Pair) → flat_map (pick_of p) (map set_of l) ≡ map (tuple_of p) l
      unfolding flat_map pick_of
      sets_read [] = refl
      sets_read (q ∷ l) = ap (◌∷◌ (tuple_of p q)) (sets_read l)

      step_read : (P : List Tuple) (v : ℕ) (t : Tree) (row : ℕ) → pick_of p (step_for p P v t row) ≡ []
      unfolding step_for pick_of
      step_read P v (leaf q r ls) row = refl
      step_read P v (forall_node d σ t) row = refl
      step_read P v (exists_node d σ t) row = refl
      step_read P v (and_node ts) row = refl
      step_read P v (or_node ts) row = refl

      rows_read : (P : List Tuple) (v : ℕ) (t : Tree) (l : List ℕ) → flat_map (pick_of p) (map (step_for p P v t) l) ≡ []
      unfolding flat_map
      rows_read P v t [] = refl
      rows_read P v t (row ∷ l) = ap₂ ◌++◌ (step_read P v t row) (rows_read P v t l)

      nodes_read : (P : List Tuple) (ts : List Tree) (v : ℕ) → flat_map (pick_of p) (node_steps p P v ts) ≡ []
      unfolding flat_map node_steps
      nodes_read P [] v = refl
      nodes_read P (t ∷ ts) v = flat_append (pick_of p) (node_steps p P (suc v) ts) (map (step_for p P v t) (true_rows p P t)) ∙ ap₂ ◌++◌ (nodes_read P ts (suc v)) (rows_read P v t (true_rows p P t))

      marks_read : (r left i m : ℕ) → flat_map (pick_of p) (marks_from r left i m) ≡ []
      unfolding flat_map marks_from pick_of
      marks_read r zero i m = refl
      marks_read r (suc left) i m = by_test (is_odd m) (marks_read r left (suc i) (m / 2))
        where
          by_test : (b : Bool) → flat_map (pick_of p) (marks_from r left (suc i) (m / 2)) ≡ [] → flat_map (pick_of p) (if b then mark_out r i ∷ marks_from r left (suc i) (m / 2) else mark_in r i ∷ []) ≡ []
          by_test true h = h
          by_test false h = refl

      finish_read : pick_of p (finish p) ≡ []
      unfolding finish option pick_of
      finish_read = by_option p.source.question.every
        where
          by_option : (o : Option Relation) → pick_of p (option o prove_goal (λ _. round_end)) ≡ []
          by_option none = refl
          by_option (some e) = refl

      rounds_read : (ks : List ℕ) → flat_map (pick_of p) (flat_map (round_steps p F) ks) ≡ []
      unfolding flat_map round_steps marks_after
      rounds_read [] = refl
      rounds_read (k ∷ ks) =
          flat_append (pick_of p) (round_steps p F k) (flat_map (round_steps p F) ks)
          ∙ ap₂ ◌++◌ (flat_append (pick_of p) (node_steps p (F ++ every_value p.source k) zero p.node_list) (finish p ∷ marks_after p k)
          ∙ ap₂ ◌++◌ (nodes_read (F ++ every_value p.source k) p.node_list zero) (ap₂ ◌++◌ finish_read (marks_read (E p G) (every_tuples p.source) zero k))) (rounds_read ks)

      pub read_built : picks_of p (built_steps p F) ≡ map (tuple_of p) (pairs p F)
      unfolding built_steps pick_of flat_map
      read_built = ap (λ (l : List Action). picks_of p (map (action_number p) l)) built_are
          ∙ read_takes (map set_of (pairs p F) ++ (begin_proof ∷ flat_map (round_steps p F) (below (values p.source)))) (initial p) built_takes
          ∙ flat_append (pick_of p) (map set_of (pairs p F)) (begin_proof ∷ flat_map (round_steps p F) (below (values p.source)))
          ∙ ap₂ ◌++◌ (sets_read (pairs p F)) (rounds_read (below (values p.source)))
          ∙ append-nil (map (tuple_of p) (pairs p F))

-- ---- Without an `every` line: one round, which ends by proving the goal, and one value, with which the rule is true
module _ (p : Problem) (G : Good p) (plain : T (not (is_some p.source.question.every))) (F : List Tuple) where
  pub built_plain : built_actions p F ≡ set_steps p F ++ (begin_proof ∷ (node_steps p F zero p.node_list ++ (prove_goal ∷ [])))
  unfolding built_actions round_steps marks_after marks_from flat_map below from
  built_plain = rw (one_value p G plain, no_tuples p G plain, with_zero p G F, finish_goal p plain)
      (ap (λ (l : List Action). set_steps p F ++ (begin_proof ∷ l)) (append-nil (node_steps p F zero p.node_list ++ (prove_goal ∷ []))))

  pub each_true : T (tree_holds p.source F (λ _. zero) p.root) → (k : ℕ) → k < values p.source → T (tree_holds p.source (F ++ every_value p.source k) (λ _. zero) p.root)
  each_true t k l =
      let e : k ≡ 0 = omega (arith, one_value p G plain) in
      subst (λ (P : List Tuple). T (tree_holds p.source P (λ _. zero) p.root)) (sym (ap (λ (j : ℕ). F ++ every_value p.source j) e ∙ with_zero p G F)) t
