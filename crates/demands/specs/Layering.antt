-- Layers: how many an accepted plan has at the least; layers as they are lent; what the calls answer, told by the plain ones.
use Prim.Native.Nat.{ℕ, zero, suc, ◌+◌, ◌-◌, ◌*◌, ◌<◌, ◌≤◌}
use Rattle.std.specs.Prelude.{◌≡◌, ◌⊎◌, ◌↔◌, Bool, ◌&&◌, eqb, ltb, get_or, take, drop, if◌then◌else◌}
use Rattle.std.proofs.Math.Path.{refl, sym, ap, subst}
use Rattle.std.proofs.Common.{ap₂, ◌∙◌, zero-add, T_not, take-append-drop, length-append, length-drop, take_at, drop_at, eq-eqb, eqb-true, le-ltb, ltb-false}
use Rattle.std.proofs.Math.Logic.{inl, inr, ⊎_elim}
use Rattle.std.proofs.Math.Bool.{true, false, not}
use Rattle.std.proofs.Math.Option.{Option, none, some}
use mathlib.Core.List.Memᴰ
use mathlib.Core.List.{List, [], ◌∷◌, ◌++◌, map, Memᴰ}
use native.Mathlib.Omega.{arith}
use Rattle.std.proofs.Math.Nat.{max-le}
use Rattle.std.proofs.Math.Dec.{T, not_T}
use Rattle.std.proofs.Math.ListN.{length}
use Rattle.std.proofs.lemmas.Bool.{not-false}
use Rattle.definitions.specs.Limits.{CaseLimits, step_limit}
use Rattle.definitions.specs.Lists.{option, before, rank, is_in}
use Rattle.definitions.specs.Refusal.{Result, refused, accepted, ◌>>=◌, refuse_if, ready_numbers}
use Rattle.definitions.specs.Sheet.Relations.{Tuple}
use Rattle.definitions.specs.Sheet.Sheets.{every_number}
use Rattle.definitions.specs.Problem.Truth.{Case, are_picks, are_of_kinds, rule_is_true}
use Rattle.definitions.specs.Problem.Tree.{Tree, Trees, leaf, forall_node, exists_node, and_node, or_node, end, ◌then◌, nodes, how_many, parts_from, parts, node_sort}
use Rattle.definitions.specs.Problem.Atoms.{Problem, problem_of, state_words, node_at, Atom, guess, proof, goal, tuple, not_tuple, free_domain, free_range}
use Rattle.definitions.specs.Problem.Atoms.{holds_node, marked, relation_at, tuples_of, atom_number, is_initial, State, initial}
use Rattle.definitions.specs.Problem.Actions.{Action, set, begin_proof, prove_and, prove_or, prove_exists, prove_forall, prove_goal, round_end, mark_in}
use Rattle.definitions.specs.Problem.Actions.{mark_out, Values, with_value, values_at, part_atom, part_atoms, under_atom, forall_needs, root_atom}
use Rattle.definitions.specs.Problem.Actions.{mark_or_goal, needs, adds, removes}
use Rattle.definitions.specs.Problem.Strips.{may_take, run}
use Rattle.definitions.specs.Problem.Built.{built_steps, bound}
use Rattle.definitions.specs.Reply.Outcome.{CaseRead, read_filed, read_case, ground, Ready, asked, nothing, without_every, room_for, state_length}
use Rattle.definitions.specs.Reply.Outcome.{written, ThirdInput, as_numbers, take_steps, text_picks, satisfying, Plan, plan}
use Rattle.definitions.specs.Reply.Layers.{Window, most, fewest, wider, window, windows, case_window, disturbs, are_apart, may_take_all, after_all}
use Rattle.definitions.specs.Reply.Layers.{actions_at, run_layers_from, run_layers, flat, ends_from, layers_from, ends_test, take_layers, window_of}
use Rattle.definitions.specs.Reply.Layers.{layers_checked_from, check_layers, LayeredPlan, layered_plan, layers_built_from, build_layers}
use Rattle.laws.specs.Booleans.{T_or, T_and_l, T_of, T_true, T_false}
use Rattle.laws.specs.Lists.{get_or_mem, mem_get_or, map_mem, mem_map}
use Rattle.laws.specs.Results.{accepted_eq, bind_parts, not_refused, refused_accepted}
use Rattle.laws.specs.Numbers.{IsAction, IsAtom, atom_injective}
use Rattle.meaning.specs.Parts.{Bnd, bnd_with, Here, HereAll, under_forall, under_exists, parts_and, parts_or, head_here, tail_here, IsNode}
use Rattle.meaning.specs.Means.{Good, here_as, values_bnd}
use Rattle.laws.specs.Members.{before_some, in_mem, mem_in}
use Rattle.meaning.specs.Valid.{needs_valid, adds_valid, removes_valid}
use Rattle.meaning.specs.Sound.{initial_at}
use Rattle.meaning.specs.Layers.{is_needed, is_added, is_removed, Spares, spares, sparing, disturbed, disturbing, apart_head, apart_tail, apart_cons}
use Rattle.meaning.specs.Layers.{are_apart_lem, may_all, are_added, are_removed, added_some, may_needed, needed_at, all_may, Actions}
use Rattle.meaning.specs.LayerTests.{actions_valid}
use Rattle.meaning.specs.Windows.{fewest_at, rank_before, rank_none, height, node_height, Measures, part_height, own_height, at_height}
use Rattle.meaning.specs.Layers.{flat_run}
use Rattle.meaning.specs.Layered.{added_atom, built_numbers, layers_run, numbers_few, numbers_length}
use Rattle.meaning.specs.LayerPlans.{ready_to_build, layered_is}
use Rattle.laws.specs.Words.{state_length_lem}
use Rattle.laws.specs.Reader.{Accepted, FiledFits, filed_fits, gives_if}
use Rattle.laws.specs.Refusals.{In, layers_run_refuses}
use Rattle.laws.specs.Asked
use Rattle.meaning.specs.Building.{ground_is, picks_given, plan_tells, given_picks, count_case}
use Rattle.meaning.specs.Grounded.{good}
use Rattle.meaning.specs.Kinds.{tested_kinds, root_means}
use Rattle.meaning.specs.Picks.{picks_inside}
use Rattle.demands.specs.Every.{alone, plain_true}
use Rattle.demands.specs.Buffers.{written_length, has_room, run_or_ready}

-- ---- one layer of an accepted plan
layer_step : (p : Problem) (s : State) (i n : ℕ) (ks : List ℕ) (layers : List (List ℕ)) → (run_layers_from p s i (ks ∷ layers)).answer ≡ accepted n
    → (l : List Action) × (actions_at p ks ≡ some l) × T (may_take_all p s l) × ((run_layers_from p (after_all p s l) (suc i) layers).answer ≡ accepted n)
unfolding run_layers_from option
layer_step p s i n ks layers e = by_option (actions_at p ks) refl e
  where
    by_may : (l : List Action) → actions_at p ks ≡ some l → (b : Bool) → may_take_all p s l ≡ b
        → (if b then run_layers_from p (after_all p s l) (suc i) layers else record { answer = refused 14 i; state = s }).answer ≡ accepted n
        → (l : List Action) × (actions_at p ks ≡ some l) × T (may_take_all p s l) × ((run_layers_from p (after_all p s l) (suc i) layers).answer ≡ accepted n)
    by_may l a true t e = (l, a, T_of t, e)
    by_may l a false t e = absurd (refused_accepted e)

    by_option : (o : Option (List Action)) → actions_at p ks ≡ o
        → (option o (record { answer = refused 13 i; state = s })
        (λ l. if may_take_all p s l then run_layers_from p (after_all p s l) (suc i) layers else record { answer = refused 14 i; state = s })).answer
        ≡ accepted n
        → (l : List Action) × (actions_at p ks ≡ some l) × T (may_take_all p s l) × ((run_layers_from p (after_all p s l) (suc i) layers).answer ≡ accepted n)
    by_option none a e = absurd (refused_accepted e)
    by_option (some l) a e = by_may l a (may_take_all p s l) refl e

-- ---- a layer in plain words: by the places of its steps, and by atoms
module _ (p : Problem) where
  apart_at : (l : List Action) → T (are_apart p l) → (i j : ℕ) → i < length l → j < length l → (i ≡ j → ⊥) → Spares p (get_or l i begin_proof) (get_or l j begin_proof)
  apart_at [] t i j h k n = absurd (omega arith)
  apart_at (a ∷ l) t zero zero h k n = absurd (n refl)
  apart_at (a ∷ l) t zero (suc j) h k n = (apart_head p a l t (get_or l j begin_proof) (get_or_mem l j begin_proof (omega arith))).0
  apart_at (a ∷ l) t (suc i) zero h k n = (apart_head p a l t (get_or l i begin_proof) (get_or_mem l i begin_proof (omega arith))).1
  apart_at (a ∷ l) t (suc i) (suc j) h k n = apart_at l (apart_tail p a l t) i j (omega arith) (omega arith) (λ e. n (ap suc e))

  apart_of : (l : List Action) → ((i j : ℕ) → i < length l → j < length l → (i ≡ j → ⊥) → Spares p (get_or l i begin_proof) (get_or l j begin_proof))
      → T (are_apart p l)
  unfolding are_apart
  apart_of [] h = tt
  apart_of (a ∷ l) h = apart_cons p a l
      (λ b m. let (j, k, e) = mem_get_or l b begin_proof m in (
        subst (Spares p a) e (h 0 (suc j) (omega arith) (omega arith) (λ q. omega arith)),
        subst (λ (x : Action). Spares p x a) e (h (suc j) 0 (omega arith) (omega arith) (λ q. omega arith)),
      )) (apart_of l (λ i j x y n. h (suc i) (suc j) (omega arith) (omega arith) (λ q. n (let z : i ≡ j = omega arith in z))))

  -- each step may be taken in the state before, and no step disturbs the one at another place
  pub layer_means : (s : State) (l : List Action) → (may_take_all p s l ≡ true)
      ↔ (((i : ℕ) → i < length l → may_take p s (get_or l i begin_proof) ≡ true)
      × ((i j : ℕ) → i < length l → j < length l → (i ≡ j → ⊥) → disturbs p (get_or l i begin_proof) (get_or l j begin_proof) ≡ false))
  layer_means s l = (
    (λ e. (
      (λ i h. T_true (may_take p s (get_or l i begin_proof)) (all_may p s l (T_of e) (get_or l i begin_proof) (get_or_mem l i begin_proof h))),
      (λ i j h k n. T_false (disturbs p (get_or l i begin_proof) (get_or l j begin_proof))
          (T_not (disturbs p (get_or l i begin_proof) (get_or l j begin_proof))
          (sparing p (get_or l i begin_proof) (get_or l j begin_proof) (apart_at l (are_apart_lem p s l (T_of e)) i j h k n)))),
    )),
    (λ h. T_true (may_take_all p s l) (may_all p s l
        (λ a m. let (i, k, e) = mem_get_or l a begin_proof m in T_of (ap (may_take p s) (sym e) ∙ h.0 i k))
        (apart_of l (λ i j x y n. spares p (get_or l i begin_proof) (get_or l j begin_proof)
        (not_T (disturbs p (get_or l i begin_proof) (get_or l j begin_proof)) (λ t. subst T (h.1 i j x y n) t)))))),
  )

  -- one disturbs another if it removes an atom that the other needs or adds
  pub disturbs_means : (G : Good p) (a b : Action) → IsAction p a → IsAction p b → (disturbs p a b ≡ true)
      ↔ ((x : Atom) × Memᴰ x (removes p a) × (Memᴰ x (needs p b) ⊎ Memᴰ x (adds p b)))
  unfolding is_in
  disturbs_means G a b v w = (
    (λ e. not_spared (disturbed p a b (T_of e))),
    (λ h. let (x, m, q) = h in T_true (disturbs p a b) (disturbing p a b (atom_number p x)
        (mem_in (atom_number p x) (map (atom_number p) (removes p a)) (mem_map (atom_number p) (removes p a) x m))
        (⊎_elim (λ i. inl (mem_in (atom_number p x) (map (atom_number p) (needs p b)) (mem_map (atom_number p) (needs p b) x i)))
        (λ i. inr (mem_in (atom_number p x) (map (atom_number p) (adds p b)) (mem_map (atom_number p) (adds p b) x i))) q))),
  )
    where
      not_spared : (i : ℕ) × T (is_removed p a i) × (T (is_needed p b i) ⊎ T (is_added p b i))
          → (x : Atom) × Memᴰ x (removes p a) × (Memᴰ x (needs p b) ⊎ Memᴰ x (adds p b))
      not_spared (i, r, q) =
          let (x, m, e) = map_mem (atom_number p) (removes p a) i (in_mem i (map (atom_number p) (removes p a)) r) in (
            x,
            m,
            ⊎_elim (λ n. let (y, k, f) = map_mem (atom_number p) (needs p b) i (in_mem i (map (atom_number p) (needs p b)) n) in inl
                (subst (λ (z : Atom). Memᴰ z (needs p b))
                (sym (atom_injective p x y (removes_valid p G a v x m) (needs_valid p G b w y k) (sym e ∙ f))) k))
                (λ n. let (y, k, f) = map_mem (atom_number p) (adds p b) i (in_mem i (map (atom_number p) (adds p b)) n) in inr
                (subst (λ (z : Atom). Memᴰ z (adds p b))
                (sym (atom_injective p x y (removes_valid p G a v x m) (adds_valid p G b w y k) (sym e ∙ f))) k)) q,
          )

-- ---- at the least: before an atom can hold, so many layers were taken
module _ (p : Problem) (G : Good p) where
  abbrev low : Tree → ℕ
  low t = (window p.range t).lower

  low_measures : Measures p low
  unfolding window wider
  low_measures = record { at_leaf = λ q r ls. refl; at_forall = λ d s t. refl }

  unfoldable low_at : Atom → ℕ
  low_at guess = zero
  low_at proof = 1
  low_at goal = suc (suc (low p.root))
  low_at (tuple r row) = zero
  low_at (not_tuple r row) = zero
  low_at (free_domain r x) = zero
  low_at (free_range r y) = zero
  low_at (holds_node v row) = suc (height p low (holds_node v row))
  low_at (marked r row) = suc (suc (low p.root))

  abbrev lower_of : Window → ℕ
  lower_of w = w.lower

  low_node : (v row : ℕ) → low_at (holds_node v row) ≡ suc (height p low (holds_node v row))
  unfolding low_at
  low_node v row = refl

  -- a part that is there in the proof phase
  part_low : (v : ℕ) (t : Tree) (e : Values) (k : ℕ) → Here p v t → Bnd p.size e → 1 ≤ k → low_at (part_atom p.size p.range e v t) ≤ k → low t < k
  unfolding part_atom low_at window
  part_low v (leaf true r ls) e k h b o q = o
  part_low v (leaf false r ls) e k h b o q = o
  part_low v (forall_node d s t) e k h b o q = let j = part_height p low G low_measures v (forall_node d s t) e h b in omega arith
  part_low v (exists_node d s t) e k h b o q = let j = part_height p low G low_measures v (exists_node d s t) e h b in omega arith
  part_low v (and_node ts) e k h b o q = let j = part_height p low G low_measures v (and_node ts) e h b in omega arith
  part_low v (or_node ts) e k h b o q = let j = part_height p low G low_measures v (or_node ts) e h b in omega arith

  parts_low : (ts : Trees) (v : ℕ) (e : Values) (k : ℕ) → HereAll p v ts → Bnd p.size e → 1 ≤ k
      → ((x : Atom) → Memᴰ x (part_atoms p.size p.range e (parts_from v ts)) → low_at x ≤ k) → most (map lower_of (windows p.range ts)) < k
  unfolding part_atoms parts_from windows most
  parts_low end v e k h b o q = o
  parts_low (t then ts) v e k h b o q =
      let i = part_low v t e k (head_here p v t ts h) b o (q (part_atom p.size p.range e v t) (Memᴰ.head refl)) in
      let j = parts_low ts (v + length (nodes t)) e k (tail_here p v t ts h) b o (λ x m. q x (Memᴰ.tail m)) in
      let l : low t ≤ k - 1 = omega arith in
      let r : most (map lower_of (windows p.range ts)) ≤ k - 1 = omega arith in
      omega (arith, max-le l r)

  some_low : (ts : Trees) (v i : ℕ) (e : Values) (k : ℕ) → HereAll p v ts → Bnd p.size e → 1 ≤ k → i < how_many ts
      → ((x : Atom) → Memᴰ x (take 1 (drop i (part_atoms p.size p.range e (parts_from v ts)))) → low_at x ≤ k)
      → (m : ℕ) × Memᴰ m (map lower_of (windows p.range ts)) × (m < k)
  unfolding part_atoms parts_from windows how_many
  some_low end v i e k h b o l q = absurd (omega arith)
  some_low (t then ts) v zero e k h b o l q =
      (low t, Memᴰ.head refl, part_low v t e k (head_here p v t ts h) b o (q (part_atom p.size p.range e v t) (Memᴰ.head refl)))
  some_low (t then ts) v (suc i) e k h b o l q =
      let (m, j, r) = some_low ts (v + length (nodes t)) i e k (tail_here p v t ts h) b o (omega arith) q in (m, Memᴰ.tail j, r)

  proof_low : low_at proof ≡ 1
  unfolding low_at
  proof_low = refl

  tuple_low : (r row : ℕ) → low_at (tuple r row) ≡ 0
  unfolding low_at
  tuple_low r row = refl

  -- ---- an action whose needs are there adds no atom that is not due
  abbrev Due : ℕ → Action → Type 0
  Due k a = (x : Atom) → Memᴰ x (needs p a) → low_at x ≤ k

  and_due : (v row k : ℕ) (ts : Trees) → v < length p.node_list → node_at p v ≡ and_node ts → Due k (prove_and v row) → low_at (holds_node v row) ≤ suc k
  unfolding needs parts node_height window wider
  and_due v row k ts l e q =
      let o : 1 ≤ k = omega (arith, proof_low, q proof (Memᴰ.head refl)) in
      let j =
      parts_low ts (suc v) (values_at p.size (and_node ts) row) k (parts_and p v ts (here_as p G v (and_node ts) l e)) (values_bnd p G (and_node ts) row) o
      (λ x m. q x (Memᴰ.tail (subst (λ (s : Tree). Memᴰ x (part_atoms p.size p.range (values_at p.size s row) (parts v s))) (sym e) m))) in
      let h : height p low (holds_node v row) ≡ 1 + most (map lower_of (windows p.range ts)) = at_height p low G low_measures v row (and_node ts) e in
      omega (arith, low_node v row)

  or_due : (v row i k : ℕ) (ts : Trees) → v < length p.node_list → node_at p v ≡ or_node ts → i < how_many ts → Due k (prove_or v row i)
      → low_at (holds_node v row) ≤ suc k
  unfolding needs parts node_height window wider
  or_due v row i k ts l e g q =
      let o : 1 ≤ k = omega (arith, proof_low, q proof (Memᴰ.head refl)) in
      let (m, j, r) =
      some_low ts (suc v) i (values_at p.size (or_node ts) row) k (parts_or p v ts (here_as p G v (or_node ts) l e)) (values_bnd p G (or_node ts) row) o g
      (λ x m. q x (Memᴰ.tail (subst (λ (s : Tree). Memᴰ x (take 1 (drop i (part_atoms p.size p.range (values_at p.size s row) (parts v s)))))
      (sym e) m))) in
      let h : height p low (holds_node v row) ≡ 1 + fewest (map lower_of (windows p.range ts)) = at_height p low G low_measures v row (or_node ts) e in
      omega (arith, low_node v row, fewest_at (map lower_of (windows p.range ts)) m j)

  exists_due : (v row z k d s : ℕ) (t : Tree) → v < length p.node_list → node_at p v ≡ exists_node d s t → Memᴰ z (p.range s)
      → Due k (prove_exists v row z) → low_at (holds_node v row) ≤ suc k
  unfolding needs under_atom node_height window wider
  exists_due v row z k d s t l e g q =
      let o : 1 ≤ k = omega (arith, proof_low, q proof (Memᴰ.head refl)) in
      let a : low_at (part_atom p.size p.range (with_value (values_at p.size (exists_node d s t) row) d z) (suc v) t) ≤ k
      = subst (λ (u : Tree). low_at (under_atom p.size p.range v u row z) ≤ k) e
      (q (under_atom p.size p.range v (node_at p v) row z) (Memᴰ.tail (Memᴰ.head refl))) in
      let j =
      part_low (suc v) t (with_value (values_at p.size (exists_node d s t) row) d z) k (under_exists p v d s t (here_as p G v (exists_node d s t) l e))
      (bnd_with p.size _ d z (values_bnd p G (exists_node d s t) row) ((G.ranged s).small z g)) o a in
      let h : height p low (holds_node v row) ≡ 1 + low t = at_height p low G low_measures v row (exists_node d s t) e in
      omega (arith, low_node v row)

  forall_due : (v row z k d s : ℕ) (t : Tree) → v < length p.node_list → node_at p v ≡ forall_node d s t → Memᴰ z (p.range s)
      → Due k (prove_forall v row z) → low_at (holds_node v (row * p.size + z)) ≤ suc k
  unfolding needs forall_needs under_atom node_sort option
  forall_due v row z k d s t l e g q =
      let o : 1 ≤ k = omega (arith, proof_low, q proof (Memᴰ.head refl)) in
      let a : low_at (part_atom p.size p.range (with_value (values_at p.size (forall_node d s t) row) d z) (suc v) t) ≤ k
      = q' (part_atom p.size p.range (with_value (values_at p.size (forall_node d s t) row) d z) (suc v) t) (Memᴰ.head refl) in
      let j =
      part_low (suc v) t (with_value (values_at p.size (forall_node d s t) row) d z) k (under_forall p v d s t (here_as p G v (forall_node d s t) l e))
      (bnd_with p.size _ d z (values_bnd p G (forall_node d s t) row) ((G.ranged s).small z g)) o a in
      let h = own_height p low G low_measures v d s t row z e g in
      omega (arith, low_node v (row * p.size + z), by_option j (before (p.range s) z) refl (λ x m. q' x (Memᴰ.tail m)))
    where
      q' : (x : Atom) → Memᴰ x (forall_needs p.size p.range v (forall_node d s t) row z) → low_at x ≤ k
      q' x m = q x (Memᴰ.tail (subst (λ (u : Tree). Memᴰ x (forall_needs p.size p.range v u row z)) (sym e) m))

      by_option : low t < k → (o : Option ℕ) → before (p.range s) z ≡ o
          → ((x : Atom) → Memᴰ x (option o [] (λ y. holds_node v (row * p.size + y) ∷ [])) → low_at x ≤ k) → low t + rank (p.range s) z < k
      by_option j none i h = omega (arith, rank_none p.size (p.range s) (G.ranged s) z g i)
      by_option j (some y) i h =
          let m = (before_some (p.range s) z y (G.ranged s).ascends i).0 in
          omega (
            arith,
            rank_before p.size (p.range s) (G.ranged s) z y g i,
            own_height p low G low_measures v d s t row y e m,
            low_node v (row * p.size + y),
            h (holds_node v (row * p.size + y)) (Memᴰ.head refl),
          )

  -- the root, by prove-goal or a round's end
  root_due : (k : ℕ) → low_at (root_atom p) ≤ k → 1 ≤ k → suc (suc (low p.root)) ≤ suc k
  unfolding root_atom
  root_due k q o = let j = part_low 0 p.root (λ _. zero) k G.root_here (λ l. G.element) o q in omega arith

  root_one : (t : Tree) → IsNode p t → 1 ≤ low_at (part_atom p.size p.range (λ _. zero) zero t)
  unfolding IsNode part_atom low_at
  root_one (leaf q r ls) n = absurd n
  root_one (forall_node d s t) n = omega arith
  root_one (exists_node d s t) n = omega arith
  root_one (and_node ts) n = omega arith
  root_one (or_node ts) n = omega arith

  end_due : (k : ℕ) → low_at (root_atom p) ≤ k → suc (suc (low p.root)) ≤ suc k
  unfolding root_atom
  end_due k q = root_due k q (omega (arith, root_one p.root G.root_node))

  -- a mark, as the goal, comes after the root
  goal_low : low_at goal ≡ suc (suc (low p.root))
  unfolding low_at
  goal_low = refl

  mark_low : (r row : ℕ) → low_at (marked r row) ≡ suc (suc (low p.root))
  unfolding low_at
  mark_low r row = refl

  not_low : (r row : ℕ) → low_at (not_tuple r row) ≡ 0
  unfolding low_at
  not_low r row = refl

  next_low : (r i : ℕ) → low_at (mark_or_goal p r i) ≡ suc (suc (low p.root))
  unfolding mark_or_goal
  next_low r i = by_test (ltb i (tuples_of p.size (relation_at p r)))
    where
      by_test : (b : Bool) → low_at (if b then marked r i else goal) ≡ suc (suc (low p.root))
      by_test true = mark_low r i
      by_test false = goal_low

  due : (a : Action) → IsAction p a → (k : ℕ) → Due k a → (y : Atom) → Memᴰ y (adds p a) → low_at y ≤ suc k
  unfolding IsAction adds needs
  due (set r row) v k q y m = subst (λ (z : Atom). low_at z ≤ suc k) (sym (Memᴰ.eq_of_singleton m)) tuple_due
    where
      tuple_due : low_at (tuple r row) ≤ suc k
      tuple_due = omega (arith, tuple_low r row)
  due begin_proof v k q y m = subst (λ (z : Atom). low_at z ≤ suc k) (sym (Memᴰ.eq_of_singleton m)) (omega (arith, proof_low))
  due (prove_and v row) (l, h, (ts, e)) k q y m = subst (λ (z : Atom). low_at z ≤ suc k) (sym (Memᴰ.eq_of_singleton m)) (and_due v row k ts l e q)
  due (prove_or v row i) (l, h, (ts, e, g)) k q y m = subst (λ (z : Atom). low_at z ≤ suc k) (sym (Memᴰ.eq_of_singleton m)) (or_due v row i k ts l e g q)
  due (prove_exists v row z) (l, h, (d, s, t, e, g)) k q y m =
      subst (λ (z : Atom). low_at z ≤ suc k) (sym (Memᴰ.eq_of_singleton m)) (exists_due v row z k d s t l e g q)
  due (prove_forall v row z) (l, h, (d, s, t, e, g)) k q y m =
      subst (λ (z : Atom). low_at z ≤ suc k) (sym (Memᴰ.eq_of_singleton m)) (forall_due v row z k d s t l e g q)
  due prove_goal v k q y m =
      subst (λ (z : Atom). low_at z ≤ suc k) (sym (Memᴰ.eq_of_singleton m)) (omega (arith, goal_low, end_due k (q (root_atom p) (Memᴰ.head refl))))
  due round_end v k q y m =
      subst (λ (z : Atom). low_at z ≤ suc k) (sym (Memᴰ.eq_of_singleton m))
      (omega (arith, next_low (every_number p.source.question) 0, end_due k (q (root_atom p) (Memᴰ.head refl))))
  due (mark_in r row) v k q y m = ⊎_elim
      (λ e. subst (λ (z : Atom). low_at z ≤ suc k) (sym e) (omega (arith, tuple_low r row)))
      (λ i. subst (λ (z : Atom). low_at z ≤ suc k) (sym (Memᴰ.eq_of_singleton i)) (omega (arith, proof_low)))
      (Memᴰ.cases_cons m)
  due (mark_out r row) v k q y m = ⊎_elim
      (λ e. subst (λ (z : Atom). low_at z ≤ suc k) (sym e) (omega (arith, not_low r row)))
      (λ i. subst (λ (z : Atom). low_at z ≤ suc k) (sym (Memᴰ.eq_of_singleton i))
      (omega (arith, next_low r (suc row), mark_low r row, q (marked r row) (Memᴰ.head refl))))
      (Memᴰ.cases_cons m)

  -- ---- layer by layer
  abbrev AllDue : ℕ → State → Type 0
  AllDue k s = (x : Atom) → IsAtom p x → T (s (atom_number p x)) → low_at x ≤ k

  layer_due : (k : ℕ) (s : State) (l : List Action) → Actions p G l → T (may_take_all p s l) → AllDue k s → AllDue (suc k) (after_all p s l)
  unfolding after_all
  layer_due k s l v t h x w q = ⊎_elim
      (λ r. omega (arith, h x w (T_and_l (s (atom_number p x)) _ r)))
      (λ r. let (a, m, c) = added_some p l (atom_number p x) r in
      due a (v a m) k (λ z i. h z (needs_valid p G a (v a m) z i) (may_needed p s a (all_may p s l t a m) (atom_number p z) (needed_at p a z i))) x
      (added_atom p G a (v a m) x w c))
      (T_or (s (atom_number p x) && not (are_removed p l (atom_number p x))) (are_added p l (atom_number p x)) q)

  at_end : (s : State) (i n : ℕ) → AllDue i s → (run_layers_from p s i []).answer ≡ accepted n → low_at goal ≤ n
  unfolding run_layers_from IsAtom
  at_end s i n h e = by_test (s (atom_number p goal)) refl e
    where
      by_test : (b : Bool) → s (atom_number p goal) ≡ b → (if b then accepted i else refused 15 i) ≡ accepted n → low_at goal ≤ n
      by_test true q e = omega (arith, accepted_eq i n e, h goal tt (T_of q))
      by_test false q e = absurd (refused_accepted e)

  runs_low : (layers : List (List ℕ)) (s : State) (i n : ℕ) → AllDue i s → (run_layers_from p s i layers).answer ≡ accepted n → low_at goal ≤ n
  runs_low [] s i n h e = at_end s i n h e
  runs_low (ks ∷ layers) s i n h e =
      let (l, a, t, f) = layer_step p s i n ks layers e in
      runs_low layers (after_all p s l) (suc i) n (layer_due i s l (actions_valid p G ks l a) t h) f

  initial_due : AllDue 0 (initial p)
  unfolding is_initial low_at
  initial_due guess w t = omega arith
  initial_due proof w t = absurd (subst T (initial_at p G proof w) t)
  initial_due goal w t = absurd (subst T (initial_at p G goal w) t)
  initial_due (tuple r row) w t = omega arith
  initial_due (not_tuple r row) w t = omega arith
  initial_due (free_domain r x) w t = omega arith
  initial_due (free_range r y) w t = omega arith
  initial_due (holds_node v row) w t = absurd (subst T (initial_at p G (holds_node v row) w) t)
  initial_due (marked r row) w t = absurd (subst T (initial_at p G (marked r row) w) t)

  -- an accepted plan has at least the window's lower number of layers
  pub run_low : (layers : List (List ℕ)) (n : ℕ) → (run_layers p layers).answer ≡ accepted n → (case_window p).lower ≤ n
  unfolding run_layers case_window low_at
  run_low layers n e = omega (arith, runs_low layers (initial p) zero n initial_due e)

-- ---- layers as they are lent
pub ends_below : (ends : List ℕ) (count k i : ℕ) (u : Unit {0}) → ends_test count k i ends ≡ accepted u → k ≤ count
unfolding ends_test
ends_below [] count k i u e = omega (arith, eqb-true k count (not-false (eqb k count) (not_refused (not (eqb k count)) 3 (i - 1) u e)))
ends_below (x ∷ ends) count k i u e =
    let (v, a, f) = bind_parts (refuse_if (ltb x k) 3 i) (λ _. ends_test count x (suc i) ends) u e in
    omega (arith, ltb-false x k (not_refused (ltb x k) 3 i v a), ends_below ends count x (suc i) u f)

one_end : (x : ℕ) (ends : List ℕ) (count k i : ℕ) (u : Unit {0}) → ends_test count k i (x ∷ ends) ≡ accepted u
    → (k ≤ x) × (ends_test count x (suc i) ends ≡ accepted u)
unfolding ends_test
one_end x ends count k i u e =
    let (v, a, f) = bind_parts (refuse_if (ltb x k) 3 i) (λ _. ends_test count x (suc i) ends) u e in
    (ltb-false x k (not_refused (ltb x k) 3 i v a), f)

none_left : (steps : List ℕ) (count k i : ℕ) (u : Unit {0}) → ends_test count k i [] ≡ accepted u → k + length steps ≡ count → [] ≡ steps
unfolding ends_test
none_left [] count k i u e h = refl
none_left (x ∷ steps) count k i u e h = absurd (omega (arith, eqb-true k count (not-false (eqb k count) (not_refused (not (eqb k count)) 3 (i - 1) u e))))

-- the layers that ends cut steps into are those steps again, and as many as there are ends
pub ends_flat : (ends steps : List ℕ) (count k i : ℕ) (u : Unit {0}) → ends_test count k i ends ≡ accepted u → k + length steps ≡ count
    → (flat (layers_from k steps ends) ≡ steps) × (length (layers_from k steps ends) ≡ length ends)
unfolding flat layers_from
ends_flat [] steps count k i u e h = (none_left steps count k i u e h, refl)
ends_flat (x ∷ ends) steps count k i u e h =
    let (l, f) = one_end x ends count k i u e in
    let b = ends_below ends count x (suc i) u f in
    let d = length-drop (x - k) steps in
    let (y, z) = ends_flat ends (drop (x - k) steps) count x (suc i) u f (omega arith) in
    (ap (λ (r : List ℕ). take (x - k) steps ++ r) y ∙ take-append-drop (x - k) steps, ap suc z)

-- so whatever is taken as layers is the steps that were lent
pub taken_layers : (steps ends : List ℕ) (layers : List (List ℕ)) → take_layers steps ends ≡ accepted layers
    → (take_steps (as_numbers steps) ≡ accepted steps) × (flat layers ≡ steps) × (length layers ≡ length ends)
unfolding take_layers take_steps
taken_layers steps ends layers e =
    let (ks, a, f) = bind_parts (take_steps (as_numbers steps)) _ layers e in
    let (u, b, g) = bind_parts (ends_test (length ks) zero zero ends) _ layers f in
    let (v, d, h) = bind_parts (refuse_if (ltb step_limit (length steps)) 1 zero) _ ks a in
    let q : ks ≡ steps = sym (accepted_eq steps ks h) in
    let (x, y) = ends_flat ends ks (length ks) zero zero u b (zero-add (length ks)) in
    let w : layers_from zero ks ends ≡ layers = accepted_eq (layers_from zero ks ends) layers g in
    (a ∙ ap accepted q, ap flat (sym w) ∙ x ∙ q, ap length (sym w) ∙ y)

ends_length : {A : Type 0} (ls : List (List A)) (k : ℕ) → length (ends_from k ls) ≡ length ls
unfolding ends_from
ends_length [] k = refl
ends_length (l ∷ ls) k = ap suc (ends_length ls (k + length l))

-- and layers that are written are taken back as they were
ends_fine : (layers : List (List ℕ)) (count k i : ℕ) → k + length (flat layers) ≡ count → ends_test count k i (ends_from k layers) ≡ accepted tt
unfolding ends_test ends_from flat refuse_if ◌>>=◌
ends_fine [] count k i h = let e : eqb k count ≡ true = eq-eqb k count (omega arith) in rw e refl
ends_fine (l ∷ layers) count k i h =
    let e : ltb (k + length l) k ≡ false = le-ltb (k + length l) k (omega arith) in
    let d = length-append l (flat layers) in
    rw e (ends_fine layers count (k + length l) (suc i) (omega arith))

cut_back : (layers : List (List ℕ)) (k : ℕ) → layers_from k (flat layers) (ends_from k layers) ≡ layers
unfolding layers_from ends_from flat
cut_back [] k = refl
cut_back (l ∷ layers) k =
    let e : k + length l - k ≡ length l = omega arith in
    rw e (ap₂ ◌∷◌ (take_at l (flat layers) (length l) refl) (ap (λ (r : List ℕ). layers_from (k + length l) r (ends_from (k + length l) layers))
    (drop_at l (flat layers) (length l) refl) ∙ cut_back layers (k + length l)))

pub layers_back : (layers : List (List ℕ)) → length (flat layers) ≤ step_limit → take_layers (flat layers) (ends_from zero layers) ≡ accepted layers
unfolding take_layers take_steps refuse_if ◌>>=◌
layers_back layers h =
    let e : ltb step_limit (length (flat layers)) ≡ false = le-ltb step_limit (length (flat layers)) h in
    rw (e, ends_fine layers (length (flat layers)) zero zero (zero-add (length (flat layers))), cut_back layers zero) refl

-- ---- the built layers of picks in the words of the definitions, where there is no `every` line
module _ (c : Case) (A : Accepted c) (plain : c.question.every ≡ none) where
  abbrev pub LayersFine : Problem → List Tuple → Type 0
  LayersFine p F =
      (run_layers p (built_numbers p F) ≡ record { answer = accepted (length (built_numbers p F)); state = (run p (built_steps p F)).state })
      × (length (built_numbers p F) ≤ (case_window p).upper)

  pub layers_case : (F : List Tuple) → are_picks c F ≡ true → are_of_kinds c F ≡ true → rule_is_true c F ≡ true → LayersFine (problem_of c) F
  layers_case F P k r =
      let K = tested_kinds c A F (picks_inside c A F (T_of P)) (T_of k) in
      let t = T_of (root_means c A F ∙ sym (plain_true c A plain F) ∙ r) in
      (layers_run (problem_of c) (good c A) (alone c A plain) F K t, numbers_few (problem_of c) (good c A) (alone c A plain) F K t)

-- ---- what an accepted answer of the layered checker tells
module _ (L : CaseLimits) (question site steps ends : List ℕ) where
  pub record LayersTell (state : List ℕ) (n : ℕ) (r : Ready (List (List ℕ))) : Type 0 where
    pub is_case : read_case L question site ≡ accepted r.case
    pub is_taken : take_layers steps ends ≡ accepted r.third
    pub is_problem : ground L r.case ≡ accepted r.problem
    pub plain : r.case.question.every ≡ none
    pub room : state_length r.problem ≤ length state
    pub runs : (run_layers r.problem r.third).answer ≡ accepted n
    pub leaves : (check_layers L question site steps ends state).state ≡ written (state_words r.problem (run_layers r.problem r.third).state) state

  pub layers_tell : (state : List ℕ) (n : ℕ) → (check_layers L question site steps ends state).answer ≡ accepted n
      → (r : Ready (List (List ℕ))) × LayersTell state n r
  unfolding check_layers layers_checked_from
  layers_tell state n e =
      by_result (asked L question site (λ _. take_layers steps ends) nothing without_every (λ p. room_for (state_length p) (length state))) refl e
    where
      by_result : (m : Result (Ready (List (List ℕ))))
          → asked L question site (λ _. take_layers steps ends) nothing without_every (λ p. room_for (state_length p) (length state)) ≡ m
          → (layers_checked_from m state).answer ≡ accepted n → (r : Ready (List (List ℕ))) × LayersTell state n r
      by_result (refused k place) a e = absurd (refused_accepted e)
      by_result (accepted r) a e =
          let q = Asked.parts L question site (λ _. take_layers steps ends) nothing without_every _ r a in (
            r,
            record {
              is_case = q.is_case;
              is_taken = q.is_third;
              is_problem = q.is_problem;
              plain = Asked.passes_every r.case q.is_late;
              room = has_room (state_length r.problem) (length state) tt q.has_room;
              runs = e;
              leaves = ap (λ (m : Result (Ready (List (List ℕ)))). (layers_checked_from m state).state) a;
            },
          )

-- ---- whatever the calls accept has no `every` line
module _ (L : CaseLimits) (question site : List ℕ) where
  pub window_plain : (w : Window) → window_of L question site ≡ accepted w → (c : Case) → read_case L question site ≡ accepted c → c.question.every ≡ none
  unfolding window_of
  window_plain w e c k =
      let (r, a, f) = bind_parts (asked L question site nothing nothing without_every nothing) _ w e in
      let q = Asked.parts L question site nothing nothing without_every nothing r a in
      subst (λ (x : Case). x.question.every ≡ none) (accepted_eq r.case c (sym q.is_case ∙ k)) (Asked.passes_every r.case q.is_late)

  pub check_plain : (steps ends state : List ℕ) (n : ℕ) → (check_layers L question site steps ends state).answer ≡ accepted n → (c : Case)
      → read_case L question site ≡ accepted c → c.question.every ≡ none
  check_plain steps ends state n e c k =
      let (r, t) = layers_tell L question site steps ends state n e in
      subst (λ (x : Case). x.question.every ≡ none) (accepted_eq r.case c (sym t.is_case ∙ k)) t.plain

-- run as one list, such layers are accepted and leave the same state
pub flat_runs : (p : Problem) (layers : List (List ℕ)) (n : ℕ) → (run_layers p layers).answer ≡ accepted n
    → (n ≡ length layers) × (run p (flat layers) ≡ record { answer = accepted (length (flat layers)); state = (run_layers p layers).state })
unfolding run_layers run
flat_runs p layers n e =
    let (a, b) = flat_run p layers (initial p) zero zero n e in (
      a ∙ zero-add (length layers),
      b ∙ ap (λ (k : ℕ). record { answer = accepted k; state = (run_layers_from p (initial p) zero layers).state })
          (zero-add (length (flat layers))),
    )

-- ---- lent buffers: a refusal leaves them alone unless layers were run, and they keep their length
module _ (L : CaseLimits) (question site : List ℕ) where
  pub layers_check_leaves : (steps ends state : List ℕ) (k place : ℕ) → (check_layers L question site steps ends state).answer ≡ refused k place
      → In ready_numbers k → (check_layers L question site steps ends state).state ≡ state
  unfolding check_layers layers_checked_from
  layers_check_leaves steps ends state k place e h =
      by_result (asked L question site (λ _. take_layers steps ends) nothing without_every (λ p. room_for (state_length p) (length state))) e
    where
      by_result : (m : Result (Ready (List (List ℕ)))) → (layers_checked_from m state).answer ≡ refused k place → (layers_checked_from m state).state ≡ state
      by_result (refused j at) e = refl
      by_result (accepted r) e = absurd (run_or_ready k (layers_run_refuses L question site r.problem r.third k place e) h)

  pub layers_check_length : (steps ends state : List ℕ) → length (check_layers L question site steps ends state).state ≡ length state
  unfolding check_layers layers_checked_from
  layers_check_length steps ends state =
      by_result (asked L question site (λ _. take_layers steps ends) nothing without_every (λ p. room_for (state_length p) (length state))) refl
    where
      by_result : (m : Result (Ready (List (List ℕ))))
          → asked L question site (λ _. take_layers steps ends) nothing without_every (λ p. room_for (state_length p) (length state)) ≡ m
          → length (layers_checked_from m state).state ≡ length state
      by_result (refused j at) a = refl
      by_result (accepted r) a =
          let q = Asked.parts L question site (λ _. take_layers steps ends) nothing without_every _ r a in
          let l = state_length_lem r.problem (run_layers r.problem r.third).state in
          written_length (state_words r.problem (run_layers r.problem r.third).state) state
          (omega (arith, has_room (state_length r.problem) (length state) tt q.has_room))

  -- ---- building
  module _ (given : ThirdInput) (state steps ends : List ℕ) where
    pub layers_build_leaves : (k place : ℕ) → (build_layers L question site given state steps ends).answer ≡ refused k place
        → ((build_layers L question site given state steps ends).state ≡ state) × ((build_layers L question site given state steps ends).steps ≡ steps)
        × ((build_layers L question site given state steps ends).ends ≡ ends)
    unfolding build_layers layers_built_from
    layers_build_leaves k place e = by_result (layered_plan L question site given (length state) (length steps) (length ends)) e
      where
        by_result : (m : Result LayeredPlan) → (layers_built_from m state steps ends).answer ≡ refused k place
            → ((layers_built_from m state steps ends).state ≡ state) × ((layers_built_from m state steps ends).steps ≡ steps)
            × ((layers_built_from m state steps ends).ends ≡ ends)
        by_result (refused j at) e = (refl, refl, refl)
        by_result (accepted b) e = absurd (refused_accepted (sym e))

    planned : (r : Ready (List Tuple)) (F : List Tuple) → ready_to_build L question site given (length state) (length steps) (length ends) nothing ≡ accepted r
        → satisfying r.case r.problem given r.third ≡ accepted F
        → plan L question site given (length state) (length steps) ≡ accepted
        (record { labels = r.labels; problem = r.problem; picks = F; steps = built_steps r.problem F })
    unfolding plan ◌>>=◌
    planned r F a h = rw (a, h) refl

    -- a layered plan is a plan of a case without an `every` line, with room for its ends
    pub layered_tells : (b : LayeredPlan) → layered_plan L question site given (length state) (length steps) (length ends) ≡ accepted b
        → (q : Plan) × (plan L question site given (length state) (length steps) ≡ accepted q)
        × (b ≡ record { problem = q.problem; picks = q.picks; layers = built_numbers q.problem q.picks })
        × ((case_window q.problem).upper ≤ length ends) × ((c : Case) → read_case L question site ≡ accepted c → c.question.every ≡ none)
    unfolding nothing
    layered_tells b e =
        let (r, a, f) =
        bind_parts (ready_to_build L question site given (length state) (length steps) (length ends) without_every) _ b
        (sym (layered_is L question site given (length state) (length steps) (length ends)) ∙ e) in
        let (u, d, g) = bind_parts (room_for (case_window r.problem).upper (length ends)) _ b f in
        let (F, h, i) = bind_parts (satisfying r.case r.problem given r.third) _ b g in
        let t = Asked.parts L question site (λ c. text_picks c.case c.labels given) nothing without_every _ r a in
        let none_there = Asked.passes_every r.case t.is_late in
        let every_case : (c : Case) → read_case L question site ≡ accepted c → c.question.every ≡ none =
        λ c k. subst (λ (x : Case). x.question.every ≡ none) (accepted_eq r.case c (sym t.is_case ∙ k)) none_there in
        let w =
        Asked.late_passed L question site (λ c. text_picks c.case c.labels given) nothing without_every _
        (λ c k. Asked.every_passes c (every_case c k)) in (
          record {
            labels = r.labels;
            problem = r.problem;
            picks = F;
            steps = built_steps r.problem F;
          },
          planned r F (sym w ∙ a) h,
          sym (accepted_eq _ b i),
          has_room (case_window r.problem).upper (length ends) u d,
          every_case,
        )

    pub build_plain : (n : ℕ) → (build_layers L question site given state steps ends).answer ≡ accepted n → (c : Case) → read_case L question site ≡ accepted c
        → c.question.every ≡ none
    unfolding build_layers layers_built_from
    build_plain n e c k = by_result (layered_plan L question site given (length state) (length steps) (length ends)) refl e
      where
        by_result : (m : Result LayeredPlan) → layered_plan L question site given (length state) (length steps) (length ends) ≡ m
            → (layers_built_from m state steps ends).answer ≡ accepted n → c.question.every ≡ none
        by_result (refused j at) a e = absurd (refused_accepted e)
        by_result (accepted b) a e = (layered_tells b a).4 c k

    pub layers_build_length : L.elements ≤ 64
        → (length (build_layers L question site given state steps ends).state ≡ length state)
        × (length (build_layers L question site given state steps ends).steps ≡ length steps)
        × (length (build_layers L question site given state steps ends).ends ≡ length ends)
    unfolding build_layers layers_built_from
    layers_build_length small = by_result (layered_plan L question site given (length state) (length steps) (length ends)) room
      where
        Fits : LayeredPlan → Type 0
        Fits b = (state_length b.problem ≤ length state) × (length (flat b.layers) ≤ length steps) × (length b.layers ≤ length ends)

        fine : (r : CaseRead) (p : Problem) (F : List Tuple) → FiledFits r → r.case.question.every ≡ none → p ≡ problem_of r.case
            → picks_given r.case r.labels p given ≡ accepted F → are_of_kinds r.case F ≡ true → rule_is_true r.case F ≡ true
            → (length (built_steps p F) ≤ bound p) × (length (built_numbers p F) ≤ (case_window p).upper)
        fine r p F A n e t k u =
            let P =
            given_picks r.case A.case_fits r.labels A.labels_fit given F
            (subst (λ (q : Problem). picks_given r.case r.labels q given ≡ accepted F) e t) in
            subst (λ (q : Problem). (length (built_steps q F) ≤ bound q) × (length (built_numbers q F) ≤ (case_window q).upper)) (sym e)
            ((let n = count_case r.case A.case_fits F P k in omega (arith, n.0, n.1)), (layers_case r.case A.case_fits n F P k u).1)

        room : (b : LayeredPlan) → layered_plan L question site given (length state) (length steps) (length ends) ≡ accepted b → Fits b
        room b e =
            let (q, a, f, h, plain) = layered_tells b e in
            let t = plan_tells L question site given (length state) (length steps) q a in
            let r : CaseRead = record { case = t.case; labels = q.labels } in
            let (x, y) =
            fine r q.problem q.picks (gives_if FiledFits (read_filed L question site) r t.is_filed (filed_fits L small question site))
            (plain t.case (Asked.filed_case L question site r t.is_filed)) (ground_is L t.case q.problem t.is_problem) t.given
            t.kinds t.rule in
            let z = numbers_length q.problem q.picks in
            subst Fits (sym f) (t.state_room, omega (arith, t.steps_room), omega arith)

        by_result : (m : Result LayeredPlan) → ((b : LayeredPlan) → m ≡ accepted b → Fits b)
            → (length (layers_built_from m state steps ends).state ≡ length state) × (length (layers_built_from m state steps ends).steps ≡ length steps)
            × (length (layers_built_from m state steps ends).ends ≡ length ends)
        by_result (refused k place) h = (refl, refl, refl)
        by_result (accepted b) h =
            let l = state_length_lem b.problem (run_layers b.problem b.layers).state in
            let (x, y, z) = h b refl in
            let w = ends_length b.layers zero in (
              written_length (state_words b.problem (run_layers b.problem b.layers).state) state (omega arith),
              written_length (flat b.layers) steps y,
              written_length (ends_from zero b.layers) ends (omega arith),
            )
