-- The proof phase of the built steps: each step may be taken, nothing is lost, and every true node atom is there at the end.
use Prim.Native.Nat.{ℕ, zero, suc, ◌+◌, ◌*◌, ◌/◌, ◌%◌, ◌<◌, ◌≤◌}
use Rattle.std.specs.Prelude.{◌≡◌, ◌⊎◌, ◌||◌, get_or, take, drop, if◌then◌else◌}
use Rattle.std.proofs.Math.Path.{refl, ap, subst}
use Rattle.std.proofs.Common.{sym, ◌∙◌, add-zero, zero-add, div-lt_iff_lt-mul}
use Rattle.std.proofs.Math.Logic.{inl, inr, ⊎_elim}
use Rattle.std.proofs.Math.Bool.{Bool, true, false}
use Rattle.std.proofs.Math.Option.{Option, none, some}
use mathlib.Core.List.Memᴰ
use mathlib.Core.List.{List, [], ◌∷◌, ◌++◌, map, Memᴰ}
use native.Mathlib.Omega.{arith}
use Rattle.std.proofs.Math.Nat.{div-add-mod'}
use Rattle.std.proofs.Math.Dec.{T}
use Rattle.std.proofs.Math.ListN.{length}
use Rattle.definitions.specs.Lists.{all, any, filter, option, from, below, up_to, before}
use Rattle.definitions.specs.Sheet.Relations.{Tuple}
use Rattle.definitions.specs.Problem.Tree.{Tree, Trees, leaf, forall_node, exists_node, and_node, or_node, end, ◌then◌, nodes, Part, parts_from, parts, how_many, is_forall, node_sort}
use Rattle.definitions.specs.Problem.Atoms.{Problem, node_at, rows_of, node_width, Atom, guess, proof, goal, tuple, not_tuple, free_domain, free_range, holds_node, marked, atom_number, State}
use Rattle.definitions.specs.Problem.Actions.{Action, prove_and, prove_or, prove_exists, prove_forall, prove_goal, action_number, Values, with_value, values_at, part_atom, part_atoms, under_atom, forall_needs, needs, adds, removes}
use Rattle.definitions.specs.Problem.Strips.{may_take, after, reaches_from}
use Rattle.definitions.specs.Problem.Built.{tree_holds, trees_hold, some_holds, is_true_at, least, step_for, true_rows, node_steps}
use Rattle.laws.specs.Booleans.{T_and_l, T_and_r, T_of, T_true, lt_split}
use Rattle.laws.specs.Positions.{least_place, place}
use Rattle.laws.specs.Members.{least_in, before_some, up_at, up_of}
use Rattle.laws.specs.Numbers.{IsAction, IsAtom, action_at_lem, no_node}
use Rattle.meaning.specs.Parts.{Bnd, bnd_with, Here, HereAll, under_forall, under_exists, parts_and, parts_or, head_here, tail_here}
use Rattle.meaning.specs.Means.{here_as, Good, means, values_bnd, forall_at, forall_in, means_at}
use Rattle.meaning.specs.Valid.{proof_or, needs_valid, after_add, after_keep, may_of}

pub some_any : (p : Problem) (P : List Tuple) (ts : Trees) (w : ℕ) (e : Values) → some_holds p.source P e ts ≡ any (λ (q : Part). tree_holds p.source P e q.tree) (parts_from w ts)
unfolding some_holds any parts_from
some_any p P end w e = refl
some_any p P (t then ts) w e = ap (λ (b : Bool). tree_holds p.source P e t || b) (some_any p P ts (w + length (nodes t)) e)

module _ (p : Problem) (G : Good p) where
  -- ---- steps taken
  unfoldable pub Takes : State → List Action → Type 0
  Takes s [] = Unit {0}
  Takes s (a ∷ as') = IsAction p a × T (may_take p s a) × Takes (after p s a) as'

  unfoldable pub ends : State → List Action → State
  ends s [] = s
  ends s (a ∷ as') = ends (after p s a) as'

  pub takes_append : (l m : List Action) (s : State) → Takes s l → Takes (ends s l) m → Takes s (l ++ m)
  unfolding Takes ends
  takes_append [] m s t u = u
  takes_append (a ∷ l) m s t u = (t.0, t.1, takes_append l m (after p s a) t.2 u)

  pub ends_append : (l m : List Action) (s : State) → ends s (l ++ m) ≡ ends (ends s l) m
  unfolding ends
  ends_append [] m s = refl
  ends_append (a ∷ l) m s = ends_append l m (after p s a)

  pub takes_reach : (l : List Action) (s : State) → Takes s l → reaches_from p s (map (action_number p) l) ≡ ends s l (atom_number p goal)
  unfolding Takes ends reaches_from option
  takes_reach [] s t = refl
  takes_reach (a ∷ l) s t =
      let e : may_take p s a ≡ true = T_true (may_take p s a) t.1 in
      rw (action_at_lem p a t.0, e) (takes_reach l (after p s a) t.2)

  -- ---- from any state that has X the steps may be taken, lose nothing, and leave Y
  abbrev pub Has : (Atom → Type 0) → State → Type 0
  Has X s = (x : Atom) → IsAtom p x → X x → T (s (atom_number p x))

  pub record Does (X : Atom → Type 0) (l : List Action) (Y : Atom → Type 0) : Type 0 where
    pub legal : (s : State) → Has X s → Takes s l
    pub keeps : (s : State) → Has X s → (x : Atom) → IsAtom p x → T (s (atom_number p x)) → T (ends s l (atom_number p x))
    pub leaves : (s : State) → Has X s → Has Y (ends s l)

  pub does_nil : (X : Atom → Type 0) → Does X [] X
  unfolding Takes ends
  does_nil X = record { legal = λ s h. tt; keeps = λ s h x v t. t; leaves = λ s h. h }

  pub does_append : {X Y Z : Atom → Type 0} {l m : List Action} → Does X l Y → Does (λ x. X x ⊎ Y x) m Z → Does X (l ++ m) (λ x. Y x ⊎ Z x)
  does_append {X} {Y} {Z} {l} {m} f g = record {
    legal = λ s h. takes_append l m s (f.legal s h) (g.legal (ends s l) (mid s h));
    keeps = λ s h x v t. subst (λ (z : State). T (z (atom_number p x))) (sym (ends_append l m s)) (g.keeps (ends s l) (mid s h) x v (f.keeps s h x v t));
    leaves = λ s h x v t. subst (λ (z : State). T (z (atom_number p x))) (sym (ends_append l m s)) (⊎_elim (λ y. g.keeps (ends s l) (mid s h) x v (f.leaves s h x v y)) (λ z. g.leaves (ends s l) (mid s h) x v z) t);
  }
    where
      mid : (s : State) → Has X s → Has (λ x. X x ⊎ Y x) (ends s l)
      mid s h x v t = ⊎_elim (λ a. f.keeps s h x v (h x v a)) (λ b. f.leaves s h x v b) t

  pub does_weaken : {X X' Y Y' : Atom → Type 0} {l : List Action} → ((x : Atom) → X x → X' x) → ((x : Atom) → IsAtom p x → Y' x → X' x ⊎ Y x) → Does X l Y → Does X' l Y'
  does_weaken {X} {X'} {Y} {Y'} {l} f g d = record {
    legal = λ s h. d.legal s (λ x v a. h x v (f x a));
    keeps = λ s h. d.keeps s (λ x v a. h x v (f x a));
    leaves = λ s h x v y. ⊎_elim (λ a. d.keeps s (λ x v a. h x v (f x a)) x v (h x v a)) (λ b. d.leaves s (λ x v a. h x v (f x a)) x v b) (g x v y);
  }

  -- one step that proves
  pub record Step (X : Atom → Type 0) (v row : ℕ) (a : Action) : Type 0 where
    pub valid : IsAction p a
    pub plain : removes p a ≡ []
    pub needed : (x : Atom) → Memᴰ x (needs p a) → IsAtom p x × X x
    pub given : Memᴰ (holds_node v row) (adds p a)

  pub does_one : (X : Atom → Type 0) (v row : ℕ) (a : Action) → Step X v row a → Does X (a ∷ []) (λ x. x ≡ holds_node v row)
  unfolding Takes ends
  does_one X v row a S = record {
    legal = λ s h. (S.valid, may_of p G s a (λ x m. let q = S.needed x m in h x q.0 q.1), tt);
    keeps = λ s h x w t. after_keep p G s a x S.valid w t (λ m. Memᴰ.not-nil (subst (λ (l : List Atom). Memᴰ x l) S.plain m));
    leaves = λ s h x w e. after_add p G s a x (subst (λ (y : Atom). Memᴰ y (adds p a)) (sym e) S.given);
  }

  -- ---- the steps of a node, row by row
  module _ (v w : ℕ) (X : Atom → Type 0) (test : ℕ → Bool) (step : ℕ → Action) where
    abbrev pub Own : ℕ → Atom → Type 0
    Own a x = (row : ℕ) × (row < a) × T (test row) × (x ≡ holds_node v row)

    rows_do : ((row : ℕ) → row < w → T (test row) → Step (λ x. X x ⊎ Own row x) v row (step row)) → (k a : ℕ) → a + k ≤ w → Does (λ x. X x ⊎ Own a x) (map step (filter test (from a k))) (Own (a + k))
    unfolding from filter
    rows_do h zero a l = does_weaken (λ x q. q) (λ x w q. inl (inr (subst (λ (b : ℕ). Own b x) (add-zero a) q))) (does_nil (λ x. X x ⊎ Own a x))
    rows_do h (suc k) a l = by_test (test a) refl (rows_do h k (suc a) (omega arith))
      where
        up : (x : Atom) → Own (suc a) x → Own a x ⊎ (T (test a) × (x ≡ holds_node v a))
        up x (row, q, t, e) = ⊎_elim (λ b. inl (row, b, t, e)) (λ b. inr (subst (λ (z : ℕ). T (test z)) b t, e ∙ ap (holds_node v) b)) (lt_split row a q)

        shift : suc a + k ≡ a + suc k
        shift = omega arith

        by_test : (b : Bool) → test a ≡ b → Does (λ x. X x ⊎ Own (suc a) x) (map step (filter test (from (suc a) k))) (Own (suc a + k)) → Does (λ x. X x ⊎ Own a x) (map step (if b then a ∷ filter test (from (suc a) k) else filter test (from (suc a) k))) (Own (a + suc k))
        by_test true e d = does_weaken (λ x q. q) (λ x w q. inr (inr (subst (λ (b : ℕ). Own b x) (sym shift) q)))
            (does_append (does_one (λ x. X x ⊎ Own a x) v a (step a) (h a (omega arith) (T_of e)))
            (does_weaken (λ x q. ⊎_elim (λ b. inl (inl b)) (λ b. ⊎_elim (λ o. inl (inr o)) (λ o. inr o.1) (up x b)) q) (λ x w q. inr q) d))
        by_test false e d = does_weaken
            (λ x q. ⊎_elim (λ b. inl b) (λ b. ⊎_elim (λ o. inr o) (λ o. absurd (subst T e o.0)) (up x b)) q)
            (λ x w q. inr (subst (λ (b : ℕ). Own b x) (sym shift) q)) d

  module _ (P : List Tuple) where
    -- what holds when the nodes from k on are done
    unfoldable pub High : ℕ → Atom → Type 0
    High k guess = ⊥
    High k proof = Unit {0}
    High k goal = ⊥
    High k (tuple r row) = Unit {0}
    High k (not_tuple r row) = Unit {0}
    High k (free_domain r x) = ⊥
    High k (free_range r y) = ⊥
    High k (holds_node w row) = k ≤ w
    High k (marked r row) = ⊥

    abbrev pub Low : ℕ → Atom → Type 0
    Low k x = T (means p P x) × High k x

    pub part_high : (k w : ℕ) (t : Tree) (e : Values) → k ≤ w → High k (part_atom p.size p.range e w t)
    unfolding High part_atom
    part_high k w (leaf true r ls) e h = tt
    part_high k w (leaf false r ls) e h = tt
    part_high k w (forall_node d σ t) e h = h
    part_high k w (exists_node d σ t) e h = h
    part_high k w (and_node ts) e h = h
    part_high k w (or_node ts) e h = h

    pub part_low : (k w : ℕ) (t : Tree) (e : Values) → k ≤ w → Here p w t → Bnd p.size e → T (tree_holds p.source P e t) → Low k (part_atom p.size p.range e w t)
    part_low k w t e l h b q = (subst T (sym (means_at p G P w t e h b)) q, part_high k w t e l)

    proof_low : (k : ℕ) → Low k proof
    unfolding means High
    proof_low k = (tt, tt)

    parts_low : (ts : Trees) (k w : ℕ) (e : Values) → k ≤ w → HereAll p w ts → Bnd p.size e → T (trees_hold p.source P e ts) → (x : Atom) → Memᴰ x (part_atoms p.size p.range e (parts_from w ts)) → Low k x
    unfolding part_atoms parts_from trees_hold
    parts_low end k w e l h b q x m = absurd (Memᴰ.not-nil m)
    parts_low (t then ts) k w e l h b q x m = ⊎_elim
        (λ i. subst (Low k) (sym i) (part_low k w t e l (head_here p w t ts h) b (T_and_l (tree_holds p.source P e t) _ q)))
        (λ i. parts_low ts k (w + length (nodes t)) e (omega arith) (tail_here p w t ts h) b (T_and_r (tree_holds p.source P e t) _ q) x i)
        (Memᴰ.cases_cons m)

    part_first : (ts : Trees) (k w : ℕ) (e : Values) → k ≤ w → HereAll p w ts → Bnd p.size e → T (any (λ (q : Part). tree_holds p.source P e q.tree) (parts_from w ts))
        → (place (λ (q : Part). tree_holds p.source P e q.tree) (parts_from w ts) < how_many ts) × ((x : Atom) → Memᴰ x (take 1 (drop (place (λ (q : Part). tree_holds p.source P e q.tree) (parts_from w ts)) (part_atoms p.size p.range e (parts_from w ts)))) → Low k x)
    unfolding any parts_from place how_many part_atoms
    part_first end k w e l h b t = absurd t
    part_first (u then ts) k w e l h b t = by_test (tree_holds p.source P e u) refl t (part_first ts k (w + length (nodes u)) e (omega arith) (tail_here p w u ts h) b)
      where
        f : Part → Bool
        f q = tree_holds p.source P e q.tree

        by_test : (c : Bool) → tree_holds p.source P e u ≡ c → T (c || any f (parts_from (w + length (nodes u)) ts))
            → (T (any f (parts_from (w + length (nodes u)) ts)) → (place f (parts_from (w + length (nodes u)) ts) < how_many ts)
            × ((x : Atom) → Memᴰ x (take 1 (drop (place f (parts_from (w + length (nodes u)) ts))
            (part_atoms p.size p.range e (parts_from (w + length (nodes u)) ts)))) → Low k x))
            → ((if c then zero else suc (place f (parts_from (w + length (nodes u)) ts))) < suc (how_many ts))
            × ((x : Atom) → Memᴰ x (take 1 (drop (if c then zero else suc (place f (parts_from (w + length (nodes u)) ts)))
            (part_atom p.size p.range e w u ∷ part_atoms p.size p.range e (parts_from (w + length (nodes u)) ts)))) → Low k x)
        by_test true i t r = (omega arith, λ x m. subst (Low k) (sym (Memᴰ.eq_of_singleton m)) (part_low k w u e l (head_here p w u ts h) b (T_of i)))
        by_test false i t r = let q = r t in (omega (arith, q.0), λ x m. q.1 x m)

    -- ---- the step for a true atom of a node
    make_step : {X : Atom → Type 0} (v row : ℕ) (a : Action) → IsAction p a → removes p a ≡ [] → ((x : Atom) → Memᴰ x (needs p a) → X x) → Memᴰ (holds_node v row) (adds p a) → Step X v row a
    make_step v row a i r n g = record { valid = i; plain = r; needed = λ x m. (needs_valid p G a i x m, n x m); given = g }

    abbrev Mine : ℕ → Tree → ℕ → Atom → Type 0
    Mine v s row x = Low (suc v) x ⊎ Own v 0 (λ _. ⊥) (is_true_at p P s) (λ _. prove_goal) row x

    and_step : (v row : ℕ) (ts : Trees) → v < length p.node_list → node_at p v ≡ and_node ts → row < node_width p.size (and_node ts) → T (is_true_at p P (and_node ts) row) → Step (Mine v (and_node ts) row) v row (prove_and v row)
    unfolding IsAction needs adds removes parts is_true_at tree_holds node_width is_forall
    and_step v row ts l e h t = make_step v row (prove_and v row) (l, subst (λ (s : Tree). row < rows_of p.size s) (sym e) h, (ts, e)) refl
        (λ x m. proof_or (Mine v (and_node ts) row) x (inl (proof_low (suc v)))
        (λ y q. inl (parts_low ts (suc v) (suc v) (values_at p.size (and_node ts) row) (omega arith)
        (parts_and p v ts (here_as p G v (and_node ts) l e)) (values_bnd p G (and_node ts) row) t y
        (subst (λ (s : Tree). Memᴰ y (part_atoms p.size p.range (values_at p.size s row) (parts v s))) e q))) m)
        (Memᴰ.head refl)

    or_step : (v row : ℕ) (ts : Trees) → v < length p.node_list → node_at p v ≡ or_node ts → row < node_width p.size (or_node ts) → T (is_true_at p P (or_node ts) row) → Step (Mine v (or_node ts) row) v row (step_for p P v (or_node ts) row)
    unfolding IsAction needs adds removes parts is_true_at tree_holds node_width is_forall step_for
    or_step v row ts l e h t =
        let θ : Values = values_at p.size (or_node ts) row in
        let f : Part → Bool = λ (q : Part). tree_holds p.source P (values_at p.size (or_node ts) row) q.tree in
        let a : T (any f (parts_from (suc v) ts)) = subst T (some_any p P ts (suc v) (values_at p.size (or_node ts) row)) t in
        let k : least f (parts_from (suc v) ts) ≡ place f (parts_from (suc v) ts) = least_place f (parts_from (suc v) ts) a in
        let q = part_first ts (suc v) (suc v) (values_at p.size (or_node ts) row) (omega arith) (parts_or p v ts (here_as p G v (or_node ts) l e)) (values_bnd p G (or_node ts) row) a in
        make_step v row (prove_or v row (least f (parts_from (suc v) ts))) (l, subst (λ (s : Tree). row < rows_of p.size s) (sym e) h, (ts, e, subst (λ (i : ℕ). i < how_many ts) (sym k) q.0)) refl
        (λ x m. proof_or (Mine v (or_node ts) row) x (inl (proof_low (suc v)))
        (λ y i. inl (q.1 y (subst (λ (z : ℕ). Memᴰ y
        (take 1 (drop z (part_atoms p.size p.range (values_at p.size (or_node ts) row) (parts_from (suc v) ts))))) k
        (subst (λ (s : Tree). Memᴰ y (take 1 (drop (least f (parts_from (suc v) ts))
        (part_atoms p.size p.range (values_at p.size s row) (parts v s))))) e i)))) m)
        (Memᴰ.head refl)

    exists_step : (v row d σ : ℕ) (u : Tree) → v < length p.node_list → node_at p v ≡ exists_node d σ u → row < node_width p.size (exists_node d σ u) → T (is_true_at p P (exists_node d σ u) row) → Step (Mine v (exists_node d σ u) row) v row (step_for p P v (exists_node d σ u) row)
    unfolding IsAction needs adds removes under_atom is_true_at tree_holds node_width is_forall step_for
    exists_step v row d σ u l e h t =
        let f : ℕ → Bool = λ x. tree_holds p.source P (with_value (values_at p.size (exists_node d σ u) row) d x) u in
        let q = least_in f (p.range σ) (subst (λ (R : ℕ → List ℕ). T (any f (R σ))) (sym G.ranges) t) in
        make_step v row (prove_exists v row (get_or (p.range σ) (least f (p.range σ)) 0)) (l, subst (λ (s : Tree). row < rows_of p.size s) (sym e) h, (d, σ, u, e, q.0)) refl
        (λ x m. proof_or (Mine v (exists_node d σ u) row) x (inl (proof_low (suc v))) (λ y i. inl (subst (Low (suc v)) (sym (Memᴰ.eq_of_singleton i ∙ ap (λ (s : Tree). under_atom p.size p.range v s row (get_or (p.range σ) (least f (p.range σ)) 0)) e))
        (part_low (suc v) (suc v) u (with_value (values_at p.size (exists_node d σ u) row) d (get_or (p.range σ) (least f (p.range σ)) 0))
        (omega arith) (under_exists p v d σ u (here_as p G v (exists_node d σ u) l e))
        (bnd_with p.size _ d _ (values_bnd p G (exists_node d σ u) row) ((G.ranged σ).small _ q.0)) q.1))) m)
        (Memᴰ.head refl)

    -- a forall's needs at a row and z
    forall_have : (v row d σ : ℕ) (u : Tree) → v < length p.node_list → node_at p v ≡ forall_node d σ u → (z : ℕ) → Memᴰ z (p.range σ)
        → T (is_true_at p P (forall_node d σ u) (row * p.size + z)) → (x : Atom) → Memᴰ x (forall_needs p.size p.range v (node_at p v) row z)
        → Mine v (forall_node d σ u) (row * p.size + z) x
    unfolding forall_needs under_atom node_sort option
    forall_have v row d σ u l e z g t x m = ⊎_elim
        (λ q. inl (subst (Low (suc v)) (sym q) (part_low (suc v) (suc v) u (with_value (values_at p.size (forall_node d σ u) row) d z) (omega arith)
        (under_forall p v d σ u (here_as p G v (forall_node d σ u) l e))
        (bnd_with p.size _ d z (values_bnd p G (forall_node d σ u) row) ((G.ranged σ).small z g))
        (up_at f (p.range σ) z upper z g (omega arith)))))
        (λ q. by_option (before (p.range σ) z) refl q)
        (Memᴰ.cases_cons (subst (λ (s : Tree). Memᴰ x (forall_needs p.size p.range v s row z)) e m))
      where
        f : ℕ → Bool
        f x = tree_holds p.source P (with_value (values_at p.size (forall_node d σ u) row) d x) u

        upper : T (all (λ x. tree_holds p.source P (with_value (values_at p.size (forall_node d σ u) row) d x) u) (up_to (p.range σ) z))
        upper = subst T (forall_at p G P d σ u row z g) t

        by_option : (o : Option ℕ) → before (p.range σ) z ≡ o → Memᴰ x (option o [] (λ y. holds_node v (row * p.size + y) ∷ [])) → Mine v (forall_node d σ u) (row * p.size + z) x
        by_option none i q = absurd (Memᴰ.not-nil q)
        by_option (some y) i q =
            let (k, b, h) = before_some (p.range σ) z y (G.ranged σ).ascends i in
            inr (row * p.size + y, omega arith, subst T (sym (forall_at p G P d σ u row y k)) (up_of f (p.range σ) y (λ m j c. up_at f (p.range σ) z upper m j (omega arith))), Memᴰ.eq_of_singleton q)

    forall_step : (v row d σ : ℕ) (u : Tree) → v < length p.node_list → node_at p v ≡ forall_node d σ u → row < node_width p.size (forall_node d σ u) → T (is_true_at p P (forall_node d σ u) row) → Step (Mine v (forall_node d σ u) row) v row (prove_forall v (row / p.size) (row % p.size))
    unfolding IsAction needs adds removes node_width is_forall
    forall_step v row d σ u l e h t =
        let k : row / p.size * p.size + row % p.size ≡ row = div-add-mod' row p.size in
        make_step v row (prove_forall v (row / p.size) (row % p.size)) (l, subst (λ (s : Tree). row / p.size < rows_of p.size s) (sym e) ((div-lt_iff_lt-mul G.element).1 h), (d, σ, u, e, forall_in p G P d σ u row t)) refl
        (λ x m. proof_or (Mine v (forall_node d σ u) row) x (inl (proof_low (suc v)))
        (λ y q. subst (λ (z : ℕ). Mine v (forall_node d σ u) z y) k
        (forall_have v (row / p.size) d σ u l e (row % p.size) (forall_in p G P d σ u row t)
        (subst (λ (z : ℕ). T (is_true_at p P (forall_node d σ u) z)) (sym k) t) y q)) m)
        (Memᴰ.head (ap (holds_node v) (sym k)))

    node_step : (v row : ℕ) (s : Tree) → v < length p.node_list → node_at p v ≡ s → row < node_width p.size s → T (is_true_at p P s row) → Step (Mine v s row) v row (step_for p P v s row)
    unfolding is_true_at step_for
    node_step v row (leaf q r ls) l e h t = absurd t
    node_step v row (forall_node d σ u) l e h t = forall_step v row d σ u l e h t
    node_step v row (exists_node d σ u) l e h t = exists_step v row d σ u l e h t
    node_step v row (and_node ts) l e h t = and_step v row ts l e h t
    node_step v row (or_node ts) l e h t = or_step v row ts l e h t

    -- a node's true atoms, once the later nodes' are there
    node_do : (v : ℕ) (s : Tree) → v < length p.node_list → node_at p v ≡ s → Does (Low (suc v)) (map (step_for p P v s) (true_rows p P s)) (λ x. (row : ℕ) × (row < node_width p.size s) × T (is_true_at p P s row) × (x ≡ holds_node v row))
    unfolding true_rows below
    node_do v s l e = does_weaken (λ x q. ⊎_elim (λ a. a) (λ a. absurd (none_below a.1)) q) (λ x w q. inr (subst (λ (k : ℕ). (row : ℕ) × (row < k) × T (is_true_at p P s row) × (x ≡ holds_node v row)) (sym (zero-add (node_width p.size s))) q))
        (rows_do v (node_width p.size s) (Low (suc v)) (is_true_at p P s) (step_for p P v s) (λ row h t. node_step v row s l e h t) (node_width p.size s) 0 (omega arith))
      where
        none_below : {k : ℕ} → k < 0 → ⊥
        none_below h = omega arith

    split_low : (v : ℕ) (s : Tree) → node_at p v ≡ s → (x : Atom) → IsAtom p x → Low v x → Low (suc v) x ⊎ ((row : ℕ) × (row < node_width p.size s) × T (is_true_at p P s row) × (x ≡ holds_node v row))
    unfolding High IsAtom means
    split_low v s e guess w q = absurd q.1
    split_low v s e proof w q = inl q
    split_low v s e goal w q = absurd q.1
    split_low v s e (tuple r row) w q = inl q
    split_low v s e (not_tuple r row) w q = inl q
    split_low v s e (free_domain r y) w q = absurd q.1
    split_low v s e (free_range r y) w q = absurd q.1
    split_low v s e (marked r row) w q = absurd q.1
    split_low v s e (holds_node k row) w q = ⊎_elim
        (λ a. inr (row, subst (λ (t : Tree). row < node_width p.size t) (ap (node_at p) (sym a) ∙ e) w.1, subst (λ (t : Tree). T (is_true_at p P t row)) (ap (node_at p) (sym a) ∙ e) q.0, ap (λ (z : ℕ). holds_node z row) (sym a)))
        (λ a. inl (q.0, a))
        (le_cases v k q.1)
      where
        le_cases : (a b : ℕ) → a ≤ b → (a ≡ b) ⊎ (suc a ≤ b)
        le_cases a b h = ⊎_elim (λ l. inr l) (λ i. inl i) (lt_split a b (omega arith))

    pub nodes_do : (ts : List Tree) (v : ℕ) → ((j : ℕ) → j < length ts → node_at p (v + j) ≡ get_or ts j no_node) → v + length ts ≡ length p.node_list → Does (Low (length p.node_list)) (node_steps p P v ts) (Low v)
    unfolding node_steps
    nodes_do [] v h l = does_weaken (λ x q. q) (λ x w q. inl (subst (λ (k : ℕ). Low k x) (sym (add-zero v) ∙ l) q)) (does_nil (Low (length p.node_list)))
    nodes_do (t ∷ ts) v h l =
        let e : node_at p v ≡ t = ap (node_at p) (sym (add-zero v)) ∙ h 0 (omega arith) in
        does_weaken (λ x q. q) (λ x w q. inr (split_low v t e x w q))
        (does_append (nodes_do ts (suc v) (λ j i. let s : suc v + j ≡ v + suc j = omega arith in ap (node_at p) s ∙ h (suc j) (omega arith)) (omega arith))
        (does_weaken (λ x q. inr q) (λ x w q. inr q) (node_do v t (omega arith) e)))
