-- The proof phase as the builder goes through it: in a state that says of each decided atom what it means, the needs of a node's
-- action say whether the action's part, element or z makes the atom true.
use Prim.Native.Nat.{ℕ, zero, suc, ◌+◌, ◌*◌, ◌<◌}
use Rattle.std.specs.Prelude.{◌≡◌, Bool, T, get_or, drop}
use Rattle.std.proofs.Math.Path.{refl, sym, ap, ap₂, subst}
use Rattle.std.proofs.Common.{◌∙◌, arith}
use Rattle.std.proofs.Math.Logic.{⊎_elim}
use Rattle.std.proofs.Math.Bool.{true, false, ◌&&◌, and-true}
use Rattle.std.proofs.Math.Option.{Option, none, some}
use mathlib.Core.List.Memᴰ
use mathlib.Core.List.{List, [], ◌∷◌, Memᴰ}
use Rattle.std.proofs.Math.ListN.{length, take}
use Rattle.definitions.specs.Lists.{all, option, before, up_to}
use Rattle.definitions.specs.Sheet.Relations.{Tuple}
use Rattle.definitions.specs.Problem.Tree.{Tree, Trees, leaf, forall_node, exists_node, and_node, or_node, end, ◌then◌, nodes, Part, parts_from, parts, how_many, node_sort}
use Rattle.definitions.specs.Problem.Atoms.{Problem, node_at, rows_of, Atom, guess, proof, goal, tuple, not_tuple, free_domain, free_range, holds_node, marked, atom_number, State}
use Rattle.definitions.specs.Problem.Actions.{Action, prove_and, prove_or, prove_exists, prove_forall, Values, with_value, values_at, part_atom, part_atoms, under_atom, forall_needs, needs}
use Rattle.definitions.specs.Problem.Strips.{may_take}
use Rattle.definitions.specs.Problem.Built.{tree_holds, is_true_at}
use Rattle.laws.specs.Lists.{drop_mem, take_mem}
use Rattle.laws.specs.Members.{before_some, up_step}
use Rattle.laws.specs.Numbers.{IsAtom, IsAction}
use Rattle.meaning.specs.Parts.{Bnd, bnd_with, HereAll, under_forall, under_exists, parts_and, parts_or, head_here, tail_here}
use Rattle.meaning.specs.Means.{Good, means, here_as, values_bnd, forall_at, means_at, parts_mean}
use Rattle.meaning.specs.Valid.{needs_valid}

-- ---- lists
pub all_same : {A : Type 0} (f g : A → Bool) (l : List A) → ((x : A) → Memᴰ x l → f x ≡ g x) → all f l ≡ all g l
unfolding all
all_same f g [] h = refl
all_same f g (x ∷ l) h = ap₂ ◌&&◌ (h x (Memᴰ.head refl)) (all_same f g l (λ y m. h y (Memᴰ.tail m)))

-- ---- the atoms that a proof goes by
unfoldable pub is_proof_atom : Atom → Bool
is_proof_atom guess = false
is_proof_atom proof = true
is_proof_atom goal = false
is_proof_atom (tuple r row) = true
is_proof_atom (not_tuple r row) = true
is_proof_atom (free_domain r x) = false
is_proof_atom (free_range r y) = false
is_proof_atom (holds_node v row) = true
is_proof_atom (marked r row) = false

-- which node atoms are decided, by node and row
abbrev pub Decided : Type 0
Decided = ℕ → ℕ → Bool

-- what a state says of an atom: a tuple's atoms what they mean, a node's too where it is decided
unfoldable pub says : Problem → List Tuple → Decided → Atom → Bool
says p F D guess = false
says p F D proof = true
says p F D goal = false
says p F D (tuple r row) = means p F (tuple r row)
says p F D (not_tuple r row) = means p F (not_tuple r row)
says p F D (free_domain r x) = false
says p F D (free_range r y) = false
says p F D (holds_node v row) = D v row && is_true_at p F (node_at p v) row
says p F D (marked r row) = false

abbrev pub Knows : Problem → List Tuple → Decided → State → Type 0
Knows p F D s = (x : Atom) → IsAtom p x → T (is_proof_atom x) → s (atom_number p x) ≡ says p F D x

module _ (p : Problem) (G : Good p) (F : List Tuple) (D : Decided) where
  -- an atom that a state says what it means of
  abbrev Told : Atom → Type 0
  Told x = T (is_proof_atom x) × (says p F D x ≡ means p F x)

  proof_told : Told proof
  unfolding is_proof_atom says means
  proof_told = (tt, refl)

  node_told : (v row : ℕ) → D v row ≡ true → Told (holds_node v row)
  unfolding is_proof_atom says means
  node_told v row e = (tt, rw e)

  pub part_told : (w : ℕ) (t : Tree) (e : Values) → ((row : ℕ) → D w row ≡ true) → Told (part_atom p.size p.range e w t)
  unfolding is_proof_atom says part_atom
  part_told w (leaf true r ls) e h = (tt, refl)
  part_told w (leaf false r ls) e h = (tt, refl)
  part_told w (forall_node d σ t) e h = node_told w _ (h _)
  part_told w (exists_node d σ t) e h = node_told w _ (h _)
  part_told w (and_node ts) e h = node_told w _ (h _)
  part_told w (or_node ts) e h = node_told w _ (h _)

  module _ (s : State) (K : Knows p F D s) where
    pub may_told : (a : Action) → IsAction p a → ((x : Atom) → Memᴰ x (needs p a) → Told x) → may_take p s a ≡ all (means p F) (needs p a)
    unfolding may_take
    may_told a v h = all_same (λ x. s (atom_number p x)) (means p F) (needs p a) (λ x m. let q = h x m in K x (needs_valid p G a v x m) q.0 ∙ q.1)

    -- ---- at a node v, all later ones decided
    module _ (v : ℕ) (l : v < length p.node_list) (later : (w row : ℕ) → v < w → D w row ≡ true) where
      proof_or : (xs : List Atom) → ((x : Atom) → Memᴰ x xs → Told x) → (x : Atom) → Memᴰ x (proof ∷ xs) → Told x
      proof_or xs h x m = ⊎_elim (λ e. subst Told (sym e) proof_told) (λ q. h x q) (Memᴰ.cases_cons m)

      parts_told : (ts : Trees) (w : ℕ) (e : Values) → v < w → (x : Atom) → Memᴰ x (part_atoms p.size p.range e (parts_from w ts)) → Told x
      unfolding part_atoms parts_from
      parts_told end w e h x m = absurd (Memᴰ.not-nil m)
      parts_told (t then ts) w e h x m = ⊎_elim
          (λ q. subst Told (sym q) (part_told w t e (λ row. later w row h)))
          (λ q. parts_told ts (w + length (nodes t)) e (omega arith) x q)
          (Memᴰ.cases_cons m)

      -- `and`: all parts
      pub and_may : (row : ℕ) (ts : Trees) → node_at p v ≡ and_node ts → row < rows_of p.size (and_node ts) → may_take p s (prove_and v row) ≡ is_true_at p F (and_node ts) row
      unfolding IsAction needs parts is_true_at tree_holds all means
      and_may row ts e h =
          may_told (prove_and v row) (l, subst (λ (t : Tree). row < rows_of p.size t) (sym e) h, (ts, e))
          (λ x m. proof_or _ (parts_told ts (suc v) (values_at p.size (and_node ts) row) (omega arith)) x (subst (λ (t : Tree). Memᴰ x (proof ∷ part_atoms p.size p.range (values_at p.size t row) (parts v t))) e m))
          ∙ ap (λ (t : Tree). all (means p F) (proof ∷ part_atoms p.size p.range (values_at p.size t row) (parts v t))) e
          ∙ parts_mean p G F ts (suc v) (values_at p.size (and_node ts) row) (parts_and p v ts (here_as p G v (and_node ts) l e)) (values_bnd p G (and_node ts) row)

      -- `or`: the chosen part
      one_part : (ts : Trees) (w i : ℕ) (e : Values) (d : Part) → HereAll p w ts → Bnd p.size e → i < how_many ts
          → all (means p F) (take 1 (drop i (part_atoms p.size p.range e (parts_from w ts)))) ≡ tree_holds p.source F e (get_or (parts_from w ts) i d).tree
      unfolding part_atoms parts_from how_many all
      one_part end w i e d h b k = absurd (omega arith)
      one_part (t then ts) w zero e d h b k = and-true (means p F (part_atom p.size p.range e w t)) ∙ means_at p G F w t e (head_here p w t ts h) b
      one_part (t then ts) w (suc i) e d h b k = one_part ts (w + length (nodes t)) i e d (tail_here p w t ts h) b (omega arith)

      pub or_may : (row i : ℕ) (ts : Trees) (d : Part) → node_at p v ≡ or_node ts → row < rows_of p.size (or_node ts) → i < how_many ts
          → may_take p s (prove_or v row i) ≡ tree_holds p.source F (values_at p.size (or_node ts) row) (get_or (parts v (or_node ts)) i d).tree
      unfolding IsAction needs parts all means
      or_may row i ts d e h k =
          may_told (prove_or v row i) (l, subst (λ (t : Tree). row < rows_of p.size t) (sym e) h, (ts, e, k))
          (λ x m. proof_or _ (λ y q. parts_told ts (suc v) (values_at p.size (or_node ts) row) (omega arith) y (drop_mem i _ y (take_mem 1 _ y q))) x
          (subst (λ (t : Tree). Memᴰ x (proof ∷ take 1 (drop i (part_atoms p.size p.range (values_at p.size t row) (parts v t))))) e m))
          ∙ ap (λ (t : Tree). all (means p F) (proof ∷ take 1 (drop i (part_atoms p.size p.range (values_at p.size t row) (parts v t))))) e
          ∙ one_part ts (suc v) i (values_at p.size (or_node ts) row) d (parts_or p v ts (here_as p G v (or_node ts) l e)) (values_bnd p G (or_node ts) row) k

      -- `exists`: the part at the element
      pub exists_may : (row x d σ : ℕ) (u : Tree) → node_at p v ≡ exists_node d σ u → row < rows_of p.size (exists_node d σ u) → Memᴰ x (p.range σ)
          → may_take p s (prove_exists v row x) ≡ tree_holds p.source F (with_value (values_at p.size (exists_node d σ u) row) d x) u
      unfolding IsAction needs under_atom all means
      exists_may row x d σ u e h k =
          may_told (prove_exists v row x) (l, subst (λ (t : Tree). row < rows_of p.size t) (sym e) h, (d, σ, u, e, k))
          (λ y m. proof_or (part_atom p.size p.range (with_value (values_at p.size (exists_node d σ u) row) d x) (suc v) u ∷ [])
          (λ z q. subst Told (sym (Memᴰ.eq_of_singleton q))
          (part_told (suc v) u (with_value (values_at p.size (exists_node d σ u) row) d x) (λ i. later (suc v) i (omega arith)))) y
          (subst (λ (t : Tree). Memᴰ y (proof ∷ under_atom p.size p.range v t row x ∷ [])) e m))
          ∙ ap (λ (t : Tree). all (means p F) (proof ∷ under_atom p.size p.range v t row x ∷ [])) e
          ∙ and-true (means p F (part_atom p.size p.range (with_value (values_at p.size (exists_node d σ u) row) d x) (suc v) u))
          ∙ means_at p G F (suc v) u (with_value (values_at p.size (exists_node d σ u) row) d x) (under_exists p v d σ u (here_as p G v (exists_node d σ u) l e))
          (bnd_with p.size _ d x (values_bnd p G (exists_node d σ u) row) ((G.ranged σ).small x k))

      -- `forall`: the part at z and, where its range has an element before z, the node's own atom at that
      module _ (row d σ : ℕ) (u : Tree) (e : node_at p v ≡ forall_node d σ u) where
        abbrev at : ℕ → Bool
        at x = tree_holds p.source F (with_value (values_at p.size (forall_node d σ u) row) d x) u

        under_told : (x : ℕ) → Told (under_atom p.size p.range v (forall_node d σ u) row x)
        unfolding under_atom
        under_told x = part_told (suc v) u (with_value (values_at p.size (forall_node d σ u) row) d x) (λ i. later (suc v) i (omega arith))

        under_means : (x : ℕ) → Memᴰ x (p.range σ) → means p F (under_atom p.size p.range v (forall_node d σ u) row x) ≡ at x
        unfolding under_atom
        under_means x m =
            means_at p G F (suc v) u (with_value (values_at p.size (forall_node d σ u) row) d x) (under_forall p v d σ u (here_as p G v (forall_node d σ u) l e))
            (bnd_with p.size _ d x (values_bnd p G (forall_node d σ u) row) ((G.ranged σ).small x m))

        -- in such a state its bit tells whether the part is so
        pub under_may : (x : ℕ) → row < rows_of p.size (forall_node d σ u) → Memᴰ x (p.range σ) → s (atom_number p (under_atom p.size p.range v (forall_node d σ u) row x)) ≡ at x
        unfolding IsAction needs forall_needs
        under_may x h m =
            K (under_atom p.size p.range v (forall_node d σ u) row x)
            (needs_valid p G (prove_forall v row x) (l, subst (λ (t : Tree). row < rows_of p.size t) (sym e) h, (d, σ, u, e, m)) (under_atom p.size p.range v (forall_node d σ u) row x)
            (subst (λ (t : Tree). Memᴰ (under_atom p.size p.range v (forall_node d σ u) row x) (proof ∷ forall_needs p.size p.range v t row x)) (sym e) (Memᴰ.tail (Memᴰ.head refl))))
            (under_told x).0 ∙ (under_told x).1 ∙ under_means x m

        -- the atoms at the element before z
        abbrev own_at : Option ℕ → List Atom
        own_at o = option o [] (λ y. holds_node v (row * p.size + y) ∷ [])

        own_told : (o : Option ℕ) → ((y : ℕ) → o ≡ some y → D v (row * p.size + y) ≡ true) → (x : Atom) → Memᴰ x (own_at o) → Told x
        unfolding option
        own_told none h x m = absurd (Memᴰ.not-nil m)
        own_told (some y) h x m = subst Told (sym (Memᴰ.eq_of_singleton m)) (node_told v (row * p.size + y) (h y refl))

        needs_told : (z : ℕ) → ((i : ℕ) → i < z → D v (row * p.size + i) ≡ true) → (x : Atom) → Memᴰ x (forall_needs p.size p.range v (forall_node d σ u) row z) → Told x
        unfolding forall_needs node_sort
        needs_told z own x m = ⊎_elim (λ q. subst Told (sym q) (under_told z))
            (λ q. own_told (before (p.range σ) z) (λ y b. own y (before_some (p.range σ) z y (G.ranged σ).ascends b).1) x q) (Memᴰ.cases_cons m)

        own_mean : (z : ℕ) (o : Option ℕ) → before (p.range σ) z ≡ o → all (means p F) (own_at o) ≡ option o true (λ y. all at (up_to (p.range σ) y))
        unfolding option all means
        own_mean z none b = refl
        own_mean z (some y) b =
            and-true (is_true_at p F (node_at p v) (row * p.size + y)) ∙ ap (λ (t : Tree). is_true_at p F t (row * p.size + y)) e
            ∙ forall_at p G F d σ u row y (before_some (p.range σ) z y (G.ranged σ).ascends b).0

        needs_mean : (z : ℕ) → Memᴰ z (p.range σ) → all (means p F) (forall_needs p.size p.range v (forall_node d σ u) row z) ≡ all at (up_to (p.range σ) z)
        unfolding forall_needs node_sort all
        needs_mean z m = ap₂ ◌&&◌ (under_means z m) (own_mean z (before (p.range σ) z) refl) ∙ sym (up_step at (p.range σ) z (G.ranged σ).ascends m)

        pub forall_may : (z : ℕ) → row < rows_of p.size (forall_node d σ u) → Memᴰ z (p.range σ) → ((i : ℕ) → i < z → D v (row * p.size + i) ≡ true)
            → may_take p s (prove_forall v row z) ≡ is_true_at p F (forall_node d σ u) (row * p.size + z)
        unfolding IsAction needs all means
        forall_may z h k own =
            may_told (prove_forall v row z) (l, subst (λ (t : Tree). row < rows_of p.size t) (sym e) h, (d, σ, u, e, k))
            (λ x m. proof_or _ (needs_told z own) x (subst (λ (t : Tree). Memᴰ x (proof ∷ forall_needs p.size p.range v t row z)) e m))
            ∙ ap (λ (t : Tree). all (means p F) (proof ∷ forall_needs p.size p.range v t row z)) e
            ∙ needs_mean z k ∙ sym (forall_at p G F d σ u row z k)
