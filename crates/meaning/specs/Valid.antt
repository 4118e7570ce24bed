-- The problem's actions need, add and remove atoms of the problem only; so taking a step is seen on atoms.
use Prim.Native.Nat.{ℕ, zero, suc, ◌+◌, ◌*◌, ◌/◌, ◌%◌, ◌^◌, ◌<◌}
use Rattle.std.proofs.Common.{arith, sym, ◌∙◌, add-zero, zero-add, eqb→eq}
use Rattle.std.specs.Prelude.{◌≡◌, ◌⊎◌, Bool, ◌&&◌, eqb, get_or, if◌then◌else◌}
use Rattle.std.proofs.Math.Path.{refl, ap, subst}
use Rattle.std.proofs.Math.Logic.{inl, inr, ⊎_elim}
use Rattle.std.proofs.Math.Bool.{true, false, not}
use Rattle.std.proofs.Math.Option.{Option, none, some}
use mathlib.Core.List.Memᴰ
use mathlib.Core.List.{List, [], ◌∷◌, map, Memᴰ}
use Rattle.std.proofs.Math.Nat.{mod-lt}
use Rattle.std.proofs.Math.Arith.{digits_lt}
use Rattle.std.proofs.Math.Dec.{T, ltb, T_not, not_T}
use Rattle.std.proofs.Math.ListN.{length}
use borrow.Author.Tests.{eq-eqb, ltb-true}
use Rattle.definitions.specs.Lists.{any, option, is_some, below, before}
use Rattle.definitions.specs.Sheet.Relations.{Relation, is_universal, is_function, is_injective}
use Rattle.definitions.specs.Sheet.Sheets.{every_number}
use Rattle.definitions.specs.Problem.Tree.{Tree, Trees, leaf, forall_node, exists_node, and_node, or_node, end, ◌then◌, nodes, parts_from, parts, is_forall, node_sort}
use Rattle.definitions.specs.Problem.Atoms.{Problem, relation_at, node_at, places_of, tuples_of, rows_of, node_width, Atom, proof, goal, free_domain, free_range, holds_node, marked, atom_number, State}
use Rattle.definitions.specs.Problem.Actions.{Action, set, begin_proof, prove_and, prove_or, prove_exists, prove_forall, prove_goal, round_end, mark_in, mark_out, finish, Values, with_value, values_at, part_atoms, under_atom, free_atoms, forall_needs, root_atom, mark_or_goal, nodes_atoms, needs, adds, removes}
use Rattle.definitions.specs.Problem.Strips.{may_take, after}
use Rattle.laws.specs.Booleans.{T_and_l, T_and_r, T_of, T_or, and_T, or_l, or_r}
use Rattle.laws.specs.Lists.{all_at, all_of, any_at, any_of, below_lt, drop_mem, map_mem, mem_below, mem_map, take_mem}
use Rattle.laws.specs.Rows.{pair_places}
use Rattle.laws.specs.Numbers.{IsAction, IsAtom, no_node, atom_injective, set_below}
use Rattle.laws.specs.Members.{before_some}
use Rattle.meaning.specs.Parts.{Bnd, bnd_with, HereAll, under_forall, under_exists, parts_and, parts_or, head_here, tail_here, IsNode}
use Rattle.meaning.specs.Means.{Good, here_as, values_bnd, part_valid}

-- what holds of the proof phase and of every further need holds of every need
pub proof_or : (X : Atom → Type 0) {l : List Atom} (x : Atom) → X proof → ((y : Atom) → Memᴰ y l → X y) → Memᴰ x (proof ∷ l) → X x
proof_or X x i h m = ⊎_elim (λ e. subst X (sym e) i) (λ q. h x q) (Memᴰ.cases_cons m)

-- the atoms of all nodes
pub nodes_mem : (n v : ℕ) (ts : List Tree) (x : Atom) → Memᴰ x (nodes_atoms n v ts) → (j : ℕ) × (row : ℕ) × (j < length ts) × (row < node_width n (get_or ts j no_node)) × (x ≡ holds_node (v + j) row)
unfolding nodes_atoms
nodes_mem n v [] x m = absurd (Memᴰ.not-nil m)
nodes_mem n v (t ∷ ts) x m = ⊎_elim
    (λ q. let (row, mr, e) = map_mem (holds_node v) (below (node_width n t)) x q in (zero, row, omega arith, below_lt (node_width n t) row mr, e ∙ ap (λ (w : ℕ). holds_node w row) (sym (add-zero v))))
    (λ q. let (j, row, l, h, e) = nodes_mem n (suc v) ts x q in let s : suc v + j ≡ v + suc j = omega arith in (suc j, row, omega arith, h, e ∙ ap (λ (w : ℕ). holds_node w row) s))
    (Memᴰ.append_cases (map (holds_node v) (below (node_width n t))) m)

pub mem_nodes : (n v : ℕ) (ts : List Tree) (j row : ℕ) → j < length ts → row < node_width n (get_or ts j no_node) → Memᴰ (holds_node (v + j) row) (nodes_atoms n v ts)
unfolding nodes_atoms
mem_nodes n v [] j row l h = absurd (omega arith)
mem_nodes n v (t ∷ ts) zero row l h = Memᴰ.append_left (nodes_atoms n (suc v) ts) (subst (λ (w : ℕ). Memᴰ (holds_node w row) (map (holds_node v) (below (node_width n t)))) (sym (add-zero v)) (mem_map (holds_node v) (below (node_width n t)) row (mem_below (node_width n t) row h)))
mem_nodes n v (t ∷ ts) (suc j) row l h =
    let s : suc v + j ≡ v + suc j = omega arith in
    Memᴰ.append_right (map (holds_node v) (below (node_width n t))) (subst (λ (w : ℕ). Memᴰ (holds_node w row) (nodes_atoms n (suc v) ts)) s (mem_nodes n (suc v) ts j row (omega arith) h))

module _ (p : Problem) (G : Good p) where
  -- a round's end, or prove-goal, needs the root alone
  pub finish_needs : needs p (finish p) ≡ root_atom p ∷ []
  unfolding finish option needs
  finish_needs = by_option p.source.question.every
    where
      by_option : (o : Option Relation) → needs p (option o prove_goal (λ _. round_end)) ≡ root_atom p ∷ []
      by_option none = refl
      by_option (some e) = refl

  -- every node's atoms are removed at a round's end
  pub node_removed : (v row : ℕ) → IsAtom p (holds_node v row) → Memᴰ (holds_node v row) (removes p round_end)
  unfolding removes IsAtom node_at
  node_removed v row w = Memᴰ.tail (subst (λ (k : ℕ). Memᴰ (holds_node k row) (nodes_atoms p.size zero p.node_list)) (zero-add v) (mem_nodes p.size zero p.node_list v row w.0 w.1))

  node_valid : (x : Atom) → Memᴰ x (nodes_atoms p.size zero p.node_list) → IsAtom p x
  unfolding IsAtom node_at
  node_valid x m = let (j, row, l, h, e) = nodes_mem p.size zero p.node_list x m in subst (IsAtom p) (sym (e ∙ ap (λ (w : ℕ). holds_node w row) (zero-add j))) (l, h)

  -- the next mark, or the goal
  mark_valid : (r i : ℕ) → r < length p.relations → T (is_universal (relation_at p r).kind) → IsAtom p (mark_or_goal p r i)
  unfolding mark_or_goal IsAtom
  mark_valid r i l u = by_test (ltb i (tuples_of p.size (relation_at p r))) refl
    where
      by_test : (b : Bool) → ltb i (tuples_of p.size (relation_at p r)) ≡ b → IsAtom p (if b then marked r i else goal)
      by_test true e = (l, u, ltb-true i _ e)
      by_test false e = tt

  -- the `every` relation's number, where there is one
  pub every_there : T (is_some p.source.question.every) → (every_number p.source.question < length p.relations) × T (is_universal (relation_at p (every_number p.source.question)).kind)
  unfolding is_some
  every_there t = by_option p.source.question.every refl t
    where
      by_option : (o : Option Relation) → p.source.question.every ≡ o → T (is_some o) → (every_number p.source.question < length p.relations) × T (is_universal (relation_at p (every_number p.source.question)).kind)
      by_option none e t = absurd t
      by_option (some k) e t = let (l, i, u) = G.every_is k e in (l, subst (λ (x : Relation). T (is_universal x.kind)) (sym i) u)

  -- a set action's free atoms
  pub free_cases : (n r row : ℕ) (k : Relation) (x : Atom) → Memᴰ x (free_atoms n k r row) → (T (is_function k.kind) × (x ≡ free_domain r (row / n))) ⊎ (T (is_injective k.kind) × (x ≡ free_range r (row % n)))
  unfolding free_atoms
  free_cases n r row k x m = ⊎_elim (λ q. inl (one (is_function k.kind) (free_domain r (row / n)) q)) (λ q. inr (one (is_injective k.kind) (free_range r (row % n)) q)) (Memᴰ.append_cases (if is_function k.kind then free_domain r (row / n) ∷ [] else []) m)
    where
      one : (b : Bool) (a : Atom) → Memᴰ x (if b then a ∷ [] else []) → T b × (x ≡ a)
      one true a m = (tt, Memᴰ.eq_of_singleton m)
      one false a m = absurd (Memᴰ.not-nil m)

  pub domain_free : (n r row : ℕ) (k : Relation) → T (is_function k.kind) → Memᴰ (free_domain r (row / n)) (free_atoms n k r row)
  unfolding free_atoms
  domain_free n r row k f = Memᴰ.append_left _ (by_test (is_function k.kind) f)
    where
      by_test : (b : Bool) → T b → Memᴰ (free_domain r (row / n)) (if b then free_domain r (row / n) ∷ [] else [])
      by_test true t = Memᴰ.head refl
      by_test false t = absurd t

  pub range_free : (n r row : ℕ) (k : Relation) → T (is_injective k.kind) → Memᴰ (free_range r (row % n)) (free_atoms n k r row)
  unfolding free_atoms
  range_free n r row k f = Memᴰ.append_right (if is_function k.kind then free_domain r (row / n) ∷ [] else []) (by_test (is_injective k.kind) f)
    where
      by_test : (b : Bool) → T b → Memᴰ (free_range r (row % n)) (if b then free_range r (row % n) ∷ [] else [])
      by_test true t = Memᴰ.head refl
      by_test false t = absurd t

  -- of a function kind, a row is a pair
  pub pair_of : (r row : ℕ) → r < length p.relations → row < tuples_of p.size (relation_at p r) → T (is_function (relation_at p r).kind) → (places_of p.size (relation_at p r).arity row ≡ row / p.size ∷ row % p.size ∷ []) × (row / p.size < p.size)
  unfolding tuples_of
  pair_of r row l h f =
      let e = G.pairs r l f in
      let q = pair_places p.size row G.element (subst (λ (k : ℕ). row < p.size ^ k) e h) in
      (ap (λ (k : ℕ). places_of p.size k row) e ∙ q.0, q.1)

  free_valid : (r row : ℕ) → IsAction p (set r row) → (x : Atom) → Memᴰ x (free_atoms p.size (relation_at p r) r row) → IsAtom p x
  unfolding IsAction IsAtom
  free_valid r row v x m = ⊎_elim
      (λ q. subst (IsAtom p) (sym q.1) (v.0, q.0, (pair_of r row v.0 (set_below p r row v) q.0).1))
      (λ q. subst (IsAtom p) (sym q.1) (v.0, q.0, mod-lt row G.element))
      (free_cases p.size r row (relation_at p r) x m)

  parts_valid : (ts : Trees) (v : ℕ) (e : Values) → HereAll p v ts → Bnd p.size e → (x : Atom) → Memᴰ x (part_atoms p.size p.range e (parts_from v ts)) → IsAtom p x
  unfolding part_atoms parts_from
  parts_valid end v e h b x m = absurd (Memᴰ.not-nil m)
  parts_valid (t then ts) v e h b x m = ⊎_elim (λ q. subst (IsAtom p) (sym q) (part_valid p G v t e (head_here p v t ts h) b)) (λ q. parts_valid ts (v + length (nodes t)) e (tail_here p v t ts h) b x q) (Memᴰ.cases_cons m)

  pub under_valid : (v row x : ℕ) (s : Tree) → v < length p.node_list → node_at p v ≡ s → x < p.size → IsNode p s → IsAtom p (under_atom p.size p.range v s row x)
  unfolding under_atom IsAtom IsNode
  under_valid v row x (leaf q r ls) l e g n = tt
  under_valid v row x (forall_node d σ t) l e g n = part_valid p G (suc v) t (with_value (values_at p.size (forall_node d σ t) row) d x) (under_forall p v d σ t (here_as p G v (forall_node d σ t) l e)) (bnd_with p.size _ d x (values_bnd p G (forall_node d σ t) row) g)
  under_valid v row x (exists_node d σ t) l e g n = part_valid p G (suc v) t (with_value (values_at p.size (exists_node d σ t) row) d x) (under_exists p v d σ t (here_as p G v (exists_node d σ t) l e)) (bnd_with p.size _ d x (values_bnd p G (exists_node d σ t) row) g)
  under_valid v row x (and_node ts) l e g n = tt
  under_valid v row x (or_node ts) l e g n = tt

  own_valid : (v row z d σ : ℕ) (t : Tree) → v < length p.node_list → node_at p v ≡ forall_node d σ t → row < rows_of p.size (node_at p v) → z < p.size → IsAtom p (holds_node v (row * p.size + z))
  unfolding IsAtom node_width is_forall
  own_valid v row z d σ t l e h g = (l, subst (λ (s : Tree). row * p.size + z < node_width p.size s) (sym e) (digits_lt (subst (λ (s : Tree). row < rows_of p.size s) e h) g))

  row_valid : (v row : ℕ) (s : Tree) → v < length p.node_list → node_at p v ≡ s → row < rows_of p.size (node_at p v) → is_forall s ≡ false → IsAtom p (holds_node v row)
  unfolding IsAtom node_width
  row_valid v row s l e h n = (l, subst (λ (s : Tree). row < node_width p.size s) (sym e) (rw n (subst (λ (s : Tree). row < rows_of p.size s) e h)))

  forall_valid : (v row z d σ : ℕ) (t : Tree) → v < length p.node_list → node_at p v ≡ forall_node d σ t → row < rows_of p.size (node_at p v) → Memᴰ z (p.range σ) → (x : Atom) → Memᴰ x (forall_needs p.size p.range v (node_at p v) row z) → IsAtom p x
  unfolding forall_needs IsNode node_sort option
  forall_valid v row z d σ t l e h g x m = ⊎_elim
      (λ q. subst (IsAtom p) (sym q) (under_valid v row z (forall_node d σ t) l e ((G.ranged σ).small z g) tt))
      (λ q. by_option (before (p.range σ) z) refl q)
      (Memᴰ.cases_cons (subst (λ (s : Tree). Memᴰ x (forall_needs p.size p.range v s row z)) e m))
    where
      by_option : (o : Option ℕ) → before (p.range σ) z ≡ o → Memᴰ x (option o [] (λ y. holds_node v (row * p.size + y) ∷ [])) → IsAtom p x
      by_option none i q = absurd (Memᴰ.not-nil q)
      by_option (some y) i q = subst (IsAtom p) (sym (Memᴰ.eq_of_singleton q)) (own_valid v row y d σ t l e h ((G.ranged σ).small y (before_some (p.range σ) z y (G.ranged σ).ascends i).0))

  pub needs_valid : (a : Action) → IsAction p a → (x : Atom) → Memᴰ x (needs p a) → IsAtom p x
  unfolding needs root_atom IsAction IsAtom parts IsNode
  needs_valid (set r row) v x m = ⊎_elim (λ e. subst (IsAtom p) (sym e) tt) (λ q. ⊎_elim (λ e. subst (IsAtom p) (sym e) (v.0, set_below p r row v)) (λ s. free_valid r row v x s) (Memᴰ.cases_cons q)) (Memᴰ.cases_cons m)
  needs_valid begin_proof v x m = subst (IsAtom p) (sym (Memᴰ.eq_of_singleton m)) tt
  needs_valid (prove_and v row) (l, h, (ts, e)) x m = proof_or (IsAtom p) x tt
      (λ y q. parts_valid ts (suc v) (values_at p.size (and_node ts) row) (parts_and p v ts (here_as p G v (and_node ts) l e)) (values_bnd p G (and_node ts) row) y (subst (λ (s : Tree). Memᴰ y (part_atoms p.size p.range (values_at p.size s row) (parts v s))) e q)) m
  needs_valid (prove_or v row i) (l, h, (ts, e, g)) x m = proof_or (IsAtom p) x tt
      (λ y q. parts_valid ts (suc v) (values_at p.size (or_node ts) row) (parts_or p v ts (here_as p G v (or_node ts) l e))
      (values_bnd p G (or_node ts) row) y (subst (λ (s : Tree). Memᴰ y (part_atoms p.size p.range (values_at p.size s row) (parts v s)))
      e (drop_mem i _ y (take_mem 1 _ y q)))) m
  needs_valid (prove_exists v row z) (l, h, (d, σ, t, e, g)) x m = proof_or (IsAtom p) x tt
      (λ y q. subst (IsAtom p) (sym (Memᴰ.eq_of_singleton q ∙ ap (λ (s : Tree). under_atom p.size p.range v s row z) e)) (under_valid v row z (exists_node d σ t) l e ((G.ranged σ).small z g) tt)) m
  needs_valid (prove_forall v row z) (l, h, (d, σ, t, e, g)) x m = proof_or (IsAtom p) x tt (λ y q. forall_valid v row z d σ t l e h g y q) m
  needs_valid prove_goal v x m = subst (IsAtom p) (sym (Memᴰ.eq_of_singleton m)) (part_valid p G 0 p.root (λ _. zero) G.root_here (λ l. G.element))
  needs_valid round_end v x m = subst (IsAtom p) (sym (Memᴰ.eq_of_singleton m)) (part_valid p G 0 p.root (λ _. zero) G.root_here (λ l. G.element))
  needs_valid (mark_in r row) v x m = ⊎_elim (λ e. subst (IsAtom p) (sym e) v) (λ q. subst (IsAtom p) (sym (Memᴰ.eq_of_singleton q)) (v.0, v.2)) (Memᴰ.cases_cons m)
  needs_valid (mark_out r row) v x m = ⊎_elim (λ e. subst (IsAtom p) (sym e) v) (λ q. subst (IsAtom p) (sym (Memᴰ.eq_of_singleton q)) (v.0, v.2)) (Memᴰ.cases_cons m)

  pub adds_valid : (a : Action) → IsAction p a → (x : Atom) → Memᴰ x (adds p a) → IsAtom p x
  unfolding adds IsAction IsAtom is_forall
  adds_valid (set r row) v x m = subst (IsAtom p) (sym (Memᴰ.eq_of_singleton m)) (v.0, set_below p r row v)
  adds_valid begin_proof v x m = subst (IsAtom p) (sym (Memᴰ.eq_of_singleton m)) tt
  adds_valid (prove_and v row) (l, h, (ts, e)) x m = subst (IsAtom p) (sym (Memᴰ.eq_of_singleton m)) (row_valid v row (and_node ts) l e h refl)
  adds_valid (prove_or v row i) (l, h, (ts, e, g)) x m = subst (IsAtom p) (sym (Memᴰ.eq_of_singleton m)) (row_valid v row (or_node ts) l e h refl)
  adds_valid (prove_exists v row z) (l, h, (d, σ, t, e, g)) x m = subst (IsAtom p) (sym (Memᴰ.eq_of_singleton m)) (row_valid v row (exists_node d σ t) l e h refl)
  adds_valid (prove_forall v row z) (l, h, (d, σ, t, e, g)) x m = subst (IsAtom p) (sym (Memᴰ.eq_of_singleton m)) (own_valid v row z d σ t l e h ((G.ranged σ).small z g))
  adds_valid prove_goal v x m = subst (IsAtom p) (sym (Memᴰ.eq_of_singleton m)) tt
  adds_valid round_end v x m = let (l, u) = every_there v in subst (IsAtom p) (sym (Memᴰ.eq_of_singleton m)) (mark_valid (every_number p.source.question) zero l u)
  adds_valid (mark_in r row) v x m = ⊎_elim (λ e. subst (IsAtom p) (sym e) (v.0, v.2)) (λ q. subst (IsAtom p) (sym (Memᴰ.eq_of_singleton q)) tt) (Memᴰ.cases_cons m)
  adds_valid (mark_out r row) v x m = ⊎_elim (λ e. subst (IsAtom p) (sym e) (v.0, v.2)) (λ q. subst (IsAtom p) (sym (Memᴰ.eq_of_singleton q)) (mark_valid r (suc row) v.0 v.1)) (Memᴰ.cases_cons m)

  pub removes_valid : (a : Action) → IsAction p a → (x : Atom) → Memᴰ x (removes p a) → IsAtom p x
  unfolding removes IsAction IsAtom
  removes_valid (set r row) v x m = ⊎_elim (λ e. subst (IsAtom p) (sym e) (v.0, set_below p r row v)) (λ s. free_valid r row v x s) (Memᴰ.cases_cons m)
  removes_valid begin_proof v x m = subst (IsAtom p) (sym (Memᴰ.eq_of_singleton m)) tt
  removes_valid (prove_and v row) h x m = absurd (Memᴰ.not-nil m)
  removes_valid (prove_or v row i) h x m = absurd (Memᴰ.not-nil m)
  removes_valid (prove_exists v row z) h x m = absurd (Memᴰ.not-nil m)
  removes_valid (prove_forall v row z) h x m = absurd (Memᴰ.not-nil m)
  removes_valid prove_goal v x m = absurd (Memᴰ.not-nil m)
  removes_valid round_end v x m = ⊎_elim (λ e. subst (IsAtom p) (sym e) tt) (λ q. node_valid x q) (Memᴰ.cases_cons m)
  removes_valid (mark_in r row) v x m = ⊎_elim (λ e. subst (IsAtom p) (sym e) v) (λ q. subst (IsAtom p) (sym (Memᴰ.eq_of_singleton q)) (v.0, v.2)) (Memᴰ.cases_cons m)
  removes_valid (mark_out r row) v x m = ⊎_elim (λ e. subst (IsAtom p) (sym e) v) (λ q. subst (IsAtom p) (sym (Memᴰ.eq_of_singleton q)) (v.0, v.2)) (Memᴰ.cases_cons m)

  -- ---- a step on atoms
  number_mem : (x : Atom) (l : List Atom) → IsAtom p x → ((y : Atom) → Memᴰ y l → IsAtom p y) → T (any (eqb (atom_number p x)) (map (atom_number p) l)) → Memᴰ x l
  number_mem x l v h t =
      let (k, mk, e) = any_at (eqb (atom_number p x)) (map (atom_number p) l) t in
      let (y, my, q) = map_mem (atom_number p) l k mk in
      subst (λ (z : Atom). Memᴰ z l) (sym (atom_injective p x y v (h y my) (eqb→eq (atom_number p x) k e ∙ q))) my

  mem_number : (x : Atom) (l : List Atom) → Memᴰ x l → T (any (eqb (atom_number p x)) (map (atom_number p) l))
  mem_number x l m = any_of (eqb (atom_number p x)) (map (atom_number p) l) (atom_number p x) (mem_map (atom_number p) l x m) (T_of (eq-eqb (atom_number p x) (atom_number p x) refl))

  pub after_cases : (s : State) (a : Action) (x : Atom) → IsAction p a → IsAtom p x → T (after p s a (atom_number p x)) → (T (s (atom_number p x)) × (Memᴰ x (removes p a) → ⊥)) ⊎ Memᴰ x (adds p a)
  unfolding after
  after_cases s a x v w t = ⊎_elim
      (λ q. inl (T_and_l (s (atom_number p x)) _ q, λ m. T_not (any (eqb (atom_number p x)) (map (atom_number p) (removes p a))) (T_and_r (s (atom_number p x)) _ q) (mem_number x (removes p a) m)))
      (λ q. inr (number_mem x (adds p a) w (adds_valid a v) q))
      (T_or (s (atom_number p x) && not (any (eqb (atom_number p x)) (map (atom_number p) (removes p a)))) _ t)

  pub after_add : (s : State) (a : Action) (x : Atom) → Memᴰ x (adds p a) → T (after p s a (atom_number p x))
  unfolding after
  after_add s a x m = or_r (s (atom_number p x) && not (any (eqb (atom_number p x)) (map (atom_number p) (removes p a)))) _ (mem_number x (adds p a) m)

  pub after_keep : (s : State) (a : Action) (x : Atom) → IsAction p a → IsAtom p x → T (s (atom_number p x)) → (Memᴰ x (removes p a) → ⊥) → T (after p s a (atom_number p x))
  unfolding after
  after_keep s a x v w t n = or_l (s (atom_number p x) && not (any (eqb (atom_number p x)) (map (atom_number p) (removes p a)))) _
      (and_T (s (atom_number p x)) _ t (not_T (any (eqb (atom_number p x)) (map (atom_number p) (removes p a))) (λ q. n (number_mem x (removes p a) w (removes_valid a v) q))))

  pub may_at : (s : State) (a : Action) → T (may_take p s a) → (x : Atom) → Memᴰ x (needs p a) → T (s (atom_number p x))
  unfolding may_take
  may_at s a t x m = all_at (λ x. s (atom_number p x)) (needs p a) t x m

  pub may_of : (s : State) (a : Action) → ((x : Atom) → Memᴰ x (needs p a) → T (s (atom_number p x))) → T (may_take p s a)
  unfolding may_take
  may_of s a h = all_of (λ x. s (atom_number p x)) (needs p a) h
