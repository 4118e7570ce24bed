-- Truth of a node's atom by the bits of its parts, in a state that knows the later nodes.
use Prim.Native.Nat.{ℕ, zero, suc, ◌+◌, ◌*◌, ◌<◌}
use Rattle.std.specs.Prelude.{◌≡◌, Bool, true, false, not, ◌&&◌, ◌||◌, eqb, get_or}
use Rattle.std.proofs.Math.Path.{refl, sym, ap, subst}
use Rattle.std.proofs.Common.{ap₂, ◌∙◌, arith, add-zero, zero-add}
use mathlib.Core.List.{List, [], ◌∷◌, map, Memᴰ}
use Rattle.std.proofs.Math.Arith.{digits_div, digits_mod}
use Rattle.std.proofs.Math.Dec.{leb}
use borrow.Author.Tests.{eq-eqb, ne_eqb}
use Rattle.std.proofs.Math.ListN.{length}
use Rattle.definitions.specs.Lists.{all, any, from, is_in, up_to}
use Rattle.definitions.specs.Sheet.Relations.{Tuple}
use Rattle.definitions.specs.Problem.Tree.{Tree, leaf, forall_node, exists_node, and_node, or_node, Part, parts, how_many, is_forall, node_sort}
use Rattle.definitions.specs.Problem.Atoms.{Problem, node_at, rows_of, node_width, proof, atom_number, State}
use Rattle.definitions.specs.Problem.Actions.{prove_and, prove_or, prove_exists, with_value, values_at, under_atom}
use Rattle.definitions.specs.Problem.Strips.{may_take}
use Rattle.definitions.specs.Problem.Built.{tree_holds, is_true_at}
use Rattle.laws.specs.Booleans.{not_or}
use Rattle.laws.specs.Lists.{filter_mem}
use Rattle.laws.specs.Numbers.{IsAtom, IsAction, no_node}
use Rattle.rule_nodes.specs.Tables.{node_kind}
use Rattle.bits.specs.Table.{turned}
use Rattle.problem_table.specs.Lines.{size_in, node_line, part_at, range_in}
use Rattle.problem_table.specs.Numbers.{row_values, under_at, and_needs, or_needs, need_numbers}
use Rattle.problem_table.specs.NeedLaws.{all_yes, all_one, exists_under}
use Rattle.problem_table.specs.Of.{Is, IsNode, said}
use Rattle.problem_table.specs.OfLaws.{under_at_lem, parts_length}
use Rattle.problem_table.proofs.Needs.{may_is}
use Rattle.problem_table.specs.declared.NodeLine.{NodeLine}
use Rattle.meaning.specs.Means.{Good}
use Rattle.meaning.specs.Does.{some_any}
use Rattle.meaning.specs.Deciding.{is_proof_atom, Decided, says, Knows, all_same, and_may, or_may, exists_may, under_may}

-- ---- lists
pub any_same : {A : Type 0} (f g : A → Bool) (l : List A) → ((x : A) → Memᴰ x l → f x ≡ g x) → any f l ≡ any g l
unfolding any
any_same f g [] h = refl
any_same f g (x ∷ l) h = ap₂ ◌||◌ (h x (Memᴰ.head refl)) (any_same f g l (λ y m. h y (Memᴰ.tail m)))

any_index : {A : Type 0} (f : ℕ → Bool) (g : A → Bool) (xs : List A) (d : A) (a : ℕ) → ((i : ℕ) → i < length xs → f (a + i) ≡ g (get_or xs i d)) → any f (from a (length xs)) ≡ any g xs
unfolding any from
any_index f g [] d a h = refl
any_index f g (x ∷ xs) d a h =
    ap₂ ◌||◌ (ap f (sym (add-zero a)) ∙ h 0 (omega arith)) (any_index f g xs d (suc a) (λ i k. let e : suc a + i ≡ a + suc i = omega arith in ap f e ∙ h (suc i) (omega arith)))

-- all hold where not one does not
all_turned : (s : ℕ → Bool) (f : ℕ → ℕ) (a k j : ℕ) → all s (map f (from (a + j) k)) ≡ not (any (λ i. not (s (f (a + i)))) (from j k))
unfolding all any from
all_turned s f a zero j = refl
all_turned s f a (suc k) j =
    let e : suc (a + j) ≡ a + suc j = omega arith in
    ap₂ ◌&&◌ (twice (s (f (a + j)))) (ap (λ (m : ℕ). all s (map f (from m k))) e ∙ all_turned s f a k (suc j)) ∙ sym (not_or (not (s (f (a + j)))) (any (λ i. not (s (f (a + i)))) (from (suc j) k)))
  where
    twice : (b : Bool) → b ≡ not (not b)
    twice true = refl
    twice false = refl

module _ (p : Problem) (G : Good p) (F : List Tuple) (D : Decided) (s : State) (K : Knows p F D s) (v : ℕ) (l : v < length p.node_list) (later : (w row : ℕ) → v < w → D w row ≡ true)
    (w : List ℕ) (is : Is p w) (x : NodeLine) (line : x ≡ node_line w v) where
  begun : s 1 ≡ true
  unfolding atom_number says is_proof_atom IsAtom
  begun = K proof tt tt

  node : IsNode p w v (node_at p v) x
  node = subst (IsNode p w v (node_at p v)) (sym line) (is.node v l)

  -- ---- `exists`
  pub exists_true : x.kind ≡ 1 → (row : ℕ) → row < node_width p.size (node_at p v) → any (λ z. s (under_at (size_in w) w x row z)) (range_in w x) ≡ is_true_at p F (node_at p v) row
  unfolding is_true_at tree_holds node_width is_forall node_kind node_sort IsAction said need_numbers
  exists_true k row h = by_tree (node_at p v) refl (sym node.kind ∙ k) h
    where
      by_tree : (t : Tree) → node_at p v ≡ t → node_kind t ≡ 1 → row < node_width p.size t → any (λ z. s (under_at (size_in w) w x row z)) (range_in w x) ≡ is_true_at p F t row
      by_tree (leaf q r ls) e k h = absurd (omega arith)
      by_tree (forall_node d σ u) e k h = absurd (omega arith)
      by_tree (and_node ts) e k h = absurd (omega arith)
      by_tree (or_node ts) e k h = absurd (omega arith)
      by_tree (exists_node d σ u) e k h =
          let r : range_in w x ≡ p.range σ = node.range (omega (arith, ap node_kind e)) ∙ ap (λ (t : Tree). p.range (node_sort t)) e in
          ap (any (λ z. s (under_at (size_in w) w x row z))) r
          ∙ any_same (λ z. s (under_at (size_in w) w x row z)) (λ z. tree_holds p.source F (with_value (values_at p.size (exists_node d σ u) row) d z) u) (p.range σ)
          (λ z m. ap (λ (y : NodeLine). s (under_at (size_in w) w y row z)) line ∙ exists_under s (size_in w) w (node_line w v) row z (s (under_at (size_in w) w (node_line w v) row z)) begun refl
          ∙ may_is p w is s (prove_exists v row z) (l, subst (λ (t : Tree). row < rows_of p.size t) (sym e) h, (d, σ, u, e, m)) ∙ exists_may p G F D s K v l later row z d σ u e h m)
          ∙ ap (λ (R : ℕ → List ℕ). any (λ z. tree_holds p.source F (with_value (values_at p.size (exists_node d σ u) row) d z) u) (R σ)) G.ranges

  -- ---- `forall`: its atom at z
  pub forall_true : x.kind ≡ 0 → (row z : ℕ) → row < rows_of p.size (node_at p v) → z < p.size
      → (is_in z (range_in w x) && all (λ y. s (under_at p.size w x row y)) (up_to (range_in w x) z)) ≡ is_true_at p F (node_at p v) (row * p.size + z)
  unfolding is_true_at node_kind node_sort up_to
  forall_true k row z h b = by_tree (node_at p v) refl (sym node.kind ∙ k) h
    where
      by_tree : (t : Tree) → node_at p v ≡ t → node_kind t ≡ 0 → row < rows_of p.size t
          → (is_in z (range_in w x) && all (λ y. s (under_at p.size w x row y)) (up_to (range_in w x) z)) ≡ is_true_at p F t (row * p.size + z)
      by_tree (leaf q r ls) e k h = absurd (omega arith)
      by_tree (exists_node d σ u) e k h = absurd (omega arith)
      by_tree (and_node ts) e k h = absurd (omega arith)
      by_tree (or_node ts) e k h = absurd (omega arith)
      by_tree (forall_node d σ u) e k h =
          let r : range_in w x ≡ p.range σ = node.range (omega (arith, ap node_kind e)) ∙ ap (λ (t : Tree). p.range (node_sort t)) e in
          ap (λ (ms : List ℕ). is_in z ms && all (λ y. s (under_at p.size w x row y)) (up_to ms z)) r
          ∙ ap (λ (t : Bool). is_in z (p.range σ) && t)
          (all_same (λ y. s (under_at p.size w x row y)) (λ y. tree_holds p.source F (with_value (values_at p.size (forall_node d σ u) row) d y) u) (up_to (p.range σ) z)
          (λ y m. ap s (under_at_lem p w is v (node_at p v) x node (omega (arith, ap node_kind e)) row y) ∙ ap (λ (t : Tree). s (atom_number p (under_atom p.size p.range v t row y))) e
          ∙ under_may p G F D s K v l later row d σ u e y h (filter_mem (λ m. leb m z) (p.range σ) y m).0))
          ∙ sym (ap₂ (λ (a c : ℕ). is_in c (p.range σ) && all (λ y. tree_holds p.source F (with_value (values_at p.size (forall_node d σ u) a) d y) u) (up_to (p.range σ) c)) (digits_div row b) (digits_mod row b))

  -- ---- `and` and `or`
  abbrev part_holds : ℕ → ℕ → Bool
  part_holds row i = s (part_at w (row_values (size_in w) x row) (x.first + i))

  pub parts_true : 1 < x.kind → (flip : Bool) → flip ≡ eqb x.kind 2 → (row : ℕ) → row < node_width p.size (node_at p v)
      → turned flip (any (λ i. turned flip (s (part_at w (row_values (size_in w) x row) (x.first + i)))) (from zero x.many)) ≡ is_true_at p F (node_at p v) row
  unfolding is_true_at tree_holds node_width is_forall node_kind IsAction said need_numbers and_needs or_needs parts turned any from row_values
  parts_true k flip f row h = by_tree (node_at p v) refl (sym node.kind) h
    where
      by_tree : (t : Tree) → node_at p v ≡ t → node_kind t ≡ x.kind → row < node_width p.size t
          → turned flip (any (λ i. turned flip (s (part_at w (row_values (size_in w) x row) (x.first + i)))) (from zero x.many)) ≡ is_true_at p F t row
      by_tree (forall_node d σ u) e o h = absurd (omega arith)
      by_tree (exists_node d σ u) e o h = absurd (omega arith)
      by_tree (leaf q r ls) e o h =
          let m : x.many ≡ 0 = node.many ∙ ap (λ (t : Tree). length (parts v t)) e in
          rw (f, ne_eqb x.kind 2 (λ z. omega arith), m)
      by_tree (and_node ts) e o h =
          let a : all s (map (part_at w (row_values (size_in w) x row)) (from (x.first + 0) x.many)) ≡ is_true_at p F (and_node ts) row =
          ap (λ (i : ℕ). all s (map (part_at w (row_values (size_in w) x row)) (from i x.many))) (add-zero x.first)
          ∙ ap (λ (y : NodeLine). all s (map (part_at w (row_values (size_in w) y row)) (from y.first y.many))) line
          ∙ all_yes s 1 _ _ begun refl ∙ may_is p w is s (prove_and v row) (l, subst (λ (t : Tree). row < rows_of p.size t) (sym e) h, (ts, e)) ∙ and_may p G F D s K v l later row ts e h in
          rw (f, eq-eqb x.kind 2 (sym o)) (sym (all_turned s (part_at w (row_values (size_in w) x row)) x.first x.many 0) ∙ a)
      by_tree (or_node ts) e o h =
          let m : x.many ≡ length (parts v (or_node ts)) = node.many ∙ ap (λ (t : Tree). length (parts v t)) e in
          let c : length (parts v (or_node ts)) ≡ how_many ts = parts_length (suc v) ts in
          let d : Part = record { node = zero; tree = no_node } in
          rw (f, ne_eqb x.kind 2 (λ z. omega arith), m)
          (any_index (part_holds row) (λ (q : Part). tree_holds p.source F (values_at p.size (or_node ts) row) q.tree) (parts v (or_node ts)) d 0
          (λ i q. ap (λ (y : NodeLine). s (part_at w (row_values (size_in w) y row) (y.first + (0 + i)))) line ∙ one_part (0 + i) (l, subst (λ (t : Tree). row < rows_of p.size t) (sym e) h, (ts, e, omega (arith, c)))
          ∙ or_may p G F D s K v l later row (0 + i) ts d e h (omega (arith, c)) ∙ ap (λ (j : ℕ). tree_holds p.source F (values_at p.size (or_node ts) row) (get_or (parts v (or_node ts)) j d).tree) (zero-add i))
          ∙ sym (some_any p F ts (suc v) (values_at p.size (or_node ts) row)))
        where
          one_part : (i : ℕ) → IsAction p (prove_or v row i) → s (part_at w (row_values (size_in w) (node_line w v) row) ((node_line w v).first + i)) ≡ may_take p s (prove_or v row i)
          one_part i a = all_yes s 1 _ _ begun (all_one s _) ∙ may_is p w is s (prove_or v row i) a
