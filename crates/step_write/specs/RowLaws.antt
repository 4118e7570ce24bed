-- In a state that knows all nodes the number that is found for a true atom is its step's.
use Prim.Native.Nat.{ℕ, zero, suc, ◌+◌, ◌-◌, ◌*◌, ◌/◌, ◌%◌, ◌^◌, ◌<◌, ◌≤◌}
use Rattle.std.specs.Prelude.{◌≡◌, true, false, ◌&&◌, T, leb, get_or, set}
use Rattle.std.proofs.Math.Path.{refl, sym, ap, subst}
use Rattle.std.proofs.Common.{ap₂, subst₂, ◌∙◌, zero-add, zero-mul, le→leb, take-suc}
use Rattle.std.proofs.Math.Bool.{Bool}
use Rattle.std.proofs.Math.Option.{some}
use mathlib.Core.List.{List, [], ◌∷◌, ◌++◌, map, Memᴰ}
use native.Mathlib.Omega.{arith}
use Rattle.std.proofs.Math.Nat.{zero-div}
use Rattle.std.proofs.Math.Arith.{digits_div, digits_mod}
use Rattle.std.proofs.Math.ListN.{length, take}
use Rattle.std.proofs.Math.Seq.{take-length}
use Rattle.definitions.specs.Lists.{all, filter, from, rank}
use Rattle.definitions.specs.Sheet.Relations.{Tuple}
use Rattle.definitions.specs.Problem.Tree.{Tree, leaf, forall_node, exists_node, and_node, or_node, node_sort}
use Rattle.definitions.specs.Problem.Atoms.{Problem, State, node_at, node_width, rows_of, node_start, proof, holds_node, atom_number}
use Rattle.definitions.specs.Problem.Actions.{prove_forall, choices, proof_start, proof_number, range_at, action_number}
use Rattle.definitions.specs.Problem.Built.{is_true_at, step_for}
use Rattle.laws.specs.Booleans.{T_true}
use Rattle.laws.specs.Lists.{none_some, some_eq, get_or_mem, filter_mem, mem_filter, mem_map, map_mem, from_mem, mem_from}
use Rattle.laws.specs.Members.{IsRange, ascending_same, ascending_filter, ascending_from, ascending_map, ascending_once, rank_select, range_few}
use Rattle.laws.specs.Numbers.{IsAtom, IsAction, action_at_lem, action_below}
use Rattle.rule_nodes.specs.Tables.{node_kind}
use Rattle.meaning.specs.Means.{Good, forall_in}
use Rattle.meaning.specs.Deciding.{is_proof_atom, says}
use Rattle.meaning.specs.Planning.{nodes_from, when, step_now, step_now_lem}
use Rattle.problem_table.specs.Lines.{size_in, nodes_in, node_line, range_in}
use Rattle.problem_table.specs.Numbers.{need_numbers}
use Rattle.problem_table.specs.NeedLaws.{members_length, member_at}
use Rattle.problem_table.specs.Of.{Is, IsNode}
use Rattle.problem_table.specs.declared.NodeLine.{NodeLine}
use Rattle.step_prove.specs.TurnLaws.{whole_end}
use Rattle.step_prove.specs.Tries.{act_by, way_at, first_from, first_by, FlatAt}
use Rattle.step_prove.specs.TryLaws.{first_same, way_flat}
use Rattle.step_prove.specs.NeedLaws.{need_by_lem}
use Rattle.step_prove.specs.FollowLaws.{start_before, width_before}
use Rattle.step_prove.specs.RowLaws.{row_found, row_lost}
use Rattle.step_truth.specs.TurnLaws.{wide_forall, row_inside}
use Rattle.step_write.specs.Steps.{row_numbers, link_numbers, Wrote, Whole, Readable, Reading}
use Rattle.step_write.specs.StepLaws.{wrote_more, wrote_as, wrote_none, link_yes, link_no, rows_append, row_single, rows_more, rows_all}

pub whole_of : (q n : ℕ) → 0 < n → (q * n / n ≡ q) × Whole n (q * n)
whole_of q n o =
    let a : q * n ≡ q * n + 0 = omega arith in
    let e : q * n / n ≡ q = ap (λ (m : ℕ). m / n) a ∙ digits_div q o in
    (e, ap (λ (m : ℕ). m * n) (sym e))

-- ---- a `forall`: its choices, its step at an atom, and where it is true
chosen_of : (R : ℕ → List ℕ) (t : Tree) → node_kind t ≡ 0 → choices R t ≡ length (R (node_sort t))
unfolding node_kind choices node_sort
chosen_of R (leaf q r ls) k = absurd (omega arith)
chosen_of R (forall_node d σ u) k = refl
chosen_of R (exists_node d σ u) k = absurd (omega arith)
chosen_of R (and_node ts) k = absurd (omega arith)
chosen_of R (or_node ts) k = absurd (omega arith)

step_of : (p : Problem) (F : List Tuple) (v : ℕ) (t : Tree) → node_kind t ≡ 0 → (j : ℕ) → prove_forall v (j / p.size) (j % p.size) ≡ step_for p F v t j
unfolding node_kind step_for
step_of p F v (leaf q r ls) k j = absurd (omega arith)
step_of p F v (forall_node d σ u) k j = refl
step_of p F v (exists_node d σ u) k j = absurd (omega arith)
step_of p F v (and_node ts) k j = absurd (omega arith)
step_of p F v (or_node ts) k j = absurd (omega arith)

forall_inside : (p : Problem) (G : Good p) (F : List Tuple) (t : Tree) → node_kind t ≡ 0 → (y : ℕ) → T (is_true_at p F t y) → Memᴰ (y % p.size) (p.range (node_sort t))
unfolding node_kind node_sort
forall_inside p G F (leaf q r ls) k y h = absurd (omega arith)
forall_inside p G F (forall_node d σ u) k y h = forall_in p G F d σ u y h
forall_inside p G F (exists_node d σ u) k y h = absurd (omega arith)
forall_inside p G F (and_node ts) k y h = absurd (omega arith)
forall_inside p G F (or_node ts) k y h = absurd (omega arith)

module _ (p : Problem) (G : Good p) (F : List Tuple) (w : List ℕ) (v : ℕ) (x : NodeLine) (width : ℕ) (s : State) (R : Reading p G F w v x width s) where
  is : Is p w
  is = R.ready.is

  node : IsNode p w v (node_at p v) x
  node = subst (IsNode p w v (node_at p v)) (sym R.line) (is.node v R.here)

  decided : (u row : ℕ) → nodes_from p G F zero u row ≡ true
  decided u row = T_true (leb zero u) (le→leb zero u (omega arith))

  -- the bit of an atom is its truth
  pub bit_true : (j : ℕ) → j < width → s (x.atoms + j) ≡ is_true_at p F (node_at p v) j
  unfolding IsAtom is_proof_atom says atom_number
  bit_true j h =
      ap (λ (a : ℕ). s (a + j)) node.atoms ∙ R.ready.known (holds_node v j) (R.here, omega (arith, R.wide)) tt
      ∙ ap (λ (b : Bool). b && is_true_at p F (node_at p v) j) (decided v j)

  pub begun : s 1 ≡ true
  unfolding IsAtom is_proof_atom says atom_number
  begun = R.ready.known proof tt tt

  -- ---- rows of an `exists`, `and` or `or`
  module _ (j : ℕ) (h : j < width) (t : is_true_at p F (node_at p v) j ≡ true) (r : ℕ) (e : r ≡ first_by s (size_in w) w x j) where
    now : step_now p s v (node_at p v) j ≡ some (step_for p F v (node_at p v) j)
    unfolding when
    now = step_now_lem p G F (nodes_from p G F zero) s R.ready.known v R.here (λ u row l. decided u row) (node_at p v) refl j (omega (arith, R.wide)) (λ i l. decided v i)
        ∙ ap (λ (b : Bool). when b (step_for p F v (node_at p v) j)) t

    first : r ≡ first_from (λ i. all s (need_numbers w (act_by x.kind (range_in w x) v (way_at w x j).row ((way_at w x j).base + i)))) 0 (way_at w x j).tries
    first = e ∙ first_same _ (λ i. all s (need_numbers w (act_by x.kind (range_in w x) v (way_at w x j).row ((way_at w x j).base + i)))) (way_at w x j).tries 0
        (λ i q. ap (all s) (sym (need_by_lem w v x (way_at w x j).row ((way_at w x j).base + (0 + i)) R.line)))

    inside : j < node_width p.size (node_at p v)
    inside = omega (arith, R.wide)

    pub flat_found : (tries : ℕ) → (tries ≡ (way_at w x j).tries) × (tries ≡ (way_at w x j).choices) → FlatAt (way_at w x j) j → tries ≤ r → ⊥
    flat_found tries et flat l = none_some (sym (row_lost p w is v R.here j s inside x (way_at w x j) R.line refl r first (omega (arith, et.0))) ∙ now)

    pub flat_number : (tries : ℕ) → (tries ≡ (way_at w x j).tries) × (tries ≡ (way_at w x j).choices) → FlatAt (way_at w x j) j → r < tries → (x.acts + j * tries + r ≡ action_number p (step_for p F v (node_at p v) j)) × (x.acts + j * tries + r < 2 ^ 32)
    flat_number tries et flat l =
        let q = row_found p w is v R.here j s inside x (way_at w x j) R.line refl r first (omega (arith, et.0)) in
        let a : x.acts + (way_at w x j).row * (way_at w x j).choices + ((way_at w x j).base + r) ≡ x.acts + j * tries + r =
        ap₂ (λ (i c : ℕ). x.acts + i * c + ((way_at w x j).base + r)) flat.row (sym et.1) ∙ ap (λ (z : ℕ). x.acts + j * tries + z) (ap (λ (z : ℕ). z + r) flat.base ∙ zero-add r) in
        let m = action_below p (action_number p q.action) q.action (action_at_lem p q.action q.valid) in
        (sym a ∙ q.number ∙ ap (action_number p) (some_eq (sym q.step ∙ now)), omega (arith, q.number, a, m, R.ready.few))

  -- one row
  row_written : (j k : ℕ) → (is_true_at p F (node_at p v) j ≡ true → k ≡ action_number p (step_for p F v (node_at p v) j)) → (t : Bool) → t ≡ is_true_at p F (node_at p v) j → (b b' : List ℕ) (at at' : ℕ)
      → Wrote b at (link_numbers t k) b' at' → Wrote b at (row_numbers p F v (from j 1)) b' at'
  unfolding from
  row_written j k f t e b b' at at' W = wrote_as b b' at at' (link_numbers t k) (row_numbers p F v (j ∷ [])) (row_single p F v j k t e f) W

  pub row_no : (j : ℕ) → j < width → s (x.atoms + j) ≡ false → (b : List ℕ) (at : ℕ) → Wrote b at (row_numbers p F v (from j 1)) b at
  row_no j h e b at =
      let q = sym (bit_true j h) ∙ e in
      row_written j 0 (λ t. absurd (subst T (sym t ∙ q) tt)) false (sym q) b b at at (link_no b at 0 false refl)

  -- rows whose atoms are false
  none_written : (start n row : ℕ) → start ≤ row → row + n ≤ width → ((i : ℕ) → row ≤ i → i < row + n → s (x.atoms + i) ≡ false) → (b b' : List ℕ) (at at' : ℕ)
      → Wrote b at (row_numbers p F v (from start (row - start))) b' at' → Wrote b at (row_numbers p F v (from start (row + n - start))) b' at'
  none_written start zero row l h none b b' at at' W = rows_all p F v start b b' at at' row (row + 0) (omega arith) W
  none_written start (suc n) row l h none b b' at at' W =
      let one = rows_more p F v start row 1 l b b' b' at at' at' W (row_no row (omega arith) (none row (omega arith) (omega arith)) b' at') in
      rows_all p F v start b b' at at' (row + 1 + n) (row + suc n) (omega arith) (none_written start n (row + 1) (omega arith) (omega arith) (λ i l u. none i (omega arith) (omega arith)) b b' at at' one)

  pub rows_passed : (start row next : ℕ) → start ≤ row → row ≤ next → next ≤ width → ((i : ℕ) → row ≤ i → i < next → s (x.atoms + i) ≡ false) → (b b' : List ℕ) (at at' : ℕ)
      → Wrote b at (row_numbers p F v (from start (row - start))) b' at' → Wrote b at (row_numbers p F v (from start (next - start))) b' at'
  rows_passed start row next o l h none b b' at at' W =
      rows_all p F v start b b' at at' (row + (next - row)) next (omega arith) (none_written start (next - row) row o (omega arith) (λ i a u. none i a (omega arith)) b b' at at' W)

  module _ (j : ℕ) (h : j < width) (e : s (x.atoms + j) ≡ true) (r : ℕ) (f : r ≡ first_by s (size_in w) w x j) (tries : ℕ) (et : (tries ≡ (way_at w x j).tries) × (tries ≡ (way_at w x j).choices)) (kind : 0 < x.kind) where
    flat : FlatAt (way_at w x j) j
    flat = way_flat (size_in w) x.kind x.many (range_in w x) j kind

    pub row_yes : r < tries → (b b' : List ℕ) (at : ℕ) → (x.acts + j * tries + r < 2 ^ 32 → b' ≡ set b at (x.acts + j * tries + r)) → Wrote b at (row_numbers p F v (from j 1)) b' (at + 1)
    row_yes l b b' at g =
        let q = sym (bit_true j h) ∙ e in
        let N = flat_number j h q r f tries et flat l in
        row_written j (x.acts + j * tries + r) (λ t. N.0) true (sym q) b b' at (at + 1) (link_yes b b' at (x.acts + j * tries + r) true refl (g N.1))

    pub row_never : tries ≤ r → ⊥
    row_never l = flat_found j h (sym (bit_true j h) ∙ e) r f tries et flat l

  -- ---- a `forall` has no more members than elements, and its rows end with its atoms
  pub chain_few : x.kind ≡ 0 → x.count ≤ size_in w
  chain_few kind =
      let k : node_kind (node_at p v) ≡ 0 = sym node.kind ∙ kind in
      omega (arith, members_length w x.range x.count, range_few (size_in w) (range_in w x) (subst₂ IsRange (sym is.size) (sym (node.range (omega (arith, k)))) (is.ranges (node_sort (node_at p v)))))

  pub chain_end : (j q end : ℕ) → j ≡ q * size_in w → Whole (size_in w) end → j ≤ end → end < j + size_in w → j ≡ end
  chain_end j q end ej whole l h =
      let u = whole_end q (end / size_in w) (size_in w) (omega arith) in
      omega arith

  -- all atoms of a `forall` are whole rows
  pub chain_whole : x.kind ≡ 0 → Whole (size_in w) 0 × Whole (size_in w) width
  chain_whole kind =
      let e : width ≡ rows_of p.size (node_at p v) * size_in w = R.wide ∙ wide_forall p.size (node_at p v) (sym node.kind ∙ kind) ∙ ap (λ (m : ℕ). rows_of p.size (node_at p v) * m) (sym is.size) in
      (sym (ap (λ (m : ℕ). m * size_in w) (zero-div (size_in w)) ∙ zero-mul (size_in w)), subst (Whole (size_in w)) (sym e) (whole_of (rows_of p.size (node_at p v)) (size_in w) (omega (arith, is.size, is.element))).1)

  -- ---- the row of a `forall`
  module _ (kind : x.kind ≡ 0) (row j action n : ℕ) (en : n ≡ size_in w) (ej : j ≡ row * n) (ea : action ≡ x.acts + row * x.count) (h : j + n ≤ width) where
    kind_is : node_kind (node_at p v) ≡ 0
    kind_is = sym node.kind ∙ kind

    range_at_lem : range_in w x ≡ p.range (node_sort (node_at p v))
    range_at_lem = node.range (omega (arith, kind_is))

    size : n ≡ p.size
    size = en ∙ is.size

    range : IsRange n (range_in w x)
    range = subst₂ IsRange (sym size) (sym range_at_lem) (is.ranges (node_sort (node_at p v)))

    counted : length (range_in w x) ≡ x.count
    counted = members_length w x.range x.count

    row_in : row < rows_of p.size (node_at p v)
    row_in =
        let o : 0 < n = omega (arith, size, is.element) in
        let e : width ≡ rows_of p.size (node_at p v) * n = R.wide ∙ wide_forall p.size (node_at p v) kind_is ∙ ap (λ (m : ℕ). rows_of p.size (node_at p v) * m) (sym size) in
        row_inside row (rows_of p.size (node_at p v)) n o (omega arith)

    -- the step of its i-th member
    module _ (i : ℕ) (l : i < x.count) where
      abbrev z : ℕ
      z = get_or (range_in w x) i 0

      listed : i < length (range_in w x)
      listed = omega (arith, counted)

      member : Memᴰ (get_or (range_in w x) i 0) (range_in w x)
      member = get_or_mem (range_in w x) i 0 listed

      low : get_or (range_in w x) i 0 < p.size
      low = rw (sym size) (range.small (get_or (range_in w x) i 0) member)

      base : action + i ≡ action_number p (prove_forall v row (get_or (range_in w x) i 0))
      unfolding action_number proof_number range_at
      base =
          let r : rank (p.range (node_sort (node_at p v))) (get_or (range_in w x) i 0) ≡ i = ap (λ (m : List ℕ). rank m (get_or (range_in w x) i 0)) (sym range_at_lem) ∙ rank_select (range_in w x) i (ascending_once (range_in w x) range.ascends) listed in
          let c : choices p.range (node_at p v) ≡ x.count = chosen_of p.range (node_at p v) kind_is ∙ ap length (sym range_at_lem) ∙ counted in
          let a : x.acts ≡ proof_start p v = ap (λ (y : NodeLine). y.acts) R.line ∙ is.acts v (omega (arith, R.here)) in
          sum a ∙ sym (ap₂ (λ (m y : ℕ). proof_start p v + row * m + y) c r)
        where
          sum : x.acts ≡ proof_start p v → action + i ≡ proof_start p v + row * x.count + i
          sum a = omega arith

      as_forall : (t : Tree) → node_at p v ≡ t → node_kind t ≡ 0 → (d : ℕ) × (σ : ℕ) × (u : Tree) × (node_at p v ≡ forall_node d σ u) × Memᴰ (get_or (range_in w x) i 0) (p.range σ)
      unfolding node_kind node_sort
      as_forall (leaf q r ls) e k = absurd (omega arith)
      as_forall (exists_node d σ u) e k = absurd (omega arith)
      as_forall (and_node ts) e k = absurd (omega arith)
      as_forall (or_node ts) e k = absurd (omega arith)
      as_forall (forall_node d σ u) e k = (d, σ, u, e, subst (Memᴰ (get_or (range_in w x) i 0)) (range_at_lem ∙ ap (λ (t : Tree). p.range (node_sort t)) e) member)

      pub fits : action + i < 2 ^ 32
      unfolding IsAction
      fits =
          let m = action_below p (action_number p (prove_forall v row (get_or (range_in w x) i 0))) (prove_forall v row (get_or (range_in w x) i 0)) (action_at_lem p (prove_forall v row (get_or (range_in w x) i 0)) (R.here, row_in, as_forall (node_at p v) refl kind_is)) in
          omega (arith, base, m, R.ready.few)

      number : action + i ≡ action_number p (step_for p F v (node_at p v) (j + get_or (range_in w x) i 0))
      number = base ∙ by_tree (node_at p v) kind_is
        where
          place : j + get_or (range_in w x) i 0 ≡ row * p.size + get_or (range_in w x) i 0
          place = ap (λ (a : ℕ). a + get_or (range_in w x) i 0) (ej ∙ ap (◌*◌ row) size)

          by_tree : (t : Tree) → node_kind t ≡ 0 → action_number p (prove_forall v row (get_or (range_in w x) i 0)) ≡ action_number p (step_for p F v t (j + get_or (range_in w x) i 0))
          by_tree t k = ap (action_number p) (ap₂ (prove_forall v) (sym (ap (λ (y : ℕ). y / p.size) place ∙ digits_div row low)) (sym (ap (λ (y : ℕ). y % p.size) place ∙ digits_mod row low)) ∙ step_of p F v t k (j + get_or (range_in w x) i 0))

    -- the first i members
    abbrev first_of : ℕ → List ℕ
    first_of i = map (λ z. j + z) (take i (range_in w x))

    pub links_none : (b : List ℕ) (at : ℕ) → Wrote b at (row_numbers p F v (map (λ z. j + z) (take 0 (range_in w x)))) b at
    unfolding row_numbers filter
    links_none b at = wrote_none b at

    pub links_more : (i : ℕ) → i < x.count → (b b₁ b₂ : List ℕ) (at at₁ at₂ : ℕ) → Wrote b at (row_numbers p F v (map (λ z. j + z) (take i (range_in w x)))) b₁ at₁
        → (action + i < 2 ^ 32 → Wrote b₁ at₁ (link_numbers (s (x.atoms + (j + get_or w (x.range + i) 0))) (action + i)) b₂ at₂) → Wrote b at (row_numbers p F v (map (λ z. j + z) (take (i + 1) (range_in w x)))) b₂ at₂
    links_more i l b b₁ b₂ at at₁ at₂ W f =
        wrote_as b b₂ at at₂ (row_numbers p F v (first_of i) ++ row_numbers p F v ((j + get_or (range_in w x) i 0) ∷ [])) (row_numbers p F v (first_of (i + 1))) grown
        (wrote_more b b₁ b₂ at at₁ at₂ (row_numbers p F v (first_of i)) (row_numbers p F v ((j + get_or (range_in w x) i 0) ∷ [])) W
        (wrote_as b₁ b₂ at₁ at₂ (link_numbers (s (x.atoms + (j + get_or w (x.range + i) 0))) (action + i)) (row_numbers p F v ((j + get_or (range_in w x) i 0) ∷ []))
        (row_single p F v (j + get_or (range_in w x) i 0) (action + i) (s (x.atoms + (j + get_or w (x.range + i) 0))) truth (λ q. number i l)) (f (fits i l))))
      where
        truth : s (x.atoms + (j + get_or w (x.range + i) 0)) ≡ is_true_at p F (node_at p v) (j + get_or (range_in w x) i 0)
        truth = ap (λ (y : ℕ). s (x.atoms + (j + y))) (sym (member_at w x.range x.count i l)) ∙ bit_true (j + get_or (range_in w x) i 0) (omega (arith, low i l, size))

        map_snoc : (m : List ℕ) (y : ℕ) → map (λ z. j + z) (m ++ (y ∷ [])) ≡ map (λ z. j + z) m ++ ((j + y) ∷ [])
        map_snoc [] y = refl
        map_snoc (a ∷ m) y = ap (λ (r : List ℕ). (j + a) ∷ r) (map_snoc m y)

        grown : row_numbers p F v (first_of i) ++ row_numbers p F v ((j + get_or (range_in w x) i 0) ∷ []) ≡ row_numbers p F v (first_of (i + 1))
        grown =
            let e : i + 1 ≡ suc i = omega arith in
            sym (rows_append p F v (first_of i) ((j + get_or (range_in w x) i 0) ∷ []))
            ∙ ap (row_numbers p F v) (sym (map_snoc (take i (range_in w x)) (get_or (range_in w x) i 0)) ∙ ap (map (λ z. j + z)) (sym (take-suc (range_in w x) i 0 (listed i l))) ∙ ap first_of (sym e))

    -- all of them: no other element of the row has a true atom
    pub links_all : (i : ℕ) → i ≡ x.count → (b b' : List ℕ) (at at' : ℕ) → Wrote b at (row_numbers p F v (map (λ z. j + z) (take i (range_in w x)))) b' at' → Wrote b at (row_numbers p F v (from j n)) b' at'
    unfolding row_numbers
    links_all i e b b' at at' W =
        wrote_as b b' at at' (row_numbers p F v (first_of i)) (row_numbers p F v (from j n))
        (ap (map (λ y. action_number p (step_for p F v (node_at p v) y)))
        (ap (λ (m : List ℕ). filter T? (map (λ z. j + z) m)) (ap (λ (k : ℕ). take k (range_in w x)) (e ∙ sym counted) ∙ take-length (range_in w x))
        ∙ ascending_same (filter T? (map (λ z. j + z) (range_in w x))) (filter T? (from j n))
        (ascending_filter T? (map (λ z. j + z) (range_in w x)) (ascending_map (λ z. j + z) (range_in w x) range.ascends (λ a c m q h. omega arith)))
        (ascending_filter T? (from j n) (ascending_from n j)) there back)) W
      where
        T? : ℕ → Bool
        T? = is_true_at p F (node_at p v)

        there : (y : ℕ) → Memᴰ y (filter T? (map (λ z. j + z) (range_in w x))) → Memᴰ y (filter T? (from j n))
        there y m =
            let q = filter_mem T? (map (λ z. j + z) (range_in w x)) y m in
            let a = map_mem (λ z. j + z) (range_in w x) y q.0 in
            let h = range.small a.0 a.1 in
            mem_filter T? (from j n) y (mem_from n j y (omega (arith, a.2)) (omega (arith, a.2, h))) q.1

        back : (y : ℕ) → Memᴰ y (filter T? (from j n)) → Memᴰ y (filter T? (map (λ z. j + z) (range_in w x)))
        back y m =
            let q = filter_mem T? (from j n) y m in
            let a = from_mem n j y q.0 in
            let e : j + (y - j) ≡ y = omega (arith, a.0) in
            let o : y ≡ row * p.size + (y - j) = sym e ∙ ap (λ (k : ℕ). k + (y - j)) (ej ∙ ap (◌*◌ row) size) in
            let d : y % p.size ≡ y - j = ap (λ (k : ℕ). k % p.size) o ∙ digits_mod row (omega (arith, a.0, a.1, size)) in
            let c : Memᴰ (y - j) (range_in w x) = subst₂ Memᴰ d (sym range_at_lem) (forall_inside p G F (node_at p v) kind_is y q.1) in
            mem_filter T? (map (λ z. j + z) (range_in w x)) y (subst (λ (k : ℕ). Memᴰ k (map (λ z. j + z) (range_in w x))) e (mem_map (λ z. j + z) (range_in w x) (y - j) c)) q.1

pub read_as : {p : Problem} {G : Good p} {F : List Tuple} {w : List ℕ} {v width : ℕ} {x y : NodeLine} {s : State} → x ≡ y → Reading p G F w v y width s → Reading p G F w v x width s
read_as e R = rw e R

-- the node before v
pub read_before : (p : Problem) (G : Good p) (F : List Tuple) (w : List ℕ) (v end width : ℕ) (x : NodeLine) (s : State) → Readable p G F w s → x ≡ node_line w (v - 1) → 0 < v → v ≤ length p.node_list → end ≡ node_start p v
    → width ≡ end - x.atoms → (x.atoms ≡ node_start p (v - 1)) × Reading p G F w (v - 1) (node_line w (v - 1)) width s
read_before p G F w v end width x s R e o h a g =
    let l : v ≤ nodes_in w = omega (arith, R.is.nodes) in
    (start_before p w R.is v x e o l, record { ready = R; here = omega arith; line = refl; wide = width_before p w R.is v end x e o l a width g })
