-- The turns of the loops that fill a node: the word that is written says of each row that it stands for what its atom means.
use Rattle.std.specs.Prelude.{ℕ, zero, suc, ◌+◌, ◌-◌, ◌*◌, ◌/◌, ◌^◌, ◌<◌, ◌≤◌, Bool, ◌&&◌, eqb, leb, ltb, length, get_or, take, if◌then◌else◌}
use Rattle.std.proofs.Math.Path.{◌≡◌, refl, sym, ap, fun_ext}
use Rattle.std.proofs.Common.{ap₂, subst, ◌∙◌, arith, add-zero, mul-le-mul, pow-suc, lt→ltb, ltb-true, ltb-false}
use Rattle.std.proofs.Math.Bool.{true, false}
use mathlib.Core.List.{List, Memᴰ}
use Rattle.std.proofs.Math.Nat.{pow-zero, mul-le-mul_right, add-mul, one-mul, le-div_iff_mul-le, div-mul-le_self, mod-eq-sub-div-mul, mod-lt}
use Rattle.definitions.specs.Lists.{all, any, from, is_in, up_to}
use Rattle.definitions.specs.Sheet.Relations.{Tuple}
use Rattle.definitions.specs.Problem.Tree.{Tree, leaf, forall_node, exists_node, and_node, or_node, is_forall, free, node_sort}
use Rattle.definitions.specs.Problem.Atoms.{Problem, node_at, rows_of, node_width, node_start, places_of, State}
use Rattle.definitions.specs.Problem.Actions.{Values, values_in, with_value}
use Rattle.definitions.specs.Problem.Built.{is_true_at}
use Rattle.laws.specs.Booleans.{T_true, or_l}
use Rattle.laws.specs.Lists.{filter_mem}
use Rattle.laws.specs.Numbers.{node_below}
use Rattle.rule_nodes.specs.Tables.{node_kind}
use Rattle.rows.specs.Values.{value_in}
use Rattle.bits.specs.Table.{digit, bit, turned, paste}
use Rattle.problem_table.specs.Lines.{node_place, size_in, nodes_in, node_line, part_at, range_in, Fits}
use Rattle.problem_table.specs.Numbers.{row_values, under_at}
use Rattle.problem_table.specs.Of.{Is, IsNode}
use Rattle.problem_table.specs.declared.NodeLine.{NodeLine}
use Rattle.meaning.specs.Means.{Good}
use Rattle.meaning.specs.Deciding.{Knows, all_same}
use Rattle.meaning.specs.Planning.{rows_to, nodes_from, node_known, known_node}
use Rattle.step_prove.specs.TurnLaws.{whole_end}
use Rattle.step_prove.specs.FollowLaws.{start_before, width_before}
use Rattle.step_truth.specs.Nodes.{Fillable, Filling, Knowing, NodeFilled, IsWord}
use Rattle.step_truth.specs.LaneLaws.{lane_row}
use Rattle.step_truth.specs.TruthLaws.{any_same, exists_true, forall_true, parts_true}
use Rattle.step_truth.specs.FillLaws.{rows_known, rows_kept}

-- ---- so many rows of n fit a width
pub whole_row : (n width row : ℕ) → row < width / n → row * n + n ≤ width
whole_row n width row h =
    let next : row + 1 ≤ width / n = omega arith in
    let q : (row + 1) * n ≤ width / n * n = mul-le-mul_right n next in
    omega (arith, q, add-mul row 1 n, one-mul n, div-mul-le_self width n)

pub div_mono : (a b n : ℕ) → 0 < n → a ≤ b → a / n ≤ b / n
div_mono a b n o h = (le-div_iff_mul-le o).1 (omega (arith, div-mul-le_self a n))

pub whole_rows : (n width row : ℕ) → 0 < n → row ≡ width / n → (row * n ≤ width) × (width < row * n + n)
whole_rows n width row o e = rw e (div-mul-le_self width n, omega (arith, mod-eq-sub-div-mul width n, mod-lt width o))

-- ---- how many atoms a node has
pub wide_forall : (n : ℕ) (t : Tree) → node_kind t ≡ 0 → node_width n t ≡ rows_of n t * n
unfolding node_kind node_width is_forall
wide_forall n (forall_node d σ t) e = refl
wide_forall n (exists_node d σ t) e = absurd (omega arith)
wide_forall n (and_node ts) e = absurd (omega arith)
wide_forall n (or_node ts) e = absurd (omega arith)
wide_forall n (leaf q r ls) e = absurd (omega arith)

wide_other : (n : ℕ) (t : Tree) → 0 < node_kind t → node_width n t ≡ n ^ length (free t)
unfolding node_kind node_width is_forall rows_of
wide_other n (forall_node d σ t) h = absurd (omega arith)
wide_other n (exists_node d σ t) h = refl
wide_other n (and_node ts) h = refl
wide_other n (or_node ts) h = refl
wide_other n (leaf q r ls) h = refl

-- a row that ends within so many rows of n is one of them
pub row_inside : (q m n : ℕ) → 0 < n → q * n + n ≤ m * n → q < m
row_inside q m n o h = by_test (ltb q m) refl
  where
    by_test : (b : Bool) → ltb q m ≡ b → q < m
    by_test true e = ltb-true q m e
    by_test false e = let l = ltb-false q m e in let r : n ≤ n = omega arith in absurd (omega (arith, mul-le-mul l r))

module _ (p : Problem) (G : Good p) (F : List Tuple) (w : List ℕ) (k v : ℕ) (x : NodeLine) (width : ℕ) (N : Filling p w k v x width) where
  is : Is p w
  is = N.ready.is

  node : IsNode p w v (node_at p v) x
  node = subst (IsNode p w v (node_at p v)) (sym N.line) (is.node v N.here)

  -- the atoms are bits of the state
  fits : (j m : ℕ) → 0 < m → j + m ≤ width → x.atoms + j + m ≤ 64 * k
  fits j m o h = let b = node_below p v (j + m - 1) N.here (omega (arith, N.wide)) in omega (arith, node.atoms, N.ready.room)

  later : (j : ℕ) → (u row : ℕ) → v < u → rows_to p G F v j u row ≡ true
  later j u row h = T_true (rows_to p G F v j u row) (or_l (ltb v u) _ (lt→ltb v u h))

  small : node_kind (node_at p v) < 2 → (m : ℕ) → Memᴰ m (range_in w x) → m < size_in w
  small h m i = rw is.size ((is.ranges (node_sort (node_at p v))).small m (subst (Memᴰ m) (node.range h) i))

  module _ (s s' : State) where
    written : (j m own : ℕ) → 0 < m → j + m ≤ width → Knows p F (rows_to p G F v j) s → ((y : ℕ) → y < m → digit own y ≡ is_true_at p F (node_at p v) (j + y))
        → (x.atoms + j + m ≤ 64 * k → s' ≡ paste s (x.atoms + j) (digit own) 0 m) → Knowing p G F (rows_to p G F v (j + m)) s s'
    written j m own o h K means stored =
        let e = stored (fits j m o h) ∙ ap (λ (a : ℕ). paste s (a + j) (digit own) 0 m) node.atoms in
        (rows_known p G F v N.here j m (omega (arith, N.wide)) s s' (digit own) K means e, rows_kept p G F v N.here j m (omega (arith, N.wide)) s s' (digit own) e)

    -- ---- quantifiers: the part along the elements
    module _ (n : ℕ) (en : n ≡ size_in w) (some : 0 < n) (few : n ≤ 64) (members word start stride : ℕ) (mem : (i : ℕ) → i < 64 → digit members i ≡ is_in i (range_in w x))
        (win : (y : ℕ) → y < n → digit word y ≡ s (start + y * stride)) (row : ℕ) (under : (y : ℕ) → under_at (size_in w) w x row y ≡ start + y * stride) where
      seen : (y : ℕ) → y < n → digit word y ≡ s (under_at (size_in w) w x row y)
      seen y h = win y h ∙ ap s (sym (under y))

      word_is : node_kind (node_at p v) < 2 → IsWord members (range_in w x)
      word_is h = (mem, λ m i. omega (arith, small h m i))

      pub chain_turn : (j own : ℕ) → x.kind ≡ 0 → j ≡ row * n → j + n ≤ width → ((ms : List ℕ) → IsWord members ms → (z : ℕ) → z < 64 → digit own z ≡ (is_in z ms && all (digit word) (up_to ms z)))
          → (x.atoms + j + n ≤ 64 * k → s' ≡ paste s (x.atoms + j) (digit own) 0 n) → Knows p F (rows_to p G F v j) s → Knowing p G F (rows_to p G F v (j + n)) s s'
      unfolding up_to
      chain_turn j own kind ej h chained stored K = written j n own some h K means stored
        where
          kind_is : node_kind (node_at p v) ≡ 0
          kind_is = sym node.kind ∙ kind

          size : n ≡ p.size
          size = en ∙ is.size

          inside : row < rows_of p.size (node_at p v)
          inside = let e : width ≡ rows_of p.size (node_at p v) * n = N.wide ∙ wide_forall p.size (node_at p v) kind_is ∙ ap (λ (m : ℕ). rows_of p.size (node_at p v) * m) (sym size) in
              row_inside row (rows_of p.size (node_at p v)) n some (omega arith)

          means : (y : ℕ) → y < n → digit own y ≡ is_true_at p F (node_at p v) (j + y)
          means y l =
              chained (range_in w x) (word_is (omega (arith, kind_is))) y (omega arith)
              ∙ ap (λ (t : Bool). is_in y (range_in w x) && t)
              (all_same (digit word) (λ z. s (under_at p.size w x row z)) (up_to (range_in w x) y)
              (λ z m. seen z (omega (arith, en, small (omega (arith, kind_is)) z (filter_mem (λ i. leb i y) (range_in w x) z m).0)) ∙ ap (λ (i : ℕ). s (under_at i w x row z)) is.size))
              ∙ forall_true p G F (rows_to p G F v j) s K v N.here (later j) w is x N.line kind row y inside (omega (arith, size))
              ∙ ap (λ (i : ℕ). is_true_at p F (node_at p v) (i + y)) (sym (ej ∙ ap (◌*◌ row) size))

      pub meet_turn : (own : ℕ) → x.kind ≡ 1 → row < width → ((ms : List ℕ) → IsWord members ms → digit own 0 ≡ any (digit word) ms)
          → (x.atoms + row + 1 ≤ 64 * k → s' ≡ paste s (x.atoms + row) (digit own) 0 1) → Knows p F (rows_to p G F v row) s → Knowing p G F (rows_to p G F v (row + 1)) s s'
      meet_turn own kind h met stored K = written row 1 own (omega arith) (omega arith) K means stored
        where
          kind_is : node_kind (node_at p v) ≡ 1
          kind_is = sym node.kind ∙ kind

          truth : digit own 0 ≡ is_true_at p F (node_at p v) row
          truth =
              met (range_in w x) (word_is (omega (arith, kind_is)))
              ∙ any_same (digit word) (λ z. s (under_at (size_in w) w x row z)) (range_in w x) (λ z m. seen z (omega (arith, en, small (omega (arith, kind_is)) z m)))
              ∙ exists_true p G F (rows_to p G F v row) s K v N.here (later row) w is x N.line kind row (omega (arith, N.wide))

          means : (y : ℕ) → y < 1 → digit own y ≡ is_true_at p F (node_at p v) (row + y)
          means y l =
              let z : y ≡ 0 = omega arith in
              ap (digit own) z ∙ truth ∙ ap (is_true_at p F (node_at p v)) (sym (ap (◌+◌ row) z ∙ add-zero row))

    -- ---- `and` and `or`: the parts along the innermost free variable
    module _ (flip : Bool) (ef : flip ≡ eqb x.kind 2) (kind : 1 < x.kind) where
      abbrev parted : Values → Bool
      parted e = turned flip (any (λ i. turned flip (s (part_at w e (x.first + i)))) (from zero x.many))

      pub part_turn : (n : ℕ) → n ≡ size_in w → 0 < n → (q j own level : ℕ) (env : List ℕ) → 0 < x.width → level ≡ get_or x.levels (x.width - 1) 0 → j ≡ q * n → j + n ≤ width
          → value_in env ≡ row_values n x j → ((y : ℕ) → y < n → digit own y ≡ turned flip (any (λ i. turned flip (s (part_at w (with_value (value_in env) level y) (x.first + i)))) (from zero x.many)))
          → (x.atoms + j + n ≤ 64 * k → s' ≡ paste s (x.atoms + j) (digit own) 0 n) → Knows p F (rows_to p G F v j) s → Knowing p G F (rows_to p G F v (j + n)) s s'
      part_turn n en some q j own level env wide el ej h ev told stored K = written j n own some h K means stored
        where
          lanes : (y : ℕ) → y < n → with_value (value_in env) level y ≡ row_values (size_in w) x (j + y)
          lanes y l =
              ap₂ (λ (e : Values) (d : ℕ). with_value e d y) (ev ∙ ap (row_values n x) ej) el ∙ lane_row p w v (node_at p v) x node wide n q y l
              ∙ ap₂ (λ (m i : ℕ). row_values m x (i + y)) en (sym ej)

          means : (y : ℕ) → y < n → digit own y ≡ is_true_at p F (node_at p v) (j + y)
          means y l = told y l ∙ ap parted (lanes y l) ∙ parts_true p G F (rows_to p G F v j) s K v N.here (later j) w is x N.line kind flip ef (j + y) (omega (arith, N.wide))

      pub alone_turn : (own : ℕ) (env : List ℕ) → x.width ≡ 0 → width ≡ 1 → value_in env ≡ (λ _. 0)
          → ((y : ℕ) → y < 1 → digit own y ≡ turned flip (any (λ i. turned flip (s (part_at w (with_value (value_in env) 0 y) (x.first + i)))) (from zero x.many)))
          → (x.atoms + 1 ≤ 64 * k → s' ≡ paste s x.atoms (digit own) 0 1) → Knows p F (rows_to p G F v 0) s → Knowing p G F (rows_to p G F v 1) s s'
      unfolding row_values with_value values_in
      alone_turn own env narrow one ev told stored K =
          written 0 1 own (omega arith) (omega arith) K means (λ h. stored (omega arith) ∙ ap (λ (a : ℕ). paste s a (digit own) 0 1) (sym (add-zero x.atoms)))
        where
          zeros : (l : ℕ) → with_value (λ _. 0) 0 0 l ≡ 0
          zeros l = by_test (eqb l 0)
            where
              by_test : (b : Bool) → ◌≡◌ {A = ℕ} (if b then 0 else 0) 0
              by_test true = refl
              by_test false = refl

          nothing : row_values (size_in w) x 0 ≡ (λ _. 0)
          nothing = ap (λ (i : ℕ). values_in (take i x.levels) (places_of (size_in w) i 0)) narrow ∙ fun_ext (none (take 0 x.levels) refl)
            where
              none : (ls : List ℕ) → take 0 x.levels ≡ ls → (l : ℕ) → values_in (take 0 x.levels) (places_of (size_in w) 0 0) l ≡ 0
              none ls e l = refl

          means : (y : ℕ) → y < 1 → digit own y ≡ is_true_at p F (node_at p v) (0 + y)
          means y l =
              let z : y ≡ 0 = omega arith in
              let e : 0 + y ≡ 0 = omega arith in
              told y l ∙ ap (λ (i : ℕ). parted (with_value (value_in env) 0 i)) z ∙ ap (λ (e : Values). parted (with_value e 0 0)) ev ∙ ap parted (fun_ext zeros ∙ sym nothing)
              ∙ parts_true p G F (rows_to p G F v 0) s K v N.here (later 0) w is x N.line kind flip ef 0 (omega (arith, N.wide)) ∙ ap (is_true_at p F (node_at p v)) (sym e)

  -- ---- where the rows end
  pub chains_end : x.kind ≡ 0 → (j q n : ℕ) → n ≡ size_in w → 0 < n → j ≡ q * n → j ≤ width → width < j + n → j ≡ width
  chains_end kind j q n en some ej l h =
      let e : width ≡ rows_of p.size (node_at p v) * n = N.wide ∙ wide_forall p.size (node_at p v) (sym node.kind ∙ kind) ∙ ap (λ (m : ℕ). rows_of p.size (node_at p v) * m) (sym (en ∙ is.size)) in
      whole (rows_of p.size (node_at p v)) e
    where
      whole : (m : ℕ) → width ≡ m * n → j ≡ width
      whole m e = let u = whole_end q m n (omega arith) in omega arith

  pub parts_end : 1 < x.kind → 0 < x.width → (j q n : ℕ) → n ≡ size_in w → 0 < n → j ≡ q * n → j ≤ width → width < j + n → j ≡ width
  parts_end kind wide j q n en some ej l h =
      let a : x.width ≡ suc (x.width - 1) = omega arith in
      let e : width ≡ n ^ (x.width - 1) * n = N.wide ∙ wide_other p.size (node_at p v) (omega (arith, node.kind)) ∙ ap₂ ◌^◌ (sym (en ∙ is.size)) (sym node.width ∙ a) ∙ pow-suc n (x.width - 1) in
      whole (n ^ (x.width - 1)) e
    where
      whole : (m : ℕ) → width ≡ m * n → j ≡ width
      whole m e = let u = whole_end q m n (omega arith) in omega arith

  pub alone_wide : 1 < x.kind → x.width ≡ 0 → width ≡ 1
  alone_wide kind narrow = N.wide ∙ wide_other p.size (node_at p v) (omega (arith, node.kind)) ∙ ap (◌^◌ p.size) (sym node.width ∙ narrow) ∙ pow-zero p.size

pub alone_filled : (w : List ℕ) (x : NodeLine) (width : ℕ) (s s' : List ℕ) → 1 < x.kind → x.width ≡ 0 → NodeFilled w x 1 s s' → NodeFilled w x width s s'
alone_filled w x width s s' kind narrow f p G F v N K =
    let e = alone_wide p G F w (length s) v x width N kind narrow in
    subst (λ (i : ℕ). Knowing p G F (rows_to p G F v i) (bit s) (bit s')) (sym e) (f p G F v (record { ready = N.ready; here = N.here; line = N.line; wide = sym e ∙ N.wide }) K)

-- ---- from node to node, the last first
pub atoms_few : (w : List ℕ) (v : ℕ) (x : NodeLine) → Fits w → x ≡ node_line w v → x.atoms ≤ 2 ^ 32
unfolding node_line
atoms_few w v x fits e = rw e (fits.entry (node_place v + 1))

pub node_turn : (p : Problem) (G : Good p) (F : List Tuple) (w : List ℕ) (v end width : ℕ) (x : NodeLine) (s s' : List ℕ) → x ≡ node_line w (v - 1) → 0 < v → v ≤ length p.node_list → Fillable p w (length s)
    → end ≡ node_start p v → width ≡ end - x.atoms → NodeFilled w (node_line w (v - 1)) width s s' → Knows p F (nodes_from p G F v) (bit s) → (x.atoms ≡ node_start p (v - 1)) × Knowing p G F (nodes_from p G F (v - 1)) (bit s) (bit s')
node_turn p G F w v end width x s s' e o h R a g f K =
    let d : suc (v - 1) ≡ v = omega arith in
    let l : v ≤ nodes_in w = omega (arith, R.is.nodes) in
    let b = width_before p w R.is v end x e o l a width g in
    let K₀ = known_node p G F (v - 1) (bit s) (subst (λ (i : ℕ). Knows p F (nodes_from p G F i) (bit s)) (sym d) K) in
    let K₁ = f p G F (v - 1) (record { ready = R; here = omega arith; line = refl; wide = b }) K₀ in
    (start_before p w R.is v x e o l, (node_known p G F (v - 1) (bit s') (subst (λ (i : ℕ). Knows p F (rows_to p G F (v - 1) i) (bit s')) b K₁.0), K₁.1))

pub as_line : {p : Problem} {w : List ℕ} {k v width : ℕ} {x y : NodeLine} → x ≡ y → Filling p w k v y width → Filling p w k v x width
as_line e N = rw e N
