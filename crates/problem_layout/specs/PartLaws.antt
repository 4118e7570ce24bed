-- A part's line gives the numbers of the part's atom.
use Rattle.std.specs.Prelude.{◌≡◌, Bool, List, [], ◌∷◌, map, eqb, length, take, if◌then◌else◌}
use Rattle.std.proofs.Math.Path.{refl, ap, ap₂}
use Rattle.std.proofs.Common.{sym, ◌∙◌, add-mul, mul_assoc, mul-le-mul, arith, eq-eqb, ne_eqb}
use Rattle.std.proofs.Math.Bool.{true, false}
use Prim.Native.Nat.{ℕ, zero, suc, ◌+◌, ◌*◌, ◌^◌, ◌≤◌, ◌<◌}
use Rattle.std.proofs.Math.ListN.{get_or}
use Rattle.definitions.specs.Lists.{greatest}
use Rattle.definitions.specs.Problem.Tree.{Tree, leaf, forall_node, exists_node, and_node, or_node, free}
use Rattle.definitions.specs.Problem.Atoms.{Problem, row_of, holds_node, atom_number}
use Rattle.definitions.specs.Problem.Actions.{Values, part_atom}
use Rattle.laws.specs.Sorts.{Sorted}
use Rattle.rule_nodes.specs.Tables.{Head, head_from, head_in, PartIn, PartFits}
use Rattle.rule_nodes.specs.declared.PartRow.{PartRow}
use Rattle.rows.specs.Values.{value_in, Most, weight_of, weighed}
use Rattle.rows.specs.Laws.{row_weighed}
use Rattle.problem_table.specs.Lines.{part_number}
use Rattle.problem_table.specs.Of.{IsPart}
use Rattle.problem_table.specs.declared.PartLine.{PartLine}
use Rattle.problem_layout.specs.Laid.{Starts, Small, number_limit}
use Rattle.problem_layout.specs.declared.Layout.{Layout}
use Rattle.problem_layout.specs.Filled.{start_in, numbers_from, numbers_in, part_numbers}
use Rattle.problem_layout.specs.SpliceLaws.{each_most}

-- ---- starts by the tag
module _ (rel neg node : List ℕ) (which : ℕ) where
  pub start_tuple : (tag : ℕ) → tag ≡ 0 → get_or rel which 0 ≡ start_in rel neg node tag which
  unfolding start_in
  start_tuple tag e = rw e refl

  pub start_not : (tag : ℕ) → tag ≡ 1 → get_or neg which 0 ≡ start_in rel neg node tag which
  unfolding start_in
  start_not tag e = rw e refl

  pub start_node : (tag : ℕ) → (tag ≡ 0 → ⊥) → (tag ≡ 1 → ⊥) → get_or node which 0 ≡ start_in rel neg node tag which
  unfolding start_in
  start_node zero a b = absurd (a refl)
  start_node (suc zero) a b = absurd (b refl)
  start_node (suc (suc k)) a b = refl

pub start_most : (l : Layout) (b : ℕ) → Small l b → (tag which : ℕ) → start_in l.rel l.neg l.node tag which ≤ b
unfolding start_in
start_most l b s zero which = s.rel which
start_most l b s (suc zero) which = s.neg which
start_most l b s (suc (suc k)) which = s.node which

-- ---- the line by the tag
module _ (n top s : ℕ) (q : PartRow) (w : List ℕ) (v : value_in w ≡ weight_of n (take q.width q.levels)) where
  at : (i : ℕ) → get_or w i 0 ≡ weight_of n (take q.width q.levels) i
  unfolding value_in
  at i = ap (λ (f : Values). f i) v

  pub line_last : q.tag ≡ 2 → (s + top) ∷ (get_or w 0 0 * n) ∷ (get_or w 1 0 * n) ∷ (get_or w 2 0 * n) ∷ (get_or w 3 0 * n) ∷ [] ≡ numbers_from n top s q
  unfolding numbers_from
  line_last t = rw (eq-eqb q.tag 2 t, at 0, at 1, at 2, at 3) refl

  pub line_plain : (q.tag ≡ 2 → ⊥) → s ∷ get_or w 0 0 ∷ get_or w 1 0 ∷ get_or w 2 0 ∷ get_or w 3 0 ∷ [] ≡ numbers_from n top s q
  unfolding numbers_from
  line_plain t = rw (ne_eqb q.tag 2 t, at 0, at 1, at 2, at 3) refl

pub weight_times : (w n : ℕ) → w ≤ 65 ^ 4 → n ≤ 64 → w * n ≤ 65 ^ 4 * 64
weight_times w n a b = mul-le-mul a b

length_from : (n top s : ℕ) (q : PartRow) → length (numbers_from n top s q) ≡ 5
unfolding numbers_from
length_from n top s q = by_test (eqb q.tag 2)
  where
    by_test : (b : Bool) → length (if b then (s + top) ∷ (weight_of n (take q.width q.levels) 0 * n) ∷ (weight_of n (take q.width q.levels) 1 * n) ∷ (weight_of n (take q.width q.levels) 2 * n) ∷ (weight_of n (take q.width q.levels) 3 * n) ∷ []
        else s ∷ weight_of n (take q.width q.levels) 0 ∷ weight_of n (take q.width q.levels) 1 ∷ weight_of n (take q.width q.levels) 2 ∷ weight_of n (take q.width q.levels) 3 ∷ []) ≡ 5
    by_test true = refl
    by_test false = refl

module _ (n : ℕ) (tops rel neg node : List ℕ) (q : PartRow) where
  pub length_part : length (numbers_in n tops rel neg node q) ≡ 5
  unfolding numbers_in
  length_part = length_from n (get_or tops q.sort 0) (start_in rel neg node q.tag q.which) q

  -- the line made from the part's start is the part's
  pub line_from : (s k c : ℕ) (line : List ℕ) → k ≡ q.which → c ≡ q.sort → s ≡ start_in rel neg node q.tag k → line ≡ numbers_from n (get_or tops c 0) s q → line ≡ numbers_in n tops rel neg node q
  unfolding numbers_in
  line_from s k c line w o e f = f ∙ ap₂ (λ (x y : ℕ). numbers_from n (get_or tops x 0) y q) o (e ∙ ap (start_in rel neg node q.tag) w)

-- ---- the number that a head stands for
unfoldable pub row_by : (n top tag row : ℕ) → ℕ
row_by n top tag row = if eqb tag 2 then row * n + top else row

unfoldable pub number_by : Layout → (n : ℕ) → List ℕ → Values → Head → ℕ
number_by l n tops e h = start_in l.rel l.neg l.node h.tag h.which + row_by n (get_or tops h.sort 0) h.tag (row_of n (map e h.levels))

-- the five numbers of a line as a line
abbrev pub line_of : List ℕ → PartLine
line_of xs = record { start = get_or xs 0 0; weights = get_or xs 1 0 ∷ get_or xs 2 0 ∷ get_or xs 3 0 ∷ get_or xs 4 0 ∷ [] }

weighed_times : (e w : Values) (n : ℕ) → e 0 * (w 0 * n) + (e 1 * (w 1 * n) + (e 2 * (w 2 * n) + e 3 * (w 3 * n))) ≡ weighed e w * n
weighed_times e w n =
    let a : (i : ℕ) → e i * (w i * n) ≡ e i * w i * n = λ i. sym (mul_assoc (e i) (w i) n) in
    let b = add-mul (e 0 * w 0) (e 1 * w 1 + (e 2 * w 2 + e 3 * w 3)) n in
    let c = add-mul (e 1 * w 1) (e 2 * w 2 + e 3 * w 3) n in
    let d = add-mul (e 2 * w 2) (e 3 * w 3) n in
    omega (arith, a 0, a 1, a 2, a 3, b, c, d)

part_by_head : (n : ℕ) (tops : List ℕ) (l : Layout) (e : Values) (q : PartRow) → PartFits q → part_number e (line_of (part_numbers n tops l q)) ≡ number_by l n tops e (head_in q)
unfolding numbers_in numbers_from part_number number_by row_by value_in
part_by_head n tops l e q f = by_test (eqb q.tag 2)
  where
    w : Values
    w = weight_of n (take q.width q.levels)

    top : ℕ
    top = get_or tops q.sort 0

    s : ℕ
    s = start_in l.rel l.neg l.node q.tag q.which

    r : ℕ
    r = row_of n (map e (take q.width q.levels))

    row : r ≡ weighed e w
    row = row_weighed n e q.width q.levels f.levels

    by_test : (b : Bool) → part_number e (line_of (if b then (s + top) ∷ (w 0 * n) ∷ (w 1 * n) ∷ (w 2 * n) ∷ (w 3 * n) ∷ [] else s ∷ w 0 ∷ w 1 ∷ w 2 ∷ w 3 ∷ [])) ≡ s + (if b then r * n + top else r)
    by_test true =
        let z = weighed_times e w n in
        let y : r * n ≡ weighed e w * n = ap (λ (x : ℕ). x * n) row in
        omega (arith, z, y)
    by_test false = ap (λ (x : ℕ). s + x) (sym row)

module _ (p : Problem) (l : Layout) (starts : Starts p l) (tops : List ℕ) (k : ℕ) (top : (s : ℕ) → s ≤ k → get_or tops s 0 ≡ greatest (p.range s)) (rels nodes : ℕ) (rs : rels ≡ length p.relations) (ns : nodes ≡ length p.node_list) where
  by_tree : (e : Values) (v : ℕ) (u : Tree) (q : PartRow) → Sorted k u → PartIn rels nodes q → head_in q ≡ head_from v u → number_by l p.size tops e (head_from v u) ≡ atom_number p (part_atom p.size p.range e v u)
  unfolding head_from number_by row_by start_in atom_number part_atom Sorted
  by_tree e v (leaf true r ls) q o w h =
      let a : q.which ≡ r = ap (λ (h : Head). h.which) h in
      let b : q.tag ≡ 0 = ap (λ (h : Head). h.tag) h in
      ap (λ (x : ℕ). x + row_of p.size (map e ls)) (starts.rel r (omega (arith, w.relation (omega arith), rs)))
  by_tree e v (leaf false r ls) q o w h =
      let a : q.which ≡ r = ap (λ (h : Head). h.which) h in
      let b : q.tag ≡ 1 = ap (λ (h : Head). h.tag) h in
      ap (λ (x : ℕ). x + row_of p.size (map e ls)) (starts.neg r (omega (arith, w.relation (omega arith), rs)))
  by_tree e v (forall_node d σ u) q o w h =
      let a : q.which ≡ v = ap (λ (h : Head). h.which) h in
      let b : q.tag ≡ 2 = ap (λ (h : Head). h.tag) h in
      ap (λ (x : ℕ). x + (row_of p.size (map e (free (forall_node d σ u))) * p.size + get_or tops σ 0)) (starts.node v (omega (arith, w.node (omega arith), ns)))
      ∙ ap (λ (z : ℕ). atom_number p (holds_node v (row_of p.size (map e (free (forall_node d σ u))) * p.size + z))) (top σ o.0)
  by_tree e v (exists_node d σ u) q o w h =
      let a : q.which ≡ v = ap (λ (h : Head). h.which) h in
      let b : q.tag ≡ 3 = ap (λ (h : Head). h.tag) h in
      ap (λ (x : ℕ). x + row_of p.size (map e (free (exists_node d σ u)))) (starts.node v (omega (arith, w.node (omega arith), ns)))
  by_tree e v (and_node us) q o w h =
      let a : q.which ≡ v = ap (λ (h : Head). h.which) h in
      let b : q.tag ≡ 3 = ap (λ (h : Head). h.tag) h in
      ap (λ (x : ℕ). x + row_of p.size (map e (free (and_node us)))) (starts.node v (omega (arith, w.node (omega arith), ns)))
  by_tree e v (or_node us) q o w h =
      let a : q.which ≡ v = ap (λ (h : Head). h.which) h in
      let b : q.tag ≡ 3 = ap (λ (h : Head). h.tag) h in
      ap (λ (x : ℕ). x + row_of p.size (map e (free (or_node us)))) (starts.node v (omega (arith, w.node (omega arith), ns)))

  pub part_is : (q : PartRow) (v : ℕ) (u : Tree) → Sorted k u → PartFits q → PartIn rels nodes q → head_in q ≡ head_from v u → IsPart p (line_of (part_numbers p.size tops l q)) v u
  unfolding IsPart
  part_is q v u o f w h e = part_by_head p.size tops l e q f ∙ ap (number_by l p.size tops e) h ∙ by_tree e v u q o w h

-- ---- ranges of a part's line
module _ (n s : ℕ) (w : List ℕ) (ns : n ≤ 64) (ss : s ≤ number_limit) (ws : Most w (65 ^ 4)) where
  pub last_most : (top : ℕ) → top < n → Most ((s + top) ∷ (get_or w 0 0 * n) ∷ (get_or w 1 0 * n) ∷ (get_or w 2 0 * n) ∷ (get_or w 3 0 * n) ∷ []) (2 ^ 32)
  last_most top h =
      let a : (i : ℕ) → get_or w i 0 * n ≤ 65 ^ 4 * 64 = λ i. weight_times (get_or w i 0) n (ws i) ns in
      each_most (2 ^ 32) ((s + top) ∷ (get_or w 0 0 * n) ∷ (get_or w 1 0 * n) ∷ (get_or w 2 0 * n) ∷ (get_or w 3 0 * n) ∷ []) (omega arith, (omega (arith, a 0), (omega (arith, a 1), (omega (arith, a 2), (omega (arith, a 3), tt)))))

  pub plain_most : Most (s ∷ get_or w 0 0 ∷ get_or w 1 0 ∷ get_or w 2 0 ∷ get_or w 3 0 ∷ []) (2 ^ 32)
  plain_most = each_most (2 ^ 32) (s ∷ get_or w 0 0 ∷ get_or w 1 0 ∷ get_or w 2 0 ∷ get_or w 3 0 ∷ []) (omega arith, (omega (arith, ws 0), (omega (arith, ws 1), (omega (arith, ws 2), (omega (arith, ws 3), tt)))))
