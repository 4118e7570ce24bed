-- That the lines say what `eval_rule` asks.
use Rattle.std.specs.Prelude.{◌≡◌, Bool, ◌||◌, take, drop, if◌then◌else◌}
use Rattle.std.proofs.Math.Path.{refl, ap, ap₂, subst}
use Rattle.std.proofs.Common.{sym, ◌∙◌, add-zero, get_or-drop}
use Rattle.std.proofs.Math.Logic.{inl, inr}
use Rattle.std.proofs.Math.Bool.{true, false, not}
use Rattle.std.proofs.Math.Option.{Option, none}
use mathlib.Core.List.{List, [], ◌∷◌, ◌++◌, map}
use Prim.Native.Nat.{ℕ, zero, suc, ◌+◌, ◌-◌, ◌^◌, ◌≤◌, ◌<◌}
use native.Mathlib.Omega.{arith}
use Rattle.std.proofs.Math.Nat.{one-le-pow}
use borrow.Author.Tests.{lt-ltb, le-ltb, eqb-true, ltb-true, ltb-false}
use Rattle.std.proofs.Math.Dec.{T, eqb, ltb, ltb→lt}
use Rattle.std.proofs.Math.ListN.{length, get_or}
use Rattle.std.proofs.lemmas.List.{length-map}
use Rattle.definitions.specs.Lists.{is_some, all, any, is_in, below}
use Rattle.laws.specs.Booleans.{and_T, T_and_l, T_and_r, T_ext}
use Rattle.laws.specs.Lists.{all_at, get_or_mem, mem_below, mem_filter, filter_mem}
use Rattle.laws.specs.Members.{in_mem, mem_in, range_few}
use Rattle.laws.specs.Sorts.{Sorted}
use Rattle.definitions.specs.Sheet.Relations.{Relation, Tuple, is_universal}
use Rattle.definitions.specs.Problem.Truth.{Case, holds, are_picks, every_value, rule_holds}
use Rattle.definitions.specs.Problem.Tree.{Tree, Trees, leaf, forall_node, exists_node, and_node, or_node, end, ◌then◌, Part, parts, parts_from, nodes, nodes_all, node_sort, occurs, free}
use Rattle.definitions.specs.Problem.Atoms.{Problem, problem_of, problem_with, relation_at, node_at, row_of}
use Rattle.definitions.specs.Problem.Actions.{Values}
use Rattle.laws.specs.Reader.{Accepted}
use Rattle.meaning.specs.Grounded.{good}
use Rattle.laws.specs.Valued.{Literals, tree_by, by_picks, by_holds}
use Rattle.meaning.specs.Meaning.{tree_means}
use Rattle.meaning.specs.Means.{here_at}
use Rattle.meaning.specs.Parts.{Bnd, bnd_map, Fits, IsNode as NotLeaf, Here, HereAll, under_forall, under_exists, parts_and, parts_or, head_here, tail_here, node_at_lem}
use Rattle.rule_nodes.specs.Bounds.{in_parts}
use Rattle.rule_nodes.specs.Tables.{Head, head_in, head_of, head_from, node_kind, node_level, no_node, PartFits, IsNode, Fits as TreeFits}
use Rattle.rule_nodes.specs.Tables.{no_part as no_row}
use Rattle.rule_nodes.specs.declared.PartRow.{PartRow}
use Rattle.rule_nodes.specs.declared.NodeRow.{NodeRow}
use Rattle.rule_nodes.specs.declared.Nodes.{Nodes}
use Rattle.rows.specs.Values.{value_in, weight_of}
use Rattle.rows.specs.Laws.{row_weighed}
use Rattle.problem_table.specs.Of.{no_part}
use Rattle.problem_table.specs.Lines.{part_number, members_in}
use Rattle.problem_table.specs.NeedLaws.{members_length}
use Rattle.problem_table.specs.declared.PartLine.{PartLine}
use Rattle.problem_layout.specs.declared.Relations.{Relations}
use Rattle.problem_layout.specs.declared.Ranges.{Ranges}
use Rattle.problem_layout.specs.Laid.{range_by, RangesAre, count_at, Inputs}
use Rattle.problem_layout.specs.StartsAre.{many_are, node_sort_lem, count_of}
use Rattle.problem_layout.specs.RangeLaws.{map_places}
use Rattle.step_start.specs.Initial.{FactsIn}
use Rattle.step_picks.specs.Words.{PicksAre}
use Rattle.eval_rule.specs.Lines.{range_place, node_in, part_in, line_in, literal_at, leaf_at, agree, fixed_in, NodeSound, SoundLines}
use Rattle.eval_rule.specs.Says.{Leaf, node_of as nodeOfTree, no_values, truth_by, PartSays, NodeSays, Says}
use Rattle.eval_rule.specs.declared.NodeAt.{NodeAt}
use Rattle.eval_rule.specs.declared.PartAt.{PartAt}
use Rattle.eval_table.specs.Lined.{source_of, bit_of, part_of, line_of, turns_of, own_line, block_line, node_of, Lined}
use Rattle.eval_table.specs.Blocks.{under, join_of, block_parts, block_kind, block_level, block_join, Serves, GoesOver, alike, block_truth_lem}
use Rattle.eval_valuations.specs.Words.{leaf_in}
use Rattle.eval_valuations.specs.Laws.{leaf_fixed, leaf_pos, leaf_neg, agree_true, agree_false}
use Rattle.bits.specs.Table.{digit}
use Rattle.eval_table.specs.Worded.{WordsAre}
use Rattle.eval_table.specs.Literals.{literal_is, Stands, fixed_literal, chosen_literal, every_literal, stands, row_small}

-- ---- the head of one part among those of a node
heads_at : (ps : List PartRow) (m : ℕ) (qs : List Part) → map head_in (take m ps) ≡ map head_of qs → (i : ℕ) → i < length qs → head_in (get_or ps i no_row) ≡ head_of (get_or qs i no_part)
heads_at ps m [] e i h = absurd (omega arith)
heads_at ps zero (q ∷ qs) e i h = let z = ap length e in absurd (omega (arith, z))
heads_at [] (suc m) (q ∷ qs) e i h = let z = ap length e in absurd (omega (arith, z))
heads_at (x ∷ ps) (suc m) (q ∷ qs) e zero h = cc
heads_at (x ∷ ps) (suc m) (q ∷ qs) e (suc i) h = let b : map head_in (take m ps) ≡ map head_of qs = cc in heads_at ps m qs b i (omega arith)

-- ---- parts stand in the tree, after their node
module _ (p : Problem) where
  parts_here : (ts : Trees) (k : ℕ) → HereAll p k ts → (i : ℕ) → i < length (parts_from k ts) → Here p (get_or (parts_from k ts) i no_part).node (get_or (parts_from k ts) i no_part).tree × (k ≤ (get_or (parts_from k ts) i no_part).node)
  unfolding parts_from
  parts_here end k h i l = absurd (omega arith)
  parts_here (t then ts) k h zero l = (head_here p k t ts h, omega arith)
  parts_here (t then ts) k h (suc i) l = let r = parts_here ts (k + length (nodes t)) (tail_here p k t ts h) i (omega arith) in (r.0, omega (arith, r.1))

  under_here : (k : ℕ) (t : Tree) → Here p k t → (i : ℕ) → i < length (under k t) → Here p (get_or (under k t) i no_part).node (get_or (under k t) i no_part).tree × (k ≤ (get_or (under k t) i no_part).node)
  unfolding under
  under_here k (leaf q r ls) h zero l = (h, omega arith)
  under_here k (leaf q r ls) h (suc i) l = absurd (omega arith)
  under_here k (forall_node d σ t) h zero l = (h, omega arith)
  under_here k (forall_node d σ t) h (suc i) l = absurd (omega arith)
  under_here k (exists_node d σ t) h zero l = (h, omega arith)
  under_here k (exists_node d σ t) h (suc i) l = absurd (omega arith)
  under_here k (and_node ts) h i l = let r = parts_here ts (suc k) (parts_and p k ts h) i l in (r.0, omega (arith, r.1))
  under_here k (or_node ts) h i l = let r = parts_here ts (suc k) (parts_or p k ts h) i l in (r.0, omega (arith, r.1))

  block_here : (v : ℕ) (u : Tree) → Here p v u → (i : ℕ) → i < length (block_parts v u) → Here p (get_or (block_parts v u) i no_part).node (get_or (block_parts v u) i no_part).tree × (v < (get_or (block_parts v u) i no_part).node)
  unfolding block_parts
  block_here v (leaf q r ls) h i l = absurd (omega arith)
  block_here v (forall_node d σ t) h i l = let r = under_here (suc v) t (under_forall p v d σ t h) i l in (r.0, omega (arith, r.1))
  block_here v (exists_node d σ t) h i l = let r = under_here (suc v) t (under_exists p v d σ t h) i l in (r.0, omega (arith, r.1))
  block_here v (and_node ts) h i l = let r = parts_here ts (suc v) (parts_and p v ts h) i l in (r.0, omega (arith, r.1))
  block_here v (or_node ts) h i l = let r = parts_here ts (suc v) (parts_or p v ts h) i l in (r.0, omega (arith, r.1))

-- ---- a part's levels are those that occur free in it
free_has : (t : Tree) (d : ℕ) → d < 4 → any (eqb d) (free t) ≡ occurs d t
unfolding free is_in
free_has t d h =
    T_ext (any (eqb d) (free t)) (occurs d t) (λ q. (filter_mem (λ l. occurs l t) (below 4) d (in_mem d (free t) q)).1)
    (λ q. mem_in d (free t) (mem_filter (λ l. occurs l t) (below 4) d (mem_below 4 d h) q))

head_has : (k : ℕ) (t : Tree) (d : ℕ) → d < 4 → any (eqb d) (head_from k t).levels ≡ occurs d t
unfolding head_from occurs
head_has k (leaf true r ls) d h = refl
head_has k (leaf false r ls) d h = refl
head_has k (forall_node l σ t) d h = free_has (forall_node l σ t) d h
head_has k (exists_node l σ t) d h = free_has (exists_node l σ t) d h
head_has k (and_node ts) d h = free_has (and_node ts) d h
head_has k (or_node ts) d h = free_has (or_node ts) d h

-- ... so the turns of a quantifier of level d over it are known by the tree
turns_are : (count level d k : ℕ) (q : PartRow) (t : Tree) → head_in q ≡ head_from k t → level ≡ d → level < 4 → turns_of count level q ≡ (if occurs d t then count else 1)
unfolding turns_of
turns_are count level d k q t e a h =
    ap (λ (b : Bool). if b then count else 1)
    (ap (λ (x : Head). any (eqb level) x.levels) e ∙ head_has k t level h ∙ ap (λ (l : ℕ). occurs l t) a)

-- ... and a part whose numbers do not grow with a level does not have it
weighs : (n l : ℕ) (ls : List ℕ) → 0 < n → any (eqb l) ls ≡ true → 0 < weight_of n ls l
unfolding any weight_of
weighs n l [] p h = absurd (clash h)
  where
    clash : ◌≡◌ {A = Bool} false true → ⊥
    clash q = let z : ◌≡◌ {A = ℕ} 0 1 = cc in omega arith
weighs n l (x ∷ ls) p h = by_test (eqb l x) h (weighs n l ls p)
  where
    by_test : (b : Bool) → (b || any (eqb l) ls) ≡ true → (any (eqb l) ls ≡ true → 0 < weight_of n ls l) → 0 < (if b then n ^ length ls else 0) + weight_of n ls l
    by_test true e r = let q : 0 < n ^ length ls = one-le-pow (length ls) n p in omega arith
    by_test false e r = omega (arith, r e)

four_at : (a b c d : ℕ) (f : ℕ → ℕ) (l : ℕ) → l < 4 → a ≡ f 0 → b ≡ f 1 → c ≡ f 2 → d ≡ f 3 → get_or (a ∷ b ∷ c ∷ d ∷ []) l 0 ≡ f l
four_at a b c d f zero h p q r s = p
four_at a b c d f (suc zero) h p q r s = q
four_at a b c d f (suc (suc zero)) h p q r s = r
four_at a b c d f (suc (suc (suc zero))) h p q r s = s
four_at a b c d f (suc (suc (suc (suc l)))) h p q r s = absurd (omega arith)

fixed_free : (n : ℕ) (g : Relations) (w : List ℕ) (i k level : ℕ) (q : PartRow) (t : Tree) → 0 < n → level < 4 → line_in w i ≡ line_of n g q → head_in q ≡ head_from k t → fixed_in w i level ≡ true → occurs level t ≡ false
unfolding fixed_in line_of
fixed_free n g w i k level q t p h e d f = by_test (occurs level t) refl
  where
    light : weight_of n (take q.width q.levels) level ≡ 0
    light = sym (four_at _ _ _ _ (weight_of n (take q.width q.levels)) level h refl refl refl refl) ∙ eqb-true _ 0 (ap (λ (z : PartLine). eqb (get_or z.weights level 0) 0) (sym e) ∙ f)

    by_test : (b : Bool) → occurs level t ≡ b → occurs level t ≡ false
    by_test true o = let z = weighs n level (take q.width q.levels) p (ap (λ (x : Head). any (eqb level) x.levels) d ∙ head_has k t level h ∙ o) in absurd (omega (arith, light))
    by_test false o = o

-- ---- a block's line

-- how often the parts of a block are gone through, where the ranges are R
unfoldable pub block_turns : (ℕ → List ℕ) → Tree → ℕ
block_turns R (leaf q r ls) = 1
block_turns R (forall_node d σ t) = if occurs d t then length (R σ) else 1
block_turns R (exists_node d σ t) = if occurs d t then length (R σ) else 1
block_turns R (and_node ts) = 1
block_turns R (or_node ts) = 1

pub record IsBlock (R : ℕ → List ℕ) (t : Nodes) (v : ℕ) (u : Tree) (x : NodeAt) : Type 0 where
  pub kind : x.kind ≡ block_kind u
  pub level : x.level ≡ block_level u
  pub join : x.join ≡ block_join u
  pub many : x.many ≡ length (block_parts v u)
  pub head : (i : ℕ) → i < length (block_parts v u) → head_in (get_or t.parts (x.first + i) no_row) ≡ head_of (get_or (block_parts v u) i no_part)
  pub fits : x.first + x.many ≤ t.placed
  pub low : x.level < 4
  pub range : x.range ≡ range_place (node_sort u)
  pub count : x.count ≡ block_turns R u

-- ... of what stands right under a quantifier of row x
pub record IsUnder (c : ℕ) (t : Nodes) (k : ℕ) (s : Tree) (x : NodeRow) (z : NodeAt) : Type 0 where
  pub kind : z.kind ≡ x.kind
  pub level : z.level ≡ x.level
  pub join : z.join ≡ join_of s
  pub many : z.many ≡ length (under k s)
  pub head : (i : ℕ) → i < length (under k s) → head_in (get_or t.parts (z.first + i) no_row) ≡ head_of (get_or (under k s) i no_part)
  pub fits : z.first + z.many ≤ t.placed
  pub range : z.range ≡ range_place x.sort
  pub count : z.count ≡ turns_of c x.level (get_or t.parts x.first no_row)

module _ (c : ℕ) (t : Nodes) (x : NodeRow) where
  abbrev part₀ : PartRow
  part₀ = get_or t.parts x.first no_row

  abbrev row₀ : NodeRow
  row₀ = get_or t.rows part₀.which no_node

  abbrev turns₀ : ℕ
  turns₀ = turns_of c x.level part₀

  abbrev plain_line : NodeAt
  plain_line = record { kind = x.kind; level = x.level; join = 1; first = x.first; many = x.many; range = range_place x.sort; count = turns₀ }

  own_join : 2 ≤ x.kind → node_of c t x ≡ record { kind = 2; level = 0; join = x.kind - 2; first = x.first; many = x.many; range = range_place x.sort; count = 1 }
  unfolding node_of block_line own_line
  own_join h = rw (le-ltb x.kind 2 h) refl

  own_literal : x.kind < 2 → part₀.tag < 2 → node_of c t x ≡ plain_line
  unfolding node_of block_line own_line
  own_literal h q = rw (lt-ltb x.kind 2 h, lt-ltb part₀.tag 2 q) refl

  own_quantifier : x.kind < 2 → 2 ≤ part₀.tag → row₀.kind < 2 → node_of c t x ≡ plain_line
  unfolding node_of block_line own_line
  own_quantifier h q k = rw (lt-ltb x.kind 2 h, le-ltb part₀.tag 2 q, lt-ltb row₀.kind 2 k) refl

  fused : x.kind < 2 → 2 ≤ part₀.tag → 2 ≤ row₀.kind → node_of c t x ≡ record { kind = x.kind; level = x.level; join = row₀.kind - 2; first = row₀.first; many = row₀.many; range = range_place x.sort; count = turns₀ }
  unfolding node_of block_line
  fused h q k = rw (lt-ltb x.kind 2 h, le-ltb part₀.tag 2 q, le-ltb row₀.kind 2 k) refl

  under_plain : (k : ℕ) (s : Tree) → under k s ≡ record { node = k; tree = s } ∷ [] → join_of s ≡ 1 → x.many ≡ 1 → head_in part₀ ≡ head_from k s → x.first + x.many ≤ t.placed → node_of c t x ≡ plain_line → IsUnder c t k s x (node_of c t x)
  under_plain k s u j m h f e = rw e (record {
    kind = refl;
    level = refl;
    join = sym j;
    many = rw u m;
    head = λ i l. by_number i (rw u at l);
    fits = f;
    range = refl;
    count = refl;
  })
    where
      by_number : (i : ℕ) → i < 1 → head_in (get_or t.parts (x.first + i) no_row) ≡ head_of (get_or (under k s) i no_part)
      by_number zero l = rw u (ap (λ (z : ℕ). head_in (get_or t.parts z no_row)) (add-zero x.first) ∙ h)
      by_number (suc i) l = absurd (omega arith)

module _ (p : Problem) (n : ℕ) (ws : List ℕ) (types : ℕ) (g : Relations) (t : Nodes) (inputs : Inputs p n ws types g t) (ft : TreeFits t) where
  count_is : t.count ≡ length p.node_list
  count_is = inputs.tree.count ∙ ap length (sym inputs.list)

  row_is : (v : ℕ) → v < length p.node_list → IsNode v (node_at p v) (get_or t.rows v no_node) t.parts
  unfolding node_at
  row_is v h = subst (λ (us : List Tree). IsNode v (get_or us v (leaf true 0 [])) (get_or t.rows v no_node) t.parts) (sym inputs.list) (inputs.tree.node v (omega (arith, count_is)))

  placed_is : (v : ℕ) → (get_or t.rows v no_node).first + (get_or t.rows v no_node).many ≤ t.placed
  placed_is v = (ft.nodes.node v).parts

  heads_of : (v : ℕ) (u : Tree) (x : NodeRow) → IsNode v u x t.parts → (i : ℕ) → i < length (parts v u) → head_in (get_or t.parts (x.first + i) no_row) ≡ head_of (get_or (parts v u) i no_part)
  heads_of v u x is i l = ap head_in (sym (get_or-drop x.first t.parts i no_row)) ∙ heads_at (drop x.first t.parts) x.many (parts v u) is.parts i l

  -- the join right under a quantifier
  under_join : (c k : ℕ) (s : Tree) (x : NodeRow) → x.kind < 2 → 2 ≤ (part₀ c t x).tag → (part₀ c t x).which ≡ k → 2 ≤ node_kind s → node_kind s - 2 ≡ join_of s → under k s ≡ parts k s → IsNode k s (get_or t.rows k no_node) t.parts → IsUnder c t k s x (node_of c t x)
  under_join c k s x h q w m j u is =
      let e : row₀ c t x ≡ get_or t.rows k no_node = ap (λ (z : ℕ). get_or t.rows z no_node) w in
      let r : 2 ≤ (row₀ c t x).kind = rw (e, is.kind) m in
      rw (fused c t x h q r, e) (record {
        kind = refl;
        level = refl;
        join = ap (λ (z : ℕ). z - 2) is.kind ∙ j;
        many = rw u (many_are k s (get_or t.rows k no_node) t.parts is (in_parts t ft k));
        head = λ i l. rw u (heads_of k s (get_or t.rows k no_node) is i (rw u at l));
        fits = placed_is k;
        range = refl;
        count = refl;
      })

  under_is : (c v : ℕ) (s : Tree) (x : NodeRow) → x.kind < 2 → x.many ≡ 1 → x.first + x.many ≤ t.placed → head_in (part₀ c t x) ≡ head_from (suc v) s → Here p (suc v) s → IsUnder c t (suc v) s x (node_of c t x)
  unfolding head_from under join_of parts node_kind NotLeaf
  under_is c v (leaf true r ls) x h m f e here =
      let q : (part₀ c t x).tag ≡ 0 = ap (λ (z : Head). z.tag) e in
      under_plain c t x (suc v) (leaf true r ls) refl refl m e f (own_literal c t x h (omega arith))
  under_is c v (leaf false r ls) x h m f e here =
      let q : (part₀ c t x).tag ≡ 1 = ap (λ (z : Head). z.tag) e in
      under_plain c t x (suc v) (leaf false r ls) refl refl m e f (own_literal c t x h (omega arith))
  under_is c v (forall_node d σ s) x h m f e here =
      let q : (part₀ c t x).tag ≡ 2 = ap (λ (z : Head). z.tag) e in
      let w : (part₀ c t x).which ≡ suc v = ap (λ (z : Head). z.which) e in
      let a = node_at_lem p (suc v) (forall_node d σ s) here tt in
      let is = row_is (suc v) a.1 in
      let k : (row₀ c t x).kind ≡ 0 = ap (λ (z : ℕ). (get_or t.rows z no_node).kind) w ∙ is.kind ∙ ap node_kind a.0 in
      under_plain c t x (suc v) (forall_node d σ s) refl refl m e f (own_quantifier c t x h (omega arith) (omega arith))
  under_is c v (exists_node d σ s) x h m f e here =
      let q : (part₀ c t x).tag ≡ 3 = ap (λ (z : Head). z.tag) e in
      let w : (part₀ c t x).which ≡ suc v = ap (λ (z : Head). z.which) e in
      let a = node_at_lem p (suc v) (exists_node d σ s) here tt in
      let is = row_is (suc v) a.1 in
      let k : (row₀ c t x).kind ≡ 1 = ap (λ (z : ℕ). (get_or t.rows z no_node).kind) w ∙ is.kind ∙ ap node_kind a.0 in
      under_plain c t x (suc v) (exists_node d σ s) refl refl m e f (own_quantifier c t x h (omega arith) (omega arith))
  under_is c v (and_node ts) x h m f e here =
      let q : (part₀ c t x).tag ≡ 3 = ap (λ (z : Head). z.tag) e in
      let w : (part₀ c t x).which ≡ suc v = ap (λ (z : Head). z.which) e in
      let a = node_at_lem p (suc v) (and_node ts) here tt in
      under_join c (suc v) (and_node ts) x h (omega arith) w (omega arith) refl refl (subst (λ (z : Tree). IsNode (suc v) z (get_or t.rows (suc v) no_node) t.parts) a.0 (row_is (suc v) a.1))
  under_is c v (or_node ts) x h m f e here =
      let q : (part₀ c t x).tag ≡ 3 = ap (λ (z : Head). z.tag) e in
      let w : (part₀ c t x).which ≡ suc v = ap (λ (z : Head). z.which) e in
      let a = node_at_lem p (suc v) (or_node ts) here tt in
      under_join c (suc v) (or_node ts) x h (omega arith) w (omega arith) refl refl (subst (λ (z : Tree). IsNode (suc v) z (get_or t.rows (suc v) no_node) t.parts) a.0 (row_is (suc v) a.1))

  -- the line of a node is that of its block
  block_of : (c v : ℕ) (u : Tree) (x : NodeRow) → c ≡ length (p.range (node_sort u)) → IsNode v u x t.parts → x.first + x.many ≤ t.placed → x.first + x.many ≤ length t.parts → x.level < 4 → node_kind u < 4 → Here p v u → IsBlock p.range t v u (node_of c t x)
  unfolding block_kind block_level block_join block_parts block_turns node_kind node_level node_sort parts
  block_of c v (leaf q r ls) x o is f l d h here = absurd (omega arith)
  block_of c v (forall_node d σ s) x r is f l low h here =
      let k : x.kind ≡ 0 = is.kind in
      let m : x.many ≡ 1 = many_are v (forall_node d σ s) x t.parts is l in
      let e : head_in (part₀ c t x) ≡ head_from (suc v) s = ap (λ (z : ℕ). head_in (get_or t.parts z no_row)) (sym (add-zero x.first)) ∙ heads_of v (forall_node d σ s) x is 0 (omega arith) in
      let z = under_is c v s x (omega arith) m f e (under_forall p v d σ s here) in
      record {
        kind =
            z.kind ∙ k;
        level = z.level ∙ is.level;
        join = z.join;
        many = z.many;
        head = z.head;
        fits = z.fits;
        low = rw z.level low;
        range
            = z.range ∙ ap (λ (σ : ℕ). range_place σ) is.sort;
        count = z.count
            ∙ turns_are c x.level d (suc v) (part₀ c t x) s e is.level low ∙ ap (λ (m : ℕ). if occurs d s then m else 1) r;
      }
  block_of c v (exists_node d σ s) x r is f l low h here =
      let k : x.kind ≡ 1 = is.kind in
      let m : x.many ≡ 1 = many_are v (exists_node d σ s) x t.parts is l in
      let e : head_in (part₀ c t x) ≡ head_from (suc v) s = ap (λ (z : ℕ). head_in (get_or t.parts z no_row)) (sym (add-zero x.first)) ∙ heads_of v (exists_node d σ s) x is 0 (omega arith) in
      let z = under_is c v s x (omega arith) m f e (under_exists p v d σ s here) in
      record {
        kind =
            z.kind ∙ k;
        level = z.level ∙ is.level;
        join = z.join;
        many = z.many;
        head = z.head;
        fits = z.fits;
        low = rw z.level low;
        range
            = z.range ∙ ap (λ (σ : ℕ). range_place σ) is.sort;
        count = z.count
            ∙ turns_are c x.level d (suc v) (part₀ c t x) s e is.level low ∙ ap (λ (m : ℕ). if occurs d s then m else 1) r;
      }
  block_of c v (and_node ts) x r is f l low h here =
      let k : x.kind ≡ 2 = is.kind in
      rw (own_join c t x (omega arith)) (record { kind = refl; level = refl; join = ap (λ (z : ℕ). z - 2) k; many = many_are v (and_node ts) x t.parts is l; head = heads_of v (and_node ts) x is; fits = f; low = omega arith; range = ap (λ (σ : ℕ). range_place σ) is.sort; count = refl })
  block_of c v (or_node ts) x r is f l low h here =
      let k : x.kind ≡ 3 = is.kind in
      rw (own_join c t x (omega arith)) (record { kind = refl; level = refl; join = ap (λ (z : ℕ). z - 2) k; many = many_are v (or_node ts) x t.parts is l; head = heads_of v (or_node ts) x is; fits = f; low = omega arith; range = ap (λ (σ : ℕ). range_place σ) is.sort; count = refl })

-- ---- no node of a tree is a literal
all_both : (q : Tree → Bool) (a b : List Tree) → T (all q a) → T (all q b) → T (all q (a ++ b))
unfolding all
all_both q [] b h k = k
all_both q (x ∷ a) b h k = and_T (q x) _ (T_and_l (q x) _ h) (all_both q a b (T_and_r (q x) _ h) k)

mutual
  unfolding nodes nodes_all all node_kind

  no_literal : (t : Tree) → T (all (λ u. ltb (node_kind u) 4) (nodes t))
  no_literal (leaf q r ls) = tt
  no_literal (forall_node d σ t) = no_literal t
  no_literal (exists_node d σ t) = no_literal t
  no_literal (and_node ts) = no_literals ts
  no_literal (or_node ts) = no_literals ts

  no_literals : (ts : Trees) → T (all (λ u. ltb (node_kind u) 4) (nodes_all ts))
  no_literals end = tt
  no_literals (t then ts) = all_both (λ u. ltb (node_kind u) 4) (nodes t) (nodes_all ts) (no_literal t) (no_literals ts)

-- ---- what a part's line is
module _ (value : ℕ) (g : Relations) (q : PartRow) where
  is_literal : q.tag < 2 → part_of value g q ≡ record { tag = suc q.tag; which = source_of value q.which (get_or g.kind q.which 0) }
  unfolding part_of
  is_literal h = rw (lt-ltb q.tag 2 h) refl

  is_node : 2 ≤ q.tag → part_of value g q ≡ record { tag = 0; which = q.which }
  unfolding part_of
  is_node h = rw (le-ltb q.tag 2 h) refl

  no_tag : q.tag < 2 → (part_of value g q).tag ≡ 0 → ⊥
  no_tag h z = let a : suc q.tag ≡ 0 = sym (ap (λ (x : PartAt). x.tag) (is_literal h)) ∙ z in omega arith

  which_is : 2 ≤ q.tag → (part_of value g q).which ≡ q.which
  which_is h = ap (λ (x : PartAt). x.which) (is_node h)

  its_line : (n : ℕ) → q.tag < 2 → line_of n g q ≡ record { start = bit_of n g q.which; weights = weight_of n (take q.width q.levels) 0 ∷ weight_of n (take q.width q.levels) 1 ∷ weight_of n (take q.width q.levels) 2 ∷ weight_of n (take q.width q.levels) 3 ∷ [] }
  unfolding line_of
  its_line n h = rw (lt-ltb q.tag 2 h) refl

  -- the number of a literal's tuple
  its_number : (n : ℕ) (e : Values) → PartFits q → q.tag < 2 → part_number e (line_of n g q) ≡ bit_of n g q.which + row_of n (map e (take q.width q.levels))
  unfolding part_number value_in
  its_number n e f h = ap (part_number e) (its_line n h) ∙ ap (λ (x : ℕ). bit_of n g q.which + x) (sym (row_weighed n e q.width q.levels f.levels))

-- ---- the lines of a case
module _ (c : Case) (A : Accepted c) (n value : ℕ) (ws : List ℕ) (types : ℕ) (ranges : Ranges) (g : Relations) (t : Nodes) (ra : RangesAre n ws types ranges) (inputs : Inputs (problem_of c) n ws types g t) (ft : TreeFits t) where
  abbrev p : Problem
  p = problem_of c

  kind_is : (v : ℕ) → v < length p.node_list → node_kind (node_at p v) < 4
  unfolding problem_of problem_with node_at
  kind_is v l = ltb→lt (node_kind (node_at p v)) 4 (all_at (λ u. ltb (node_kind u) 4) (nodes p.root) (no_literal p.root) (node_at p v) (get_or_mem (nodes p.root) v (leaf true zero []) l))

  -- the line of node v
  abbrev line_at : ℕ → NodeAt
  line_at v = node_of (count_at ranges.count t v) t (get_or t.rows v no_node)

  sized : Inputs p p.size ws types g t
  sized = subst (λ (m : ℕ). Inputs p m ws types g t) inputs.size inputs

  count_at_lem : (v : ℕ) → v < t.count → count_at ranges.count t v ≡ length (p.range (node_sort (node_at p v)))
  count_at_lem v l = count_of p ws types g t sized ranges (subst (λ (m : ℕ). RangesAre m ws types ranges) inputs.size ra) v l

  block_is : (v : ℕ) → v < length p.node_list → IsBlock p.range t v (node_at p v) (line_at v)
  block_is v l =
      block_of p n ws types g t inputs ft (count_at ranges.count t v) v (node_at p v) (get_or t.rows v no_node) (count_at_lem v (omega (arith, count_is p n ws types g t inputs ft))) (row_is p n ws types g t inputs ft v l) (placed_is p n ws types g t inputs ft v) (in_parts t ft v)
      (ft.nodes.node v).level (kind_is v l) (here_at p (good c A) v l)

  here_of : (v : ℕ) → v < length p.node_list → (i : ℕ) → i < length (block_parts v (node_at p v)) → Here p (get_or (block_parts v (node_at p v)) i no_part).node (get_or (block_parts v (node_at p v)) i no_part).tree × (v < (get_or (block_parts v (node_at p v)) i no_part).node)
  here_of v l i h = block_here p v (node_at p v) (here_at p (good c A) v l) i h

  -- a part that is a node has its number, which is above its own node's
  tag_node : (q : PartRow) (k : ℕ) (s : Tree) → head_in q ≡ head_from k s → Here p k s → (part_of value g q).tag ≡ 0 → ((part_of value g q).which ≡ k) × (k < length p.node_list) × (node_at p k ≡ s)
  unfolding head_from NotLeaf
  tag_node q k (leaf true r ls) e h z = let a : q.tag ≡ 0 = ap (λ (x : Head). x.tag) e in absurd (no_tag value g q (omega arith) z)
  tag_node q k (leaf false r ls) e h z = let a : q.tag ≡ 1 = ap (λ (x : Head). x.tag) e in absurd (no_tag value g q (omega arith) z)
  tag_node q k (forall_node d σ s) e h z = let a : q.tag ≡ 2 = ap (λ (x : Head). x.tag) e in let y = node_at_lem p k (forall_node d σ s) h tt in (which_is value g q (omega arith) ∙ ap (λ (x : Head). x.which) e, y.1, y.0)
  tag_node q k (exists_node d σ s) e h z = let a : q.tag ≡ 3 = ap (λ (x : Head). x.tag) e in let y = node_at_lem p k (exists_node d σ s) h tt in (which_is value g q (omega arith) ∙ ap (λ (x : Head). x.which) e, y.1, y.0)
  tag_node q k (and_node ts) e h z = let a : q.tag ≡ 3 = ap (λ (x : Head). x.tag) e in let y = node_at_lem p k (and_node ts) h tt in (which_is value g q (omega arith) ∙ ap (λ (x : Head). x.which) e, y.1, y.0)
  tag_node q k (or_node ts) e h z = let a : q.tag ≡ 3 = ap (λ (x : Head). x.tag) e in let y = node_at_lem p k (or_node ts) h tt in (which_is value g q (omega arith) ∙ ap (λ (x : Head). x.which) e, y.1, y.0)

  above : (k : ℕ) → k < length p.node_list → k < 64
  above k l = omega (arith, count_is p n ws types g t inputs ft, ft.few)

  -- ---- sound lines
  module _ (some : 0 < n) (small : n ≤ 64) (w : List ℕ) (lined : Lined n value ws types ranges.count g t w) where
    few : (b : Bool) (k : ℕ) → k ≤ n → (if b then k else 1) ≤ n
    few true k h = h
    few false k h = some

    turns_few : (u : Tree) → block_turns p.range u ≤ n
    unfolding block_turns
    turns_few (leaf q r ls) = some
    turns_few (forall_node d σ s) = few (occurs d s) (length (p.range σ)) (omega (arith, inputs.size, range_few p.size (p.range σ) (inputs.ranged σ)))
    turns_few (exists_node d σ s) = few (occurs d s) (length (p.range σ)) (omega (arith, inputs.size, range_few p.size (p.range σ) (inputs.ranged σ)))
    turns_few (and_node ts) = some
    turns_few (or_node ts) = some

    node_sound : (v : ℕ) → v < t.count → NodeSound n w v (node_in w v)
    node_sound v l =
        let m : v < length p.node_list = omega (arith, count_is p n ws types g t inputs ft) in
        let b = block_is v m in
        rw (lined.node v l) (record {
          level = b.low;
          parts = omega (arith, b.fits, ft.few_parts);
          inside = omega (arith, b.range, b.count, turns_few (node_at p v), (row_is p n ws types g t inputs ft v m).sort, (ft.nodes.node v).sort);
          element = λ i h. lined.low ((line_at v).range + i) (omega (arith, b.range));
          rises = λ i h z.
              let j : (line_at v).first + i < t.placed = omega (arith, b.fits) in
              let k : i < length (block_parts v (node_at p v)) = rw b.many at h in
              let q = get_or t.parts ((line_at v).first + i) no_row in
              let here = here_of v m i k in
              let e = (lined.part ((line_at v).first + i) j).0 in
              let s = tag_node q (get_or (block_parts v (node_at p v)) i no_part).node (get_or (block_parts v (node_at p v)) i no_part).tree (b.head i k) here.0 (rw e at z) in
              let a : (part_in w ((line_at v).first + i)).which ≡ (get_or (block_parts v (node_at p v)) i no_part).node = ap (λ (x : PartAt). x.which) e ∙ s.0 in
              (omega (arith, a, here.1), omega (arith, a, above (get_or (block_parts v (node_at p v)) i no_part).node s.1));
        })

    rest_sound : (v : ℕ) → t.count ≤ v → v < 64 → NodeSound n w v (node_in w v)
    rest_sound v h l = rw (lined.rest v h l) (record { level = omega arith; parts = omega arith; inside = omega arith; element = λ i k. absurd (omega arith); rises = λ i k z. absurd (omega arith) })

    pub sound : SoundLines n w
    unfolding problem_of problem_with
    sound = record {
      whole = lined.whole;
      some = some;
      size = small;
      entry = lined.entry;
      node = λ v l. by_number v l (ltb v t.count) refl;
      root = λ z.
          let s = tag_node t.root 0 p.root inputs.tree.top (good c A).root_here (rw lined.top.0 at z) in
          let a : (part_in w 64).which ≡ 0 = ap (λ (x : PartAt). x.which) lined.top.0 ∙ s.0 in
          omega (arith, a);
    }
      where
        by_number : (v : ℕ) → v < 64 → (b : Bool) → ltb v t.count ≡ b → NodeSound n w v (node_in w v)
        by_number v l true e = node_sound v (ltb-true v t.count e)
        by_number v l false e = rest_sound v (ltb-false v t.count e) l

  -- ---- what the lines say, where a valuation of the literals is read off their lines
  abbrev pub Reads : Literals → Leaf → Type 0
  Reads lit read = (b : Bool) (q : PartRow) (r : ℕ) (ls : List ℕ) (e : Values) → PartFits q → q.tag ≡ (if b then 0 else 1) → q.which ≡ r → take q.width q.levels ≡ ls
      → (r < length p.relations) × (length ls ≡ (relation_at p r).arity) → Bnd n e → read e (part_of value g q) (line_of n g q) ≡ lit b r (map e ls)

  module _ (lit : Literals) (read : Leaf) (reads : Reads lit read) where
    literal_says : (q : PartRow) (k : ℕ) (s : Tree) → PartFits q → head_in q ≡ head_from k s → Here p k s → ((part_of value g q).tag ≡ 0 → ⊥) → (e : Values) → Bnd n e → read e (part_of value g q) (line_of n g q) ≡ tree_by c lit e s
    unfolding head_from tree_by Fits
    literal_says q k (leaf true r ls) f h here z e b =
        reads true q r ls e f (ap (λ (x : Head). x.tag) h) (ap (λ (x : Head). x.which) h) (ap (λ (x : Head). x.levels) h) here.fits b
    literal_says q k (leaf false r ls) f h here z e b =
        reads false q r ls e f (ap (λ (x : Head). x.tag) h) (ap (λ (x : Head). x.which) h) (ap (λ (x : Head). x.levels) h) here.fits b
    literal_says q k (forall_node d σ s) f h here z e b = let a : q.tag ≡ 2 = ap (λ (x : Head). x.tag) h in absurd (z (ap (λ (x : PartAt). x.tag) (is_node value g q (omega arith))))
    literal_says q k (exists_node d σ s) f h here z e b = let a : q.tag ≡ 3 = ap (λ (x : Head). x.tag) h in absurd (z (ap (λ (x : PartAt). x.tag) (is_node value g q (omega arith))))
    literal_says q k (and_node ts) f h here z e b = let a : q.tag ≡ 3 = ap (λ (x : Head). x.tag) h in absurd (z (ap (λ (x : PartAt). x.tag) (is_node value g q (omega arith))))
    literal_says q k (or_node ts) f h here z e b = let a : q.tag ≡ 3 = ap (λ (x : Head). x.tag) h in absurd (z (ap (λ (x : PartAt). x.tag) (is_node value g q (omega arith))))

    module _ (w : List ℕ) (lined : Lined n value ws types ranges.count g t w) where
      part_says : (q : PartRow) (k : ℕ) (s : Tree) → PartFits q → head_in q ≡ head_from k s → Here p k s → PartSays (tree_by c lit) p.root n w read (part_of value g q) (line_of n g q) k s
      unfolding problem_of problem_with node_at nodeOfTree
      part_says q k s f h here = record { node = λ z. tag_node q k s h here z; literal = λ z e b. literal_says q k s f h here z e b }

      -- what stands in the lines as a range is the problem's
      range_is : (σ : ℕ) → σ ≤ types → members_in w (range_place σ) (length (p.range σ)) ≡ p.range σ
      unfolding members_in
      range_is σ h = rw (inputs.ranges σ h) (map_places (λ i. get_or w (range_place σ + i) 0) (range_by n ws σ) (λ i q. lined.range σ i h q))

      serves : (d σ : ℕ) (s : Tree) → σ ≤ types → Serves c lit d σ s (members_in w (range_place σ) (if occurs d s then length (p.range σ) else 1))
      unfolding problem_of problem_with
      serves d σ s h = by_test (occurs d s) refl
        where
          by_test : (b : Bool) → occurs d s ≡ b → Serves c lit d σ s (members_in w (range_place σ) (if b then length (p.range σ) else 1))
          by_test true k = inl (range_is σ h)
          by_test false k = inr (k, omega (arith, members_length w (range_place σ) 1), (inputs.ranged σ).some_member)

      goes_over : (u : Tree) → Sorted types u → node_kind u < 4 → GoesOver c lit u (members_in w (range_place (node_sort u)) (block_turns p.range u))
      unfolding GoesOver block_turns node_kind node_sort Sorted
      goes_over (leaf q r ls) o h = absurd (omega arith)
      goes_over (forall_node d σ s) o h = serves d σ s o.0
      goes_over (exists_node d σ s) o h = serves d σ s o.0
      goes_over (and_node ts) o h = members_length w (range_place 0) 1
      goes_over (or_node ts) o h = members_length w (range_place 0) 1

      truth_by_lem : (v : ℕ) (u : Tree) (x : NodeAt) (e : Values) → Sorted types u → node_kind u < 4 → IsBlock p.range t v u x → tree_by c lit e u ≡ truth_by (tree_by c lit) p.root n w read x e (block_parts v u)
      unfolding truth_by
      truth_by_lem v u x e o h b = rw (b.kind, b.level, b.join, b.many, b.range, b.count) (block_truth_lem c lit v e u (members_in w (range_place (node_sort u)) (block_turns p.range u)) (goes_over u o h))

      node_says : (v : ℕ) → v < length p.node_list → NodeSays (tree_by c lit) p.root n w read (node_at p v) (node_in w v)
      node_says v l =
          let b = block_is v l in
          rw (lined.node v (omega (arith, count_is p n ws types g t inputs ft))) (record {
            parts = block_parts v (node_at p v);
            part = λ i h.
                let j : (line_at v).first + i < t.placed = omega (arith, b.fits) in
                let k : i < length (block_parts v (node_at p v)) = rw b.many at h in
                let e = lined.part ((line_at v).first + i) j in
                rw (e.0, e.1) (part_says (get_or t.parts ((line_at v).first + i) no_row) _ _ (ft.parts.part ((line_at v).first + i)) (b.head i k) (here_of v l i k).0);
            still = λ i h f e y z.
                let j : (line_at v).first + i < t.placed = omega (arith, b.fits) in
                let k : i < length (block_parts v (node_at p v)) = rw b.many at h in
                let q = get_or t.parts ((line_at v).first + i) no_row in
                alike c lit (get_or (block_parts v (node_at p v)) i no_part).tree e (line_at v).level y z
                (fixed_free n g w ((line_at v).first + i) _ (line_at v).level q _ (omega (arith, inputs.size, (good c A).element)) b.low (lined.part _ j).1 (b.head i k) f);
            truth = λ e. truth_by_lem v (node_at p v) (line_at v) e (node_sort_lem p ws types g t sized v (omega (arith, count_is p n ws types g t inputs ft))) (kind_is v l) b;
          })

      pub says_by : Says (tree_by c lit) p.root n w read
      unfolding problem_of problem_with node_at nodeOfTree
      says_by = record {
        node = λ v l. node_says v l;
        top = rw (lined.top.0, lined.top.1) (part_says t.root 0 p.root ft.root inputs.tree.top (good c A).root_here);
      }

  -- ---- by picks, whose bits are lent, and the value
  module _ (P : List Tuple) (pk : are_picks c P ≡ true) (facts : List ℕ) (fi : FactsIn (problem_of c) facts) (picks : List ℕ) (pa : PicksAre (problem_of c) picks P) where
    abbrev F : List Tuple
    F = P ++ every_value c value

    literal_of : (q : PartRow) (r : ℕ) (ls : List ℕ) (e : Values) → PartFits q → q.tag < 2 → q.which ≡ r → take q.width q.levels ≡ ls → (r < length p.relations) × (length ls ≡ (relation_at p r).arity) → Bnd n e
        → literal_at facts picks n (part_of value g q).which (part_number e (line_of n g q)) ≡ holds c F r (map e ls)
    literal_of q r ls e f h a b m bnd =
        ap₂ (literal_at facts picks n) (ap (λ (x : PartAt). x.which) (is_literal value g q h) ∙ ap (λ (x : ℕ). source_of value x (get_or g.kind x 0)) a)
        (its_number value g q n e f h ∙ ap₂ (λ (x : ℕ) (ys : List ℕ). bit_of n g x + row_of n (map e ys)) a b)
        ∙ literal_is c A P pk n value ws types g t inputs facts fi picks pa r (map e ls) (omega (arith, m.0, inputs.count)) (length-map ls e ∙ m.1) (bnd_map n e ls bnd)

    leaf_of : (q : PartRow) (e : Values) (b : Bool) → q.tag ≡ 0 → literal_at facts picks n (part_of value g q).which (part_number e (line_of n g q)) ≡ b → leaf_at facts picks n e (part_of value g q) (line_of n g q) ≡ b
    unfolding leaf_at agree
    leaf_of q e b h k = ap₂ agree k (ap (λ (x : PartAt). eqb x.tag 1) (is_literal value g q (omega arith)) ∙ ap (λ (x : ℕ). eqb (suc x) 1) h) ∙ by_test b
      where
        by_test : (b : Bool) → agree b true ≡ b
        by_test true = refl
        by_test false = refl

    not_leaf_of : (q : PartRow) (e : Values) (b : Bool) → q.tag ≡ 1 → literal_at facts picks n (part_of value g q).which (part_number e (line_of n g q)) ≡ b → leaf_at facts picks n e (part_of value g q) (line_of n g q) ≡ not b
    unfolding leaf_at agree
    not_leaf_of q e b h k = ap₂ agree k (ap (λ (x : PartAt). eqb x.tag 1) (is_literal value g q (omega arith)) ∙ ap (λ (x : ℕ). eqb (suc x) 1) h) ∙ by_test b
      where
        by_test : (b : Bool) → agree b false ≡ not b
        by_test true = refl
        by_test false = refl

    picks_read : Reads (by_picks c F F) (leaf_at facts picks n)
    unfolding by_picks
    picks_read true q r ls e f a h k m b = leaf_of q e (holds c F r (map e ls)) a (literal_of q r ls e f (omega arith) h k m b)
    picks_read false q r ls e f a h k m b = not_leaf_of q e (holds c F r (map e ls)) a (literal_of q r ls e f (omega arith) h k m b)

    pub says : (w : List ℕ) → Lined n value ws types ranges.count g t w → Says (tree_by c (by_picks c F F)) p.root n w (leaf_at facts picks n)
    says w lined = says_by (by_picks c F F) (leaf_at facts picks n) picks_read w lined

  -- ---- by words of sixty-four valuations, without an `every` line: in one of them the words say what may, and what must, be picked
  module _ (plain : c.question.every ≡ none) (may must : List Tuple) (facts : List ℕ) (fi : FactsIn (problem_of c) facts) (pos neg : List ℕ) (j : ℕ) (l : j < 64) (wa : WordsAre (problem_of c) pos neg j may must) where
    no_every : T (is_some (problem_of c).source.question.every) → ⊥
    unfolding problem_of problem_with is_some
    no_every t = subst (λ (o : Option Relation). T (is_some o)) plain t

    words_read : Reads (by_picks c may must) (leaf_in facts pos neg n j)
    unfolding by_picks
    words_read b q r ls e f a h k m bnd = by_sign b a
      where
        tag_small : (b : Bool) → q.tag ≡ (if b then 0 else 1) → q.tag < 2
        tag_small true a = omega arith
        tag_small false a = omega arith

        inside : r < g.count
        inside = omega (arith, m.0, inputs.count)

        long : length (map e ls) ≡ (relation_at p r).arity
        long = length-map ls e ∙ m.1

        row : ℕ
        row = row_of n (map e ls)

        which_is : (b : Bool) → q.tag ≡ (if b then 0 else 1) → (part_of value g q).which ≡ source_of value r (get_or g.kind r 0)
        which_is b a = ap (λ (x : PartAt). x.which) (is_literal value g q (tag_small b a)) ∙ ap (λ (x : ℕ). source_of value x (get_or g.kind x 0)) h

        number_is : (b : Bool) → q.tag ≡ (if b then 0 else 1) → part_number e (line_of n g q) ≡ bit_of n g r + row
        number_is b a = its_number value g q n e f (tag_small b a) ∙ ap₂ (λ (x : ℕ) (ys : List ℕ). bit_of n g x + row_of n (map e ys)) h k

        tag_is : (b : Bool) → q.tag ≡ (if b then 0 else 1) → eqb (part_of value g q).tag 1 ≡ b
        tag_is b a = ap (λ (x : PartAt). eqb x.tag 1) (is_literal value g q (tag_small b a)) ∙ ap (λ (x : ℕ). eqb (suc x) 1) a ∙ by_test b
          where
            by_test : (b : Bool) → eqb (suc (if b then 0 else 1)) 1 ≡ b
            by_test true = refl
            by_test false = refl

        none_there : T (is_universal (relation_at p r).kind) → ⊥
        none_there u = no_every ((good c A).every_one r m.0 u).1

        tuple_says : Stands c A may n value ws types g t inputs facts fi facts r (map e ls) inside long (bnd_map n e ls bnd) → q.tag ≡ 0 → leaf_in facts pos neg n j e (part_of value g q) (line_of n g q) ≡ holds c may r (map e ls)
        tuple_says (fixed_literal s v) a = leaf_fixed facts pos neg n e (part_of value g q) (line_of n g q) j l true _ (subst (λ (x : ℕ). x < 6) (sym (which_is true a)) s) (ap₂ (literal_at facts facts n) (which_is true a) (number_is true a) ∙ v) (tag_is true a) ∙ agree_true _
        tuple_says (chosen_literal s k' o v) a = leaf_pos facts pos neg n e (part_of value g q) (line_of n g q) j (which_is true a ∙ s) (tag_is true a) ∙ ap (λ (x : ℕ). digit (get_or pos x 0) j) (number_is true a ∙ o) ∙ (wa r row m.0 k' (row_small c A may n value ws types g t inputs facts fi facts r (map e ls) inside long (bnd_map n e ls bnd))).0 ∙ v may
        tuple_says (every_literal s u o) a = absurd (none_there u)

        not_says : Stands c A must n value ws types g t inputs facts fi facts r (map e ls) inside long (bnd_map n e ls bnd) → q.tag ≡ 1 → leaf_in facts pos neg n j e (part_of value g q) (line_of n g q) ≡ not (holds c must r (map e ls))
        not_says (fixed_literal s v) a = leaf_fixed facts pos neg n e (part_of value g q) (line_of n g q) j l false _ (subst (λ (x : ℕ). x < 6) (sym (which_is false a)) s) (ap₂ (literal_at facts facts n) (which_is false a) (number_is false a) ∙ v) (tag_is false a) ∙ agree_false _
        not_says (chosen_literal s k' o v) a = leaf_neg facts pos neg n e (part_of value g q) (line_of n g q) j (which_is false a ∙ s) (tag_is false a) ∙ ap (λ (x : ℕ). digit (get_or neg x 0) j) (number_is false a ∙ o) ∙ (wa r row m.0 k' (row_small c A must n value ws types g t inputs facts fi facts r (map e ls) inside long (bnd_map n e ls bnd))).1 ∙ ap not (v must)
        not_says (every_literal s u o) a = absurd (none_there u)

        by_sign : (b : Bool) → q.tag ≡ (if b then 0 else 1) → leaf_in facts pos neg n j e (part_of value g q) (line_of n g q) ≡ by_picks c may must b r (map e ls)
        by_sign true a = tuple_says (stands c A may n value ws types g t inputs facts fi facts r (map e ls) inside long (bnd_map n e ls bnd)) a
        by_sign false a = not_says (stands c A must n value ws types g t inputs facts fi facts r (map e ls) inside long (bnd_map n e ls bnd)) a

    pub says_words : (w : List ℕ) → Lined n value ws types ranges.count g t w → Says (tree_by c (by_picks c may must)) p.root n w (leaf_in facts pos neg n j)
    says_words w lined = says_by (by_picks c may must) (leaf_in facts pos neg n j) words_read w lined

pub rule_is : (c : Case) (F : List Tuple) (r : Bool) → Accepted c → r ≡ tree_by c (by_picks c F F) no_values (problem_of c).root → r ≡ rule_holds c F
unfolding problem_of problem_with
rule_is c F r A e = e ∙ by_holds c F no_values (problem_of c).root ∙ tree_means c F A
