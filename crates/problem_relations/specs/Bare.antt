-- A problem without its rule: the same relations, and no node. What is asked of lent picks is the same for both.
use Prim.Native.Nat.{ℕ, zero, suc, ◌+◌, ◌-◌, ◌*◌, ◌^◌, ◌≤◌, ◌<◌, min}
use Rattle.std.specs.Prelude.{◌≡◌, Bool, length, drop, get_or, set, replicate, if◌then◌else◌}
use Rattle.std.proofs.Math.Path.{refl, ap, ap₂, fun_ext}
use Rattle.std.proofs.Common.{sym, subst, ◌∙◌, arith}
use Rattle.std.proofs.Math.Bool.{true, false}
use Rattle.std.proofs.Math.Option.{some}
use mathlib.Core.List.{List, [], ◌∷◌, map}
use Rattle.definitions.specs.Sheet.Sheets.{relations, relations_of}
use Rattle.definitions.specs.Problem.Truth.{Case}
use Rattle.bits.specs.Table.{bit}
use Rattle.definitions.specs.Lists.{option, position, below, sum}
use Rattle.definitions.specs.Sheet.Relations.{is_chosen, is_universal, built_in}
use Rattle.definitions.specs.Problem.Tree.{leaf, nodes}
use Rattle.definitions.specs.Problem.Atoms.{Problem, relation_at, tuples_of, tuple_start, relation_start, node_start, problem_of, problem_with}
use Rattle.definitions.specs.Problem.Actions.{set_start, proof_start}
use Rattle.definitions.specs.Problem.Built.{chosen_numbers}
use Rattle.definitions.specs.Reply.Outcome.{relation_words, picks_length, has_spare, spare_word}
use Rattle.laws.specs.Booleans.{T_true, T_false}
use Rattle.laws.specs.Numbers.{early_start, late_start, node_first, node_atoms_lem, proof_first}
use Rattle.laws.specs.Sorts.{Sorted}
use Rattle.meaning.specs.KindRows.{breaks}
use Rattle.rule_nodes.specs.Tables.{no_part, no_node, head_from, Levels, PartIn, IsTable, PartFits, NodeFits, Fits}
use Rattle.rule_nodes.specs.declared.PartRow.{PartRow}
use Rattle.rule_nodes.specs.declared.NodeRow.{NodeRow}
use Rattle.rule_nodes.specs.declared.Nodes.{Nodes}
use Rattle.problem_layout.specs.declared.Relations.{Relations}
use Rattle.problem_layout.specs.declared.Layout.{Layout}
use Rattle.problem_layout.specs.Laid.{RelationsFit, Inputs, Starts, has_last, Small}
use Rattle.problem_layout.specs.LaidLaws.{most_set}
use Rattle.problem_layout.specs.StartsAre.{lasts_none, counted, late_last, early_other, stays, is_other}
use Rattle.step_picks.specs.Words.{word_start, rows_in}
use Rattle.step_picks.specs.Tests.{broken_at}

unfoldable pub bare : Problem → Problem
bare p = record { source = p.source; size = p.size; range = p.range; relations = p.relations; root = leaf true zero []; node_list = [] }

-- a table of nodes that has none
abbrev pub blank_part : PartRow
blank_part = record { tag = 0; which = 0; sort = 0; levels = 0 ∷ 0 ∷ 0 ∷ 0 ∷ []; width = 0 }

abbrev pub blank_row : NodeRow
blank_row = record { kind = 0; level = 0; sort = 0; levels = 0 ∷ 0 ∷ 0 ∷ 0 ∷ []; width = 0; first = 0; many = 0 }

abbrev pub no_nodes : Nodes
no_nodes = record { count = 0; placed = 0; rows = replicate 64 blank_row; parts = replicate 64 blank_part; root = blank_part }

-- a layout without nodes: the atoms of an `every` line's relation start where those of the others end
abbrev pub size_of : ℕ → Relations → ℕ
size_of n g = n ^ get_or g.arity (g.count - 1) 0

unfoldable pub bare_layout : ℕ → Relations → Layout → Layout
bare_layout n g l =
    let end = get_or l.rel g.count 0 in
    if has_last g
    then record {
      rel = set l.rel (g.count - 1) end;
      neg = set l.neg (g.count - 1) (min (end + size_of n g) (get_or l.neg (g.count - 1) 0));
      dom = set l.dom (g.count - 1) (min (end + (size_of n g + size_of n g)) (get_or l.dom (g.count - 1) 0));
      set = l.set;
      node = l.node;
      act = l.act;
    }
    else l

module _ (n : ℕ) (g : Relations) (l : Layout) where
  pub bare_none : has_last g ≡ false → l ≡ bare_layout n g l
  unfolding bare_layout
  bare_none h = rw h refl

  rel_none : has_last g ≡ false → (bare_layout n g l).rel ≡ l.rel
  rel_none h = ap (λ (x : Layout). x.rel) (sym (bare_none h))

  neg_none : has_last g ≡ false → (bare_layout n g l).neg ≡ l.neg
  neg_none h = ap (λ (x : Layout). x.neg) (sym (bare_none h))

  dom_none : has_last g ≡ false → (bare_layout n g l).dom ≡ l.dom
  dom_none h = ap (λ (x : Layout). x.dom) (sym (bare_none h))

  rel_here : has_last g ≡ true → (bare_layout n g l).rel ≡ set l.rel (g.count - 1) (get_or l.rel g.count 0)
  unfolding bare_layout
  rel_here h = rw h refl

  neg_here : has_last g ≡ true → (bare_layout n g l).neg ≡ set l.neg (g.count - 1) (min (get_or l.rel g.count 0 + size_of n g) (get_or l.neg (g.count - 1) 0))
  unfolding bare_layout
  neg_here h = rw h refl

  dom_here : has_last g ≡ true → (bare_layout n g l).dom ≡ set l.dom (g.count - 1) (min (get_or l.rel g.count 0 + (size_of n g + size_of n g)) (get_or l.dom (g.count - 1) 0))
  unfolding bare_layout
  dom_here h = rw h refl

  set_same : (bare_layout n g l).set ≡ l.set
  unfolding bare_layout
  set_same = by_test (has_last g) refl
    where
      by_test : (b : Bool) → has_last g ≡ b → (bare_layout n g l).set ≡ l.set
      by_test true e = rw e refl
      by_test false e = rw e refl

  node_same : (bare_layout n g l).node ≡ l.node
  unfolding bare_layout
  node_same = by_test (has_last g) refl
    where
      by_test : (b : Bool) → has_last g ≡ b → (bare_layout n g l).node ≡ l.node
      by_test true e = rw e refl
      by_test false e = rw e refl

  act_same : (bare_layout n g l).act ≡ l.act
  unfolding bare_layout
  act_same = by_test (has_last g) refl
    where
      by_test : (b : Bool) → has_last g ≡ b → (bare_layout n g l).act ≡ l.act
      by_test true e = rw e refl
      by_test false e = rw e refl

  -- as the code writes it
  pub bare_here : has_last g ≡ true → (size x y : ℕ) → size ≡ size_of n g → x ≡ min (get_or l.rel g.count 0 + size) (get_or l.neg (g.count - 1) 0)
      → y ≡ min (get_or l.rel g.count 0 + (size + size)) (get_or l.dom (g.count - 1) 0)
      → record { rel = set l.rel (g.count - 1) (get_or l.rel g.count 0); neg = set l.neg (g.count - 1) x; dom = set l.dom (g.count - 1) y; set = l.set; node = l.node; act = l.act } ≡ bare_layout n g l
  unfolding bare_layout
  bare_here h size x y e a b = rw (h, a, b, e) refl

  pub bare_small : (b : ℕ) → Small l b → Small (bare_layout n g l) b
  bare_small b s = by_test (has_last g) refl
    where
      by_test : (x : Bool) → has_last g ≡ x → Small (bare_layout n g l) b
      by_test false e = subst (λ (x : Layout). Small x b) (bare_none e) s
      by_test true e = record {
        rel = rw (rel_here e) (most_set l.rel (g.count - 1) _ b b (s.rel g.count) (omega arith) s.rel);
        neg = rw (neg_here e) (most_set l.neg (g.count - 1) _ b b (let q = s.neg (g.count - 1) in omega arith) (omega arith) s.neg);
        dom = rw (dom_here e) (most_set l.dom (g.count - 1) _ b b (let q = s.dom (g.count - 1) in omega arith) (omega arith) s.dom);
        set = rw set_same s.set;
        node = rw node_same s.node;
        act = rw act_same s.act;
      }

-- what holds of the element and of the default holds of every entry
each_entry : {A : Type 0} (P : A → Type 0) (x d : A) → P x → P d → (k i : ℕ) → P (get_or (replicate k x) i d)
each_entry P x d a b zero i = b
each_entry P x d a b (suc k) zero = a
each_entry P x d a b (suc k) (suc i) = each_entry P x d a b k i

levels_none : Levels []
levels_none i = omega arith

levels_zero : Levels (0 ∷ 0 ∷ 0 ∷ 0 ∷ [])
levels_zero zero = omega arith
levels_zero (suc zero) = omega arith
levels_zero (suc (suc zero)) = omega arith
levels_zero (suc (suc (suc zero))) = omega arith
levels_zero (suc (suc (suc (suc i)))) = omega arith

part_fits : (ls : List ℕ) → Levels ls → PartFits (record { tag = 0; which = 0; sort = 0; levels = ls; width = 0 })
part_fits ls h = record { width = omega arith; sort = omega arith; levels = h; relation = λ _. omega arith; node = λ _. omega arith }

row_fits : (ls : List ℕ) → Levels ls → NodeFits 0 (record { kind = 0; level = 0; sort = 0; levels = ls; width = 0; first = 0; many = 0 })
row_fits ls h = record { width = omega arith; levels = h; level = omega arith; sort = omega arith; parts = omega arith }

pub none_fits : Fits no_nodes
none_fits = record {
  few = omega arith;
  few_parts = omega arith;
  parts = record { parts_length = refl; part = each_entry PartFits blank_part no_part (part_fits (0 ∷ 0 ∷ 0 ∷ 0 ∷ []) levels_zero) (part_fits [] levels_none) 64 };
  nodes = record { rows_length = refl; node = each_entry (NodeFits 0) blank_row no_node (row_fits (0 ∷ 0 ∷ 0 ∷ 0 ∷ []) levels_zero) (row_fits [] levels_none) 64 };
  root = part_fits (0 ∷ 0 ∷ 0 ∷ 0 ∷ []) levels_zero;
}

part_in : (rels : ℕ) (ls : List ℕ) → 0 < rels → PartIn rels 0 (record { tag = 0; which = 0; sort = 0; levels = ls; width = 0 })
part_in rels ls h = record { relation = λ _. h; node = λ l. absurd (omega arith) }

none_table : (rels : ℕ) → 0 < rels → IsTable rels (leaf true zero []) no_nodes
unfolding nodes head_from
none_table rels h = record {
  count = refl;
  node = λ v l. absurd (omega arith);
  top = refl;
  within = each_entry (PartIn rels 0) blank_part no_part (part_in rels (0 ∷ 0 ∷ 0 ∷ 0 ∷ []) h) (part_in rels [] h) 64;
  top_within = part_in rels (0 ∷ 0 ∷ 0 ∷ 0 ∷ []) h;
}

module _ (p : Problem) where
  pub bare_inputs : (n : ℕ) (w : List ℕ) (k : ℕ) (g : Relations) (t : Nodes) → 0 < length p.relations → Inputs p n w k g t → Inputs (bare p) n w k g no_nodes
  unfolding bare nodes relation_at Sorted
  bare_inputs n w k g t h i = record {
    size = i.size;
    list = refl;
    ranges = i.ranges;
    ranged = i.ranged;
    sorted = tt;
    count = i.count;
    arity = i.arity;
    kind = i.kind;
    pairs = i.pairs;
    firsts = i.firsts;
    seconds = i.seconds;
    placed = i.placed;
    tree = none_table g.count (omega (arith, i.count));
    every = record { sized = i.every.sized; last = i.every.last; line = i.every.line; alone = i.every.alone };
  }

  -- ---- what starts where
  start_is : (r : ℕ) → relation_start (bare p) r ≡ relation_start p r
  unfolding bare relation_start
  start_is r = refl

  tuples_are : (r : ℕ) → tuples_of (bare p).size (relation_at (bare p) r) ≡ tuples_of p.size (relation_at p r)
  unfolding bare relation_at
  tuples_are r = refl

  tuples_power : (r : ℕ) → p.size ^ (relation_at p r).arity ≡ tuples_of p.size (relation_at p r)
  unfolding tuples_of
  tuples_power r = refl

  sets_is : (r : ℕ) → set_start (bare p) r ≡ set_start p r
  unfolding bare set_start
  sets_is r = refl

  kind_is : (r : ℕ) → is_universal (relation_at (bare p) r).kind ≡ is_universal (relation_at p r).kind
  unfolding bare relation_at
  kind_is r = refl

  count_is : length (bare p).relations ≡ length p.relations
  unfolding bare
  count_is = refl

  no_node_lem : length (bare p).node_list ≡ 0
  unfolding bare
  no_node_lem = refl

  -- the nodes have none, so that what is behind them starts where the relations end
  ends_is : node_start (bare p) (length (bare p).node_list) ≡ relation_start p (length p.relations)
  ends_is = ap (node_start (bare p)) no_node_lem ∙ node_first (bare p) ∙ start_is (length (bare p).relations) ∙ ap (relation_start p) count_is

  module _ (n : ℕ) (w : List ℕ) (k : ℕ) (g : Relations) (t : Nodes) (some : 0 < length p.relations) (few : RelationsFit g) (i : Inputs p n w k g t) (l : Layout) (long : (19 ≤ length l.rel) × (18 ≤ length l.neg) × (18 ≤ length l.dom)) (s : Starts p l) where
    abbrev of : Inputs p p.size w k g t
    of = subst (λ (m : ℕ). Inputs p m w k g t) i.size i

    end_is : get_or l.rel g.count 0 ≡ relation_start p (length p.relations)
    end_is = ap (λ (r : ℕ). get_or l.rel r 0) i.count ∙ s.rel_end

    -- the relation of an `every` line starts behind the nodes
    late_both : (r : ℕ) → r < g.count → is_universal (relation_at p r).kind ≡ true → (tuple_start p r ≡ node_start p (length p.node_list)) × (tuple_start (bare p) r ≡ relation_start p (length p.relations))
    late_both r h e =
        let none : (j : ℕ) → j < r → is_universal (relation_at p j).kind ≡ false =
        λ j q. T_false (is_universal (relation_at p j).kind) (λ u. let (a, b) = late_last p w k g t of j (omega arith) (T_true (is_universal (relation_at p j).kind) u) in let (c, d) = late_last p w k g t of r h e in omega arith) in (
          late_start p r e ∙ lasts_none p r (omega (arith, i.count)) none,
          late_start (bare p) r (kind_is r ∙ e) ∙ lasts_none (bare p) r (omega (arith, i.count, count_is)) (λ j q. kind_is j ∙ none j q) ∙ ends_is,
        )

    starts_at : (r : ℕ) → r < g.count → let x = bare_layout n g l in (get_or x.rel r 0 ≡ tuple_start (bare p) r) × (get_or x.neg r 0 ≡ tuple_start (bare p) r + tuples_of p.size (relation_at p r))
        × (get_or x.dom r 0 ≡ tuple_start (bare p) r + 2 * tuples_of p.size (relation_at p r))
    starts_at r h = by_test (is_universal (relation_at p r).kind) refl
      where
        by_test : (b : Bool) → is_universal (relation_at p r).kind ≡ b → let x = bare_layout n g l in (get_or x.rel r 0 ≡ tuple_start (bare p) r) × (get_or x.neg r 0 ≡ tuple_start (bare p) r + tuples_of p.size (relation_at p r))
            × (get_or x.dom r 0 ≡ tuple_start (bare p) r + 2 * tuples_of p.size (relation_at p r))
        by_test false e =
            let other = early_other p w k g t of r h e in
            let m : tuple_start (bare p) r ≡ tuple_start p r = early_start (bare p) r (kind_is r ∙ e) ∙ start_is r ∙ sym (early_start p r e) in
            let b : r < length p.relations = omega (arith, i.count) in (
              stays p w k g t of l.rel _ _ (rel_none n g l) (rel_here n g l) r other ∙ s.rel r b ∙ sym m,
              stays p w k g t of l.neg _ _ (neg_none n g l) (neg_here n g l) r other ∙ s.neg r b ∙ ap (λ (x : ℕ). x + tuples_of p.size (relation_at p r)) (sym m),
              stays p w k g t of l.dom _ _ (dom_none n g l) (dom_here n g l) r other ∙ s.dom r b ∙ ap (λ (x : ℕ). x + 2 * tuples_of p.size (relation_at p r)) (sym m),
            )
        by_test true e =
            let (c, d) = late_last p w k g t of r h e in
            let (u, v) = late_both r h e in
            let b : r < length p.relations = omega (arith, i.count) in
            let f : g.count - 1 ≡ r = omega arith in
            let z : size_of n g ≡ tuples_of p.size (relation_at p r) = ap₂ (λ (m a : ℕ). m ^ a) i.size (ap (λ (j : ℕ). get_or g.arity j 0) f ∙ i.arity r h) ∙ tuples_power r in
            let q = node_atoms_lem p in
            let q' = node_first p in
            let x = is_other p w k g t of l.rel _ _ (rel_none n g l) (rel_here n g l) r h (omega (arith, few.count, long.0)) e in
            let y = is_other p w k g t of l.neg _ _ (neg_none n g l) (neg_here n g l) r h (omega (arith, few.count, long.1)) e in
            let y' = is_other p w k g t of l.dom _ _ (dom_none n g l) (dom_here n g l) r h (omega (arith, few.count, long.2)) e in
            let a₁ = ap (λ (j : ℕ). get_or l.neg j 0) f ∙ s.neg r b in
            let a₂ = ap (λ (j : ℕ). get_or l.dom j 0) f ∙ s.dom r b in
            (omega (arith, x, end_is, v), omega (arith, y, end_is, z, u, v, a₁, q, q'), omega (arith, y', end_is, z, u, v, a₂, q, q'))

    pub bare_starts : Starts (bare p) (bare_layout n g l)
    bare_starts = record {
      rel = λ r h. (starts_at r (omega (arith, i.count, count_is))).0;
      rel_end =
          ap (λ (r : ℕ). get_or (bare_layout n g l).rel r 0) (count_is ∙ sym i.count)
          ∙ stays p w k g t of l.rel _ _ (rel_none n g l) (rel_here n g l) g.count (λ q e. let c = counted g q in omega arith)
          ∙ end_is ∙ sym (start_is (length p.relations)) ∙ ap (relation_start (bare p)) (sym count_is);
      neg = λ r h. (starts_at r (omega (arith, i.count, count_is))).1 ∙ ap (λ (x : ℕ). tuple_start (bare p) r + x) (sym (tuples_are r));
      dom = λ r h. (starts_at r (omega (arith, i.count, count_is))).2 ∙ ap (λ (x : ℕ). tuple_start (bare p) r + 2 * x) (sym (tuples_are r));
      set = λ r h. ap (λ (xs : List ℕ). get_or xs r 0) (set_same n g l) ∙ set_at r h;
      node = λ v h. ap (λ (xs : List ℕ). get_or xs v 0) (node_same n g l) ∙ first v h;
      act = λ v h. ap (λ (xs : List ℕ). get_or xs v 0) (act_same n g l) ∙ begins v h;
    }
      where
        set_at : (r : ℕ) → r ≤ length (bare p).relations → get_or l.set r 0 ≡ set_start (bare p) r
        set_at r h = s.set r (omega (arith, count_is)) ∙ sym (sets_is r)

        first : (v : ℕ) → v ≤ length (bare p).node_list → get_or l.node v 0 ≡ node_start (bare p) v
        first zero h = s.node 0 (omega arith) ∙ node_first p ∙ sym (start_is (length p.relations)) ∙ ap (relation_start (bare p)) (sym count_is) ∙ sym (node_first (bare p))
        first (suc v) h = absurd (omega (arith, no_node_lem))

        begins : (v : ℕ) → v ≤ length (bare p).node_list → get_or l.act v 0 ≡ proof_start (bare p) v
        begins zero h = s.act 0 (omega arith) ∙ proof_first p ∙ ap (λ (x : ℕ). x + 1) (sym (sets_is (length p.relations)) ∙ ap (set_start (bare p)) (sym count_is)) ∙ sym (proof_first (bare p))
        begins (suc v) h = absurd (omega (arith, no_node_lem))

  chosen_same : chosen_numbers (bare p) ≡ chosen_numbers p
  unfolding bare chosen_numbers relation_at
  chosen_same = refl

  words_same : (r : ℕ) → relation_words (bare p) r ≡ relation_words p r
  unfolding bare relation_words relation_at
  words_same r = refl

  pub length_same : picks_length (bare p) ≡ picks_length p
  unfolding picks_length
  length_same = ap₂ (λ (f : ℕ → ℕ) (rs : List ℕ). sum (map f rs)) (fun_ext words_same) chosen_same

  has_same : (words : List ℕ) (r j : ℕ) → has_spare (bare p) words r j ≡ has_spare p words r j
  unfolding bare has_spare relation_at
  has_same words r j = refl

  spare_from : (words : List ℕ) (start : ℕ) (rs : List ℕ) → spare_word (bare p) words start rs ≡ spare_word p words start rs
  unfolding spare_word
  spare_from words start [] = refl
  spare_from words start (r ∷ rs) =
      rw (words_same r, spare_from (drop (relation_words p r) words) (start + relation_words p r) rs)
      (ap (λ (f : ℕ → Bool). option (position f (below (relation_words p r))) (spare_word p (drop (relation_words p r) words) (start + relation_words p r) rs) (λ j. some (start + j))) (fun_ext (has_same words r)))

  pub spare_same : (words : List ℕ) → spare_word (bare p) words zero (chosen_numbers (bare p)) ≡ spare_word p words zero (chosen_numbers p)
  spare_same words = spare_from words zero (chosen_numbers (bare p)) ∙ ap (spare_word p words zero) chosen_same

  start_same : (r : ℕ) → word_start (bare p) r ≡ word_start p r
  unfolding bare word_start relation_words relation_at
  start_same zero = refl
  start_same (suc r) = ap (λ (k : ℕ). k + (if is_chosen (relation_at p r).kind then relation_words p r else zero)) (start_same r)

  breaks_alike : (words : List ℕ) (r : ℕ) → broken_at (bare p) (rows_in (bare p) words) r ≡ broken_at p (rows_in p words) r
  unfolding bare relation_at
  breaks_alike words r =
      ap (λ (k : ℕ). breaks (relation_at p r).kind (p.range (relation_at p r).firsts) (p.range (relation_at p r).seconds) p.size (λ row. bit words (64 * k + row))) (start_same r)

  pub kinds_same : (words : List ℕ) → position (broken_at (bare p) (rows_in (bare p) words)) (chosen_numbers (bare p)) ≡ position (broken_at p (rows_in p words)) (chosen_numbers p)
  kinds_same words = ap₂ (λ (f : ℕ → Bool) (rs : List ℕ). position f rs) (fun_ext (breaks_alike words)) chosen_same

-- every case has the relations that are built in
pub some_relations : (c : Case) → 0 < length (problem_of c).relations
unfolding problem_of problem_with relations_of relations built_in
some_relations c = omega arith
