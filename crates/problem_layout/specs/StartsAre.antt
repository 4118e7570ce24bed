-- The sums by the tables are the problem's starts.
use Rattle.std.specs.Prelude.{◌≡◌, refl, Bool, false, ◌&&◌, ltb, length, get_or, set, take, drop, if◌then◌else◌}
use Rattle.std.proofs.Math.Path.{sym, ap, ap₂, subst}
use Rattle.std.proofs.Common.{◌∙◌, length-drop, length-take-le, get_or-set_same, get_or-set_other}
use Rattle.std.proofs.Math.Bool.{true, false≢true}
use mathlib.Core.List.{List, [], ◌∷◌, map}
use Prim.Native.Nat.{ℕ, zero, suc, ◌+◌, ◌-◌, ◌*◌, ◌^◌, ◌≤◌, ◌<◌}
use native.Mathlib.Omega.{arith}
use Rattle.std.proofs.Math.Decide.{dec_lt}
use Rattle.std.proofs.Math.Nat.{one-le-pow}
use borrow.Author.Tests.{lt-ltb, ltb-true}
use Rattle.std.proofs.Math.Dec.{eqb}
use Rattle.std.proofs.lemmas.List.{length-map}
use Rattle.definitions.specs.Lists.{sum}
use Rattle.definitions.specs.Sheet.Relations.{Kind, static, plain, Fun, PFun, Inj, PInj, universal, Relation, is_chosen, is_universal, is_function, is_injective}
use Rattle.definitions.specs.Problem.Tree.{Tree, leaf, forall_node, exists_node, and_node, or_node, parts, is_forall, node_sort}
use Rattle.definitions.specs.Problem.Atoms.{Problem, relation_at, node_at, relation_start, node_start, last_start, tuple_start, first_tuples, last_tuples, tuples_of, rows_of, node_width as width_of, not_tuple, atom_number, atoms}
use Rattle.definitions.specs.Problem.Actions.{choices, sets_of, proofs_of, set_start, proof_start}
use Rattle.definitions.specs.Problem.Built.{most_picks}
use Rattle.laws.specs.Booleans.{T_of, T_true, T_false}
use Rattle.laws.specs.Sorts.{Sorted}
use Rattle.laws.specs.SetRows.{sets_all}
use Rattle.laws.specs.Numbers.{no_relation, relation_width as width_in, relation_first, relation_next, set_first, set_next, node_first, node_next, proof_first, proof_next, actions_end, IsAtom, early_start, late_start, last_first, last_next, last_width, atom_below, node_le}
use Rattle.rule_nodes.specs.Bounds.{in_parts}
use Rattle.rule_nodes.specs.Tables.{node_kind, head_in, head_of, IsNode, no_node, Fits}
use Rattle.rule_nodes.specs.declared.PartRow.{PartRow}
use Rattle.rule_nodes.specs.declared.NodeRow.{NodeRow}
use Rattle.rule_nodes.specs.declared.Nodes.{Nodes}
use Rattle.problem_table.specs.Of.{kind_number}
use Rattle.problem_table.specs.OfLaws.{parts_length, universal_number}
use Rattle.problem_layout.specs.declared.Relations.{Relations}
use Rattle.problem_layout.specs.declared.Ranges.{Ranges}
use Rattle.problem_layout.specs.Laid.{relation_width, set_width, firsts_at, seconds_at, most_width, node_width, choices_of, RangesAre, count_at, choices_at, relation_sum, set_sum, pick_sum, node_sum, act_sum, RelationsFit, RelationsLaid, NodesLaid, Inputs, has_last, LastLaid, Laid}
use Rattle.problem_layout.specs.SortLaws.{sort_within, node_sorted}

-- ---- by the kind
width_is : (n T : ℕ) (k : Kind) → relation_width n T (kind_number k) ≡ (if is_universal k then 0 else T) + ((if is_universal k then 0 else T) + ((if is_function k then n else 0) + (if is_injective k then n else 0)))
unfolding relation_width kind_number is_universal is_function is_injective
width_is n T static = omega arith
width_is n T plain = omega arith
width_is n T Fun = omega arith
width_is n T PFun = omega arith
width_is n T Inj = omega arith
width_is n T PInj = omega arith
width_is n T universal = refl

sets_are : (T a b : ℕ) (k : Kind) → set_width T a b (kind_number k) ≡ (if is_function k then a * b else if is_chosen k then T else 0)
unfolding set_width kind_number is_function is_chosen
sets_are T a b static = refl
sets_are T a b plain = refl
sets_are T a b Fun = refl
sets_are T a b PFun = refl
sets_are T a b Inj = refl
sets_are T a b PInj = refl
sets_are T a b universal = refl

picks_are : (n T : ℕ) (k : Kind) → most_width n T (kind_number k) ≡ (if is_function k then n else (if is_chosen k then T else 0))
unfolding most_width kind_number is_function is_chosen
picks_are n T static = refl
picks_are n T plain = refl
picks_are n T Fun = refl
picks_are n T PFun = refl
picks_are n T Inj = refl
picks_are n T PInj = refl
picks_are n T universal = refl

node_width_is : (n T : ℕ) (u : Tree) → node_width n T (node_kind u) ≡ (if is_forall u then T * n else T)
unfolding node_width node_kind is_forall
node_width_is n T (leaf q r ls) = refl
node_width_is n T (forall_node d σ u) = refl
node_width_is n T (exists_node d σ u) = refl
node_width_is n T (and_node us) = refl
node_width_is n T (or_node us) = refl

pub many_are : (v : ℕ) (u : Tree) (w : NodeRow) (ps : List PartRow) → IsNode v u w ps → w.first + w.many ≤ length ps → w.many ≡ length (parts v u)
many_are v u w ps i h =
    let a : length (take w.many (drop w.first ps)) ≡ w.many = length-take-le w.many (drop w.first ps) (omega (arith, length-drop w.first ps)) in
    sym a ∙ sym (length-map (take w.many (drop w.first ps)) head_in) ∙ ap length i.parts ∙ length-map (parts v u) head_of

choices_are : (c : ℕ) (R : ℕ → List ℕ) (v : ℕ) (u : Tree) (w : NodeRow) (ps : List PartRow) → c ≡ length (R (node_sort u)) → IsNode v u w ps → w.first + w.many ≤ length ps → choices_of c (node_kind u) w.many ≡ choices R u
unfolding choices_of node_kind choices parts node_sort
choices_are c R v (leaf q r ls) w ps a i b = many_are v (leaf q r ls) w ps i b
choices_are c R v (forall_node d σ u) w ps a i b = a
choices_are c R v (exists_node d σ u) w ps a i b = a
choices_are c R v (and_node us) w ps a i b = refl
choices_are c R v (or_node us) w ps a i b = many_are v (or_node us) w ps i b ∙ parts_length (suc v) us

sum_next : (f : Relation → ℕ) (r : ℕ) (ks : List Relation) → r < length ks → sum (map f (take (suc r) ks)) ≡ sum (map f (take r ks)) + f (get_or ks r no_relation)
unfolding sum
sum_next f r [] h = absurd (omega arith)
sum_next f zero (k ∷ ks) h = omega arith
sum_next f (suc r) (k ∷ ks) h = let q = sum_next f r ks (omega arith) in omega arith

sum_none : (f : Relation → ℕ) → sum (map f []) ≡ 0
unfolding sum
sum_none f = refl

module _ (p : Problem) (ws : List ℕ) (k : ℕ) (g : Relations) (t : Nodes) (is : Inputs p p.size ws k g t) where
  relation_width_lem : (r : ℕ) → r < g.count → relation_width p.size (p.size ^ get_or g.arity r 0) (get_or g.kind r 0) ≡ width_in p.size (relation_at p r)
  unfolding width_in first_tuples tuples_of
  relation_width_lem r h = ap₂ (λ (a k : ℕ). relation_width p.size (p.size ^ a) k) (is.arity r h) (is.kind r h) ∙ width_is p.size (p.size ^ (relation_at p r).arity) (relation_at p r).kind

  module _ (ranges : Ranges) (ra : RangesAre p.size ws k ranges) where
    -- a sort has as many elements as its range
    pub sort_count : (s : ℕ) → s ≤ k → get_or ranges.count s 0 ≡ length (p.range s)
    sort_count s b = ra.count s b ∙ ap length (sym (is.ranges s b))

    pub firsts_count : (r : ℕ) → r < g.count → firsts_at ranges.count g r ≡ length (p.range (relation_at p r).firsts)
    firsts_count r h = ap (λ (s : ℕ). get_or ranges.count s 0) (is.firsts r h) ∙ sort_count (relation_at p r).firsts (is.placed r h).0

    pub seconds_count : (r : ℕ) → r < g.count → seconds_at ranges.count g r ≡ length (p.range (relation_at p r).seconds)
    seconds_count r h = ap (λ (s : ℕ). get_or ranges.count s 0) (is.seconds r h) ∙ sort_count (relation_at p r).seconds (is.placed r h).1

    set_width_lem : (r : ℕ) → r < g.count → set_width (p.size ^ get_or g.arity r 0) (firsts_at ranges.count g r) (seconds_at ranges.count g r) (get_or g.kind r 0) ≡ sets_of p.size p.range (relation_at p r)
    unfolding tuples_of
    set_width_lem r h =
        ap₂ (λ (a k : ℕ). set_width (p.size ^ a) (firsts_at ranges.count g r) (seconds_at ranges.count g r) k) (is.arity r h) (is.kind r h)
        ∙ ap₂ (λ (x y : ℕ). set_width (p.size ^ (relation_at p r).arity) x y (kind_number (relation_at p r).kind)) (firsts_count r h) (seconds_count r h)
        ∙ sets_are (p.size ^ (relation_at p r).arity) (length (p.range (relation_at p r).firsts)) (length (p.range (relation_at p r).seconds)) (relation_at p r).kind ∙ sym (sets_all p.size p.range (relation_at p r) is.ranged (is.pairs r h))

    pub set_are : (r : ℕ) → r ≤ g.count → set_sum p.size ranges.count g r ≡ set_start p r
    unfolding set_sum
    set_are zero h = sym (set_first p)
    set_are (suc r) h = ap₂ (λ (x y : ℕ). x + y) (set_are r (omega arith)) (set_width_lem r h) ∙ sym (set_next p r (omega (arith, is.count)))

  pick_width : (r : ℕ) → r < g.count → most_width p.size (p.size ^ get_or g.arity r 0) (get_or g.kind r 0) ≡ most_picks p.size (get_or p.relations r no_relation)
  unfolding most_picks tuples_of relation_at
  pick_width r h = ap₂ (λ (a k : ℕ). most_width p.size (p.size ^ a) k) (is.arity r h) (is.kind r h) ∙ picks_are p.size (p.size ^ (relation_at p r).arity) (relation_at p r).kind

  tuples_are : (r : ℕ) → r < g.count → p.size ^ get_or g.arity r 0 ≡ tuples_of p.size (relation_at p r)
  unfolding tuples_of
  tuples_are r h = ap (λ (a : ℕ). p.size ^ a) (is.arity r h)

  pub rel_are : (r : ℕ) → r ≤ g.count → relation_sum p.size g r ≡ relation_start p r
  unfolding relation_sum
  rel_are zero h = sym (relation_first p)
  rel_are (suc r) h = ap₂ (λ (x y : ℕ). x + y) (rel_are r (omega arith)) (relation_width_lem r h) ∙ sym (relation_next p r (omega (arith, is.count)))

  pub pick_are : (r : ℕ) → r ≤ g.count → pick_sum p.size g r ≡ sum (map (most_picks p.size) (take r p.relations))
  unfolding pick_sum
  pick_are zero h = sym (sum_none (most_picks p.size))
  pick_are (suc r) h = ap₂ (λ (x y : ℕ). x + y) (pick_are r (omega arith)) (pick_width r h) ∙ sym (sum_next (most_picks p.size) r p.relations (omega (arith, is.count)))

  pub count_is : t.count ≡ length p.node_list
  count_is = is.tree.count ∙ ap length (sym is.list)

  pub node_is : (v : ℕ) → v < t.count → IsNode v (node_at p v) (get_or t.rows v no_node) t.parts
  unfolding node_at
  node_is v h = subst (λ (us : List Tree). IsNode v (get_or us v (leaf true 0 [])) (get_or t.rows v no_node) t.parts) (sym is.list) (is.tree.node v h)

  rows_are : (v : ℕ) → v < t.count → p.size ^ (get_or t.rows v no_node).width ≡ rows_of p.size (node_at p v)
  unfolding rows_of
  rows_are v h = ap (λ (x : ℕ). p.size ^ x) (node_is v h).width

  pub node_width_lem : (v : ℕ) → v < t.count → node_width p.size (p.size ^ (get_or t.rows v no_node).width) (get_or t.rows v no_node).kind ≡ width_of p.size (node_at p v)
  unfolding width_of
  node_width_lem v h = ap₂ (λ (T k : ℕ). node_width p.size T k) (rows_are v h) (node_is v h).kind ∙ node_width_is p.size (rows_of p.size (node_at p v)) (node_at p v)

  pub node_sort_lem : (v : ℕ) → v < t.count → Sorted k (node_at p v)
  unfolding node_at
  node_sort_lem v h = subst (λ (us : List Tree). Sorted k (get_or us v (leaf true 0 []))) (sym is.list) (node_sorted k p.root is.sorted v (omega (arith, is.tree.count)))

  -- the sort of a node has as many elements as its range
  pub count_of : (ranges : Ranges) → RangesAre p.size ws k ranges → (v : ℕ) → v < t.count → count_at ranges.count t v ≡ length (p.range (node_sort (node_at p v)))
  count_of ranges r v h =
      let b = sort_within k (node_at p v) (node_sort_lem v h) in
      ap (λ (s : ℕ). get_or ranges.count s 0) (node_is v h).sort ∙ sort_count ranges r (node_sort (node_at p v)) b

  module _ (fits : Fits t) where
    module _ (ranges : Ranges) (r : RangesAre p.size ws k ranges) where
      pub act_width : (v : ℕ) → v < t.count → (p.size ^ (get_or t.rows v no_node).width) * choices_at ranges.count t v ≡ proofs_of p.size p.range (node_at p v)
      unfolding proofs_of
      act_width v h =
          ap₂ (λ (x y : ℕ). x * y) (rows_are v h)
          (ap (λ (kind : ℕ). choices_of (count_at ranges.count t v) kind (get_or t.rows v no_node).many) (node_is v h).kind
          ∙ choices_are (count_at ranges.count t v) p.range v (node_at p v) (get_or t.rows v no_node) t.parts (count_of ranges r v h) (node_is v h) (in_parts t fits v))

      act_are : (v : ℕ) → v ≤ t.count → act_sum p.size ranges.count t (set_start p (length p.relations) + 1) v ≡ proof_start p v
      unfolding act_sum
      act_are zero h = sym (proof_first p)
      act_are (suc v) h = ap₂ (λ (x y : ℕ). x + y) (act_are v (omega arith)) (act_width v h) ∙ sym (proof_next p v (omega (arith, count_is)))

  node_are : (v : ℕ) → v ≤ t.count → node_sum p.size t (relation_start p (length p.relations)) v ≡ node_start p v
  unfolding node_sum
  node_are zero h = sym (node_first p)
  node_are (suc v) h = ap₂ (λ (x y : ℕ). x + y) (node_are v (omega arith)) (node_width_lem v h) ∙ sym (node_next p v (omega (arith, count_is)))

-- ---- the relation of an `every` line, by the tables
last_none : (n : ℕ) (k : Relation) → is_universal k.kind ≡ false → last_width n k ≡ 0
unfolding last_width last_tuples
last_none n k e = rw e refl

-- no relation before it has atoms behind the nodes
pub lasts_none : (p : Problem) (r : ℕ) → r ≤ length p.relations → ((j : ℕ) → j < r → is_universal (relation_at p j).kind ≡ false) → last_start p r ≡ node_start p (length p.node_list)
lasts_none p zero h e = last_first p
lasts_none p (suc r) h e =
    let n = last_next p r (omega arith) in
    let z = lasts_none p r (omega arith) (λ j l. e j (omega arith)) in
    let w = last_none p.size (relation_at p r) (e r (omega arith)) in
    omega arith

module _ (p : Problem) (ws : List ℕ) (k : ℕ) (g : Relations) (t : Nodes) (is : Inputs p p.size ws k g t) where
  by_kind : (r : ℕ) → r < g.count → eqb (get_or g.kind r 0) 6 ≡ is_universal (relation_at p r).kind
  by_kind r h = ap (λ (x : ℕ). eqb x 6) (is.kind r h) ∙ universal_number (relation_at p r).kind

  pub late_last : (r : ℕ) → r < g.count → is_universal (relation_at p r).kind ≡ true → (suc r ≡ g.count) × (has_last g ≡ true)
  unfolding has_last
  late_last r h e =
      let (a, b) = is.every.alone r (omega (arith, is.count)) (T_of e) in
      let c : suc r ≡ g.count = omega (arith, a, is.every.last b, is.count) in
      let d : g.count - 1 ≡ r = omega arith in
      (c, rw (d, lt-ltb 0 g.count (omega arith)) (by_kind r h ∙ e))

  pub early_other : (r : ℕ) → r < g.count → is_universal (relation_at p r).kind ≡ false → has_last g ≡ true → r ≡ g.count - 1 → ⊥
  unfolding has_last
  early_other r h e q z =
      let a : eqb (get_or g.kind (g.count - 1) 0) 6 ≡ true = rw (lt-ltb 0 g.count (omega arith)) at q in
      false≢true (sym (by_kind r h ∙ e) ∙ ap (λ (x : ℕ). eqb (get_or g.kind x 0) 6) z ∙ a)

  -- behind the nodes
  late_is : (r : ℕ) → r < g.count → is_universal (relation_at p r).kind ≡ true → tuple_start p r ≡ node_start p (length p.node_list)
  late_is r h e =
      late_start p r e ∙ lasts_none p r (omega (arith, is.count))
      (λ j l. T_false (is_universal (relation_at p j).kind) (λ u. let (a, b) = late_last j (omega arith) (T_true (is_universal (relation_at p j).kind) u) in let (c, d) = late_last r h e in omega arith))

  -- an array whose last relation's entry is another
  module _ (a a' : List ℕ) (x : ℕ) (none : has_last g ≡ false → a' ≡ a) (here : has_last g ≡ true → a' ≡ set a (g.count - 1) x) where
    pub stays : (r : ℕ) → (has_last g ≡ true → r ≡ g.count - 1 → ⊥) → get_or a' r 0 ≡ get_or a r 0
    stays r n = by_test (has_last g) refl
      where
        by_test : (b : Bool) → has_last g ≡ b → get_or a' r 0 ≡ get_or a r 0
        by_test true e = ap (λ (l : List ℕ). get_or l r 0) (here e) ∙ get_or-set_other a (g.count - 1) r x 0 (n e)
        by_test false e = ap (λ (l : List ℕ). get_or l r 0) (none e)

    pub is_other : (r : ℕ) → r < g.count → r < length a → is_universal (relation_at p r).kind ≡ true → get_or a' r 0 ≡ x
    is_other r h l e =
        let (c, q) = late_last r h e in
        let d : g.count - 1 ≡ r = omega arith in
        ap (λ (l : List ℕ). get_or l r 0) (here q ∙ ap (λ (i : ℕ). set a i x) d) ∙ get_or-set_same a r x 0 l

some_tuples : (p : Problem) (r : ℕ) → 0 < p.size → 0 < tuples_of p.size (relation_at p r)
unfolding tuples_of
some_tuples p r h = one-le-pow (relation_at p r).arity p.size h

pub counted : (g : Relations) → has_last g ≡ true → 0 < g.count
unfolding has_last
counted g e = by_test (ltb 0 g.count) refl e
  where
    by_test : (b : Bool) → ltb 0 g.count ≡ b → (b && eqb (get_or g.kind (g.count - 1) 0) 6) ≡ true → 0 < g.count
    by_test true q e = ltb-true 0 g.count q
    by_test false q e = absurd (false≢true e)

-- ---- a layout is the problem's
module _ (p : Problem) (ws : List ℕ) (k : ℕ) (ranges : Ranges) (g : Relations) (t : Nodes) (ra : RangesAre p.size ws k ranges) (is : Inputs p p.size ws k g t) (some : 0 < p.size) (fg : RelationsFit g) (fits : Fits t)
    (rel neg dom rel' neg' dom' sets node act : List ℕ) (at st end acts : ℕ)
    (L : RelationsLaid p.size ranges.count g g.count rel neg dom sets at st) (N : NodesLaid p.size ranges.count t at (st + 1) t.count node act end acts)
    (E : LastLaid p.size g end rel neg dom rel' neg' dom') where
  at_is : at ≡ relation_start p (length p.relations)
  at_is = L.at_is ∙ rel_are p ws k g t is g.count (omega arith) ∙ ap (relation_start p) is.count

  st_is : st + 1 ≡ set_start p (length p.relations) + 1
  st_is = ap (λ (x : ℕ). x + 1) (L.set_is ∙ set_are p ws k g t is ranges ra g.count (omega arith) ∙ ap (set_start p) is.count)

  node_at_lem : (v : ℕ) → v ≤ t.count → get_or node v 0 ≡ node_start p v
  node_at_lem v h = N.node_at_lem v h ∙ ap (λ (x : ℕ). node_sum p.size t x v) at_is ∙ node_are p ws k g t is v h

  act_at : (v : ℕ) → v ≤ t.count → get_or act v 0 ≡ proof_start p v
  act_at v h = N.act_at v h ∙ ap (λ (x : ℕ). act_sum p.size ranges.count t x v) st_is ∙ act_are p ws k g t is fits ranges ra v h

  end_is : end ≡ node_start p (length p.node_list)
  end_is = N.at_is ∙ sym (N.node_at_lem t.count (omega arith)) ∙ node_at_lem t.count (omega arith) ∙ ap (node_start p) (count_is p ws k g t is)

  acts_is : acts ≡ proof_start p (length p.node_list)
  acts_is = N.act_is ∙ sym (N.act_at t.count (omega arith)) ∙ act_at t.count (omega arith) ∙ ap (proof_start p) (count_is p ws k g t is)

  low : at ≤ end
  low = let e : get_or node 0 0 ≡ at = node_at_lem 0 (omega arith) ∙ node_first p ∙ sym at_is in let q = N.node_most 0 in omega arith

  low_acts : st ≤ acts
  low_acts = let e : get_or act 0 0 ≡ st + 1 = act_at 0 (omega arith) ∙ proof_first p ∙ sym st_is in let q = N.act_most 0 in omega arith

  -- a relation's first three numbers
  starts_at : (r : ℕ) → r < g.count → (get_or rel' r 0 ≡ tuple_start p r) × (get_or neg' r 0 ≡ tuple_start p r + tuples_of p.size (relation_at p r)) × (get_or dom' r 0 ≡ tuple_start p r + 2 * tuples_of p.size (relation_at p r))
  starts_at r h = by_test (is_universal (relation_at p r).kind) refl
    where
      by_test : (b : Bool) → is_universal (relation_at p r).kind ≡ b → (get_or rel' r 0 ≡ tuple_start p r) × (get_or neg' r 0 ≡ tuple_start p r + tuples_of p.size (relation_at p r)) × (get_or dom' r 0 ≡ tuple_start p r + 2 * tuples_of p.size (relation_at p r))
      by_test false e =
          let s = early_start p r e in
          let q = rel_are p ws k g t is r (omega arith) in
          let w = tuples_are p ws k g t is r h in
          let n = early_other p ws k g t is r h e in
          let x = stays p ws k g t is rel rel' end (λ z. (E.none z).0) (λ z. (E.here z).0) r n in
          let y = stays p ws k g t is neg neg' _ (λ z. (E.none z).1) (λ z. (E.here z).1) r n in
          let z = stays p ws k g t is dom dom' _ (λ z. (E.none z).2) (λ z. (E.here z).2) r n in
          (omega (arith, s, q, x, L.rel_at r (omega arith)), omega (arith, s, q, w, y, L.neg_at r h), omega (arith, s, q, w, z, L.dom_at r h))
      by_test true e =
          let s = late_is p ws k g t is r h e in
          let (c, d) = late_last p ws k g t is r h e in
          let m : g.count - 1 ≡ r = omega arith in
          let w : p.size ^ get_or g.arity (g.count - 1) 0 ≡ tuples_of p.size (relation_at p r) = ap (λ (i : ℕ). p.size ^ get_or g.arity i 0) m ∙ tuples_are p ws k g t is r h in
          let x = is_other p ws k g t is rel rel' end (λ z. (E.none z).0) (λ z. (E.here z).0) r h (omega (arith, fg.count, L.rel_long)) e in
          let y = is_other p ws k g t is neg neg' _ (λ z. (E.none z).1) (λ z. (E.here z).1) r h (omega (arith, fg.count, L.neg_long)) e in
          let z = is_other p ws k g t is dom dom' _ (λ z. (E.none z).2) (λ z. (E.here z).2) r h (omega (arith, fg.count, L.dom_long)) e in
          (omega (arith, s, end_is, x), omega (arith, s, end_is, w, y), omega (arith, s, end_is, w, z))

  -- these are at most the number of atoms, and past the last relation nothing stands
  tuples_low : (r : ℕ) → r < g.count → tuple_start p r + 2 * tuples_of p.size (relation_at p r) ≤ atoms p
  unfolding IsAtom atom_number
  tuples_low r h =
      let T : ℕ = tuples_of p.size (relation_at p r) in
      let m = some_tuples p r some in
      let q : tuple_start p r + T + (T - 1) < atoms p = atom_below p (not_tuple r (T - 1)) (omega (arith, is.count), omega (arith, m)) in
      omega arith

  past_last : (r : ℕ) → g.count ≤ r → has_last g ≡ true → r ≡ g.count - 1 → ⊥
  past_last r h q e = let c = counted g q in omega arith

  end_low : end ≤ atoms p
  end_low = let e = end_is in let q = node_le p (length p.node_list) (omega arith) in omega arith

  low_all : (b : ℕ) → atoms p ≤ b → (r : ℕ) → (get_or rel' r 0 ≤ b) × (get_or neg' r 0 ≤ b) × (get_or dom' r 0 ≤ b)
  low_all b f r = by_place (dec_lt r g.count)
    where
      by_place : Dec (r < g.count) → (get_or rel' r 0 ≤ b) × (get_or neg' r 0 ≤ b) × (get_or dom' r 0 ≤ b)
      by_place (yes h) = let s = starts_at r h in let q = tuples_low r h in (omega (arith, s.0), omega (arith, s.1), omega (arith, s.2))
      by_place (no h) =
          let n = past_last r (omega arith) in
          let x = stays p ws k g t is rel rel' end (λ z. (E.none z).0) (λ z. (E.here z).0) r n in
          let y = stays p ws k g t is neg neg' _ (λ z. (E.none z).1) (λ z. (E.here z).1) r n in
          let z = stays p ws k g t is dom dom' _ (λ z. (E.none z).2) (λ z. (E.here z).2) r n in
          (omega (arith, x, L.rel_most r, low, end_low), omega (arith, y, L.neg_rest r (omega arith)), omega (arith, z, L.dom_rest r (omega arith)))

  laid_at : Laid p (record { rel = rel'; neg = neg'; dom = dom'; set = sets; node = node; act = act })
  laid_at =
      record {
        starts = record {
          rel = λ r h. (starts_at r (omega (arith, is.count))).0;
          rel_end = let c = is.count in
              stays p ws k g t is rel rel' end (λ z. (E.none z).0) (λ z. (E.here z).0) (length p.relations) (past_last (length p.relations) (omega arith))
              ∙ L.rel_at (length p.relations) (omega arith) ∙ rel_are p ws k g t is (length p.relations) (omega arith);
          neg = λ r h. (starts_at r (omega (arith, is.count))).1;
          dom = λ r h. (starts_at r (omega (arith, is.count))).2;
          set = λ r h. L.set_at r (omega (arith, is.count)) ∙ set_are p ws k g t is ranges ra r (omega (arith, is.count));
          node = λ v h. node_at_lem v (omega (arith, count_is p ws k g t is));
          act = λ v h. act_at v (omega (arith, count_is p ws k g t is));
        };
        small = λ b f h.
            let v = end_low in
            let w = low_acts in
            let u = acts_is in
            let z = actions_end p in
            record {
              rel = λ i. (low_all b f i).0;
              neg = λ i. (low_all b f i).1;
              dom = λ i. (low_all b f i).2;
              set = λ i. omega (arith, L.set_most i);
              node = λ i. omega (arith, N.node_most i);
              act = λ i. omega (arith, N.act_most i);
            };
      }

pub laid : (n : ℕ) (p : Problem) (ws : List ℕ) (k : ℕ) (ranges : Ranges) (g : Relations) (t : Nodes) → RangesAre n ws k ranges → Inputs p n ws k g t → 0 < n → RelationsFit g → Fits t
    → (rel neg dom rel' neg' dom' sets sets' node act : List ℕ) (at st end acts : ℕ)
    → RelationsLaid n ranges.count g g.count rel neg dom sets at st → NodesLaid n ranges.count t at (st + 1) t.count node act end acts → LastLaid n g end rel neg dom rel' neg' dom' → sets' ≡ sets
    → Laid p (record { rel = rel'; neg = neg'; dom = dom'; set = sets'; node = node; act = act })
laid n p ws k ranges g t r is some fg f rel neg dom rel' neg' dom' sets sets' node act at st end acts L N E e =
    rw e (laid_at p ws k ranges g t (subst (λ (m : ℕ). RangesAre m ws k ranges) is.size r) (subst (λ (m : ℕ). Inputs p m ws k g t) is.size is) (subst (λ (m : ℕ). 0 < m) is.size some) fg f rel neg dom rel' neg' dom' sets node act at st end acts
    (subst (λ (m : ℕ). RelationsLaid m ranges.count g g.count rel neg dom sets at st) is.size L) (subst (λ (m : ℕ). NodesLaid m ranges.count t at (st + 1) t.count node act end acts) is.size N)
    (subst (λ (m : ℕ). LastLaid m g end rel neg dom rel' neg' dom') is.size E))

-- ---- the last relation in the code
pub no_last : (g : Relations) → g.count ≡ 0 → false ≡ has_last g
unfolding has_last
no_last g e = rw e refl

pub has_last_lem : (g : Relations) → (g.count ≡ 0 → ⊥) → eqb (get_or g.kind (g.count - 1) 0) 6 ≡ has_last g
unfolding has_last
has_last_lem g e = rw (lt-ltb 0 g.count (omega arith)) refl

pub last_laid : (n : ℕ) (g : Relations) (end size : ℕ) (rel neg dom : List ℕ) → has_last g ≡ true → size ≡ n ^ get_or g.arity (g.count - 1) 0
    → LastLaid n g end rel neg dom (set rel (g.count - 1) end) (set neg (g.count - 1) (end + size)) (set dom (g.count - 1) (end + (size + size)))
last_laid n g end size rel neg dom h e = record { none = λ q. absurd (false≢true (sym q ∙ h)); here = λ q. (refl, rw e refl, rw e refl) }

pub last_kept : (n : ℕ) (g : Relations) (end : ℕ) (rel neg dom : List ℕ) → has_last g ≡ false → LastLaid n g end rel neg dom rel neg dom
last_kept n g end rel neg dom h = record { none = λ q. (refl, refl, refl); here = λ q. absurd (false≢true (sym h ∙ q)) }
