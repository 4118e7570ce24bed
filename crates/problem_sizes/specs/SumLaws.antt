-- One turn of the loops of a tally, and that the sums are those of the walk.
use Rattle.std.specs.Prelude.{◌≡◌, Bool, not, ltb, take, if◌then◌else◌}
use Rattle.std.proofs.Math.Path.{refl, sym, ap, ap₂, subst}
use Rattle.std.proofs.Common.{◌∙◌, mul-le-mul, lt-ltb, le-leb, add-one, take_all}
use Rattle.std.proofs.Math.Bool.{true, false}
use Rattle.std.proofs.Math.Option.{Option, none, some}
use mathlib.Core.List.{List, [], ◌∷◌, map}
use Prim.Native.Nat.{ℕ, zero, suc, ◌+◌, ◌-◌, ◌*◌, ◌^◌, ◌<◌, ◌≤◌}
use Rattle.std.proofs.Math.Nat.{one-le-pow, pow-le-pow_right}
use Rattle.std.proofs.lemmas.Bool.{lt-leb}
use Rattle.std.proofs.Math.Dec.{T, eqb}
use native.Mathlib.Omega.{arith}
use Rattle.std.proofs.Math.ListN.{length, get_or}
use Rattle.definitions.specs.Lists.{option, is_some, flat_map, map_from, sum}
use Rattle.definitions.specs.Sheet.Relations.{Relation, fixed, is_universal}
use Rattle.definitions.specs.Sheet.Sheets.{every_number}
use Rattle.definitions.specs.Problem.Truth.{every_tuples, values}
use Rattle.definitions.specs.Problem.Tree.{Tree, leaf, nodes}
use Rattle.definitions.specs.Problem.Atoms.{Problem, relation_at, node_at, Block, count_of, Atom, tuples_of, last_tuples, relations_blocks, last_blocks, lasts_blocks, relation_start, node_width as width_of}
use Rattle.definitions.specs.Problem.Actions.{Action, mark_in, mark_out, mark_blocks, proofs_of, set_blocks, set_start}
use Rattle.definitions.specs.Problem.Built.{most_picks}
use Rattle.definitions.specs.Reply.Tally.{walked, tally_of}
use Rattle.laws.specs.Booleans.{T_of, T_true, T_false}
use Rattle.laws.specs.Numbers.{last_width_lem}
use Rattle.laws.specs.Walks.{count_sum, walk_length, walk_atoms, walk_actions}
use Rattle.rule_nodes.specs.Tables.{no_node, Fits}
use Rattle.rule_nodes.specs.declared.Nodes.{Nodes}
use Rattle.rows.specs.Values.{Most}
use Rattle.problem_layout.specs.declared.Relations.{Relations}
use Rattle.problem_layout.specs.declared.Ranges.{Ranges}
use Rattle.problem_layout.specs.Laid.{relation_width, set_width, firsts_at, seconds_at, most_width, node_width, RangesAre, choices_at, RelationsFit, relation_sum, set_sum, pick_sum, node_sum, act_sum, has_last, Inputs}
use Rattle.problem_layout.specs.LaidLaws.{pow_most, rel_bound, set_bound, pick_bound, node_bound, act_bound}
use Rattle.problem_layout.specs.StartsAre.{counted, rel_are, set_are, pick_are, count_is, node_width_lem, act_width}
use Rattle.problem_sizes.specs.Sums.{RelationsSummed, NodesSummed, every_size, bound_in, Tallied}
use Rattle.problem_table.specs.Of.{EveryLast}
use Rattle.problem_table.specs.OfLaws.{universal_number}

-- ---- turns
module _ (n : ℕ) (counts : List ℕ) (g : Relations) where
  pub relations_first : RelationsSummed n counts g 0 3 0 0
  unfolding relation_sum set_sum pick_sum
  relations_first = record { atoms_are = refl; sets_are = refl; picks_are = refl }

  -- (stated for the next number as it is counted)
  relations_suc : (i atoms sets picks size w u m : ℕ) → size ≡ n ^ get_or g.arity i 0
      → w ≡ relation_width n size (get_or g.kind i 0) → u ≡ set_width size (firsts_at counts g i) (seconds_at counts g i) (get_or g.kind i 0) → m ≡ most_width n size (get_or g.kind i 0)
      → RelationsSummed n counts g i atoms sets picks → RelationsSummed n counts g (suc i) (atoms + w) (sets + u) (picks + m)
  unfolding relation_sum set_sum pick_sum
  relations_suc i atoms sets picks size w u m e ew eu em s = record {
    atoms_are = ap₂ ◌+◌ s.atoms_are (ew ∙ ap (λ (x : ℕ). relation_width n x (get_or g.kind i 0)) e);
    sets_are = ap₂ ◌+◌ s.sets_are (eu ∙ ap (λ (x : ℕ). set_width x (firsts_at counts g i) (seconds_at counts g i) (get_or g.kind i 0)) e);
    picks_are = ap₂ ◌+◌ s.picks_are (em ∙ ap (λ (x : ℕ). most_width n x (get_or g.kind i 0)) e);
  }

  pub relations_next : (i atoms sets picks size w u m : ℕ) → size ≡ n ^ get_or g.arity i 0
      → w ≡ relation_width n size (get_or g.kind i 0) → u ≡ set_width size (firsts_at counts g i) (seconds_at counts g i) (get_or g.kind i 0) → m ≡ most_width n size (get_or g.kind i 0)
      → RelationsSummed n counts g i atoms sets picks → RelationsSummed n counts g (i + 1) (atoms + w) (sets + u) (picks + m)
  relations_next i atoms sets picks size w u m e ew eu em s =
      subst (λ (j : ℕ). RelationsSummed n counts g j (atoms + w) (sets + u) (picks + m)) (sym (add-one i)) (relations_suc i atoms sets picks size w u m e ew eu em s)

module _ (n : ℕ) (counts : List ℕ) (t : Nodes) where
  pub nodes_first : NodesSummed n counts t 0 0 0 0
  unfolding node_sum act_sum
  nodes_first = record { visited = refl; atoms_are = refl; actions_are = refl }

  nodes_suc : (v nodes atoms actions r w m : ℕ) → r ≡ n ^ (get_or t.rows v no_node).width
      → w ≡ node_width n r (get_or t.rows v no_node).kind → m ≡ choices_at counts t v
      → NodesSummed n counts t v nodes atoms actions → NodesSummed n counts t (suc v) (nodes + 1) (atoms + w) (actions + r * m)
  unfolding node_sum act_sum
  nodes_suc v nodes atoms actions r w m e ew em s = record {
    visited = ap (λ (k : ℕ). k + 1) s.visited ∙ add-one v;
    atoms_are = ap₂ ◌+◌ s.atoms_are (ew ∙ ap (λ (x : ℕ). node_width n x (get_or t.rows v no_node).kind) e);
    actions_are = ap₂ ◌+◌ s.actions_are (ap₂ ◌*◌ e em);
  }

  pub nodes_next : (v nodes atoms actions r w m : ℕ) → r ≡ n ^ (get_or t.rows v no_node).width
      → w ≡ node_width n r (get_or t.rows v no_node).kind → m ≡ choices_at counts t v
      → NodesSummed n counts t v nodes atoms actions → NodesSummed n counts t (v + 1) (nodes + 1) (atoms + w) (actions + r * m)
  nodes_next v nodes atoms actions r w m e ew em s =
      subst (λ (j : ℕ). NodesSummed n counts t j (nodes + 1) (atoms + w) (actions + r * m)) (sym (add-one v)) (nodes_suc v nodes atoms actions r w m e ew em s)

-- ---- the sums are those of the walk
sum_next : {A : Type 0} (f : A → ℕ) (d : A) (r : ℕ) (ks : List A) → r < length ks → sum (map f (take (suc r) ks)) ≡ sum (map f (take r ks)) + f (get_or ks r d)
unfolding sum
sum_next f d r [] h = absurd (omega arith)
sum_next f d zero (k ∷ ks) h = omega arith
sum_next f d (suc r) (k ∷ ks) h = let q = sum_next f d r ks (omega arith) in omega arith

sum_none : {A : Type 0} (f : A → ℕ) → sum (map f []) ≡ 0
unfolding sum
sum_none f = refl

-- ---- what comes behind the nodes
no_lasts : (n : ℕ) (k : Relation) → is_universal k.kind ≡ false → last_tuples n k ≡ 0
unfolding last_tuples
no_lasts n k e = rw e refl

lasts_count : (n z : ℕ) (ks : List Relation) → count_of (flat_map (λ (bs : List (Block Atom)). bs) (map_from (last_blocks n) z ks)) ≡ 3 * sum (map (last_tuples n) ks)
unfolding count_of flat_map map_from last_blocks sum
lasts_count n z [] = refl
lasts_count n z (k ∷ ks) = let q = lasts_count n (suc z) ks in omega arith

marks_count : (mark : ℕ → ℕ → Action) (n : ℕ) (ks : List Relation) → count_of (mark_blocks mark n ks) ≡ sum (map (last_tuples n) ks)
unfolding mark_blocks
marks_count mark n ks = count_sum _ (last_tuples n) (λ r k. refl) 0 ks

module _ (p : Problem) (E : EveryLast p) where
  every_universal : T (is_some p.source.question.every) → T (is_universal (relation_at p (every_number p.source.question)).kind)
  unfolding is_some
  every_universal t = by_option p.source.question.every refl t
    where
      by_option : (o : Option Relation) → p.source.question.every ≡ o → T (is_some o) → T (is_universal (relation_at p (every_number p.source.question)).kind)
      by_option none e t = absurd t
      by_option (some k) e t = let z = E.line k e in subst (λ (x : Relation). T (is_universal x.kind)) (sym z.0) z.1

  every_size_lem : T (is_some p.source.question.every) → tuples_of p.size (relation_at p (every_number p.source.question)) ≡ every_tuples p.source
  unfolding is_some every_tuples option tuples_of
  every_size_lem t = by_option p.source.question.every refl t
    where
      by_option : (o : Option Relation) → p.source.question.every ≡ o → T (is_some o) → p.size ^ (relation_at p (every_number p.source.question)).arity ≡ option o zero (λ (e : Relation). p.source.site.size ^ e.arity)
      by_option none e t = absurd t
      by_option (some k) e t = ap₂ (λ (n : ℕ) (x : Relation). n ^ x.arity) (sym E.sized) (E.line k e).0

no_tuples : (p : Problem) → T (not (is_some p.source.question.every)) → every_tuples p.source ≡ 0
unfolding is_some every_tuples option
no_tuples p t = by_option p.source.question.every t
  where
    by_option : (o : Option Relation) → T (not (is_some o)) → option o zero (λ (e : Relation). p.source.site.size ^ e.arity) ≡ 0
    by_option none t = refl
    by_option (some k) t = absurd t

-- there is such a relation exactly if it has tuples
some_tuples : (p : Problem) → 0 < p.size → EveryLast p → ltb 0 (every_tuples p.source) ≡ is_some p.source.question.every
unfolding is_some every_tuples option
some_tuples p h E = by_option p.source.question.every
  where
    by_option : (o : Option Relation) → ltb 0 (option o zero (λ (e : Relation). p.source.site.size ^ e.arity)) ≡ is_some o
    by_option none = refl
    by_option (some k) = lt-ltb 0 (p.source.site.size ^ k.arity) (one-le-pow k.arity p.source.site.size (omega (arith, E.sized)))

module _ (p : Problem) (ws : List ℕ) (types : ℕ) (ranges : Ranges) (g : Relations) (t : Nodes) (ra : RangesAre p.size ws types ranges) (is : Inputs p p.size ws types g t) (fits : Fits t) (positive : 0 < p.size) where
  abbrev n : ℕ
  n = p.size

  all_relations : take g.count p.relations ≡ p.relations
  all_relations = take_all g.count p.relations (omega (arith, is.count))

  all_nodes : take t.count p.node_list ≡ nodes p.root
  all_nodes = take_all t.count p.node_list (omega (arith, count_is p ws types g t is)) ∙ is.list

  nodes_are : (v : ℕ) → v ≤ t.count → node_sum n t 0 v ≡ sum (map (width_of n) (take v p.node_list))
  unfolding node_sum node_at
  nodes_are zero h = sym (sum_none (width_of n))
  nodes_are (suc v) h = ap₂ ◌+◌ (nodes_are v (omega arith)) (node_width_lem p ws types g t is v h) ∙ sym (sum_next (width_of n) (leaf true 0 []) v p.node_list (omega (arith, count_is p ws types g t is)))

  acts_are : (v : ℕ) → v ≤ t.count → act_sum n ranges.count t 0 v ≡ sum (map (proofs_of n p.range) (take v p.node_list))
  unfolding act_sum node_at
  acts_are zero h = sym (sum_none (proofs_of n p.range))
  acts_are (suc v) h = ap₂ ◌+◌ (acts_are v (omega arith)) (act_width p ws types g t is fits ranges ra v h) ∙ sym (sum_next (proofs_of n p.range) (leaf true 0 []) v p.node_list (omega (arith, count_is p ws types g t is)))

  atoms_walked : node_sum n t 0 t.count ≡ (walked p).atom_count
  unfolding walked
  atoms_walked = nodes_are t.count (omega arith) ∙ ap (λ (ts : List Tree). sum (map (width_of n) ts)) all_nodes ∙ sym (walk_atoms n p.range 0 p.root)

  acts_walked : act_sum n ranges.count t 0 t.count ≡ (walked p).action_count
  unfolding walked
  acts_walked = acts_are t.count (omega arith) ∙ ap (λ (ts : List Tree). sum (map (proofs_of n p.range) ts)) all_nodes ∙ sym (walk_actions n p.range 0 p.root)

  visited_walked : t.count ≡ length (walked p).visited
  unfolding walked
  visited_walked = is.tree.count ∙ sym (walk_length n p.range 0 p.root)

  relation_atoms : relation_sum n g g.count ≡ 3 + count_of (relations_blocks n p.relations)
  unfolding relation_start
  relation_atoms = rel_are p ws types g t is g.count (omega arith) ∙ ap (λ (ks : List Relation). 3 + count_of (relations_blocks n ks)) all_relations

  relation_sets : set_sum n ranges.count g g.count ≡ count_of (set_blocks n p.range p.relations)
  unfolding set_start
  relation_sets = set_are p ws types g t is ranges ra g.count (omega arith) ∙ ap (λ (ks : List Relation). count_of (set_blocks n p.range ks)) all_relations

  relation_picks : pick_sum n g g.count ≡ sum (map (most_picks n) p.relations)
  relation_picks = pick_are p ws types g t is g.count (omega arith) ∙ ap (λ (ks : List Relation). sum (map (most_picks n) ks)) all_relations

  -- ---- the relation of an `every` line
  by_kind : (r : ℕ) → r < g.count → eqb (get_or g.kind r 0) 6 ≡ is_universal (relation_at p r).kind
  by_kind r h = ap (λ (x : ℕ). eqb x 6) (is.kind r h) ∙ universal_number (relation_at p r).kind

  last_at : T (is_some p.source.question.every) → (has_last g ≡ true) × (suc (g.count - 1) ≡ g.count) × (g.count - 1 ≡ every_number p.source.question)
  unfolding has_last
  last_at t =
      let l : suc (every_number p.source.question) ≡ g.count = is.every.last t ∙ sym is.count in
      let e : g.count - 1 ≡ every_number p.source.question = omega arith in
      (rw (lt-ltb 0 g.count (omega arith)) (by_kind (g.count - 1) (omega arith) ∙ T_true (is_universal (relation_at p (g.count - 1)).kind) (rw e (universal_here t))), omega arith, e)
    where
      universal_here : T (is_some p.source.question.every) → T (is_universal (relation_at p (every_number p.source.question)).kind)
      universal_here t = every_universal p is.every t

  has_last_lem : has_last g ≡ is_some p.source.question.every
  unfolding has_last
  has_last_lem = by_test (is_some p.source.question.every) refl (has_last g) refl
    where
      by_test : (b : Bool) → is_some p.source.question.every ≡ b → (d : Bool) → has_last g ≡ d → has_last g ≡ b
      by_test true e d q = (last_at (T_of e)).0
      by_test false e false q = q
      by_test false e true q =
          let c = counted g q in
          let u : eqb (get_or g.kind (g.count - 1) 0) 6 ≡ true = rw (lt-ltb 0 g.count c) at q in
          absurd (subst T e (is.every.alone (g.count - 1) (omega (arith, is.count)) (T_of (sym (by_kind (g.count - 1) (omega arith)) ∙ u))).1)

  -- its tuples, by the tables and by the case; all other relations have none behind the nodes
  size_is : every_size n g ≡ every_tuples p.source
  unfolding every_size every_tuples option is_some
  size_is = ap (λ (b : Bool). if b then n ^ get_or g.arity (g.count - 1) 0 else 0) has_last_lem ∙ by_option p.source.question.every refl
    where
      by_option : (o : Option Relation) → p.source.question.every ≡ o → (if is_some o then n ^ get_or g.arity (g.count - 1) 0 else 0) ≡ option o zero (λ (e : Relation). p.source.site.size ^ e.arity)
      by_option none e = refl
      by_option (some k) e =
          let t : T (is_some p.source.question.every) = subst (λ (o : Option Relation). T (is_some o)) (sym e) tt in
          let (a, b, c) = last_at t in
          ap₂ (λ (m r : ℕ). m ^ r) (sym is.every.sized) (ap (λ (r : ℕ). get_or g.arity r 0) c ∙ is.arity (every_number p.source.question) (omega arith) ∙ ap (λ (x : Relation). x.arity) (is.every.line k e).0)

  early : (r : ℕ) → r < length p.relations → (r ≡ every_number p.source.question → T (is_some p.source.question.every) → ⊥) → is_universal (relation_at p r).kind ≡ false
  early r h f = T_false (is_universal (relation_at p r).kind) (λ u. let q = is.every.alone r h u in f q.0 q.1)

  none_before : (r : ℕ) → r ≤ length p.relations → ((j : ℕ) → j < r → is_universal (relation_at p j).kind ≡ false) → sum (map (last_tuples n) (take r p.relations)) ≡ 0
  unfolding relation_at
  none_before zero h e = sum_none (last_tuples n)
  none_before (suc r) h e =
      let z = none_before r (omega arith) (λ j l. e j (omega arith)) in
      let s = sum_next (last_tuples n) (fixed [] zero) r p.relations (omega arith) in
      let w = no_lasts n (get_or p.relations r (fixed [] zero)) (e r (omega arith)) in
      omega arith

  tuples_sum : sum (map (last_tuples n) p.relations) ≡ every_tuples p.source
  unfolding relation_at
  tuples_sum = sym (ap (λ (ks : List Relation). sum (map (last_tuples n) ks)) (take_all (length p.relations) p.relations (omega arith))) ∙ by_some (is_some p.source.question.every) refl
    where
      by_some : (b : Bool) → is_some p.source.question.every ≡ b → sum (map (last_tuples n) (take (length p.relations) p.relations)) ≡ every_tuples p.source
      by_some false e = none_before (length p.relations) (omega arith) (λ j h. early j h (λ q t. subst T e t)) ∙ sym (no_tuples p (subst (λ (b : Bool). T (not b)) (sym e) tt))
      by_some true e =
          let t : T (is_some p.source.question.every) = T_of e in
          let r : ℕ = every_number p.source.question in
          let l : suc r ≡ length p.relations = is.every.last t in
          let z = none_before r (omega arith) (λ j h. early j (omega arith) (λ q t. omega arith)) in
          let s = sum_next (last_tuples n) (fixed [] zero) r p.relations (omega arith) in
          let w = last_width_lem n (relation_at p r) (T_true (is_universal (relation_at p r).kind) (every_universal p is.every t)) in
          let v = every_size_lem p is.every t in
          ap (λ (k : ℕ). sum (map (last_tuples n) (take k p.relations))) (sym l) ∙ omega (arith, z, s, w, v)

  tallied_here : (atoms sets picks nodes a k c : ℕ) → RelationsSummed n ranges.count g g.count atoms sets picks → NodesSummed n ranges.count t t.count nodes a k → c ≡ every_size n g → (b : ℕ) → b ≡ bound_in picks a c
      → Tallied p (record { elements = n; nodes = nodes; every = ltb 0 c; tuples = c; atoms = atoms + a + 3 * c; actions = sets + 1 + (k + 1) + 2 * c; bound = b })
  unfolding tally_of bound_in values lasts_blocks
  tallied_here atoms sets picks nodes a k c R N f b d =
      let x : a ≡ (walked p).atom_count = N.atoms_are ∙ atoms_walked in
      let y : k ≡ (walked p).action_count = N.actions_are ∙ acts_walked in
      let i : atoms ≡ 3 + count_of (relations_blocks n p.relations) = R.atoms_are ∙ relation_atoms in
      let j : sets ≡ count_of (set_blocks n p.range p.relations) = R.sets_are ∙ relation_sets in
      let l : picks ≡ sum (map (most_picks n) p.relations) = R.picks_are ∙ relation_picks in
      let e : c ≡ every_tuples p.source = f ∙ size_is in
      let u : count_of (lasts_blocks n p.relations) ≡ 3 * every_tuples p.source = lasts_count n 0 p.relations ∙ ap (λ (m : ℕ). 3 * m) tuples_sum in
      let v : count_of (mark_blocks mark_in n p.relations) ≡ every_tuples p.source = marks_count mark_in n p.relations ∙ tuples_sum in
      let w : count_of (mark_blocks mark_out n p.relations) ≡ every_tuples p.source = marks_count mark_out n p.relations ∙ tuples_sum in
      record {
        elements_are = refl;
        nodes_are = N.visited ∙ visited_walked;
        every_is = ap (ltb 0) e ∙ some_tuples p positive is.every;
        tuples_are = e;
        atoms_are = omega (arith, x, i, e, u);
        actions_are = omega (arith, y, j, e, v, w);
        bound_is = d ∙ rw (x, l, e) refl;
      }

pub tallied : (n : ℕ) (p : Problem) (ws : List ℕ) (types : ℕ) (ranges : Ranges) (g : Relations) (t : Nodes) → RangesAre n ws types ranges → Inputs p n ws types g t → Fits t → 0 < n → (atoms sets picks nodes a k c : ℕ)
    → RelationsSummed n ranges.count g g.count atoms sets picks → NodesSummed n ranges.count t t.count nodes a k → c ≡ every_size n g → (b : ℕ) → b ≡ bound_in picks a c
    → Tallied p (record { elements = n; nodes = nodes; every = ltb 0 c; tuples = c; atoms = atoms + a + 3 * c; actions = sets + 1 + (k + 1) + 2 * c; bound = b })
tallied n p ws types ranges g t ra is f positive atoms sets picks nodes a k c R N e b d =
    subst (λ (m : ℕ). Tallied p (record { elements = m; nodes = nodes; every = ltb 0 c; tuples = c; atoms = atoms + a + 3 * c; actions = sets + 1 + (k + 1) + 2 * c; bound = b })) (sym is.size)
    (tallied_here p ws types ranges g t (subst (λ (m : ℕ). RangesAre m ws types ranges) is.size ra) (subst (λ (m : ℕ). Inputs p m ws types g t) is.size is) f (subst (λ (m : ℕ). 0 < m) is.size positive) atoms sets picks nodes a k c
    (subst (λ (m : ℕ). RelationsSummed m ranges.count g g.count atoms sets picks) is.size R) (subst (λ (m : ℕ). NodesSummed m ranges.count t t.count nodes a k) is.size N)
    (subst (λ (m : ℕ). c ≡ every_size m g) is.size e) b d)

-- ---- no count overflows
module _ (n : ℕ) (small : n ≤ 64) where
  pub relation_counts : (counts : List ℕ) (g : Relations) → Most counts 64 → RelationsFit g → (i atoms sets picks : ℕ) → i ≤ g.count → RelationsSummed n counts g i atoms sets picks → (atoms ≤ 2 ^ 30) × (sets ≤ 2 ^ 29) × (picks ≤ 2 ^ 29)
  relation_counts counts g few f i atoms sets picks h s =
      let a = rel_bound n g small f i in
      let b = set_bound n g small f counts few i in
      let d = pick_bound n g small f i in
      (omega (arith, s.atoms_are, f.count), omega (arith, s.sets_are, f.count), omega (arith, s.picks_are, f.count))

  pub node_counts : (counts : List ℕ) (t : Nodes) → Most counts 64 → Fits t → (v nodes atoms actions : ℕ) → v ≤ t.count → NodesSummed n counts t v nodes atoms actions → (atoms ≤ 2 ^ 36) × (actions ≤ 2 ^ 36)
  node_counts counts t c f v nodes atoms actions h s =
      let a = node_bound n counts t 0 0 small c f v in
      let b = act_bound n counts t 0 0 small c f v in
      (omega (arith, s.atoms_are, f.few), omega (arith, s.actions_are, f.few))

-- ---- the tuples of an `every` relation, and the bound
pub size_some : (n : ℕ) (g : Relations) (r : ℕ) → has_last g ≡ true → r ≡ n ^ get_or g.arity (g.count - 1) 0 → r ≡ every_size n g
unfolding every_size
size_some n g r h e = rw h e

pub size_none : (n : ℕ) (g : Relations) → has_last g ≡ false → 0 ≡ every_size n g
unfolding every_size
size_none n g h = rw h refl

pub size_small : (n : ℕ) (g : Relations) (c : ℕ) → n ≤ 64 → RelationsFit g → c ≡ every_size n g → c ≤ 64 ^ 4
unfolding every_size
size_small n g c h f e = by_test (has_last g) e
  where
    by_test : (b : Bool) → c ≡ (if b then n ^ get_or g.arity (g.count - 1) 0 else 0) → c ≤ 64 ^ 4
    by_test true e = rw e (pow_most n (get_or g.arity (g.count - 1) 0) h (f.arity (g.count - 1)))
    by_test false e = omega arith

pub few_values : (c : ℕ) → c < 9 → 2 ^ c ≤ 2 ^ 8
few_values c h = let k : c ≤ 8 = omega arith in pow-le-pow_right (omega arith) k

pub rounds_small : (c v atoms : ℕ) → c < 9 → v ≡ 2 ^ c → atoms ≤ 2 ^ 40 → v * (atoms + c + 1) ≤ 2 ^ 8 * (2 ^ 40 + 9)
rounds_small c v atoms h e a =
    let q : v ≤ 2 ^ 8 = rw e (few_values c h) in
    let r : atoms + c + 1 ≤ 2 ^ 40 + 9 = omega arith in
    mul-le-mul q r

pub bound_some : (picks atoms c v : ℕ) → c < 9 → v ≡ 2 ^ c → picks + 1 + v * (atoms + c + 1) ≡ bound_in picks atoms c
unfolding bound_in
bound_some picks atoms c v h e = rw (le-leb c 8 (omega arith), e) refl

pub bound_none : (picks atoms c : ℕ) → 9 ≤ c → 0 ≡ bound_in picks atoms c
unfolding bound_in
bound_none picks atoms c h = rw (lt-leb c 8 (omega arith)) refl
