-- The profile by the node table: there is no `every` line, no part of a node is a not-tuple of a `choose`, and no `choose` is of a function kind.
use Rattle.std.specs.Prelude.{ℕ, suc, ◌+◌, ◌≤◌, ◌<◌, ◌≡◌, Bool, ◌&&◌, List, [], ◌∷◌, ◌++◌, map, T, eqb, ltb, get_or, take, drop, if◌then◌else◌}
use Rattle.std.proofs.Math.Path.{refl, ap, ap₂}
use Rattle.std.proofs.Common.{sym, subst, ◌∙◌, arith, eq-eqb, ne_eqb, length-drop, get_or-take, get_or-drop, length-take-le}
use Rattle.std.proofs.Math.Bool.{true, false, not, ◌||◌}
use Rattle.std.proofs.Math.ListN.{length}
use Rattle.definitions.specs.Lists.{is_some, all, any, below}
use Rattle.definitions.specs.Sheet.Relations.{Relation, Kind, static, plain, Fun, PFun, Inj, PInj, universal, is_chosen, is_function}
use Rattle.definitions.specs.Sheet.Sheets.{Question, first_chosen}
use Rattle.definitions.specs.Problem.Truth.{Case}
use Rattle.definitions.specs.Problem.Tree.{Tree, Trees, leaf, forall_node, exists_node, and_node, or_node, end, ◌then◌, parts, parts_from, nodes, nodes_all, tree_of}
use Rattle.definitions.specs.Problem.Atoms.{problem_of, relation_at}
use Rattle.definitions.specs.Reply.Monotone.{wants_more, all_want_more, only_wants_more}
use Rattle.laws.specs.Booleans.{T_ext, T_of, not_and, or_assoc}
use Rattle.laws.specs.Lists.{any_at, any_of, below_lt, mem_below, get_or_mem, mem_get_or}
use Rattle.laws.specs.Numbers.{no_relation}
use Rattle.laws.specs.Reader.{Accepted}
use Rattle.meaning.specs.Grounded.{chosen_at, chosen_is}
use Rattle.rule_nodes.specs.Tables.{Head, head_from, head_of, head_in, no_part, no_node, IsNode, IsTable, Fits}
use Rattle.rule_nodes.specs.declared.NodeRow.{NodeRow}
use Rattle.rule_nodes.specs.declared.PartRow.{PartRow}
use Rattle.rule_nodes.specs.declared.Nodes.{Nodes}
use Rattle.problem_table.specs.Of.{kind_number}

-- ---- lists by their places
pub any_index : {A : Type 0} (f : A → Bool) (d : A) (l : List A) (k : ℕ) → k ≡ length l → any (λ i. f (get_or l i d)) (below k) ≡ any f l
any_index f d l k e = T_ext _ _
    (λ t. let (i, m, h) = any_at (λ i. f (get_or l i d)) (below k) t in any_of f l (get_or l i d) (get_or_mem l i d (let b = below_lt k i m in omega arith)) h)
    (λ t. let (x, m, h) = any_at f l t in let (i, b, q) = mem_get_or l x d m in any_of (λ i. f (get_or l i d)) (below k) i (mem_below k i (omega arith)) (subst (λ y. T (f y)) (sym q) h))

any_same : (f g : ℕ → Bool) (k : ℕ) → ((i : ℕ) → i < k → f i ≡ g i) → any f (below k) ≡ any g (below k)
any_same f g k e = T_ext _ _
    (λ t. let (i, m, h) = any_at f (below k) t in any_of g (below k) i m (subst T (e i (below_lt k i m)) h))
    (λ t. let (i, m, h) = any_at g (below k) t in any_of f (below k) i m (subst T (sym (e i (below_lt k i m))) h))

any_map : {A B : Type 0} (f : B → Bool) (g : A → B) (l : List A) → any f (map g l) ≡ any (λ x. f (g x)) l
unfolding any
any_map f g [] = refl
any_map f g (x ∷ l) = ap (λ (b : Bool). f (g x) || b) (any_map f g l)

any_append : {A : Type 0} (f : A → Bool) (l m : List A) → any f (l ++ m) ≡ (any f l || any f m)
unfolding any
any_append f [] m = refl
any_append f (x ∷ l) m = ap (λ (b : Bool). f x || b) (any_append f l m) ∙ sym (or_assoc (f x) (any f l) (any f m))

-- ---- parts and nodes that refuse more
module _ (first : ℕ) where
  unfoldable pub head_refuses : Head → Bool
  head_refuses h = if eqb h.tag 1 then not (ltb h.which first) else false

  pub refuses_yes : (h : Head) → h.tag ≡ 1 → (w : ℕ) → w ≡ h.which → not (ltb w first) ≡ head_refuses h
  unfolding head_refuses
  refuses_yes h e w q = rw (eq-eqb h.tag 1 e) (ap (λ (x : ℕ). not (ltb x first)) q)

  pub refuses_no : (h : Head) → (h.tag ≡ 1 → ⊥) → false ≡ head_refuses h
  unfolding head_refuses
  refuses_no h e = rw (ne_eqb h.tag 1 e) refl

  unfoldable part_refuses : Tree → Bool
  part_refuses (leaf true r ls) = false
  part_refuses (leaf false r ls) = not (ltb r first)
  part_refuses (forall_node d σ t) = false
  part_refuses (exists_node d σ t) = false
  part_refuses (and_node ts) = false
  part_refuses (or_node ts) = false

  unfoldable parts_refuse : Trees → Bool
  parts_refuse end = false
  parts_refuse (t then ts) = part_refuses t || parts_refuse ts

  unfoldable node_refuses : Tree → Bool
  node_refuses (leaf p r ls) = false
  node_refuses (forall_node d σ t) = part_refuses t
  node_refuses (exists_node d σ t) = part_refuses t
  node_refuses (and_node ts) = parts_refuse ts
  node_refuses (or_node ts) = parts_refuse ts

  head_is : (v : ℕ) (t : Tree) → head_refuses (head_from v t) ≡ part_refuses t
  unfolding head_refuses part_refuses head_from
  head_is v (leaf true r ls) = refl
  head_is v (leaf false r ls) = refl
  head_is v (forall_node d σ t) = refl
  head_is v (exists_node d σ t) = refl
  head_is v (and_node ts) = refl
  head_is v (or_node ts) = refl

  or_false : (b : Bool) → (b || false) ≡ b
  or_false true = refl
  or_false false = refl

  from_is : (v : ℕ) (ts : Trees) → any head_refuses (map head_of (parts_from v ts)) ≡ parts_refuse ts
  unfolding any parts_from parts_refuse
  from_is v end = refl
  from_is v (t then ts) = ap₂ ◌||◌ (head_is v t) (from_is (v + length (nodes t)) ts)

  parts_are : (v : ℕ) (t : Tree) → any head_refuses (map head_of (parts v t)) ≡ node_refuses t
  unfolding any parts node_refuses
  parts_are v (leaf p r ls) = refl
  parts_are v (forall_node d σ t) = ap (λ (b : Bool). b || false) (head_is (suc v) t) ∙ or_false (part_refuses t)
  parts_are v (exists_node d σ t) = ap (λ (b : Bool). b || false) (head_is (suc v) t) ∙ or_false (part_refuses t)
  parts_are v (and_node ts) = from_is (suc v) ts
  parts_are v (or_node ts) = from_is (suc v) ts

  mix : (a b c d : Bool) → ((a || b) || (c || d)) ≡ ((a || c) || (b || d))
  mix true b c d = refl
  mix false true true d = refl
  mix false true false d = refl
  mix false false c d = refl

  mutual
    unfolding wants_more all_want_more part_refuses parts_refuse node_refuses any nodes nodes_all

    tree_is : (t : Tree) → not (wants_more first t) ≡ (part_refuses t || any node_refuses (nodes t))
    tree_is (leaf true r ls) = refl
    tree_is (leaf false r ls) = sym (or_false (not (ltb r first)))
    tree_is (forall_node d σ t) = tree_is t
    tree_is (exists_node d σ t) = tree_is t
    tree_is (and_node ts) = trees_are ts
    tree_is (or_node ts) = trees_are ts

    trees_are : (ts : Trees) → not (all_want_more first ts) ≡ (parts_refuse ts || any node_refuses (nodes_all ts))
    trees_are end = refl
    trees_are (t then ts) =
        not_and (wants_more first t) (all_want_more first ts) ∙ ap₂ ◌||◌ (tree_is t) (trees_are ts) ∙ mix (part_refuses t) (any node_refuses (nodes t)) (parts_refuse ts) (any node_refuses (nodes_all ts))
        ∙ ap (λ (b : Bool). (part_refuses t || parts_refuse ts) || b) (sym (any_append node_refuses (nodes t) (nodes_all ts)))

  -- part `at + i` of the table
  abbrev pub part_at : Nodes → ℕ → ℕ → Bool
  part_at t at i = head_refuses (head_in (get_or t.parts (at + i) no_part))

  -- some part of node v
  abbrev pub row_refuses : Nodes → ℕ → Bool
  row_refuses t v = any (part_at t (get_or t.rows v no_node).first) (below (get_or t.rows v no_node).many)

  row_is : (t : Nodes) (v : ℕ) (u : Tree) → Fits t → IsNode v u (get_or t.rows v no_node) t.parts → row_refuses t v ≡ node_refuses u
  row_is t v u F is =
      any_same (part_at t at) (λ i. head_refuses (head_in (get_or l i no_part))) many (λ i h. ap (λ (q : PartRow). head_refuses (head_in q)) (sym (get_or-take many (drop at t.parts) i no_part h ∙ get_or-drop at t.parts i no_part)))
      ∙ any_index (λ (q : PartRow). head_refuses (head_in q)) no_part l many long ∙ sym (any_map head_refuses head_in l) ∙ ap (any head_refuses) is.parts ∙ parts_are v u
    where
      at : ℕ
      at = (get_or t.rows v no_node).first

      many : ℕ
      many = (get_or t.rows v no_node).many

      l : List PartRow
      l = take many (drop at t.parts)

      long : many ≡ length l
      long = sym (length-take-le many (drop at t.parts) (let d = length-drop at t.parts in let n = (F.nodes.node v).parts in let m = F.parts.parts_length in let q = F.few_parts in omega arith))

  -- some part of some node, or the root, refuses more exactly if the tree does not want more
  pub tree_refuses : (t : Nodes) (rels : ℕ) (root : Tree) → Fits t → IsTable rels root t → (head_refuses (head_in t.root) || any (row_refuses t) (below t.count)) ≡ not (wants_more first root)
  tree_refuses t rels root F is =
      ap₂ ◌||◌ (ap head_refuses is.top ∙ head_is 0 root)
      (any_same (row_refuses t) (λ v. node_refuses (get_or (nodes root) v (leaf true 0 []))) t.count (λ v h. row_is t v (get_or (nodes root) v (leaf true 0 [])) F (is.node v h))
      ∙ any_index node_refuses (leaf true 0 []) (nodes root) t.count is.count)
      ∙ sym (tree_is root)

  module _ (t : Nodes) (F : Fits t) (b : Bool) (top : b ≡ head_refuses (head_in t.root)) where
    pub root_refuses : b ≡ true → (rels : ℕ) (root : Tree) → IsTable rels root t → true ≡ not (wants_more first root)
    root_refuses e rels root is = sym (ap (λ (x : Bool). x || any (row_refuses t) (below t.count)) (sym top ∙ e)) ∙ tree_refuses t rels root F is

    pub rows_refuse : (d : Bool) → b ≡ false → any (row_refuses t) (below t.count) ≡ d → (rels : ℕ) (root : Tree) → IsTable rels root t → d ≡ not (wants_more first root)
    rows_refuse d e q rels root is = sym (ap₂ ◌||◌ (sym top ∙ e) q) ∙ tree_refuses t rels root F is

  pub row_of : (t : Nodes) (v at many : ℕ) (x : NodeRow) → x ≡ get_or t.rows v no_node → at ≡ x.first → many ≡ x.many → (r : Bool) → r ≡ any (part_at t at) (below many) → (b : Bool) → r ≡ b → row_refuses t v ≡ b
  row_of t v at many x e a m r q b z = sym (ap₂ (λ (i k : ℕ). any (part_at t i) (below k)) (a ∙ ap (λ (y : NodeRow). y.first) e) (m ∙ ap (λ (y : NodeRow). y.many) e)) ∙ sym q ∙ z

-- ---- kinds
kind_is : (k : Kind) → T (is_chosen k) → ltb 1 (kind_number k) ≡ is_function k
unfolding kind_number is_function is_chosen
kind_is static t = absurd t
kind_is plain t = refl
kind_is Fun t = refl
kind_is PFun t = refl
kind_is Inj t = refl
kind_is PInj t = refl
kind_is universal t = absurd t

all_none : {A : Type 0} (f : A → Bool) (l : List A) → not (all (λ x. not (f x)) l) ≡ any f l
unfolding all any
all_none f [] = refl
all_none f (x ∷ l) = not_and (not (f x)) (all (λ x. not (f x)) l) ∙ ap₂ ◌||◌ (not_not (f x)) (all_none f l)
  where
    not_not : (b : Bool) → not (not b) ≡ b
    not_not true = refl
    not_not false = refl

-- relation `first + i` is of a function kind
abbrev pub kind_at : List ℕ → ℕ → ℕ → Bool
kind_at kinds first i = ltb 1 (get_or kinds (first + i) 0)

pub kinds_are : (c : Case) → Accepted c → (kinds : List ℕ) (first chosen : ℕ) → first ≡ first_chosen c.question → chosen ≡ length c.question.chosen
    → ((i : ℕ) → i < chosen → get_or kinds (first + i) 0 ≡ kind_number (relation_at (problem_of c) (first + i)).kind) → any (kind_at kinds first) (below chosen) ≡ not (all (λ (k : Relation). not (is_function k.kind)) c.question.chosen)
kinds_are c A kinds first chosen e k is =
    any_same (kind_at kinds first) (λ i. is_function (get_or c.question.chosen i no_relation).kind) chosen (λ i h.
    let l : i < length c.question.chosen = omega arith in
    let there = ap (λ (x : ℕ). relation_at (problem_of c) (x + i)) e in
    ap (ltb 1) (is i h) ∙ kind_is (relation_at (problem_of c) (first + i)).kind (subst (λ (r : Relation). T (is_chosen r.kind)) (sym there) (chosen_is c A i l).1) ∙ ap (λ (r : Relation). is_function r.kind) (there ∙ chosen_at c A i l))
    ∙ any_index (λ (r : Relation). is_function r.kind) no_relation c.question.chosen chosen k ∙ sym (all_none (λ (r : Relation). is_function r.kind) c.question.chosen)

-- ---- the profile, by what was looked for and not found
module _ (q : Question) (every : Bool) (told : every ≡ is_some q.every) where
  abbrev Plain : Bool
  Plain = all (λ (k : Relation). not (is_function k.kind)) q.chosen

  abbrev More : Bool
  More = wants_more (first_chosen q) (tree_of q)

  pub else_every : every ≡ true → only_wants_more q ≡ false
  unfolding only_wants_more
  else_every e = by_test (is_some q.every) (sym told ∙ e)
    where
      by_test : (a : Bool) → a ≡ true → (not a && Plain && More) ≡ false
      by_test true z = refl
      by_test false z = absurd (T_of z)

  module _ (b : Bool) (kinds : b ≡ not Plain) where
    pub else_kinds : b ≡ true → only_wants_more q ≡ false
    unfolding only_wants_more
    else_kinds e = by_test (not (is_some q.every)) Plain (sym kinds ∙ e)
      where
        by_test : (a b : Bool) → not b ≡ true → (a && b && More) ≡ false
        by_test a true z = absurd (T_of z)
        by_test true false z = refl
        by_test false false z = refl

    module _ (d : Bool) (tree : d ≡ not More) where
      pub else_tree : d ≡ true → only_wants_more q ≡ false
      unfolding only_wants_more
      else_tree e = by_test (not (is_some q.every) && Plain) More (sym tree ∙ e)
        where
          by_test : (a w : Bool) → not w ≡ true → (a && w) ≡ false
          by_test a true z = absurd (T_of z)
          by_test true false z = refl
          by_test false false z = refl

      pub profile : every ≡ false → b ≡ false → d ≡ false → only_wants_more q ≡ true
      unfolding only_wants_more
      profile a e f = by_test (is_some q.every) Plain More (sym told ∙ a) (sym kinds ∙ e) (sym tree ∙ f)
        where
          by_test : (a b w : Bool) → a ≡ false → not b ≡ false → not w ≡ false → (not a && b && w) ≡ true
          by_test true b w x y z = absurd (T_of (sym x))
          by_test false true true x y z = refl
          by_test false true false x y z = absurd (T_of (sym z))
          by_test false false w x y z = absurd (T_of (sym y))
