-- A node table is that of a tree: kinds, levels, free levels and parts of every node, in preorder.
use Rattle.std.specs.Prelude.{◌≡◌, true, false, List, [], map, ℕ, ◌+◌, ◌≤◌, ◌<◌, length, get_or, take, drop}
use Rattle.definitions.specs.Problem.Tree.{Tree, leaf, forall_node, exists_node, and_node, or_node, Part, parts, nodes, node_sort, free}
use Rattle.rule_nodes.specs.declared.PartRow.{PartRow}
use Rattle.rule_nodes.specs.declared.NodeRow.{NodeRow}
use Rattle.rule_nodes.specs.declared.Nodes.{Nodes}

-- what stands past the end of a table
abbrev pub no_part : PartRow
no_part = record { tag = 0; which = 0; sort = 0; levels = []; width = 0 }

abbrev pub no_node : NodeRow
no_node = record { kind = 0; level = 0; sort = 0; levels = []; width = 0; first = 0; many = 0 }

-- ---- a node's kind and level as numbers

unfoldable pub node_kind : Tree → ℕ
node_kind (forall_node d σ t) = 0
node_kind (exists_node d σ t) = 1
node_kind (and_node ts) = 2
node_kind (or_node ts) = 3
node_kind (leaf p r ls) = 4

unfoldable pub node_level : Tree → ℕ
node_level (forall_node d σ t) = d
node_level (exists_node d σ t) = d
node_level (and_node ts) = 0
node_level (or_node ts) = 0
node_level (leaf p r ls) = 0

-- ---- a part: what it is, its relation or node, its sort, and its levels
pub record Head : Type 0 where
  pub tag : ℕ
  pub which : ℕ
  pub sort : ℕ
  pub levels : List ℕ

-- of a tree whose preorder number is v
unfoldable pub head_from : ℕ → Tree → Head
head_from v (leaf true r ls) = record { tag = 0; which = r; sort = 0; levels = ls }
head_from v (leaf false r ls) = record { tag = 1; which = r; sort = 0; levels = ls }
head_from v (forall_node d σ t) = record { tag = 2; which = v; sort = σ; levels = free (forall_node d σ t) }
head_from v (exists_node d σ t) = record { tag = 3; which = v; sort = σ; levels = free (exists_node d σ t) }
head_from v (and_node ts) = record { tag = 3; which = v; sort = 0; levels = free (and_node ts) }
head_from v (or_node ts) = record { tag = 3; which = v; sort = 0; levels = free (or_node ts) }

abbrev pub head_of : Part → Head
head_of q = head_from q.node q.tree

-- of a row of the table
abbrev pub head_in : PartRow → Head
head_in q = record { tag = q.tag; which = q.which; sort = q.sort; levels = take q.width q.levels }

-- ---- the table of a tree

-- a part's relation is one of `rels`, its node one of `nodes`
pub record PartIn (rels nodes : ℕ) (q : PartRow) : Type 0 where
  pub relation : q.tag < 2 → q.which < rels
  pub node : 2 ≤ q.tag → q.which < nodes

-- row v is the node t, its parts among ps
pub record IsNode (v : ℕ) (t : Tree) (row : NodeRow) (ps : List PartRow) : Type 0 where
  pub kind : row.kind ≡ node_kind t
  pub level : row.level ≡ node_level t
  pub sort : row.sort ≡ node_sort t
  pub width : row.width ≡ length (free t)
  pub levels : take row.width row.levels ≡ free t
  pub parts : map head_in (take row.many (drop row.first ps)) ≡ map head_of (parts v t)

-- the table is that of the tree, whose literals are of the first `rels` relations
pub record IsTable (rels : ℕ) (root : Tree) (t : Nodes) : Type 0 where
  pub count : t.count ≡ length (nodes root)
  pub node : (v : ℕ) → v < t.count → IsNode v (get_or (nodes root) v (leaf true 0 [])) (get_or t.rows v no_node) t.parts
  pub top : head_in t.root ≡ head_from 0 root
  pub within : (i : ℕ) → PartIn rels t.count (get_or t.parts i no_part)
  pub top_within : PartIn rels t.count t.root

-- ---- what keeps indexes and arithmetic in range, for every index

abbrev pub Levels : List ℕ → Type 0
Levels ls = (i : ℕ) → get_or ls i 0 < 4

pub record PartFits (q : PartRow) : Type 0 where
  pub width : q.width ≤ 4
  pub sort : q.sort ≤ 8
  pub levels : Levels q.levels
  pub relation : q.tag < 2 → q.which < 18
  pub node : 2 ≤ q.tag → q.which < 64

-- ... of a node whose parts are among the first `placed`
pub record NodeFits (placed : ℕ) (v : NodeRow) : Type 0 where
  pub width : v.width ≤ 4
  pub levels : Levels v.levels
  pub level : v.level < 4
  pub sort : v.sort ≤ 8
  pub parts : v.first + v.many ≤ placed

pub record PartsFit (t : Nodes) : Type 0 where
  pub parts_length : length t.parts ≡ 64
  pub part : (i : ℕ) → PartFits (get_or t.parts i no_part)

pub record NodesFit (t : Nodes) : Type 0 where
  pub rows_length : length t.rows ≡ 64
  pub node : (i : ℕ) → NodeFits t.placed (get_or t.rows i no_node)

pub record Fits (t : Nodes) : Type 0 where
  pub few : t.count ≤ 64
  pub few_parts : t.placed ≤ 64
  pub parts : PartsFit t
  pub nodes : NodesFit t
  pub root : PartFits t.root
