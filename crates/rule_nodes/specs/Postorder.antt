-- The rows of a tree in postorder, and the parts and rows that its table has. Definitions only.
use Rattle.std.specs.Prelude.{ℕ, zero, suc, ◌+◌, ◌*◌, ◌≤◌, ◌<◌, Bool, true, false, List, [], ◌∷◌, ◌++◌, map, length, get_or, take, set}
use Rattle.definitions.specs.Lists.{below}
use Rattle.definitions.specs.Problem.Tree.{Tree, Trees, leaf, forall_node, exists_node, and_node, or_node, end, ◌then◌, Part, parts, parts_from, nodes, how_many, node_sort, free}
use Rattle.rule_nodes.specs.Tables.{node_kind, node_level}
use Rattle.rule_nodes.specs.declared.PartRow.{PartRow}
use Rattle.rule_nodes.specs.declared.NodeRow.{NodeRow}
use Rattle.rule_nodes.specs.declared.Row.{Row}

-- the first n elements, zeros where there are fewer
unfoldable pub pad : ℕ → List ℕ → List ℕ
pad zero xs = []
pad (suc n) [] = 0 ∷ pad n []
pad (suc n) (x ∷ xs) = x ∷ pad n xs

abbrev pub leaf_kind : Bool → ℕ
leaf_kind true = 4
leaf_kind false = 5

abbrev pub leaf_row : Bool → ℕ → List ℕ → Row
leaf_row p r ls = record { kind = leaf_kind p; which = r; many = 0; sort = 0; width = length ls; levels = pad 3 ls }

abbrev pub quant_row : (kind node level sort : ℕ) → Row
quant_row k v d s = record { kind = k; which = v; many = 1; sort = s; width = 1; levels = pad 3 (d ∷ []) }

abbrev pub join_row : ℕ → ℕ → ℕ → Row
join_row k v m = record { kind = k; which = v; many = m; sort = 0; width = 0; levels = pad 3 [] }

-- the rows of a tree whose preorder number is v, its parts' rows first
unfoldable mutual
  pub post : ℕ → Tree → List Row
  post v (leaf p r ls) = leaf_row p r ls ∷ []
  post v (forall_node d σ t) = post (suc v) t ++ (quant_row 0 v d σ ∷ [])
  post v (exists_node d σ t) = post (suc v) t ++ (quant_row 1 v d σ ∷ [])
  post v (and_node ts) = post_all (suc v) ts ++ (join_row 2 v (how_many ts) ∷ [])
  post v (or_node ts) = post_all (suc v) ts ++ (join_row 3 v (how_many ts) ∷ [])

  pub post_all : ℕ → Trees → List Row
  post_all v end = []
  post_all v (t then ts) = post v t ++ post_all (v + length (nodes t)) ts

-- how many rows stand below the root; a tree has one more
unfoldable mutual
  pub inner : Tree → ℕ
  inner (leaf p r ls) = 0
  inner (forall_node d σ t) = inner t + 1
  inner (exists_node d σ t) = inner t + 1
  inner (and_node ts) = inner_all ts + how_many ts
  inner (or_node ts) = inner_all ts + how_many ts

  pub inner_all : Trees → ℕ
  inner_all end = 0
  inner_all (t then ts) = inner t + inner_all ts

-- a table of rows: the first `len` are in use, `nodes` of them nodes
pub record Rows : Type 0 where
  pub at : List Row
  pub len : ℕ
  pub nodes : ℕ

-- the rows that are in use
unfoldable pub rows_in : Rows → List Row
rows_in r = take r.len r.at

-- row i becomes `row`
abbrev pub with_row : Rows → ℕ → Row → Rows
with_row t i row = record { at = set t.at i row; len = t.len; nodes = t.nodes }

-- row i of a table that is lent as bytes, eight to a row
unfoldable pub row_at : List ℕ → ℕ → Row
row_at b i = record { kind = get_or b (8 * i) 0; which = get_or b (8 * i + 1) 0; many = get_or b (8 * i + 2) 0; sort = get_or b (8 * i + 7) 0; width = get_or b (8 * i + 3) 0; levels = get_or b (8 * i + 4) 0 ∷ get_or b (8 * i + 5) 0 ∷ get_or b (8 * i + 6) 0 ∷ [] }

-- that table
abbrev pub rows_from : List ℕ → ℕ → ℕ → Rows
rows_from b len nodes = record { at = map (row_at b) (below 64); len = len; nodes = nodes }

-- what the table's parts need: literals of the first `rels` relations, with 3 levels at the most, all levels below 4, sorts 8 at the most
unfoldable mutual
  pub Small : ℕ → Tree → Type 0
  Small rels (leaf p r ls) = (r < rels) × (length ls ≤ 3) × ((i : ℕ) → get_or ls i 0 < 4)
  Small rels (forall_node d σ t) = (d < 4) × (σ ≤ 8) × Small rels t
  Small rels (exists_node d σ t) = (d < 4) × (σ ≤ 8) × Small rels t
  Small rels (and_node ts) = AllSmall rels ts
  Small rels (or_node ts) = AllSmall rels ts

  pub AllSmall : ℕ → Trees → Type 0
  AllSmall rels end = Unit {0}
  AllSmall rels (t then ts) = Small rels t × AllSmall rels ts

-- ---- the table's rows

-- a tree as a part, where its preorder number is v
unfoldable pub part_of : ℕ → Tree → PartRow
part_of v (leaf true r ls) = record { tag = 0; which = r; sort = 0; levels = pad 4 ls; width = length ls }
part_of v (leaf false r ls) = record { tag = 1; which = r; sort = 0; levels = pad 4 ls; width = length ls }
part_of v (forall_node d σ t) = record { tag = 2; which = v; sort = σ; levels = pad 4 (free (forall_node d σ t)); width = length (free (forall_node d σ t)) }
part_of v (exists_node d σ t) = record { tag = 3; which = v; sort = σ; levels = pad 4 (free (exists_node d σ t)); width = length (free (exists_node d σ t)) }
part_of v (and_node ts) = record { tag = 3; which = v; sort = 0; levels = pad 4 (free (and_node ts)); width = length (free (and_node ts)) }
part_of v (or_node ts) = record { tag = 3; which = v; sort = 0; levels = pad 4 (free (or_node ts)); width = length (free (or_node ts)) }

abbrev pub part_at : Part → PartRow
part_at q = part_of q.node q.tree

-- the parts of a node, and of several trees of which the first has number v
abbrev pub kids_of : ℕ → Tree → List PartRow
kids_of v t = map part_at (parts v t)

abbrev pub heads : ℕ → Trees → List PartRow
heads v ts = map part_at (parts_from v ts)

-- a node's row, its `many` parts from `first` on
abbrev pub row_of : Tree → ℕ → ℕ → NodeRow
row_of t first many = record { kind = node_kind t; level = node_level t; sort = node_sort t; levels = pad 4 (free t); width = length (free t); first = first; many = many }
