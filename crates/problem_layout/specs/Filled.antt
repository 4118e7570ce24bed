-- The numbers of each line, the table that they make, and what is promised of it.
use Rattle.std.specs.Prelude.{◌≡◌, List, [], ◌∷◌, ◌++◌, ℕ, zero, suc, ◌+◌, ◌*◌, eqb, ltb, length, get_or, take, drop, set, if◌then◌else◌}
use Rattle.definitions.specs.Problem.Atoms.{Problem, atoms}
use Rattle.rule_nodes.specs.Tables.{no_part, no_node}
use Rattle.rule_nodes.specs.declared.PartRow.{PartRow}
use Rattle.rule_nodes.specs.declared.NodeRow.{NodeRow}
use Rattle.rule_nodes.specs.declared.Nodes.{Nodes}
use Rattle.rows.specs.Values.{weight_of}
use Rattle.problem_table.specs.Lines.{root_place, ranges_place, range_place, nodes_in, node_line, every_in, is_placeless, Fits}
use Rattle.problem_table.specs.Of.{Is}
use Rattle.problem_layout.specs.Laid.{firsts_at, seconds_at, count_at, range_by, Inputs, Starts}
use Rattle.problem_layout.specs.declared.Relations.{Relations}
use Rattle.problem_layout.specs.declared.Ranges.{Ranges}
use Rattle.problem_layout.specs.declared.Layout.{Layout}

-- where the lines of relations, of nodes and of parts start, and how long a relation's and a node's line is
abbrev pub relations_place : ℕ
relations_place = 3

abbrev pub nodes_place : ℕ
nodes_place = 174

abbrev pub parts_place : ℕ
parts_place = 1019

abbrev pub relation_length : ℕ
relation_length = 9

abbrev pub node_length : ℕ
node_length = 13

-- d, with s in place of what stands from `at` on
unfoldable pub splice : ℕ → List ℕ → List ℕ → List ℕ
splice at s d = take at d ++ (s ++ drop (at + length s) d)

-- the first k lines, one after another
unfoldable pub tab : (ℕ → List ℕ) → ℕ → List ℕ
tab f zero = []
tab f (suc k) = tab f k ++ f k

-- where the range of a place starts, and how many of the elements of its sort it has: only a function kind has any
unfoldable pub place_start : (kind sort : ℕ) → ℕ
place_start kind sort = if is_placeless kind then 0 else range_place sort

unfoldable pub place_count : (count kind : ℕ) → ℕ
place_count count kind = if is_placeless kind then 0 else count

unfoldable pub relation_numbers : List ℕ → Relations → Layout → ℕ → List ℕ
relation_numbers counts g l r =
    get_or l.set r 0
    ∷ get_or l.rel r 0
    ∷ get_or l.neg r 0
    ∷ get_or l.dom r 0
    ∷ get_or g.kind r 0
    ∷ place_start (get_or g.kind r 0) (get_or g.firsts r 0)
    ∷ place_count (firsts_at counts g r) (get_or g.kind r 0)
    ∷ place_start (get_or g.kind r 0) (get_or g.seconds r 0)
    ∷ place_count (seconds_at counts g r) (get_or g.kind r 0)
    ∷ []

-- past the last of r relations
unfoldable pub relation_end : Layout → ℕ → List ℕ
relation_end l r = get_or l.set r 0 ∷ get_or l.rel r 0 ∷ 0 ∷ 0 ∷ 0 ∷ 0 ∷ 0 ∷ 0 ∷ 0 ∷ []

-- where the range of a node of that kind starts, and how many of the elements of its sort it has: only a quantifier goes over any
unfoldable pub range_start : (kind sort : ℕ) → ℕ
range_start kind sort = if ltb kind 2 then range_place sort else 0

unfoldable pub range_count : (count kind : ℕ) → ℕ
range_count count kind = if ltb kind 2 then count else 0

-- the line of a node whose actions and atoms start there and whose sort has `count` elements
unfoldable pub node_from : (count act node : ℕ) → NodeRow → List ℕ
node_from count act node x =
    act
    ∷ node
    ∷ x.kind
    ∷ x.level
    ∷ x.first
    ∷ x.many
    ∷ x.width
    ∷ get_or x.levels 0 0
    ∷ get_or x.levels 1 0
    ∷ get_or x.levels 2 0
    ∷ get_or x.levels 3 0
    ∷ range_start x.kind x.sort
    ∷ range_count count x.kind
    ∷ []

abbrev pub node_numbers : List ℕ → Nodes → Layout → ℕ → List ℕ
node_numbers counts t l v = node_from (count_at counts t v) (get_or l.act v 0) (get_or l.node v 0) (get_or t.rows v no_node)

-- past the last of v nodes
unfoldable pub node_end : Layout → ℕ → List ℕ
node_end l v = get_or l.act v 0 ∷ get_or l.node v 0 ∷ 0 ∷ 0 ∷ 0 ∷ 0 ∷ 0 ∷ 0 ∷ 0 ∷ 0 ∷ 0 ∷ 0 ∷ 0 ∷ []

-- where the atoms of a part's relation or node start, by the part's tag, among the starts of tuples, of not-tuples and of nodes
unfoldable pub start_in : (rel neg node : List ℕ) → ℕ → ℕ → ℕ
start_in rel neg node zero which = get_or rel which 0
start_in rel neg node (suc zero) which = get_or neg which 0
start_in rel neg node (suc (suc k)) which = get_or node which 0

-- a part's atom at the values 0, and the weights of the levels; a `forall` stands for its atom at the greatest element of its range,
-- n to a row
unfoldable pub numbers_from : (n top start : ℕ) → PartRow → List ℕ
numbers_from n top start q =
    let w = weight_of n (take q.width q.levels) in
    if eqb q.tag 2 then (start + top) ∷ (w 0 * n) ∷ (w 1 * n) ∷ (w 2 * n) ∷ (w 3 * n) ∷ []
    else start ∷ w 0 ∷ w 1 ∷ w 2 ∷ w 3 ∷ []

-- the line of a part, by the greatest elements of all sorts and the starts, or by the layout that holds these
unfoldable pub numbers_in : (n : ℕ) (tops rel neg node : List ℕ) → PartRow → List ℕ
numbers_in n tops rel neg node q = numbers_from n (get_or tops q.sort 0) (start_in rel neg node q.tag q.which) q

abbrev pub part_numbers : ℕ → List ℕ → Layout → PartRow → List ℕ
part_numbers n tops l q = numbers_in n tops l.rel l.neg l.node q

-- the lines of all relations, of all nodes, and of all parts
unfoldable pub relation_lines : List ℕ → Relations → Layout → List ℕ
relation_lines counts g l = tab (relation_numbers counts g l) g.count ++ relation_end l g.count

unfoldable pub node_lines : List ℕ → Nodes → Layout → List ℕ
node_lines counts t l = tab (node_numbers counts t l) t.count ++ node_end l t.count

unfoldable pub part_lines : ℕ → List ℕ → Nodes → Layout → List ℕ
part_lines n tops t l = tab (λ (i : ℕ). part_numbers n tops l (get_or t.parts i no_part)) t.placed

-- the ranges of sorts 0 to k, 64 numbers for each from a place on
unfoldable pub with_ranges : ℕ → (n : ℕ) → List ℕ → ℕ → List ℕ → List ℕ
with_ranges at n w zero d = splice at (range_by n w zero) d
with_ranges at n w (suc k) d = splice (at + 64 * suc k) (range_by n w (suc k)) (with_ranges at n w k d)

-- all of it, the root's line and the ranges last, in place of d
unfoldable pub table_of : (n : ℕ) → List ℕ → ℕ → Ranges → Relations → Nodes → Layout → List ℕ → List ℕ
table_of n w k r g t l d =
    with_ranges ranges_place n w k
    (splice root_place (part_numbers n r.top l t.root)
    (splice parts_place (part_lines n r.top t l) (splice nodes_place (node_lines r.count t l) (splice relations_place (relation_lines r.count g l) (set (set (set d 0 n) 1 g.count) 2 t.count)))))

-- the table is that of every problem whose elements, members, relations, nodes and starts these are, and all its numbers are in range
pub record Filled (n : ℕ) (members : List ℕ) (k : ℕ) (g : Relations) (t : Nodes) (l : Layout) (w : List ℕ) : Type 0 where
  pub fits : Fits w
  pub is : (p : Problem) → Inputs p n members k g t → Starts p l → Is p w
  pub ends : (p : Problem) → Inputs p n members k g t → Starts p l → (node_line w (nodes_in w)).atoms + 3 * every_in w ≡ atoms p
