-- The lines of a table of numbers, and what keeps indexes and sums in range.
use Rattle.std.specs.Prelude.{◌≡◌, Bool, ◌&&◌, ◌||◌, List, [], ◌∷◌, map, ℕ, ◌+◌, ◌-◌, ◌*◌, ◌^◌, ◌≤◌, ◌<◌, T, eqb, ltb, length, get_or, if◌then◌else◌}
use Rattle.definitions.specs.Lists.{below}
use Rattle.definitions.specs.Problem.Actions.{Values}
use Rattle.rule_nodes.specs.Tables.{Levels}
use Rattle.rows.specs.Values.{value_in, weighed}
use Rattle.problem_table.specs.declared.RelationLine.{RelationLine}
use Rattle.problem_table.specs.declared.NodeLine.{NodeLine}
use Rattle.problem_table.specs.declared.PartLine.{PartLine}

-- where lines stand: after three numbers 19 lines of relations, 65 of nodes, 64 of parts and the root's, then the ranges of 9 sorts
abbrev pub relation_place : ℕ → ℕ
relation_place r = 3 + 9 * r

abbrev pub node_place : ℕ → ℕ
node_place v = 174 + 13 * v

abbrev pub part_place : ℕ → ℕ
part_place i = 1019 + 5 * i

abbrev pub root_place : ℕ
root_place = 1339

-- the first range is that of all elements, sort 0
abbrev pub ranges_place : ℕ
ranges_place = 1344

abbrev pub range_place : ℕ → ℕ
range_place s = ranges_place + 64 * s

abbrev pub table_length : ℕ
table_length = 1920

-- n, how many relations, how many nodes
abbrev pub size_in : List ℕ → ℕ
size_in w = get_or w 0 0

abbrev pub relations_in : List ℕ → ℕ
relations_in w = get_or w 1 0

abbrev pub nodes_in : List ℕ → ℕ
nodes_in w = get_or w 2 0

unfoldable pub relation_line : List ℕ → ℕ → RelationLine
relation_line w r =
    record {
      sets = get_or w (relation_place r) 0;
      tuples = get_or w (relation_place r + 1) 0;
      nots = get_or w (relation_place r + 2) 0;
      free = get_or w (relation_place r + 3) 0;
      kind = get_or w (relation_place r + 4) 0;
      firsts = get_or w (relation_place r + 5) 0;
      first_count = get_or w (relation_place r + 6) 0;
      seconds = get_or w (relation_place r + 7) 0;
      second_count = get_or w (relation_place r + 8) 0;
    }

-- the line of the last relation; whether that is the one of an `every` line, and how many tuples this has
abbrev pub last_line : List ℕ → RelationLine
last_line w = relation_line w (relations_in w - 1)

unfoldable pub has_every : List ℕ → Bool
has_every w = ltb 0 (relations_in w) && eqb (last_line w).kind 6

unfoldable pub every_in : List ℕ → ℕ
every_in w = if has_every w then (last_line w).nots - (last_line w).tuples else 0

unfoldable pub node_line : List ℕ → ℕ → NodeLine
node_line w v =
    record {
      acts = get_or w (node_place v) 0;
      atoms = get_or w (node_place v + 1) 0;
      kind = get_or w (node_place v + 2) 0;
      level = get_or w (node_place v + 3) 0;
      first = get_or w (node_place v + 4) 0;
      many = get_or w (node_place v + 5) 0;
      width = get_or w (node_place v + 6) 0;
      levels = get_or w (node_place v + 7) 0 ∷ get_or w (node_place v + 8) 0 ∷ get_or w (node_place v + 9) 0 ∷ get_or w (node_place v + 10) 0 ∷ [];
      range = get_or w (node_place v + 11) 0;
      count = get_or w (node_place v + 12) 0;
    }

unfoldable pub part_line : List ℕ → ℕ → PartLine
part_line w i =
    record {
      start = get_or w (part_place i) 0;
      weights = get_or w (part_place i + 1) 0 ∷ get_or w (part_place i + 2) 0 ∷ get_or w (part_place i + 3) 0 ∷ get_or w (part_place i + 4) 0 ∷ [];
    }

-- the number of a part's atom at values of the levels
unfoldable pub part_number : Values → PartLine → ℕ
part_number e q = q.start + weighed e (value_in q.weights)

unfoldable pub part_at : List ℕ → Values → ℕ → ℕ
part_at w e i = part_number e (part_line w i)

-- k numbers of the table from place a on; the elements that a quantifier's variable, or a place of a function kind, goes over
unfoldable pub members_in : List ℕ → ℕ → ℕ → List ℕ
members_in w a k = map (λ i. get_or w (a + i) 0) (below k)

abbrev pub range_in : List ℕ → NodeLine → List ℕ
range_in w v = members_in w v.range v.count

-- ---- what keeps indexes and sums in range
pub record NodeFits (v : NodeLine) : Type 0 where
  pub width : v.width ≤ 4
  pub levels : Levels v.levels
  pub level : v.level < 4
  pub parts : v.first + v.many ≤ 64

-- a range of k numbers from place a on is in the table, its members are elements, and the first range has all of them
pub record SpanFits (w : List ℕ) (a k : ℕ) : Type 0 where
  pub inside : a + k ≤ table_length
  pub member : (i : ℕ) → i < k → get_or w (a + i) 0 < size_in w
  pub whole : a ≡ ranges_place → members_in w a k ≡ below (size_in w)

-- that of a quantifier
abbrev pub RangeFits : List ℕ → NodeLine → Type 0
RangeFits w v = SpanFits w v.range v.count

-- the kinds whose places have no ranges: all but the function kinds
abbrev pub is_placeless : ℕ → Bool
is_placeless kind = ltb kind 2 || ltb 5 kind

-- those of the two places of a function kind; other kinds have none
pub record PlacesFit (w : List ℕ) (k : RelationLine) : Type 0 where
  pub firsts : SpanFits w k.firsts k.first_count
  pub seconds : SpanFits w k.seconds k.second_count
  pub untyped : T (is_placeless k.kind) → (k.firsts ≡ 0) × (k.first_count ≡ 0) × (k.seconds ≡ 0) × (k.second_count ≡ 0)

pub record Fits (w : List ℕ) : Type 0 where
  pub whole : length w ≡ table_length
  pub some : 0 < size_in w
  pub size : size_in w ≤ 64
  pub relations : relations_in w ≤ 18
  pub nodes : nodes_in w ≤ 64
  pub entry : (i : ℕ) → get_or w i 0 ≤ 2 ^ 32
  pub node : (v : ℕ) → v < 64 → NodeFits (node_line w v)
  pub range : (v : ℕ) → v < 64 → RangeFits w (node_line w v)
  pub places : (r : ℕ) → r < 18 → PlacesFit w (relation_line w r)
