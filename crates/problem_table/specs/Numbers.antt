-- The numbers of the atoms that an action needs, adds and removes, by the table.
use Rattle.std.specs.Prelude.{Bool, not, ◌&&◌, ◌||◌, List, [], ◌∷◌, map, ℕ, ◌+◌, ◌-◌, ◌*◌, ◌/◌, ◌%◌, ◌^◌, ◌≤◌, ◌<◌, ltb, eqb, take, get_or, if◌then◌else◌}
use Rattle.definitions.specs.Lists.{any, option, from, before}
use Rattle.definitions.specs.Problem.Atoms.{places_of}
use Rattle.definitions.specs.Problem.Actions.{Values, values_in, with_value}
use Rattle.problem_table.specs.Lines.{size_in, ranges_place, relation_line, last_line, has_every, node_line, nodes_in, is_placeless, part_at, range_in}
use Rattle.problem_table.specs.declared.RelationLine.{RelationLine}
use Rattle.problem_table.specs.declared.NodeLine.{NodeLine}
use Rattle.problem_table.specs.declared.Act.{Act}
use Rattle.problem_table.specs.declared.Act.TheVariants.{Set, Begin, And, Or, Exists, Forall, Goal, RoundEnd, MarkIn, MarkOut, Nothing}

-- the free atoms of a tuple: of its first place for kinds 2 to 5, of its second for 4 and 5
unfoldable pub free_numbers : (n kind free row : ℕ) → List ℕ
free_numbers n kind free row =
    if ltb kind 2 then [] else ((free + row / n) ∷ (if ltb kind 4 then [] else ((free + n + row % n) ∷ [])))

-- the row that the set action of an offset sets: the offset itself where every tuple may be set, else a member of the first place's range
-- and one of the second's, which runs faster
abbrev pub is_whole : RelationLine → Bool
is_whole k = is_placeless k.kind || (eqb k.firsts ranges_place && eqb k.seconds ranges_place)

unfoldable pub pair_row : List ℕ → RelationLine → ℕ → ℕ
pair_row w k off = get_or w (k.firsts + off / k.second_count) 0 * size_in w + get_or w (k.seconds + off % k.second_count) 0

unfoldable pub set_row : List ℕ → RelationLine → ℕ → ℕ
set_row w k off = if is_whole k then off else pair_row w k off

unfoldable pub set_needs : ℕ → RelationLine → ℕ → List ℕ
set_needs n k row = 0 ∷ (k.nots + row) ∷ free_numbers n k.kind k.free row

unfoldable pub set_removes : ℕ → RelationLine → ℕ → List ℕ
set_removes n k row = (k.nots + row) ∷ free_numbers n k.kind k.free row

-- the values of a node's free variables at a row
unfoldable pub row_values : ℕ → NodeLine → ℕ → Values
row_values n v row = values_in (take v.width v.levels) (places_of n v.width row)

-- the part under a quantifier, at an element
unfoldable pub under_at : ℕ → List ℕ → NodeLine → ℕ → ℕ → ℕ
under_at n w v row x = part_at w (with_value (row_values n v row) v.level x) v.first

unfoldable pub and_needs : ℕ → List ℕ → NodeLine → ℕ → List ℕ
and_needs n w v row = 1 ∷ map (part_at w (row_values n v row)) (from v.first v.many)

unfoldable pub or_needs : ℕ → List ℕ → NodeLine → ℕ → ℕ → List ℕ
or_needs n w v row i = 1 ∷ part_at w (row_values n v row) (v.first + i) ∷ []

unfoldable pub exists_needs : ℕ → List ℕ → NodeLine → ℕ → ℕ → List ℕ
exists_needs n w v row x = 1 ∷ under_at n w v row x ∷ []

-- "true up to the element before z", where the range has one
unfoldable pub own_before : ℕ → List ℕ → NodeLine → ℕ → ℕ → List ℕ
own_before n w v row z = option (before (range_in w v) z) [] (λ y. (v.atoms + (row * n + y)) ∷ [])

unfoldable pub forall_needs : ℕ → List ℕ → NodeLine → ℕ → ℕ → List ℕ
forall_needs n w v row z = 1 ∷ under_at n w v row z ∷ own_before n w v row z

unfoldable pub goal_needs : List ℕ → List ℕ
goal_needs w = part_at w (λ _. 0) 64 ∷ []

-- what ends a round, and what that removes: the proof phase and the atoms of all nodes
unfoldable pub finish_in : List ℕ → Act
finish_in w = if has_every w then RoundEnd else Goal

unfoldable pub round_removes : List ℕ → List ℕ
round_removes w = 1 ∷ from (node_line w 0).atoms ((node_line w (nodes_in w)).atoms - (node_line w 0).atoms)

-- the mark after that of a row; past the last one the goal
unfoldable pub next_mark : RelationLine → ℕ → ℕ
next_mark k row = if ltb (k.tuples + row + 1) k.nots then k.free + row + 1 else 2

-- ---- of an action
unfoldable pub need_numbers : List ℕ → Act → List ℕ
need_numbers w (Set a) = set_needs (size_in w) (relation_line w a.relation) a.row
need_numbers w Begin = 0 ∷ []
need_numbers w (And a) = and_needs (size_in w) w (node_line w a.node) a.row
need_numbers w (Or a) = or_needs (size_in w) w (node_line w a.node) a.row a.choice
need_numbers w (Exists a) = exists_needs (size_in w) w (node_line w a.node) a.row a.choice
need_numbers w (Forall a) = forall_needs (size_in w) w (node_line w a.node) a.row a.choice
need_numbers w Goal = goal_needs w
need_numbers w RoundEnd = goal_needs w
need_numbers w (MarkIn a) = ((relation_line w a.relation).free + a.row) ∷ ((relation_line w a.relation).nots + a.row) ∷ []
need_numbers w (MarkOut a) = ((relation_line w a.relation).free + a.row) ∷ ((relation_line w a.relation).tuples + a.row) ∷ []
need_numbers w Nothing = []

unfoldable pub add_numbers : List ℕ → Act → List ℕ
add_numbers w (Set a) = ((relation_line w a.relation).tuples + a.row) ∷ []
add_numbers w Begin = 1 ∷ []
add_numbers w (And a) = ((node_line w a.node).atoms + a.row) ∷ []
add_numbers w (Or a) = ((node_line w a.node).atoms + a.row) ∷ []
add_numbers w (Exists a) = ((node_line w a.node).atoms + a.row) ∷ []
add_numbers w (Forall a) = ((node_line w a.node).atoms + (a.row * size_in w + a.choice)) ∷ []
add_numbers w Goal = 2 ∷ []
add_numbers w RoundEnd = (last_line w).free ∷ []
add_numbers w (MarkIn a) = ((relation_line w a.relation).tuples + a.row) ∷ 1 ∷ []
add_numbers w (MarkOut a) = ((relation_line w a.relation).nots + a.row) ∷ next_mark (relation_line w a.relation) a.row ∷ []
add_numbers w Nothing = []

unfoldable pub remove_numbers : List ℕ → Act → List ℕ
remove_numbers w (Set a) = set_removes (size_in w) (relation_line w a.relation) a.row
remove_numbers w Begin = 0 ∷ []
remove_numbers w (And a) = []
remove_numbers w (Or a) = []
remove_numbers w (Exists a) = []
remove_numbers w (Forall a) = []
remove_numbers w Goal = []
remove_numbers w RoundEnd = round_removes w
remove_numbers w (MarkIn a) = ((relation_line w a.relation).free + a.row) ∷ ((relation_line w a.relation).nots + a.row) ∷ []
remove_numbers w (MarkOut a) = ((relation_line w a.relation).free + a.row) ∷ ((relation_line w a.relation).tuples + a.row) ∷ []
remove_numbers w Nothing = []

-- what keeps an action in the table
abbrev pub ActFits : List ℕ → Act → Type 0
ActFits w (Set a) = (a.relation < 18) × (a.row ≤ 2 ^ 32)
ActFits w Begin = Unit {0}
ActFits w (And a) = (a.node < 64) × (a.row ≤ 2 ^ 32)
ActFits w (Or a) = (a.node < 64) × (a.row ≤ 2 ^ 32) × (a.choice < (node_line w a.node).many)
ActFits w (Exists a) = (a.node < 64) × (a.row ≤ 2 ^ 32) × (a.choice < size_in w)
ActFits w (Forall a) = (a.node < 64) × (a.row ≤ 2 ^ 32) × (a.choice < size_in w)
ActFits w Goal = Unit {0}
ActFits w RoundEnd = Unit {0}
ActFits w (MarkIn a) = (a.relation < 18) × (a.row ≤ 2 ^ 32)
ActFits w (MarkOut a) = (a.relation < 18) × (a.row ≤ 2 ^ 32)
ActFits w Nothing = Unit {0}

-- ---- a state without what goes and with what comes
unfoldable pub changed : (ℕ → Bool) → List ℕ → List ℕ → ℕ → Bool
changed s gone come i = (s i && not (any (eqb i) gone)) || any (eqb i) come

-- each of the numbers is a bit of a table of k words
abbrev pub Held : List ℕ → ℕ → Type 0
Held [] k = Unit {0}
Held (i ∷ is) k = (i / 64 < k) × Held is k
