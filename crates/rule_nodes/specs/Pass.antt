-- The pass over the rows: what each does to the stack of parts without a parent and to the table. Definitions only.
use Rattle.std.specs.Prelude.{ℕ, ◌+◌, ◌-◌, ◌≤◌, ◌<◌, Bool, true, false, not, ◌&&◌, List, [], ◌∷◌, ◌++◌, length, get_or, set, take, drop, replicate, eqb, ltb, if◌then◌else◌}
use Rattle.std.proofs.lemmas.List.Edits.{sets}
use Rattle.definitions.specs.Limits.{nesting_limit}
use Rattle.definitions.specs.Lists.{any, filter, below}
use Rattle.rule_nodes.specs.declared.PartRow.{PartRow}
use Rattle.rule_nodes.specs.declared.NodeRow.{NodeRow}
use Rattle.rule_nodes.specs.Postorder.{pad}
use Rattle.rule_nodes.specs.declared.Row.{Row}
use Rattle.rule_nodes.specs.declared.Levels.{Levels}

-- is l one of a part's levels; a quantifier's own level; is l free in the node of a row with these parts
abbrev pub has_level : ℕ → PartRow → Bool
has_level l p = any (eqb l) (take p.width p.levels)

abbrev pub is_own : Row → ℕ → Bool
is_own row l = ltb row.kind 2 && eqb l (get_or row.levels 0 0)

unfoldable pub free_with : Row → List PartRow → List ℕ
free_with row kids = filter (λ l. not (is_own row l) && any (has_level l) kids) (below nesting_limit)

abbrev pub levels_of : List ℕ → Levels
levels_of ls = record { at = pad 4 ls; width = length ls }

-- one level more, if it is to be listed
unfoldable pub listed_of : Levels → ℕ → Bool → Levels
listed_of r l b = if b then record { at = set r.at r.width l; width = r.width + 1 } else r

abbrev pub leaf_part : Row → PartRow
leaf_part row = record { tag = row.kind - 4; which = row.which; sort = row.sort; levels = get_or row.levels 0 0 ∷ get_or row.levels 1 0 ∷ get_or row.levels 2 0 ∷ 0 ∷ []; width = row.width }

abbrev pub node_part : Row → Levels → PartRow
node_part row free = record { tag = if eqb row.kind 0 then 2 else 3; which = row.which; sort = row.sort; levels = free.at; width = free.width }

abbrev pub node_row : Row → Levels → ℕ → NodeRow
node_row row free first = record { kind = row.kind; level = get_or row.levels 0 0; sort = row.sort; levels = free.at; width = free.width; first = first; many = row.many }

-- ---- the table so far, `placed` parts of it, and the parts without a parent
pub record Laid : Type 0 where
  pub parts : List PartRow
  pub placed : ℕ
  pub rows : List NodeRow

pub record State : Type 0 where
  pub stack : List PartRow
  pub laid : Laid

unfoldable pub leaf_step : Row → State → State
leaf_step row st = record { stack = st.stack ++ (leaf_part row ∷ []); laid = st.laid }

-- a node takes its parts from the stack's top
unfoldable pub lay_row : Row → List PartRow → Laid → Laid
lay_row row kids l = record { parts = sets l.parts l.placed kids; placed = l.placed + length kids; rows = set l.rows row.which (node_row row (levels_of (free_with row kids)) l.placed) }

unfoldable pub node_step : Row → State → State
node_step row st = record {
  stack = take (length st.stack - row.many) st.stack ++ (node_part row (levels_of (free_with row (drop (length st.stack - row.many) st.stack))) ∷ []);
  laid = lay_row row (drop (length st.stack - row.many) st.stack) st.laid;
}

unfoldable pub step : Row → State → State
step row st = if ltb row.kind 4 then node_step row st else leaf_step row st

unfoldable pub run : List Row → State → State
run [] st = st
run (row ∷ rows) st = run rows (step row st)

abbrev pub blank_part : PartRow
blank_part = record { tag = 0; which = 0; sort = 0; levels = replicate 4 0; width = 0 }

abbrev pub blank_row : NodeRow
blank_row = record { kind = 0; level = 0; sort = 0; levels = replicate 4 0; width = 0; first = 0; many = 0 }

abbrev pub blank : Laid
blank = record { parts = replicate 64 blank_part; placed = 0; rows = replicate 64 blank_row }

-- ---- what keeps the pass in range: from a stack of h parts, with p parts placed
unfoldable pub Ranged : ℕ → ℕ → List Row → Type 0
Ranged h p [] = Unit {0}
Ranged h p (row ∷ rows) = elim (ltb row.kind 4) as (λ _. Type 0) [
  | true ↦ (row.many ≤ h) × (p + row.many ≤ 64) × (row.which < 64) × (h - row.many < 64) × Ranged (h - row.many + 1) (p + row.many) rows
  | false ↦ (h < 64) × (4 ≤ row.kind) × Ranged (h + 1) p rows
]
