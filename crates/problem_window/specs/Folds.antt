-- The window by the tables: the numbers of every node, found from the last node up.
use Rattle.std.specs.Prelude.{List, ℕ, zero, suc, ◌+◌, ◌-◌, max, min, eqb, ltb, get_or, set, replicate, if◌then◌else◌}
use Rattle.rule_nodes.specs.Tables.{no_node, no_part}
use Rattle.rule_nodes.specs.declared.PartRow.{PartRow}
use Rattle.rule_nodes.specs.declared.Nodes.{Nodes}
use Rattle.problem_layout.specs.Laid.{count_at}

-- by the number of a kind: `forall`, `exists`, `and`, `or`
unfoldable pub lower_by : (kind count least greatest : ℕ) → ℕ
lower_by zero count least greatest = count + greatest
lower_by (suc zero) count least greatest = 1 + greatest
lower_by (suc (suc zero)) count least greatest = 1 + greatest
lower_by (suc (suc (suc k))) count least greatest = 1 + least

unfoldable pub upper_by : (kind count greatest : ℕ) → ℕ
upper_by zero count greatest = count + greatest
upper_by (suc k) count greatest = 1 + greatest

-- what a part gives, by the numbers of the nodes
unfoldable pub part_gives : List ℕ → PartRow → ℕ
part_gives known q = if ltb q.tag 2 then 0 else get_or known q.which 0

-- the greatest and the least of the first k parts from `first` on
unfoldable pub greatest_in : List PartRow → List ℕ → ℕ → ℕ → ℕ
greatest_in ps known first zero = 0
greatest_in ps known first (suc k) = max (greatest_in ps known first k) (part_gives known (get_or ps (first + k) no_part))

unfoldable pub least_in : List PartRow → List ℕ → ℕ → ℕ → ℕ
least_in ps known first zero = 0
least_in ps known first (suc k) =
    if eqb k 0 then part_gives known (get_or ps (first + k) no_part) else min (least_in ps known first k) (part_gives known (get_or ps (first + k) no_part))

-- of the node v
unfoldable pub low_row : Nodes → List ℕ → List ℕ → ℕ → ℕ
low_row t counts lows v = lower_by (get_or t.rows v no_node).kind (count_at counts t v)
    (least_in t.parts lows (get_or t.rows v no_node).first (get_or t.rows v no_node).many)
    (greatest_in t.parts lows (get_or t.rows v no_node).first (get_or t.rows v no_node).many)

unfoldable pub high_row : Nodes → List ℕ → List ℕ → ℕ → ℕ
high_row t counts highs v =
    upper_by (get_or t.rows v no_node).kind (count_at counts t v) (greatest_in t.parts highs (get_or t.rows v no_node).first (get_or t.rows v no_node).many)

-- a table of numbers once the last d nodes have theirs, by what a node's number is
unfoldable pub numbers_after : (List ℕ → ℕ → ℕ) → ℕ → ℕ → List ℕ
numbers_after f count zero = replicate 64 0
numbers_after f count (suc d) = set (numbers_after f count d) (count - suc d) (f (numbers_after f count d) (count - suc d))

abbrev pub lows_after : Nodes → List ℕ → ℕ → List ℕ
lows_after t counts d = numbers_after (low_row t counts) t.count d

abbrev pub highs_after : Nodes → List ℕ → ℕ → List ℕ
highs_after t counts d = numbers_after (high_row t counts) t.count d
