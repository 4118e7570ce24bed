-- `problem_layout::fill_nodes` meets its contract.
use Prim.Native.Nat.{ℕ, ◌^◌, ◌≤◌, ◌<◌}
use mathlib.Core.Path.{◌≡◌}
use lib.ListN.{length}
use Rattle.rows.specs.Values.{Most}
use Rattle.problem_table.specs.Lines.{table_length}
use Rattle.problem_layout.specs.Filled.{nodes_place, splice, tab, node_numbers}
use Rattle.problem_layout.proofs.fill_nodes.Given as goal

abbrev pub invariant-loop-v : goal.invariant-loop-v
invariant-loop-v l = (l.v ≤ l.t.count) × (length l.table ≡ length l.initial.table) × (l.table ≡ splice nodes_place (tab (node_numbers l.ranges.count l.t l.l) l.v) l.initial.table)
    × ((u : ℕ) → u < l.v → Most (node_numbers l.ranges.count l.t l.l u) (2 ^ 32)) × (l.t.count ≤ 64) × (length l.initial.table ≡ table_length)
