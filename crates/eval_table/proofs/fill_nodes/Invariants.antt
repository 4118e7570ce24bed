-- `eval_table::fill_nodes` meets its contract.
use Prim.Native.Nat.{ℕ, ◌-◌, ◌^◌, ◌≤◌, ◌<◌}
use mathlib.Core.Path.{◌≡◌}
use lib.ListN.{length}
use Rattle.rows.specs.Values.{Most}
use Rattle.problem_layout.specs.Filled.{splice, tab}
use Rattle.eval_table.specs.Numbers.{node_lines}
use Rattle.eval_table.proofs.fill_nodes.Given as goal

abbrev pub invariant-loop-v : goal.invariant-loop-v
invariant-loop-v l = (l.v ≤ l.t.count) × (length l.lines ≡ length l.initial.lines) × (l.lines ≡ splice 0 (tab (node_lines l.ranges.count l.t) l.v) l.initial.lines) × ((u : ℕ) → u < l.v → Most (node_lines l.ranges.count l.t u) (2 ^ 32))
