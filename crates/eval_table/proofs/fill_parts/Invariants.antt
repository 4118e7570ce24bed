use Prim.Native.Nat.{ℕ, ◌-◌, ◌^◌, ◌≤◌, ◌<◌}
use mathlib.Core.Path.{◌≡◌}
use lib.ListN.{length}
use Rattle.rows.specs.Values.{Most}
use Rattle.problem_layout.specs.Filled.{splice, tab}
use Rattle.eval_table.specs.Numbers.{part_lines}
use Rattle.eval_table.proofs.fill_parts.Given as goal

abbrev pub invariant-loop-i : goal.invariant-loop-i
invariant-loop-i l = (l.i ≤ l.t.placed) × (length l.lines ≡ length l.initial.lines) × (l.lines ≡ splice 448 (tab (part_lines l.n l.value l.g l.t) l.i) l.initial.lines) × ((u : ℕ) → u < l.i → Most (part_lines l.n l.value l.g l.t u) (2 ^ 32))
