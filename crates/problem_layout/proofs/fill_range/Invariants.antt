-- `problem_layout::fill_range` meets its contract.
use Prim.Native.Nat.{◌≤◌}
use mathlib.Core.Path.{◌≡◌}
use lib.ListN.{length}
use lib.Seq.{paste}
use Rattle.definitions.specs.Lists.{below}
use Rattle.problem_layout.proofs.fill_range.Given as goal

abbrev pub invariant-loop-i : goal.invariant-loop-i
invariant-loop-i l = (l.i ≤ l.n) × (length l.table ≡ length l.initial.table) × (l.table ≡ paste l.initial.table l.at (below l.n) l.i)
