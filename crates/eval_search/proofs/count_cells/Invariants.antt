use Prim.Native.Nat.{◌*◌, ◌^◌, ◌≤◌}
use mathlib.Core.Path.{◌≡◌}
use lib.ListN.{length}
use Rattle.problem_table.specs.Lines.{relations_in, table_length}
use Rattle.eval_search.specs.Counts.{cells_to}
use Rattle.eval_search.proofs.count_cells.Given as goal

abbrev pub invariant-loop-r : goal.invariant-loop-r
invariant-loop-r l = (l.r ≤ relations_in l.table) × (l.sum ≤ l.r * 2 ^ 32) × (l.sum ≡ cells_to l.table l.r) × (relations_in l.table ≤ 18) × (length l.table ≡ table_length)
