use Prim.Native.Nat.{ℕ, ◌+◌, ◌-◌, ◌≤◌}
use mathlib.Core.Path.{◌≡◌}
use mathlib.Core.List.{List}
use lib.ListN.{length}
use Rattle.definitions.specs.Lists.{from}
use Rattle.definitions.specs.Sheet.Relations.{Tuple}
use Rattle.definitions.specs.Problem.Atoms.{Problem}
use Rattle.meaning.specs.Means.{Good}
use Rattle.bits.specs.Table.{bit}
use Rattle.rows.specs.Values.{Within}
use Rattle.step_prove.specs.Tries.{Digits, Rest}
use Rattle.step_write.specs.Steps.{Reading, Wrote, row_numbers}
use Rattle.step_write.proofs.write_rows.Given as goal

abbrev pub invariant-loop-row : goal.invariant-loop-row
invariant-loop-row l = (l.start ≤ l.row) × (l.row ≤ l.end) × (l.k ≤ l.at + l.row) × (length l.steps ≡ length l.initial.steps) × (length l.digits ≡ 4) × Within l.n l.digits × Rest l.v.width l.digits × Digits l.n l.v.width l.row l.digits
    × ((p : Problem) (G : Good p) (F : List Tuple) (node width : ℕ) → Reading p G F l.table node l.v width (bit l.state) → l.end ≤ width → Wrote l.initial.steps l.at (row_numbers p F node (from l.start (l.row - l.start))) l.steps l.k)

abbrev pub decreases-loop-row : goal.decreases-loop-row
decreases-loop-row l = l.end - l.row
