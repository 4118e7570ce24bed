use Prim.Native.Nat.{ℕ, ◌+◌, ◌-◌, ◌*◌, ◌≤◌}
use mathlib.Core.Path.{◌≡◌}
use mathlib.Core.List.{List}
use lib.ListN.{length}
use Rattle.definitions.specs.Lists.{from}
use Rattle.definitions.specs.Sheet.Relations.{Tuple}
use Rattle.definitions.specs.Problem.Atoms.{Problem}
use Rattle.meaning.specs.Means.{Good}
use Rattle.bits.specs.Table.{bit}
use Rattle.step_write.specs.Steps.{Reading, Wrote, Whole, row_numbers}
use Rattle.step_write.proofs.write_chains.Given as goal

abbrev pub invariant-loop-row : goal.invariant-loop-row
invariant-loop-row l = (l.k ≤ l.at + l.row * l.n) × (length l.steps ≡ length l.initial.steps)
    × ((p : Problem) (G : Good p) (F : List Tuple) (node width : ℕ) → Reading p G F l.table node l.v width (bit l.state) → l.fn.end ≤ width → Whole l.n l.fn.start → (l.fn.start ≤ l.row * l.n) × Wrote l.initial.steps l.at (row_numbers p F node (from l.fn.start (l.row * l.n - l.fn.start))) l.steps l.k)
