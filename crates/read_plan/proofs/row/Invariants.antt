-- `read_plan::row` meets its contract. Assumes nothing.
use mathlib.Core.Path.{◌≡◌}
use Prim.Native.Nat.{◌^◌, ◌≤◌, ◌<◌}
use lib.ListN.{take}
use Rattle.definitions.specs.Problem.Atoms.{row_of}
use Rattle.read_plan.proofs.row.Given as goal

abbrev pub invariant-loop-i : goal.invariant-loop-i
invariant-loop-i l = (l.i ≤ l.count) × (l.sum ≡ row_of l.n (take l.i l.values)) × (l.sum < 2 ^ 36)
