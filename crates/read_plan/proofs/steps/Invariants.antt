-- `read_plan::steps` meets its contract. Assumes nothing.
use mathlib.Core.Path.{◌≡◌}
use Prim.Native.Nat.{◌-◌, ◌^◌, ◌≤◌}
use lib.ListN.{length}
use Rattle.read_plan.specs.Writing.{Goes}
use Rattle.read_plan.proofs.steps.Given as goal

abbrev pub invariant-loop-at : goal.invariant-loop-at
invariant-loop-at l = (l.at ≤ l.n) × (l.count ≤ l.at) × (l.n ≡ length l.s) × (l.n ≤ 2 ^ 20) × (length l.out ≡ length l.initial.out) × Goes l.question l.names l.table l.s l.initial.out l.at l.count l.out

abbrev pub decreases-loop-at : goal.decreases-loop-at
decreases-loop-at l = l.n - l.at
