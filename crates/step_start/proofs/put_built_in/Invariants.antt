-- `step_start::put_built_in`. The invariant: the first `row` rows are written, those of whole elements. Assumes nothing.
use mathlib.Core.Path.{◌≡◌}
use Prim.Native.Nat.{◌+◌, ◌-◌, ◌*◌, ◌≤◌}
use lib.ListN.{length}
use Rattle.bits.specs.Table.{bit, paste, turned}
use Rattle.step_start.specs.Rows.{built_in_at}
use Rattle.step_start.proofs.put_built_in.Given as goal

abbrev pub invariant-loop-row : goal.invariant-loop-row
invariant-loop-row l = (l.row ≤ l.count) × (l.x ≤ l.row) × (l.row ≡ l.x * l.n) × (l.to + l.count ≤ 64 * length l.initial.state → bit l.state ≡ paste (bit l.initial.state) l.to (λ i. turned l.flip (built_in_at l.n l.r i)) 0 l.row)

abbrev pub decreases-loop-row : goal.decreases-loop-row
decreases-loop-row l = l.count - l.row
