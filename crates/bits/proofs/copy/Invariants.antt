-- `bits::copy`. The invariant: the first k bits are written. Assumes nothing.
use mathlib.Core.Path.{◌≡◌}
use Prim.Native.Nat.{◌+◌, ◌-◌, ◌*◌, ◌≤◌}
use lib.ListN.{length}
use Rattle.bits.specs.Table.{bit, paste, turned}
use Rattle.bits.proofs.copy.Given as goal

abbrev pub invariant-loop-k : goal.invariant-loop-k
invariant-loop-k l = (l.k ≤ l.n) × (l.to + l.n ≤ 64 * length l.initial.words → bit l.words ≡ paste (bit l.initial.words) l.to (λ i. turned l.flip (bit l.source i)) l.from l.k)

abbrev pub decreases-loop-k : goal.decreases-loop-k
decreases-loop-k l = l.n - l.k
