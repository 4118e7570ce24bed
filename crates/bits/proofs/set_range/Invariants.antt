-- `bits::set_range`. The invariant: the first k bits are set. Assumes nothing.
use mathlib.Core.Path.{◌≡◌}
use mathlib.Core.Bool.{true}
use Prim.Native.Nat.{◌+◌, ◌-◌, ◌*◌, ◌≤◌}
use lib.ListN.{length}
use Rattle.bits.specs.Table.{bit, paste}
use Rattle.bits.proofs.set_range.Given as goal

abbrev pub invariant-loop-k : goal.invariant-loop-k
invariant-loop-k l = (l.k ≤ l.n) × (l.to + l.n ≤ 64 * length l.initial.words → bit l.words ≡ paste (bit l.initial.words) l.to (λ i. true) 0 l.k)

abbrev pub decreases-loop-k : goal.decreases-loop-k
decreases-loop-k l = l.n - l.k
