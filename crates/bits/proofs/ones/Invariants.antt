use mathlib.Core.Path.{◌≡◌}
use Prim.Native.Nat.{◌*◌}
use Rattle.bits.specs.Table.{bit, count as count_of}
use Rattle.bits.proofs.ones.Given as goal

abbrev pub invariant-loop-w : goal.invariant-loop-w
invariant-loop-w l = l.sum ≡ count_of (bit l.words) (64 * l.from) (64 * l.w-index)
