-- `read_tuples::slot`: any number below 128 will do. The invariant: the bytes that are left lie in the text. Assumes nothing.
use Prim.Native.Nat.{◌≤◌, ◌<◌}
use mathlib.Core.Path.{◌≡◌}
use lib.ListN.{length}
use lib.Seq.{slice}
use Rattle.read_tuples.proofs.slot.Given as goal

abbrev pub invariant-loop-i : goal.invariant-loop-i
invariant-loop-i l = (l.i ≤ l.count) × (l.h < 1048576) × (l.count ≡ length (slice l.a l.e l.s))
