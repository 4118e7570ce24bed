-- `read_tuples::free_slot`: any slot will do. Assumes nothing.
use Prim.Native.Nat.{◌≤◌}
use Rattle.read_tuples.proofs.free_slot.Given as goal

abbrev pub invariant-loop-k : goal.invariant-loop-k
invariant-loop-k l = l.k ≤ 7
