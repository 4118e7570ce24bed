-- `read_tuples::element_named`: what a hint says is tested, and behind it stands the scan. Assumes nothing.
use Prim.Native.Nat.{◌≤◌}
use Rattle.read_tuples.proofs.element_named.Given as goal

abbrev pub invariant-loop-k : goal.invariant-loop-k
invariant-loop-k l = l.k ≤ 8
