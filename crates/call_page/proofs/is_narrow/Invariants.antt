-- `call_page::is_narrow` meets its contract: the labels seen so far have two bytes at the most. Assumes nothing.
use Prim.Native.Nat.{◌≤◌}
use Rattle.call_page.specs.Narrow.{Narrow}
use Rattle.call_page.proofs.is_narrow.Given as goal

abbrev pub invariant-loop-x : goal.invariant-loop-x
invariant-loop-x l = (l.x ≤ l.n) × Narrow l.labels l.x
