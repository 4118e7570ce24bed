-- `read_tuples::scan` meets its contract. None of the elements before x has the name, and labels are one to one.
use Prim.Native.Nat.{◌≤◌}
use lib.Seq.{slice}
use Rattle.read_tuples.proofs.Naming.{NotBefore}
use Rattle.read_tuples.proofs.scan.Given as goal

abbrev pub invariant-loop-x : goal.invariant-loop-x
invariant-loop-x l = (l.x ≤ l.n) × NotBefore l.site l.labels (slice l.a l.e l.s) l.x
