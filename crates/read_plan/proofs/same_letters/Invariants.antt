-- `read_plan::same_letters` meets its contract. Assumes nothing.
use mathlib.Core.Path.{◌≡◌}
use Prim.Native.Nat.{◌+◌, ◌≤◌}
use lib.ListN.{take, drop}
use lib.Seq.{slice}
use Rattle.definitions.specs.Lists.{same}
use Rattle.definitions.specs.Reply.Pddl.{folded}
use Rattle.read_plan.proofs.same_letters.Given as goal

abbrev pub invariant-loop-i : goal.invariant-loop-i
invariant-loop-i l = (l.i ≤ l.n) × (same (folded (take l.n l.t)) (folded (slice l.a (l.a + l.n) l.s)) ≡ same (drop l.i (folded (take l.n l.t))) (drop l.i (folded (slice l.a (l.a + l.n) l.s))))
