-- `problem_layout::ranges_of` meets its contract.
use Prim.Native.Nat.{◌≤◌}
use mathlib.Core.Path.{◌≡◌}
use lib.ListN.{length}
use Rattle.problem_layout.specs.RangeLaws.{CountedTo}
use Rattle.problem_layout.proofs.ranges_of.Given as goal

abbrev pub invariant-loop-k : goal.invariant-loop-k
invariant-loop-k l = (l.k ≤ l.types) × (length l.count ≡ 9) × (length l.top ≡ 9) × CountedTo l.n l.members l.k l.count l.top × (l.types ≤ 8)
