-- `read_plan::objects` meets its contract. Assumes nothing.
use Prim.Native.Nat.{◌-◌, ◌≤◌}
use Rattle.rows.specs.Values.{Within}
use Rattle.read_plan.specs.Objects.{Gathered, words_after}
use Rattle.read_plan.proofs.objects.Given as goal

abbrev pub invariant-loop-at : goal.invariant-loop-at
invariant-loop-at l = (l.at ≤ l.e) × Gathered l.n (words_after l.s l.t l.e) l.s l.e l.at l.count l.values × Within l.n l.values

abbrev pub decreases-loop-at : goal.decreases-loop-at
decreases-loop-at l = l.e - l.at
