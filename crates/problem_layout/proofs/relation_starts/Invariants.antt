-- `problem_layout::relation_starts` meets its contract.
use Prim.Native.Nat.{◌≤◌}
use mathlib.Core.Path.{◌≡◌}
use lib.ListN.{length}
use Rattle.problem_layout.specs.Laid.{RelationsLaid}
use Rattle.problem_layout.proofs.relation_starts.Given as goal

abbrev pub invariant-loop-i : goal.invariant-loop-i
invariant-loop-i l = (l.i ≤ l.g.count) × (length l.rel ≡ 19) × (length l.neg ≡ 18) × (length l.dom ≡ 18) × (length l.set ≡ 19)
    × RelationsLaid l.n l.ranges.count l.g l.i l.rel l.neg l.dom l.set l.at l.sets × (l.g.count ≤ 18)
