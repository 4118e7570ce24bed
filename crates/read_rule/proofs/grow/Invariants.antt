-- `grow` meets its contract.
use Prim.Native.Nat.{◌≤◌}
use Rattle.read_rule.specs.declared.Grown.{Grown}
use Rattle.read_rule.specs.Seen.{Grows, listed}
use Rattle.read_rule.proofs.grow.Given as goal

-- what the further variables make of the scope so far is what all make of the first
abbrev pub invariant-loop-more : goal.invariant-loop-more
invariant-loop-more l = (l.grown.scope.n ≤ 4) × ((r : Grown) → Grows l.s l.grown (listed l.s l.i l.more) r → Grows l.s l.initial.grown (listed l.s l.at l.k) r)

abbrev pub decreases-loop-more : goal.decreases-loop-more
decreases-loop-more l = l.more
