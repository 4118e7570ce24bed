-- `problem_sizes::of_relations` meets its contract: each turn adds what one relation has. Assumes nothing.
use Prim.Native.Nat.{◌≤◌}
use Rattle.problem_sizes.specs.Sums.{RelationsSummed}
use Rattle.problem_sizes.proofs.of_relations.Given as goal

abbrev pub invariant-loop-i : goal.invariant-loop-i
invariant-loop-i l = (l.i ≤ l.g.count) × RelationsSummed l.n l.ranges.count l.g l.i l.atoms l.sets l.picks
