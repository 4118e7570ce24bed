use Prim.Native.Nat.{◌+◌, ◌-◌, ◌*◌, ◌^◌}
use Rattle.definitions.specs.Problem.Truth.{Case}
use Rattle.eval_search.specs.Steps.{cells_of, start_of, phase, Asks, Searched, Placed}
use Rattle.eval_search.proofs.least_number.Given as goal

abbrev pub invariant-loop-at : goal.invariant-loop-at
invariant-loop-at l = Placed l.at × ((c : Case) → Asks c l.n l.table l.lines l.facts → Searched c (cells_of c) l.at)

abbrev pub decreases-loop-at : goal.decreases-loop-at
decreases-loop-at l = 16 * (2 ^ 20 - start_of l.at) + phase l.at.lane l.at.level
