-- `problem_window::of_tables` meets its contract: the numbers of every node from the last one up, and the root's are the case's. Assumes nothing.
use mathlib.Core.Path.{◌≡◌}
use Prim.Native.Nat.{◌-◌, ◌≤◌}
use Rattle.problem_window.specs.Folds.{least_in, greatest_in, lows_after, highs_after}
use Rattle.problem_window.proofs.of_tables.Given as goal

abbrev pub invariant-loop-k : goal.invariant-loop-k
invariant-loop-k l = (l.least ≡ least_in l.fn.t.parts l.lows l.first l.k) × (l.low ≡ greatest_in l.fn.t.parts l.lows l.first l.k) × (l.high ≡ greatest_in l.fn.t.parts l.highs l.first l.k)

abbrev pub invariant-loop-v : goal.invariant-loop-v
invariant-loop-v l = (l.v ≤ l.t.count) × (l.lows ≡ lows_after l.t l.ranges.count (l.t.count - l.v)) × (l.highs ≡ highs_after l.t l.ranges.count (l.t.count - l.v))
