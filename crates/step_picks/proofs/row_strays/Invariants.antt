-- `row_strays` meets its contract.
use Prim.Native.Nat.{◌-◌, ◌≤◌}
use mathlib.Core.Path.{◌≡◌}
use Rattle.definitions.specs.Lists.{any, from, below}
use Rattle.step_picks.specs.TestLaws.{strays_at}
use Rattle.step_picks.proofs.row_strays.Given as goal

abbrev pub invariant-loop-y : goal.invariant-loop-y
invariant-loop-y l = (l.y ≤ l.n) × (any (strays_at l.picks l.start l.table l.line l.x) (below l.n) ≡ any (strays_at l.picks l.start l.table l.line l.x) (from l.y (l.n - l.y)))
