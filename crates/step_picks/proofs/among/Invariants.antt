-- `among` meets its contract.
use Prim.Native.Nat.{◌-◌}
use mathlib.Core.Path.{◌≡◌}
use Rattle.definitions.specs.Lists.{any, from, is_in}
use Rattle.problem_table.specs.Lines.{members_in}
use Rattle.step_picks.specs.TestLaws.{is_here}
use Rattle.step_picks.proofs.among.Given as goal

abbrev pub invariant-loop-y : goal.invariant-loop-y
invariant-loop-y l = is_in l.x (members_in l.table l.at l.count) ≡ any (is_here l.table l.at l.count l.x) (from l.y-index (l.count - l.y-index))
