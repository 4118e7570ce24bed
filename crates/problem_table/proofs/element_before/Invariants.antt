-- `problem_table::element_before` meets its contract.
use mathlib.Core.Path.{◌≡◌}
use Prim.Native.Nat.{suc, ◌≤◌}
use Rattle.definitions.specs.Lists.{option, before}
use Rattle.problem_table.specs.Lines.{members_in}
use Rattle.problem_table.specs.NeedLaws.{before_from}
use Rattle.problem_table.proofs.element_before.Given as goal

abbrev pub invariant-loop-y : goal.invariant-loop-y
invariant-loop-y l = (l.found ≤ l.z) × (option (before (members_in l.table l.range l.count) l.z) 0 suc ≡ before_from l.table l.range l.count l.z l.y-index l.found)
