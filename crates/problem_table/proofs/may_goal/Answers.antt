-- `problem_table::may_goal` meets its contract.
use mathlib.Core.List.{[], ◌∷◌}
use native.Mathlib.Omega.{arith}
use Rattle.rows.specs.Laws.{within_zeros}
use Rattle.problem_table.specs.NeedLaws.{goal_all, within_most}
use Rattle.problem_table.proofs.may_goal.Goals as goal

pub part_holds-requires : goal.part_holds-requires
part_holds-requires c = (c.requires, omega arith, within_most 1 (0 ∷ 0 ∷ 0 ∷ 0 ∷ []) (omega arith) (within_zeros 1 (omega arith)))

pub returns : goal.returns
returns c = goal_all _ _ _ c.part_holds.ensures
