-- `problem_table::part_number` meets its contract.
use Prim.Native.Nat.{ℕ, ◌*◌, ◌^◌, ◌≤◌}
use native.Mathlib.Omega.{arith}
use lib.ListN.{get_or}
use Rattle.problem_table.specs.NeedLaws.{value_times, number_is}
use Rattle.problem_table.proofs.part_number.Goals as goal
use Rattle.problem_table.proofs.part_number.Goals.{Start}

small : (c : Start) (l : ℕ) → get_or c.args.env l 0 * get_or c.args.q.weights l 0 ≤ 64 * 2 ^ 32
small c l = value_times (get_or c.args.env l 0) (get_or c.args.q.weights l 0) (c.requires.2 l) (c.requires.1 l)

pub overflow_mul-result : goal.overflow_mul-result
overflow_mul-result c = omega (arith, small (goal.at.overflow_mul-result c).Start 0)

pub overflow_mul-result-2 : goal.overflow_mul-result-2
overflow_mul-result-2 c = omega (arith, small (goal.at.overflow_mul-result-2 c).Start 1)

pub overflow_mul-result-3 : goal.overflow_mul-result-3
overflow_mul-result-3 c = omega (arith, small (goal.at.overflow_mul-result-3 c).Start 2)

pub overflow_mul-result-4 : goal.overflow_mul-result-4
overflow_mul-result-4 c = omega (arith, small (goal.at.overflow_mul-result-4 c).Start 3)

pub overflow_add-result : goal.overflow_add-result
overflow_add-result c = omega (arith, small (goal.at.overflow_add-result c).Start 2, small (goal.at.overflow_add-result c).Start 3)

pub overflow_add-result-2 : goal.overflow_add-result-2
overflow_add-result-2 c = omega (arith, small (goal.at.overflow_add-result-2 c).Start 1, small (goal.at.overflow_add-result-2 c).Start 2, small (goal.at.overflow_add-result-2 c).Start 3)

pub overflow_add-result-3 : goal.overflow_add-result-3
overflow_add-result-3 c = omega (arith, small (goal.at.overflow_add-result-3 c).Start 0, small (goal.at.overflow_add-result-3 c).Start 1, small (goal.at.overflow_add-result-3 c).Start 2, small (goal.at.overflow_add-result-3 c).Start 3)

pub overflow_add-result-4 : goal.overflow_add-result-4
overflow_add-result-4 c = omega (arith, c.requires.0, small (goal.at.overflow_add-result-4 c).Start 0, small (goal.at.overflow_add-result-4 c).Start 1, small (goal.at.overflow_add-result-4 c).Start 2, small (goal.at.overflow_add-result-4 c).Start 3)

pub returns : goal.returns
returns c = number_is _ _
