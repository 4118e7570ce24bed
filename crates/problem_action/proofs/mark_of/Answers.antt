-- `problem_action::mark_of` meets its contract.
use mathlib.Core.Path.{refl}
use native.Mathlib.Omega.{arith}
use Rattle.problem_action.specs.Found.{mark_in_lem, mark_out_lem, mark_past, some_relation}
use Rattle.problem_action.proofs.mark_of.Goals as goal

pub overflow_sub-result : goal.overflow_sub-result
overflow_sub-result c = omega (arith, some_relation c.args.table.now c.args.off (omega (arith, c.every_tuples-count.ensures)))

pub returns-then-off-count : goal.returns-then-off-count
returns-then-off-count c = mark_in_lem _ _ _ (omega (arith, c.every_tuples-count.ensures)) refl

pub overflow_sub-result-then-off-count-2 : goal.overflow_sub-result-then-off-count-2
overflow_sub-result-then-off-count-2 c = omega (arith, some_relation c.args.table.now c.args.off (omega (arith, c.every_tuples-count.ensures)))

pub returns-then-off-count-2 : goal.returns-then-off-count-2
returns-then-off-count-2 c = rw c.every_tuples-count.ensures (mark_out_lem _ _ _ (omega (arith, c.every_tuples-count.ensures)) (omega (arith, c.every_tuples-count.ensures)) refl)

pub returns : goal.returns
returns c = mark_past _ _ (omega (arith, c.every_tuples-count.ensures)) (omega (arith, c.every_tuples-count.ensures))
