use native.Mathlib.Omega.{arith}
use Rattle.eval_search.specs.Counts.{rows_start, rows_next, rows_few, rows_end}
use Rattle.eval_search.proofs.row_bits.Goals as goal

pub loop-i-init : goal.loop-i-init
loop-i-init c = (omega arith, rows_start _ _ _, omega arith)

pub overflow_mul-w : goal.overflow_mul-w
overflow_mul-w c = omega arith

pub overflow_sub-w : goal.overflow_sub-w
overflow_sub-w c = omega arith

pub overflow_add-w : goal.overflow_add-w
overflow_add-w c = omega arith

pub overflow_shr-w : goal.overflow_shr-w
overflow_shr-w c = omega arith

pub overflow_add-w-in-loop-i : goal.overflow_add-w-in-loop-i
overflow_add-w-in-loop-i c = omega arith

pub loop-i-preserved : goal.loop-i-preserved
loop-i-preserved c = let e = rows_next _ _ _ _ _ c.loop-i.invariant.1 in (omega arith, e, rows_few _ _ _ _ _ (omega arith) e)

pub returns : goal.returns
returns c = rows_end _ _ _ c.requires.0 c.requires.1 _ _ (omega arith) c.loop-i.invariant.1
