-- `read_tuples::one_more` meets its contract.
use native.Mathlib.Omega.{arith}
use Rattle.read_tuples.proofs.Rows.{more_outside, more_above, more_inside, small_row, small_times}
use Rattle.read_tuples.proofs.one_more.Goals as goal

pub returns-in_err-row : goal.returns-in_err-row
returns-in_err-row c = rw c.from_residual.ensures (λ xs w. more_outside c.args.n _ c.args.x xs w c.in_err-row.was)

pub overflow_mul-result : goal.overflow_mul-result
overflow_mul-result c = omega (arith, small_times _ c.args.n (small_row 4096 _ _ c.in_ok-row.was c.requires.1) (omega arith))

pub overflow_add-result : goal.overflow_add-result
overflow_add-result c = omega (arith, small_times _ c.args.n (small_row 4096 _ _ c.in_ok-row.was c.requires.1) (omega arith))

pub returns-then-x-n : goal.returns-then-x-n
returns-then-x-n c = λ xs w. more_inside _ _ _ xs w _ c.in_ok-row.was (omega arith)

pub returns-else-x-n : goal.returns-else-x-n
returns-else-x-n c = λ xs w. more_above c.args.n _ c.args.x xs w (omega arith)
