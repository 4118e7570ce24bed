-- `bits::mask`: 1 shifted, less 1; of 64 bits the complement of 0. Assumes nothing.
use native.Mathlib.Omega.{arith}
use Rattle.bits.proofs.Shifts.{mask_fits}
use Rattle.bits.proofs.Stores.{mask_some, mask_all}
use Rattle.bits.proofs.mask.Goals as goal

pub overflow_sub-result : goal.overflow_sub-result
overflow_sub-result c = mask_fits _ (omega arith)

pub returns-then-n-lt64 : goal.returns-then-n-lt64
returns-then-n-lt64 c = mask_some _ (omega arith)

pub returns : goal.returns
returns c = mask_all _ (omega arith) (omega arith)
