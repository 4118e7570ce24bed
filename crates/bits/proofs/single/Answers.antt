-- `bits::single` meets its contract. Assumes nothing.
use native.Mathlib.Omega.{arith}
use Rattle.bits.proofs.Shifts.{single_digit, single_none}
use Rattle.bits.proofs.single.Goals as goal

pub returns-then-x-lt64 : goal.returns-then-x-lt64
returns-then-x-lt64 c = λ k l. single_digit _ k (omega arith)

pub returns : goal.returns
returns c = λ k l. single_none _ k (omega arith) l
