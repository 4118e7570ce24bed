use native.Mathlib.Omega.{arith}
use Rattle.eval_table.specs.Numbers.{bit_low, bit_fact, bit_every, bit_choose}
use Rattle.eval_table.proofs.first_bit.Goals as goal

pub returns-then-r-lt5 : goal.returns-then-r-lt5
returns-then-r-lt5 c = (bit_low _ _ _ _ (omega arith), omega arith)

pub returns-then-kind-eq0 : goal.returns-then-kind-eq0
returns-then-kind-eq0 c = (bit_fact _ _ _ _ (omega arith) c.if-kind-eq0.true, omega arith)

pub returns-then-kind-eq6 : goal.returns-then-kind-eq6
returns-then-kind-eq6 c = (bit_every _ _ _ _ (omega arith) c.if-kind-eq6.true, omega arith)

pub returns : goal.returns
returns c = (bit_choose _ _ _ _ (omega arith) c.if-kind-eq0.false c.if-kind-eq6.false, omega arith)
