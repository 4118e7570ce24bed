use native.Mathlib.Omega.{arith}
use Rattle.eval_table.specs.Numbers.{source_low, source_fact, source_every, source_choose}
use Rattle.eval_table.proofs.source.Goals as goal

pub returns-then-r-lt5 : goal.returns-then-r-lt5
returns-then-r-lt5 c = (source_low _ _ _ (omega arith), omega arith)

pub returns-then-kind-eq0 : goal.returns-then-kind-eq0
returns-then-kind-eq0 c = (source_fact _ _ _ (omega arith) c.if-kind-eq0.true, omega arith)

pub returns-then-kind-eq6 : goal.returns-then-kind-eq6
returns-then-kind-eq6 c = (source_every _ _ _ (omega arith) c.if-kind-eq6.true, omega arith)

pub returns : goal.returns
returns c = (source_choose _ _ _ (omega arith) c.if-kind-eq0.false c.if-kind-eq6.false, omega arith)
