use native.Mathlib.Omega.{arith}
use Rattle.eval_table.specs.Numbers.{choose_none, choose_every, choose_all}
use Rattle.eval_table.proofs.choose_words.Goals as goal

pub returns-then-kind-eq0 : goal.returns-then-kind-eq0
returns-then-kind-eq0 c = (choose_none _ _ c.if-kind-eq0.true, omega arith)

pub returns-then-kind-eq6 : goal.returns-then-kind-eq6
returns-then-kind-eq6 c = (choose_every _ _ c.if-kind-eq6.true, omega arith)

pub returns : goal.returns
returns c = (choose_all _ _ c.if-kind-eq0.false c.if-kind-eq6.false, omega arith)
