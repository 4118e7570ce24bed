-- `print_instance::built_in` meets its contract. Assumes nothing.
use Rattle.step_start.specs.RowLaws.{is_eq, is_lt, is_suc, is_zero, is_max}
use native.Mathlib.Omega.{arith}
use Rattle.print_instance.proofs.built_in.Goals as goal

pub returns-then-r-eq0 : goal.returns-then-r-eq0
returns-then-r-eq0 c = is_eq _ _ _ _ c.if-r-eq0.true

pub returns-then-r-eq1 : goal.returns-then-r-eq1
returns-then-r-eq1 c = is_lt _ _ _ _ c.if-r-eq1.true

pub returns-then-r-eq2 : goal.returns-then-r-eq2
returns-then-r-eq2 c = is_suc _ _ _ _ c.if-r-eq2.true

pub returns-then-r-eq3 : goal.returns-then-r-eq3
returns-then-r-eq3 c = is_zero _ _ _ _ c.if-r-eq3.true

pub returns : goal.returns
returns c = is_max c.args.n c.args.r c.args.x c.args.y (omega (arith, c.requires.0, c.if-r-eq0.false, c.if-r-eq1.false, c.if-r-eq2.false, c.if-r-eq3.false))
