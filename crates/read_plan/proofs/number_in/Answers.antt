-- `read_plan::number_in` meets its contract. Assumes nothing.
use native.Mathlib.Omega.{arith}
use Rattle.read_plan.specs.Spans.{number_none, number_bad, number_is}
use Rattle.read_plan.proofs.number_in.Goals as goal

pub returns-then-e-a : goal.returns-then-e-a
returns-then-e-a c = number_none c.args.s.now c.args.a c.args.e (omega arith) c.requires

pub returns-in-None : goal.returns-in-None
returns-in-None c = number_bad _ _ c.number.ensures c.in-None.is

pub returns-in-Some : goal.returns-in-Some
returns-in-Some c = number_is _ _ _ c.number.ensures c.in-Some.is
