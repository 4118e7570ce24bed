-- `read_plan::object` meets its contract. Assumes nothing.
use native.Mathlib.Omega.{arith}
use Rattle.read_plan.specs.Objects.{object_empty, object_other, object_bad, object_least}
use Rattle.read_plan.proofs.object.Goals as goal

pub returns-then-a-e : goal.returns-then-a-e
returns-then-a-e c = (omega arith, object_empty c.args.s.now c.args.a c.args.e c.args.n c.requires.1 (omega arith))

pub returns-then-small-ne111 : goal.returns-then-small-ne111
returns-then-small-ne111 c = (omega arith, object_other c.args.s.now c.args.a c.args.e c.args.n c.requires.1 (omega arith) _ c.small.ensures c.if-small-ne111.true)

pub returns-in-Some : goal.returns-in-Some
returns-in-Some c = (omega (arith, c.min.ensures), object_least c.args.s.now c.args.a c.args.e c.args.n c.requires.1 (omega arith) _ c.small.ensures c.if-small-ne111.false _ c.number.ensures _ _ c.in-Some.is c.min.ensures)

pub returns-in-None : goal.returns-in-None
returns-in-None c = (omega arith, object_bad c.args.s.now c.args.a c.args.e c.args.n c.requires.1 (omega arith) _ c.small.ensures c.if-small-ne111.false _ c.number.ensures c.in-None.is)
