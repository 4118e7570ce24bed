-- `read_plan::forall_name` meets its contract. Assumes nothing.
use native.Mathlib.Omega.{arith}
use Rattle.read_plan.specs.Spans.{forall_none, forall_first, forall_next}
use Rattle.read_plan.proofs.forall_name.Goals as goal

pub returns-then-e-a : goal.returns-then-e-a
returns-then-e-a c = forall_none c.args.s.now c.args.a c.args.e c.requires.0 (omega arith)

pub returns-then-s-e-eq49 : goal.returns-then-s-e-eq49
returns-then-s-e-eq49 c = forall_first c.args.s.now c.args.a c.args.e c.requires.0 (omega arith) _ c.number_in-v.ensures c.if-s-e-eq49.true

pub returns : goal.returns
returns c = forall_next c.args.s.now c.args.a c.args.e c.requires.0 (omega arith) _ c.number_in-v.ensures c.if-s-e-eq49.false
