-- `read_plan::or_name` meets its contract. Assumes nothing.
use native.Mathlib.Omega.{arith}
use Rattle.read_text.proofs.Laws.{end_within}
use Rattle.read_plan.specs.Spans.{or_none, or_some}
use Rattle.read_plan.proofs.or_name.Goals as goal

pub returns-then-t-e : goal.returns-then-t-e
returns-then-t-e c = or_none c.args.s.now c.args.a c.args.e c.find-t.result c.requires.0 c.requires.1 c.find-t.ensures c.if-t-e.true

pub number_in-v-requires : goal.number_in-v-requires
number_in-v-requires c = omega (arith, c.find-t.ensures, c.requires.1, end_within 95 c.args.a c.args.e c.args.s.now c.requires.0 c.requires.1)

pub overflow_add-t : goal.overflow_add-t
overflow_add-t c = omega (arith, c.find-t.ensures, c.requires.1, end_within 95 c.args.a c.args.e c.args.s.now c.requires.0 c.requires.1)

pub returns : goal.returns
returns c = or_some c.args.s.now c.args.a c.args.e c.find-t.result c.requires.0 c.requires.1 c.find-t.ensures (omega (arith, c.find-t.ensures, end_within 95 c.args.a c.args.e c.args.s.now c.requires.0 c.requires.1)) _ _ c.number_in-v.ensures c.number_in-i.ensures
