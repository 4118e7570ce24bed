-- `read_plan::other_name` meets its contract. Assumes nothing.
use native.Mathlib.Omega.{arith}
use Rattle.read_plan.specs.Spans.{other_begin, other_proof}
use Rattle.read_plan.proofs.other_name.Goals as goal

pub returns-then-small-eq98 : goal.returns-then-small-eq98
returns-then-small-eq98 c = other_begin c.args.s.now c.args.a c.args.e (omega arith) c.requires.1 c.requires.0 _ c.small.ensures c.if-small-eq98.true

pub returns : goal.returns
returns c = other_proof c.args.s.now c.args.a c.args.e (omega arith) c.requires.1 c.requires.0 _ c.small.ensures c.if-small-eq98.false _ c.proof_name.ensures
