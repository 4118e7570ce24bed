-- `read_plan::is_said` meets its contract. Assumes nothing.
use native.Mathlib.Omega.{arith}
use Rattle.read_plan.specs.Domain.{Compared}
use Rattle.read_plan.specs.Spans.{said_long, said_same, said_far}
use Rattle.read_plan.proofs.is_said.Goals as goal

pub returns-then-n-e : goal.returns-then-n-e
unfolding Compared
returns-then-n-e c = λ short. said_long _ _ _ _ _ _ _ c.action_word-n.ensures short (omega arith) c.requires.a_le_e.0 c.requires.a_le_e.1 c.if-n-e.true

pub returns-then-n-gt24 : goal.returns-then-n-gt24
unfolding Compared
returns-then-n-gt24 c = λ short. absurd (said_far _ _ _ c.args.s.now _ c.args.a c.args.e c.action_word-n.ensures short (omega arith) c.requires.a_le_e.0 c.requires.a_le_e.1 (omega arith) short)

pub returns : goal.returns
unfolding Compared
returns c = λ short. said_same _ _ _ _ _ _ _ c.action_word-n.ensures short (omega arith) c.requires.a_le_e.0 c.requires.a_le_e.1 c.if-n-e.false _ c.same_letters.ensures
