use native.Mathlib.Omega.{arith}
use Rattle.eval_valuations.specs.Laws.{turned_as, turned_not}
use Rattle.eval_valuations.proofs.turned.Goals as goal

pub returns-then-keeps : goal.returns-then-keeps
returns-then-keeps c = turned_as _ _ c.if-keeps.true

pub returns : goal.returns
returns c = turned_not _ _ (omega arith) c.if-keeps.false
