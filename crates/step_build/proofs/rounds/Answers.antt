use native.Mathlib.Omega.{arith}
use Rattle.step_build.specs.MarkLaws.{shift_rounds}
use Rattle.step_build.proofs.rounds.Goals as goal

pub returns : goal.returns
returns c = shift_rounds _ _ c.every_tuples-count.ensures (omega arith)
