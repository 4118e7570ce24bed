-- `read_question::push` meets its contract.
use mathlib.Core.Path.{refl}
use Rattle.read_question.specs.Drafts.{pushed}
use Rattle.read_question.proofs.push.Goals as goal

pub returns : goal.returns
unfolding pushed
returns c = refl
