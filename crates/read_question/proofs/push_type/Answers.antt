-- `read_question::push_type` meets its contract.
use mathlib.Core.Path.{refl}
use Rattle.read_question.specs.Drafts.{typed}
use Rattle.read_question.proofs.push_type.Goals as goal

pub returns : goal.returns
unfolding typed
returns c = refl
