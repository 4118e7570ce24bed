-- `read_question::no_relations` meets its contract.
use mathlib.Core.Path.{refl}
use Rattle.read_question.specs.Drafts.{no_signature}
use Rattle.read_question.proofs.no_relations.Goals as goal

pub returns : goal.returns
unfolding no_signature
returns c = refl
