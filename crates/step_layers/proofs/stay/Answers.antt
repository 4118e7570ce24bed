-- `step_layers::stay` meets its contract.
use mathlib.Core.Path.{◌∙◌}
use Rattle.step_layers.specs.TestLaws.{stay_is}
use Rattle.step_layers.proofs.stay.Goals as goal

pub returns : goal.returns
returns c = λ p is. c.may_stay.ensures ∙ stay_is p _ is _ _ _ (c.action_at-a.ensures.1 p is)
