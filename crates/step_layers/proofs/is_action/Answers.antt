-- `step_layers::is_action` meets its contract.
use mathlib.Core.Path.{ap, ◌∙◌}
use mathlib.Core.Bool.{not}
use Rattle.step_layers.specs.TestLaws.{action_or_not}
use Rattle.step_layers.proofs.is_action.Goals as goal

pub returns : goal.returns
returns c = λ p is. ap not c.is_nothing.ensures ∙ action_or_not p _ _ (c.action_at.ensures.1 p is)
