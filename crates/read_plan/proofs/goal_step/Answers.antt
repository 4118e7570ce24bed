-- `read_plan::goal_step` meets its contract. Assumes nothing.
use mathlib.Core.Path.{◌∙◌, ap}
use Rattle.problem_table.specs.declared.NodeLine.{NodeLine}
use Rattle.read_plan.specs.Numbers.{sized}
use Rattle.read_plan.proofs.goal_step.Goals as goal

pub returns : goal.returns
returns c = c.step_if.ensures ∙ ap (λ (y : NodeLine). sized c.args.count 0 y.acts) c.node_line-line.ensures
