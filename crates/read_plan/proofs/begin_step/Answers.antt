-- `read_plan::begin_step` meets its contract. Assumes nothing.
use mathlib.Core.Path.{◌∙◌, ap}
use Rattle.problem_table.specs.declared.RelationLine.{RelationLine}
use Rattle.read_plan.specs.Numbers.{sized}
use Rattle.read_plan.proofs.begin_step.Goals as goal

pub returns : goal.returns
returns c = c.step_if.ensures ∙ ap (λ (y : RelationLine). sized c.args.count 0 y.sets) c.relation_line-line.ensures
