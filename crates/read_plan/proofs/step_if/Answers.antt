-- `read_plan::step_if` meets its contract. Assumes nothing.
use Rattle.read_plan.specs.Numbers.{sized_other, sized_tried}
use Rattle.read_plan.proofs.step_if.Goals as goal

pub returns-then-count-wanted : goal.returns-then-count-wanted
returns-then-count-wanted c = sized_other _ _ _ c.if-count-wanted.true

pub returns : goal.returns
returns c = rw c.ok.ensures.value (sized_tried _ _ _ _ c.if-count-wanted.false c.try_from.ensures)
