use Rattle.read_question.proofs.Judging.{every_twice, every_early, every_now}
use Rattle.read_question.proofs.every_fault.Goals as goal
use Rattle.read_question.proofs.every_fault.Goals.{then-g-ne0-via-then-g-ne0, then-g-ne0-via-else-g-ne0+then-g-eq0}

pub returns-then-g-ne0 : goal.returns-then-g-ne0
returns-then-g-ne0 c =
    elim c.then-g-ne0.branch [
      | then-g-ne0-via-then-g-ne0 w ↦ every_twice _ _ _ w.if-g-ne0.true
      | then-g-ne0-via-else-g-ne0+then-g-eq0 w ↦ every_early _ _ _ w.if-g-ne0.false w.if-g-eq0.true
    ]

pub returns : goal.returns
returns c = every_now _ _ _ c.if-g-ne0.false c.if-g-eq0.false _ c.new_name.ensures
