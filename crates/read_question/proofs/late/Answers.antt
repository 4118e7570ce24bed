-- `read_question::late` meets its contract.
use mathlib.Core.Path.{◌∙◌}
use Rattle.read_question.proofs.Judging.{late_types, late_chosen, late_own}
use Rattle.read_question.proofs.late.Goals as goal
use Rattle.read_question.proofs.late.Goals.{then-types-ne0, else-types-ne0}

pub returns-then-chosen-ne0 : goal.returns-then-chosen-ne0
returns-then-chosen-ne0 c =
    elim c.if-types-ne0.branch [
      | then-types-ne0 w ↦ w.t-5-is ∙ late_types _ _ _ w.if-types-ne0.true
      | else-types-ne0 w ↦ w.t-5-is ∙ late_chosen _ _ _ w.if-types-ne0.false c.if-chosen-ne0.either
    ]

pub returns-else-chosen-ne0 : goal.returns-else-chosen-ne0
returns-else-chosen-ne0 c = late_own _ _ _ c.if-chosen-ne0.false.0 c.if-chosen-ne0.false.1
