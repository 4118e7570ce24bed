use mathlib.Core.Path.{refl}
use Rattle.step_picks.specs.WordLaws.{open_none, open_some}
use Rattle.step_picks.proofs.is_chosen.Goals as goal

pub returns-then-kind-ne0 : goal.returns-then-kind-ne0
returns-then-kind-ne0 c = open_some _ c.if-kind-ne0.true

pub returns-else-kind-ne0 : goal.returns-else-kind-ne0
returns-else-kind-ne0 c = rw c.if-kind-ne0.false (open_none 0 refl)
