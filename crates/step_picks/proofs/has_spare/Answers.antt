-- `step_picks::has_spare` meets its contract.
use Rattle.step_picks.specs.Spare.{line_none, line_some}
use mathlib.Core.Path.{sym, ◌∙◌}
use Rattle.step_picks.proofs.has_spare.Goals as goal

pub returns-then-is_chosen : goal.returns-then-is_chosen
returns-then-is_chosen c = line_some _ _ _ (sym c.is_chosen.ensures ∙ c.if-is_chosen.true) _ c.tuples_in.ensures _ c.spare_past.ensures

pub returns-else-is_chosen : goal.returns-else-is_chosen
returns-else-is_chosen c = c.if-is_chosen.false ∙ line_none _ _ _ (sym c.is_chosen.ensures ∙ c.if-is_chosen.false)
