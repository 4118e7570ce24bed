use mathlib.Core.Path.{sym, ◌∙◌}
use Rattle.eval_search.specs.Counts.{no_cells, some_cells}
use Rattle.eval_search.proofs.cells_in.Goals as goal

pub returns-then-is_chosen : goal.returns-then-is_chosen
returns-then-is_chosen c = some_cells _ (sym c.is_chosen.ensures ∙ c.if-is_chosen.true) _ c.tuples_in.ensures

pub returns : goal.returns
returns c = no_cells _ (sym c.is_chosen.ensures ∙ c.if-is_chosen.false)
