-- `problem_table::every_tuples` meets its contract.
use mathlib.Core.Path.{sym, ◌∙◌}
use Rattle.problem_table.specs.NeedLaws.{every_count, every_zero}
use Rattle.problem_table.proofs.every_tuples.Goals as goal

pub returns-then-has_every : goal.returns-then-has_every
returns-then-has_every c = every_count _ (sym c.has_every.ensures ∙ c.if-has_every.true) _ _ c.last_line-line.ensures c.saturating_sub.ensures

pub returns : goal.returns
returns c = every_zero _ (sym c.has_every.ensures ∙ c.if-has_every.false)
