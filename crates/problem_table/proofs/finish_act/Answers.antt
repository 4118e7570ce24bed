-- `problem_table::finish_act` meets its contract.
use mathlib.Core.Path.{sym, ◌∙◌}
use Rattle.problem_table.specs.NeedLaws.{finish_round, finish_goal}
use Rattle.problem_table.proofs.finish_act.Goals as goal

pub returns-then-has_every : goal.returns-then-has_every
returns-then-has_every c = finish_round _ (sym c.has_every.ensures ∙ c.if-has_every.true)

pub returns : goal.returns
returns c = finish_goal _ (sym c.has_every.ensures ∙ c.if-has_every.false)
