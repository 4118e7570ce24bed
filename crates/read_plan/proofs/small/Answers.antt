-- `read_plan::small` meets its contract. Assumes nothing.
use mathlib.Core.Path.{sym, ◌∙◌}
use Rattle.definitions.specs.Sheet.Text.{is_capital, is_between}
use Rattle.definitions.specs.Reply.Pddl.{small}
use Rattle.read_plan.proofs.small.Goals as goal

pub returns-then-is_ascii_uppercase : goal.returns-then-is_ascii_uppercase
unfolding small is_capital is_between
returns-then-is_ascii_uppercase c = rw (sym c.is_ascii_uppercase.ensures.value ∙ c.if-is_ascii_uppercase.true)

pub returns-else-is_ascii_uppercase : goal.returns-else-is_ascii_uppercase
unfolding small is_capital is_between
returns-else-is_ascii_uppercase c = rw (sym c.is_ascii_uppercase.ensures.value ∙ c.if-is_ascii_uppercase.false)
