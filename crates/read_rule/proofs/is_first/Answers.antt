-- `is_first` meets its contract.
use Rattle.definitions.specs.Sheet.Text.{is_small, is_capital, is_between}
use Rattle.read_rule.proofs.is_first.Goals as goal

pub returns-then-var : goal.returns-then-var
unfolding is_small is_between
returns-then-var c = rw c.if-var.true c.is_ascii_lowercase.ensures.value

pub returns-else-var : goal.returns-else-var
unfolding is_capital is_between
returns-else-var c = rw c.if-var.false c.is_ascii_uppercase.ensures.value
