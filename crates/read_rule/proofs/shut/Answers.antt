-- `shut` meets its contract.
use mathlib.Core.Path.{sym, ◌∙◌}
use Rattle.read_rule.specs.Steps.{shut_yes, shut_no}
use Rattle.read_rule.proofs.shut.Goals as goal

pub returns-then-starts : goal.returns-then-starts
returns-then-starts c = sym (shut_yes _ _ _ (sym c.starts.ensures ∙ c.if-starts.true))

pub returns-else-starts : goal.returns-else-starts
returns-else-starts c = sym (shut_no _ _ _ (sym c.starts.ensures ∙ c.if-starts.false))
