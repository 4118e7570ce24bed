-- `is_type` meets its contract.
use mathlib.Core.Path.{◌∙◌}
use Rattle.read_rule.proofs.Laws.{is_type_lem}
use Rattle.read_rule.proofs.is_type.Goals as goal

pub returns : goal.returns
returns c = c.is_some.ensures ∙ is_type_lem _ _ _ c.type_named.ensures
