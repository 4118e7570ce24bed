-- `read_line::element` meets its contract.
use mathlib.Core.Path.{sym, ◌∙◌}
use Rattle.read_line.proofs.Fields.{code_number, code_name, code_none}
use Rattle.read_line.proofs.element.Goals as goal

pub returns-in-Some : goal.returns-in-Some
returns-in-Some c = code_number _ _ c.in-Some.ensures

pub returns-then-is_relation_name : goal.returns-then-is_relation_name
returns-then-is_relation_name c = code_name _ c.in-None.ensures (sym c.is_relation_name.ensures ∙ c.if-is_relation_name.true)

pub returns-else-is_relation_name : goal.returns-else-is_relation_name
returns-else-is_relation_name c = code_none _ c.in-None.ensures (sym c.is_relation_name.ensures ∙ c.if-is_relation_name.false)
