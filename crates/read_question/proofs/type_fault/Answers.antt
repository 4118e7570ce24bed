-- `read_question::type_fault` meets its contract.
use mathlib.Core.Path.{sym, ◌∙◌}
use Rattle.read_question.proofs.Judging.{type_malformed, type_twice, type_new}
use Rattle.read_question.proofs.type_fault.Goals as goal

pub returns-in-Some : goal.returns-in-Some
returns-in-Some c = type_twice _ _ (sym c.is_relation_name.ensures ∙ c.if-not-is_relation_name.false) _ c.type_named.ensures _ c.in-Some.is

pub returns-in-None : goal.returns-in-None
returns-in-None c = type_new _ _ (sym c.is_relation_name.ensures ∙ c.if-not-is_relation_name.false) _ c.type_named.ensures c.in-None.is

pub returns-then-not-is_relation_name : goal.returns-then-not-is_relation_name
returns-then-not-is_relation_name c = type_malformed _ _ (sym c.is_relation_name.ensures ∙ c.if-not-is_relation_name.true)
