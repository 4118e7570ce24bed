-- `read_question::name_fault` meets its contract.
use mathlib.Core.Path.{sym, ◌∙◌}
use Rattle.read_question.proofs.Judging.{name_malformed, name_declared, name_new}
use Rattle.read_question.proofs.name_fault.Goals as goal

pub returns-then-is_declared : goal.returns-then-is_declared
returns-then-is_declared c = λ g l. name_declared _ g _ (sym c.is_relation_name.ensures ∙ c.if-not-is_relation_name.false) (sym (c.is_declared.ensures g l) ∙ c.if-is_declared.true)

pub returns : goal.returns
returns c = λ g l. name_new _ g _ (sym c.is_relation_name.ensures ∙ c.if-not-is_relation_name.false) (sym (c.is_declared.ensures g l) ∙ c.if-is_declared.false)

pub returns-then-not-is_relation_name : goal.returns-then-not-is_relation_name
returns-then-not-is_relation_name c = λ g l. name_malformed _ g _ (sym c.is_relation_name.ensures ∙ c.if-not-is_relation_name.true)
