-- `sort_at` meets its contract.
use mathlib.Core.Path.{sym, ◌∙◌}
use native.Mathlib.Omega.{arith}
use Rattle.rule_rewrite.proofs.Words.{type_low, sort_none, sort_some, sort_lost}
use Rattle.rule_rewrite.proofs.sort_at.Goals as goal

pub returns-then-at-end : goal.returns-then-at-end
returns-then-at-end c = sort_none _ _ _ _ c.if-at-end.true

pub overflow_add-result : goal.overflow_add-result
overflow_add-result c = omega (arith, type_low _ _ _ _ _ (sym c.in-Some.is ∙ c.type_named.ensures))

pub overflow_cast-result : goal.overflow_cast-result
overflow_cast-result c = omega (arith, type_low _ _ _ _ _ (sym c.in-Some.is ∙ c.type_named.ensures))

pub returns-in-Some : goal.returns-in-Some
returns-in-Some c = sort_some _ _ _ _ c.if-at-end.false _ (sym c.in-Some.is ∙ c.type_named.ensures)

pub returns-in-None : goal.returns-in-None
returns-in-None c = sort_lost _ _ _ _ c.if-at-end.false (sym c.in-None.is ∙ c.type_named.ensures)
