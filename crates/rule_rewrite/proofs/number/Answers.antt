-- `number` meets its contract.
use mathlib.Core.Path.{sym, ◌∙◌}
use native.Mathlib.Omega.{arith}
use Rattle.rule_rewrite.proofs.Words.{lent_low, number_at, number_none}
use Rattle.rule_rewrite.proofs.number.Goals as goal

pub overflow_cast-result : goal.overflow_cast-result
overflow_cast-result c = omega (arith, lent_low _ _ _ _ _ _ c.requires.0 (λ g l. sym c.in-Some.is ∙ c.relation.ensures g l))

pub returns-in-Some : goal.returns-in-Some
returns-in-Some c = λ g l. number_at _ _ (sym c.in-Some.is ∙ c.relation.ensures g l)

pub returns-in-None : goal.returns-in-None
returns-in-None c = λ g l. number_none _ (sym c.in-None.is ∙ c.relation.ensures g l)
