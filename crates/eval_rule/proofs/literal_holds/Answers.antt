use mathlib.Core.Path.{◌∙◌}
use native.Mathlib.Omega.{arith}
use Rattle.eval_rule.specs.Laws.{is_pair, is_one, is_fact, is_pick, is_value}
use Rattle.eval_rule.proofs.literal_holds.Goals as goal

pub returns-in-0-to-2 : goal.returns-in-0-to-2
returns-in-0-to-2 c = c.built_in_holds.ensures ∙ is_pair _ _ _ _ _ (omega arith)

pub returns-in-3 : goal.returns-in-3
returns-in-3 c = c.built_in_holds-in-3.ensures ∙ is_one _ _ _ _ _ (omega arith) (omega arith)

pub returns-in-5 : goal.returns-in-5
returns-in-5 c = c.test.ensures ∙ is_fact _ _ _ _ _ c.in-5.is

pub returns-in-6 : goal.returns-in-6
returns-in-6 c = c.test-in-6.ensures ∙ is_pick _ _ _ _ _ c.in-6.is

pub returns-in_default : goal.returns-in_default
returns-in_default c = c.value_has.ensures ∙ is_value _ _ _ _ _ (omega arith)
