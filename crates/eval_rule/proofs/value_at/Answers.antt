use Rattle.eval_rule.specs.Laws.{value_element, value_old}
use native.Mathlib.Omega.{arith}
use Rattle.eval_rule.proofs.value_at.Goals as goal

pub returns-then-kind-lt2 : goal.returns-then-kind-lt2
returns-then-kind-lt2 c = value_element _ _ _ (omega arith)

pub returns : goal.returns
returns c = value_old _ _ _ (omega arith)
