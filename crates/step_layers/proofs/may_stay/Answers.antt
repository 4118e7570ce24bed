-- `step_layers::may_stay` meets its contract.
use native.Mathlib.Omega.{arith}
use mathlib.Core.Path.{◌∙◌}
use Rattle.step_layers.specs.TestLaws.{by_set, by_begin, by_other}
use Rattle.step_layers.proofs.may_stay.Goals as goal

pub returns-then-k-eq0 : goal.returns-then-k-eq0
returns-then-k-eq0 c = c.test.ensures ∙ by_set _ _ _ _ c.kind-k.ensures (omega arith)

pub returns-then-k-eq1 : goal.returns-then-k-eq1
returns-then-k-eq1 c = by_begin _ _ _ _ c.kind-k.ensures (omega arith)

pub returns : goal.returns
returns c = c.may_take.ensures ∙ by_other _ _ _ _ c.kind-k.ensures (λ q. omega arith) (λ q. omega arith)
