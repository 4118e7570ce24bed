-- `step_prove::tries` meets its contract.
use native.Mathlib.Omega.{arith}
use mathlib.Core.Path.{sym, ap, ◌∙◌}
use Rattle.step_prove.specs.Tries.{Way}
use Rattle.step_prove.specs.TryLaws.{way_exists, way_and, way_or}
use Rattle.step_prove.proofs.tries.Goals as goal

pub returns-then-kind-eq1 : goal.returns-then-kind-eq1
returns-then-kind-eq1 c = (c.requires.2, λ n ms j l. let e = way_exists n _ _ ms j (omega arith) in (sym l ∙ ap (λ (y : Way). y.tries) e, sym l ∙ ap (λ (y : Way). y.choices) e))

pub returns-then-kind-eq2 : goal.returns-then-kind-eq2
returns-then-kind-eq2 c = (omega arith, λ n ms j l. let e = way_and n _ _ ms j (omega arith) in (ap (λ (y : Way). y.tries) e, ap (λ (y : Way). y.choices) e))

pub returns : goal.returns
returns c = (c.requires.1, λ n ms j l. let e = way_or n _ _ ms j (omega arith) in (ap (λ (y : Way). y.tries) e, ap (λ (y : Way). y.choices) e))
