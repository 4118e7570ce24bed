-- `problem_layout::choices` meets its contract.
use native.Mathlib.Omega.{arith}
use Rattle.problem_layout.specs.LaidLaws.{choices_quantifier, choices_and, choices_or}
use Rattle.problem_layout.proofs.choices.Goals as goal

pub returns-then-kind-lt2 : goal.returns-then-kind-lt2
returns-then-kind-lt2 c = choices_quantifier _ _ _ (omega arith)

pub returns-then-kind-eq2 : goal.returns-then-kind-eq2
returns-then-kind-eq2 c = choices_and _ _ _ (omega arith)

pub returns : goal.returns
returns c = choices_or _ _ _ (omega arith) (λ e. omega arith)
