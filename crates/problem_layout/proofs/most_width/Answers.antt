-- `problem_layout::most_width` meets its contract.
use native.Mathlib.Omega.{arith}
use Rattle.problem_layout.specs.LaidLaws.{most_none, most_all, most_one, most_last}
use Rattle.problem_layout.proofs.most_width.Goals as goal

pub returns-then-kind-eq0 : goal.returns-then-kind-eq0
returns-then-kind-eq0 c = most_none _ _ _ (omega arith)

pub returns-then-kind-eq1 : goal.returns-then-kind-eq1
returns-then-kind-eq1 c = most_all _ _ _ (omega arith)

pub returns-then-kind-lt6 : goal.returns-then-kind-lt6
returns-then-kind-lt6 c = most_one _ _ _ (λ e. omega arith) (λ e. omega arith) (omega arith)

pub returns : goal.returns
returns c = most_last _ _ _ (omega arith)
