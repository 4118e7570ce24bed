-- `problem_layout::node_width` meets its contract.
use native.Mathlib.Omega.{arith}
use Rattle.problem_layout.specs.LaidLaws.{width_forall, width_other, size_times}
use Rattle.problem_layout.proofs.node_width.Goals as goal

pub overflow_mul-result : goal.overflow_mul-result
overflow_mul-result c = omega (arith, size_times _ _ c.requires.0 c.requires.1)

pub returns-then-kind-eq0 : goal.returns-then-kind-eq0
returns-then-kind-eq0 c = width_forall _ _ _ (omega arith)

pub returns : goal.returns
returns c = width_other _ _ _ (λ e. omega arith)
