-- `problem_layout::relation_width` meets its contract.
use native.Mathlib.Omega.{arith}
use Rattle.problem_layout.specs.LaidLaws.{width_plain, width_function, width_injective, width_last}
use Rattle.problem_layout.proofs.relation_width.Goals as goal

pub returns-then-kind-lt2 : goal.returns-then-kind-lt2
returns-then-kind-lt2 c = width_plain _ _ _ (omega arith)

pub returns-then-kind-lt4 : goal.returns-then-kind-lt4
returns-then-kind-lt4 c = width_function _ _ _ (omega arith) (omega arith)

pub returns-then-kind-lt6 : goal.returns-then-kind-lt6
returns-then-kind-lt6 c = width_injective _ _ _ (omega arith) (omega arith)

pub returns : goal.returns
returns c = width_last _ _ _ (omega arith)
