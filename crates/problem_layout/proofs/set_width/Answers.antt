-- `problem_layout::set_width` meets its contract.
use native.Mathlib.Omega.{arith}
use native.Mathlib.Nat.{mul-le-mul}
use Rattle.problem_layout.specs.LaidLaws.{set_none, set_all, set_pairs, set_last}
use Rattle.problem_layout.proofs.set_width.Goals as goal

pub returns-then-kind-eq0 : goal.returns-then-kind-eq0
returns-then-kind-eq0 c = set_none _ _ _ _ (omega arith)

pub returns-then-kind-eq1 : goal.returns-then-kind-eq1
returns-then-kind-eq1 c = set_all _ _ _ _ (omega arith)

pub overflow_mul-result : goal.overflow_mul-result
overflow_mul-result c = let q = mul-le-mul c.requires.0 c.requires.1 in omega arith

pub returns-then-kind-lt6 : goal.returns-then-kind-lt6
returns-then-kind-lt6 c = set_pairs _ _ _ _ (λ e. omega arith) (λ e. omega arith) (omega arith)

pub returns : goal.returns
returns c = set_last _ _ _ _ (omega arith)
