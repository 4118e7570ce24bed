use native.Mathlib.Omega.{arith}
use Rattle.step_start.specs.RowLaws.{free_none, free_one, free_two, free_past}
use Rattle.step_start.proofs.free.Goals as goal

pub returns-then-kind-lt2 : goal.returns-then-kind-lt2
returns-then-kind-lt2 c = free_none _ _ (omega arith)

pub returns-then-kind-lt4 : goal.returns-then-kind-lt4
returns-then-kind-lt4 c = free_one _ _ (omega arith) (omega arith)

pub returns-then-kind-gt5 : goal.returns-then-kind-gt5
returns-then-kind-gt5 c = free_past _ _ (omega arith)

pub returns : goal.returns
returns c = free_two _ _ (omega arith) (omega arith)
