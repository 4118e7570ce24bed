-- `read_plan::put` meets its contract. Assumes nothing.
use native.Mathlib.Omega.{arith}
use Rattle.read_plan.specs.Writing.{set_past}
use Rattle.read_plan.proofs.put.Goals as goal

pub returns-else-i-out : goal.returns-else-i-out
returns-else-i-out c = set_past _ _ _ (omega arith)
