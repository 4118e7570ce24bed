-- `problem_table::take_mark` meets its contract.
use native.Mathlib.Omega.{arith}
use Rattle.problem_table.specs.ChangeLaws.{mark_changes}
use Rattle.problem_table.proofs.take_mark.Goals as goal

pub returns : goal.returns
returns c =
    λ h. mark_changes _ _ _ _ _ _ _ _ _
    c.clear.ensures
    c.clear-2.ensures
    (c.raise.ensures (omega (arith, h.0))) (c.raise-2.ensures (omega (arith, h.1.0)))
