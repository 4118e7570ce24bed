-- `read_line::any_line` meets its contract.
use native.Mathlib.Omega.{arith}
use lib.ListN.{length}
use Rattle.read_line.proofs.Made.{in_wrong, told_or}
use Rattle.read_line.proofs.Fields.{reads_line, reads_open}
use Rattle.read_line.proofs.Tabs.{found}
use Prim.Native.Nat.{◌≤◌}
use Rattle.read_line.proofs.any_line.Goals as goal
use Rattle.read_line.proofs.any_line.Goals.{After-find-e}

-- the line ends in the text
within : (c : After-find-e) → c.find-e.result ≤ length c.args.s.now
within c = (found _ _ (length c.args.s.now) _ _ (omega arith, omega arith) c.find-e.ensures).1

pub returns-then-e-n : goal.returns-then-e-n
returns-then-e-n c = (omega arith, omega arith, reads_open _ _ (omega arith) _ c.find-e.ensures (omega arith), in_wrong _ _)

pub record-requires : goal.record-requires
record-requires c = omega (arith, within (goal.at.record-requires c).After-find-e)

pub overflow_add-result : goal.overflow_add-result
overflow_add-result c = omega (arith, within (goal.at.overflow_add-result c).After-find-e)

pub returns : goal.returns
returns c =
    let f = c.find-e.ensures in let h = within (goal.at.returns c).After-find-e in
    let told = told_or _ _ _ _ c.«record».ensures in
    rw c.unwrap_or.ensures (omega arith, omega arith, reads_line _ _ (omega arith) _ f (omega arith) _ told.0, told.1)
