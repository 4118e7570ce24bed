-- `read_line::line` meets its contract.
use Rattle.read_line.proofs.Digits.{step_told}
use Rattle.read_line.proofs.line.Goals as goal

pub returns-in-Some : goal.returns-in-Some
returns-in-Some c = step_told _ _ _ _ c.in-Some.ensures
