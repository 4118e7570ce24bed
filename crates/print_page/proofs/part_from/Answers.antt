-- `print_page::part_from` meets its contract.
use native.Mathlib.Omega.{arith}
use Rattle.print_page.proofs.part_from.Goals as goal

pub returns-then-to-s : goal.returns-then-to-s
returns-then-to-s c = λ h k. absurd (omega arith)

pub returns : goal.returns
returns c = λ h k. absurd (omega arith)
