-- `print_line::byte` meets its contract.
use Rattle.print_line.specs.Printed.{prints_byte}
use Rattle.print_line.proofs.byte.Goals as goal

pub returns : goal.returns
returns c = prints_byte _ _ _
