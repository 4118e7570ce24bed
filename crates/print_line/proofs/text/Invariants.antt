-- `print_line::text` meets its contract. What is left to print is what the loop has not passed.
use Rattle.std.proofs.Common.{drop}
use Rattle.print_line.specs.Printed.{Left}
use Rattle.print_line.proofs.text.Given as goal

abbrev pub invariant-loop-b : goal.invariant-loop-b
invariant-loop-b l = Left l.s l.fn.out l.at (drop l.b-index l.s) l.out l.next
