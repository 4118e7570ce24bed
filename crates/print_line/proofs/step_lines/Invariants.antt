-- `print_line::step_lines` meets its contract. What is left to print are the lines of the steps that the loop has not passed.
use Rattle.std.proofs.Common.{drop}
use Rattle.definitions.specs.Lists.{flat_map}
use Rattle.definitions.specs.Reply.Desk.{step_line}
use Rattle.print_line.specs.Printed.{Left}
use Rattle.print_line.proofs.step_lines.Given as goal

abbrev pub invariant-loop-k : goal.invariant-loop-k
invariant-loop-k l = Left (flat_map step_line l.k-items) l.initial.out l.at (flat_map step_line (drop l.k-index l.k-items)) l.out l.next
