-- `print_line::line` meets its contract. What is left to print are the fields that the loop has not passed, and the line's end.
use Rattle.std.proofs.Common.{[], ◌∷◌, ◌++◌, map, drop}
use Rattle.definitions.specs.Sheet.Text.{decimal}
use Rattle.definitions.specs.Reply.Desk.{print_line}
use Rattle.print_line.specs.Printed.{Left}
use Rattle.print_line.specs.Lines.{fields}
use Rattle.print_line.proofs.line.Given as goal

abbrev pub invariant-loop-k : goal.invariant-loop-k
invariant-loop-k l = Left (print_line (l.word ∷ map decimal l.numbers)) l.fn.out l.at (fields (drop l.k-index l.numbers) ++ (10 ∷ [])) l.out l.next
