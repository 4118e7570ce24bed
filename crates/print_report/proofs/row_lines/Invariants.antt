-- `print_report::row_lines` meets its contract. What is left to print are the lines of the rows that the loop has not passed.
use Prim.Native.Nat.{◌^◌, ◌≤◌}
use Rattle.print_line.specs.Printed.{Left}
use Rattle.print_line.specs.Lines.{said_by}
use Rattle.print_report.specs.Report.{row_line, row_lines, texts_from}
use Rattle.print_report.proofs.row_lines.Given as goal

abbrev pub invariant-loop-row : goal.invariant-loop-row
invariant-loop-row l = (l.row ≤ l.rows) × Left (row_lines (said_by l.site l.labels) l.words l.first l.name l.n l.arity) l.initial.out l.at (texts_from (row_line (said_by l.site l.labels) l.words l.first l.name l.n l.arity) l.row (l.n ^ l.arity)) l.out l.next
