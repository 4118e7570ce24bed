-- `print_report::counts` meets its contract. What is left to print are the lines of the relations that the loop has not passed.
use Prim.Native.Nat.{◌≤◌}
use Rattle.print_line.specs.Printed.{Left}
use Rattle.print_report.specs.Report.{count_at, counts, texts_from}
use Rattle.print_report.proofs.counts.Given as goal

abbrev pub invariant-loop-j : goal.invariant-loop-j
invariant-loop-j l = (l.j ≤ l.g.chosen) × Left (counts l.q l.g l.n l.words) l.initial.out l.at (texts_from (count_at l.q l.g l.n l.words) l.j l.g.chosen) l.out l.next
