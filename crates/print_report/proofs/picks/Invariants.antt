-- `print_report::picks` meets its contract. What is left to print are the lines of the relations that the loop has not passed.
use Prim.Native.Nat.{◌≤◌}
use Rattle.print_line.specs.Printed.{Left}
use Rattle.print_line.specs.Lines.{said_by}
use Rattle.print_report.specs.Report.{picks_at, picks, texts_from}
use Rattle.print_report.proofs.picks.Given as goal

abbrev pub invariant-loop-j : goal.invariant-loop-j
invariant-loop-j l = (l.j ≤ l.g.chosen) × Left (picks (said_by l.site l.labels) l.q l.g l.n l.words) l.initial.out l.at (texts_from (picks_at (said_by l.site l.labels) l.q l.g l.n l.words) l.j l.g.chosen) l.out l.next
