-- `print_report::question_end` meets its contract. Among the lines that the loop has passed none is a `rule` line.
use Prim.Native.Nat.{◌-◌, ◌≤◌}
use mathlib.Core.Path.{◌≡◌}
use lib.ListN.{length}
use Rattle.definitions.specs.Sheet.Text.{lines}
use Rattle.definitions.specs.Reply.Desk.{after_rule}
use Rattle.read_line.specs.Lines.{lines_at}
use Rattle.print_report.proofs.question_end.Given as goal

abbrev pub invariant-loop-at : goal.invariant-loop-at
invariant-loop-at l = (l.at ≤ length l.s) × (after_rule (length l.s) (lines l.s) ≡ after_rule (length l.s) (lines_at l.s l.at))

abbrev pub decreases-loop-at : goal.decreases-loop-at
decreases-loop-at l = length l.s - l.at
