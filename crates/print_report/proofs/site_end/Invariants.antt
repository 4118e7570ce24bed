-- `print_report::site_end` meets its contract. Among the lines that the loop has passed none is a `pick` or `step` line.
use Prim.Native.Nat.{◌-◌, ◌≤◌}
use mathlib.Core.Path.{◌≡◌}
use lib.ListN.{length}
use Rattle.definitions.specs.Sheet.Text.{lines}
use Rattle.definitions.specs.Reply.Desk.{first_pick_or_step}
use Rattle.read_line.specs.Lines.{lines_at}
use Rattle.print_report.proofs.site_end.Given as goal

abbrev pub invariant-loop-at : goal.invariant-loop-at
invariant-loop-at l = (l.at ≤ length l.s) × (first_pick_or_step (length l.s) (lines l.s) ≡ first_pick_or_step (length l.s) (lines_at l.s l.at))

abbrev pub decreases-loop-at : goal.decreases-loop-at
decreases-loop-at l = length l.s - l.at
