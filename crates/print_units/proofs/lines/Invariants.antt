-- `print_units::lines` meets its contract.
use mathlib.Core.Path.{◌≡◌}
use Prim.Native.Nat.{◌+◌, ◌≤◌}
use lib.ListN.{length, drop}
use Rattle.print_line.specs.Lines.{said_by}
use Rattle.print_units.specs.Units.{units_from, all_units}
use Rattle.print_units.specs.Streams.{lines_in}
use Rattle.print_units.proofs.lines.Given as goal

abbrev pub invariant-loop-j : goal.invariant-loop-j
invariant-loop-j l = (l.j ≤ length l.values) × (l.used ≤ 64) × (l.begun ≤ l.j) ×
    (lines_in 0 (all_units (said_by l.site l.labels) l.part l.values) ≡ l.begun + lines_in l.used (units_from (said_by l.site l.labels) l.part (drop l.j l.values)))
