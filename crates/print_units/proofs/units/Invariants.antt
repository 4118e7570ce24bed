-- `print_units::units` meets its contract.
use Prim.Native.Nat.{◌≤◌}
use lib.ListN.{length, drop}
use Rattle.print_line.specs.Lines.{said_by}
use Rattle.print_bytes.specs.Emitted.{Left}
use Rattle.print_units.specs.Units.{units_from, all_units}
use Rattle.print_units.specs.Streams.{streamed}
use Rattle.print_units.proofs.units.Given as goal

abbrev pub invariant-loop-j : goal.invariant-loop-j
invariant-loop-j l = (l.j ≤ length l.values) × (l.used ≤ 64) × Left (streamed 0 (all_units (said_by l.site l.labels) l.part l.values)) l.initial.out l.at
    (streamed l.used (units_from (said_by l.site l.labels) l.part (drop l.j l.values))) l.out l.next
