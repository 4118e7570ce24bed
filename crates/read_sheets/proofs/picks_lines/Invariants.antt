-- `read_sheets::picks_lines` meets its contract. The lines up to `at` gave the k picks in the table, so reading the text is reading the rest from there.
use Prim.Native.Nat.{◌-◌, ◌≤◌}
use mathlib.Core.Path.{◌≡◌}
use mathlib.Core.List.{List}
use lib.ListN.{length}
use Rattle.definitions.specs.Sheet.Sheets.{Label}
use Rattle.read_tuples.specs.Labels.{LabelsAre}
use Rattle.read_sheets.proofs.Loops.{PicksAt}
use Rattle.read_sheets.proofs.picks_lines.Given as goal

abbrev pub invariant-loop-at : goal.invariant-loop-at
invariant-loop-at l = (l.at ≤ length l.s) × (l.k ≤ l.at) × (length l.table ≡ length l.initial.table) ×
    ((ls : List Label) → LabelsAre l.site l.labels l.n ls → PicksAt l.q l.g l.n ls l.s l.at l.k l.table)

abbrev pub decreases-loop-at : goal.decreases-loop-at
decreases-loop-at l = l.end - l.at
