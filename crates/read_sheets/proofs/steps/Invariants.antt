-- `read_sheets::steps` meets its contract. The lines up to `at` gave n steps; if the sheet is accepted, they stand at the front of `out`.
use Prim.Native.Nat.{◌-◌, ◌≤◌}
use mathlib.Core.Path.{◌≡◌}
use lib.ListN.{length}
use Rattle.definitions.specs.Sheet.Sheets.{read_steps}
use Rattle.read_sheets.proofs.Numbers.{Writes, Reached, Written}
use Rattle.read_sheets.proofs.steps.Given as goal

abbrev pub invariant-loop-at : goal.invariant-loop-at
invariant-loop-at l = (l.at ≤ length l.s) × (l.n ≤ l.at) × (length l.out ≡ length l.initial.out) × Reached l.s l.at l.n ×
    (Writes (read_steps l.s) (length l.initial.out) → Written l.s l.initial.out l.at l.n l.out)

abbrev pub decreases-loop-at : goal.decreases-loop-at
decreases-loop-at l = length l.s - l.at
