-- `step_prove::advance` meets its contract.
use Prim.Native.Nat.{ℕ, ◌≤◌}
use mathlib.Core.Path.{◌≡◌}
use lib.ListN.{length}
use Rattle.rows.specs.Values.{Within}
use Rattle.step_prove.specs.Tries.{Digits, Rest}
use Rattle.step_prove.specs.TurnLaws.{Carried}
use Rattle.step_prove.proofs.advance.Given as goal

abbrev pub invariant-loop-i : goal.invariant-loop-i
invariant-loop-i l = (l.i ≤ l.width) × (length l.digits ≡ length l.initial.digits) × Within l.n l.digits × Rest l.width l.digits ×
    ((row : ℕ) → Digits l.n l.width row l.initial.digits → Carried l.n l.width row l.i l.digits)
