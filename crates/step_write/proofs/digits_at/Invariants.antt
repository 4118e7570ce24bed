use Prim.Native.Nat.{ℕ, suc, ◌-◌, ◌/◌, ◌%◌, ◌^◌, ◌≤◌, ◌<◌}
use mathlib.Core.Path.{◌≡◌}
use lib.ListN.{length, get_or}
use Rattle.rows.specs.Values.{Within}
use Rattle.step_prove.specs.Tries.{Rest}
use Rattle.step_write.proofs.digits_at.Given as goal

abbrev pub invariant-loop-i : goal.invariant-loop-i
invariant-loop-i l = (l.i ≤ l.width) × (length l.digits ≡ length l.initial.digits) × Within l.n l.digits × Rest l.width l.digits × (l.rest ≡ l.row / l.n ^ (l.width - l.i))
    × ((q : ℕ) → l.i ≤ q → q < l.width → get_or l.digits q 0 ≡ l.row / l.n ^ (l.width - suc q) % l.n)
