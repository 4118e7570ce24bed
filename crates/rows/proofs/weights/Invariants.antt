-- `rows::weights` meets its contract.
use Prim.Native.Nat.{◌-◌, ◌≤◌}
use mathlib.Core.Path.{◌≡◌}
use lib.ListN.{length, take}
use Rattle.rows.specs.Values.{value_in, weight_of}
use Rattle.rows.proofs.weights.Given as goal

abbrev pub invariant-loop-i : goal.invariant-loop-i
invariant-loop-i l = (l.i ≤ l.width) × (length l.w ≡ length l.initial.w) × (value_in l.w ≡ weight_of l.n (take l.i l.levels))
