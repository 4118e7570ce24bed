-- `rows::values_of` meets its contract.
use Prim.Native.Nat.{◌-◌, ◌≤◌, ◌/◌, ◌^◌}
use mathlib.Core.Path.{◌≡◌}
use lib.ListN.{length, take, drop}
use Rattle.definitions.specs.Problem.Atoms.{places_of}
use Rattle.definitions.specs.Problem.Actions.{values_in}
use Rattle.rows.specs.Values.{value_in, Within}
use Rattle.rows.proofs.values_of.Given as goal

abbrev pub invariant-loop-i : goal.invariant-loop-i
invariant-loop-i l = (l.i ≤ l.width) × (length l.out ≡ length l.initial.out) × (l.rest ≡ l.row / l.n ^ (l.width - l.i)) × (value_in l.out ≡ values_in (drop l.i (take l.width l.levels)) (places_of l.n (l.width - l.i) l.row)) × Within l.n l.out
