-- `print_page::places` meets its contract.
use mathlib.Core.Path.{◌≡◌}
use Prim.Native.Nat.{◌-◌, ◌/◌, ◌^◌, ◌≤◌}
use lib.ListN.{length, take, drop}
use Rattle.definitions.specs.Problem.Atoms.{places_of}
use Rattle.rows.specs.Values.{Within}
use Rattle.print_page.proofs.places.Given as goal

abbrev pub invariant-loop-i : goal.invariant-loop-i
invariant-loop-i l = (l.i ≤ l.count) × (length l.values ≡ length l.initial.values) × (l.rest ≡ l.row / l.n ^ (l.count - l.i)) × (take (l.count - l.i) (drop l.i l.values) ≡ places_of l.n (l.count - l.i) l.row) × Within l.n l.values
