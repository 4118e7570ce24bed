use Prim.Native.Nat.{◌≤◌}
use mathlib.Core.Path.{◌≡◌}
use lib.ListN.{length}
use Rattle.bits.specs.Table.{bit}
use Rattle.step_start.specs.Rows.{first_in, relations_put, Room}
use Rattle.step_start.proofs.put_relations.Given as goal

abbrev pub invariant-loop-r : goal.invariant-loop-r
invariant-loop-r l = (l.r ≤ l.count) × (length l.state ≡ length l.initial.state) × (l.first ≡ first_in l.table l.r) × (Room l.table (length l.initial.state) → bit l.state ≡ relations_put l.facts l.table l.r (bit l.initial.state))
