-- `print_domain::or_schemas` meets its contract. Assumes nothing.
use Prim.Native.Nat.{◌-◌, ◌≤◌}
use Rattle.definitions.specs.Lists.{from, flat_map}
use Rattle.print_bytes.specs.Emitted.{Left}
use Rattle.print_domain.specs.Actions.{or_text, ors_text}
use Rattle.print_domain.proofs.or_schemas.Given as goal

abbrev pub invariant-loop-i : goal.invariant-loop-i
invariant-loop-i l = (l.i ≤ l.many) × Left (ors_text l.question l.names l.t l.v l.end) l.initial.out l.at (flat_map (or_text l.question l.names l.t l.v l.end) (from l.i (l.many - l.i))) l.out l.next
