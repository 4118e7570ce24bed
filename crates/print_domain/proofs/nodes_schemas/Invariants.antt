-- `print_domain::nodes_schemas` meets its contract. Assumes nothing.
use Prim.Native.Nat.{◌-◌, ◌≤◌}
use Rattle.definitions.specs.Lists.{from, flat_map}
use Rattle.print_bytes.specs.Emitted.{Left}
use Rattle.print_domain.specs.Actions.{node_text, nodes_text}
use Rattle.print_domain.proofs.nodes_schemas.Given as goal

abbrev pub invariant-loop-v : goal.invariant-loop-v
invariant-loop-v l = (l.v ≤ l.t.count) × Left (nodes_text l.question l.names l.t l.end) l.initial.out l.at (flat_map (λ i. node_text l.question l.names l.t i l.end) (from l.v (l.t.count - l.v))) l.out l.next
