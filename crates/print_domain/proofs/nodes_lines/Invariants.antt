-- `print_domain::nodes_lines` meets its contract. Assumes nothing.
use Prim.Native.Nat.{◌-◌, ◌≤◌}
use Rattle.definitions.specs.Lists.{from, flat_map}
use Rattle.print_bytes.specs.Emitted.{Left}
use Rattle.print_domain.specs.Texts.{node_line, nodes_lines}
use Rattle.print_domain.proofs.nodes_lines.Given as goal

abbrev pub invariant-loop-v : goal.invariant-loop-v
invariant-loop-v l = (l.v ≤ l.t.count) × Left (nodes_lines l.question l.names l.t) l.initial.out l.at (flat_map (node_line l.question l.names l.t) (from l.v (l.t.count - l.v))) l.out l.next
