-- `print_instance::run` meets its contract. Assumes nothing.
use Prim.Native.Nat.{◌+◌, ◌*◌, ◌-◌, ◌≤◌}
use Rattle.definitions.specs.Lists.{from, flat_map}
use Rattle.print_bytes.specs.Emitted.{Left}
use Rattle.print_instance.specs.Texts.{row_text}
use Rattle.print_instance.proofs.run.Given as goal

abbrev pub invariant-loop-z : goal.invariant-loop-z
invariant-loop-z l = (l.z ≤ l.k.n) × Left (flat_map (row_text l.question l.names l.facts l.k) (from (l.before * l.k.n) l.k.n)) l.initial.out l.at (flat_map (row_text l.question l.names l.facts l.k) (from (l.before * l.k.n + l.z) (l.k.n - l.z))) l.out l.next
