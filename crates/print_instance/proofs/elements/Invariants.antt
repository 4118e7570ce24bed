-- `print_instance::elements` meets its contract. Assumes nothing.
use Prim.Native.Nat.{◌-◌, ◌≤◌}
use Rattle.definitions.specs.Lists.{from, below, flat_map}
use Rattle.print_bytes.specs.Emitted.{Left}
use Rattle.print_instance.specs.Texts.{elements_text}
use Rattle.print_instance.proofs.elements.Given as goal

abbrev pub invariant-loop-x : goal.invariant-loop-x
invariant-loop-x l = (l.x ≤ l.n) × Left (flat_map (elements_text l.question l.names l.w) (below l.n)) l.initial.out l.at (flat_map (elements_text l.question l.names l.w) (from l.x (l.n - l.x))) l.out l.next
