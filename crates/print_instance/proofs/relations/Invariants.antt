-- `print_instance::relations` meets its contract. Assumes nothing.
use Prim.Native.Nat.{◌-◌, ◌≤◌}
use mathlib.Core.Path.{◌≡◌}
use Rattle.definitions.specs.Lists.{from, flat_map}
use Rattle.print_bytes.specs.Emitted.{Left}
use Rattle.print_instance.specs.Texts.{first_of, relation_text, relations_text, known_at}
use Rattle.print_instance.proofs.relations.Given as goal

abbrev pub invariant-loop-r : goal.invariant-loop-r
invariant-loop-r l = (l.r ≤ l.g.count) × (l.first ≡ first_of l.n l.g l.r) × Left (relations_text l.question l.names l.facts l.n l.g) l.initial.out l.at (flat_map (λ i. relation_text l.question l.names l.facts (known_at l.n l.g i)) (from l.r (l.g.count - l.r))) l.out l.next
