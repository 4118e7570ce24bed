-- `print_domain::set_schemas` meets its contract. Assumes nothing.
use Prim.Native.Nat.{◌-◌, ◌≤◌}
use lib.ListN.{get_or}
use Rattle.definitions.specs.Lists.{from, flat_map}
use Rattle.print_bytes.specs.Emitted.{Left}
use Rattle.print_domain.specs.Texts.{set_if, sets_text}
use Rattle.print_domain.proofs.set_schemas.Given as goal

abbrev pub invariant-loop-r : goal.invariant-loop-r
invariant-loop-r l = (l.r ≤ l.g.count) × Left (sets_text l.question l.names l.g) l.initial.out l.at (flat_map (λ i. set_if l.question l.names i (get_or l.g.arity i 0) (get_or l.g.kind i 0)) (from l.r (l.g.count - l.r))) l.out l.next
