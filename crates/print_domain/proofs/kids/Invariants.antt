-- `print_domain::kids` meets its contract. Assumes nothing.
use Prim.Native.Nat.{◌-◌, ◌≤◌}
use Rattle.definitions.specs.Lists.{from, below, flat_map}
use Rattle.print_bytes.specs.Emitted.{Left}
use Rattle.print_domain.specs.Actions.{row_at, kid_text}
use Rattle.print_domain.proofs.kids.Given as goal

abbrev pub invariant-loop-k : goal.invariant-loop-k
invariant-loop-k l = (l.k ≤ l.many) × Left (flat_map (kid_text l.question l.names l.t l.v l.end) (below (row_at l.t l.v).many)) l.initial.out l.at (flat_map (kid_text l.question l.names l.t l.v l.end) (from l.k (l.many - l.k))) l.out l.next
