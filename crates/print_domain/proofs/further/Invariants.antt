-- `print_domain::further` meets its contract. Assumes nothing.
use Prim.Native.Nat.{◌-◌, ◌≤◌}
use Rattle.definitions.specs.Lists.{from}
use Rattle.definitions.specs.Sheet.Formula.{write_each}
use Rattle.definitions.specs.Reply.Pddl.{parameter_word}
use Rattle.print_bytes.specs.Emitted.{Left}
use Rattle.print_domain.proofs.further.Given as goal

abbrev pub invariant-loop-i : goal.invariant-loop-i
invariant-loop-i l = (l.i ≤ 7) × Left (write_each parameter_word (from 1 (l.count - 1))) l.initial.out l.at (write_each parameter_word (from l.i (l.count - l.i))) l.out l.next
