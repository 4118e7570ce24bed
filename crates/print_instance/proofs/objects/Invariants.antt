-- `print_instance::objects` meets its contract. Assumes nothing.
use Prim.Native.Nat.{◌-◌}
use mathlib.Core.List.{map}
use Rattle.definitions.specs.Lists.{from}
use Rattle.definitions.specs.Sheet.Formula.{write_each}
use Rattle.definitions.specs.Reply.Pddl.{object_word}
use Rattle.print_bytes.specs.Emitted.{Left}
use Rattle.print_instance.proofs.objects.Given as goal

abbrev pub invariant-loop-x : goal.invariant-loop-x
invariant-loop-x l = Left (write_each (λ v. v) (map object_word (from 1 (l.n - 2)))) l.initial.out l.at (write_each (λ v. v) (map object_word (from l.x (l.n - 1 - l.x)))) l.out l.next
