-- `print_instance::tuples` meets its contract. Assumes nothing.
use Prim.Native.Nat.{◌-◌, ◌≤◌}
use Rattle.definitions.specs.Lists.{from, flat_map}
use Rattle.print_bytes.specs.Emitted.{Left}
use Rattle.print_instance.specs.Texts.{run_text, tuples_text}
use Rattle.print_instance.proofs.tuples.Given as goal

abbrev pub invariant-loop-before : goal.invariant-loop-before
invariant-loop-before l = (l.before ≤ l.runs) × Left (tuples_text l.question l.names l.facts l.k) l.initial.out l.at (flat_map (run_text l.question l.names l.facts l.k) (from l.before (l.runs - l.before))) l.out l.next
