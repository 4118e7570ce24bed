-- `print_plan::objects` meets its contract. Assumes nothing.
use lib.ListN.{drop}
use Rattle.print_bytes.specs.Emitted.{Left}
use Rattle.print_plan.specs.Lines.{objects_text}
use Rattle.print_plan.proofs.objects.Given as goal

abbrev pub invariant-loop-x : goal.invariant-loop-x
invariant-loop-x l = Left (objects_text l.values) l.initial.out l.at (objects_text (drop l.x-index l.values)) l.out l.next
