-- `print_line::elements` meets its contract. What is left to print are the places that the loop has not passed; `width` is the weight of the last of those that it has.
use Prim.Native.Nat.{◌^◌}
use mathlib.Core.Path.{◌≡◌}
use Rattle.definitions.specs.Problem.Atoms.{places_of}
use Rattle.print_line.specs.Printed.{Left}
use Rattle.print_line.specs.Lines.{elements}
use Rattle.print_line.proofs.elements.Given as goal

abbrev pub invariant-loop-left : goal.invariant-loop-left
invariant-loop-left l = (l.width ≡ l.n ^ l._left) × Left (elements l.site l.labels (places_of l.n l.arity l.row)) l.initial.out l.at (elements l.site l.labels (places_of l.n l._left l.row)) l.out l.next
