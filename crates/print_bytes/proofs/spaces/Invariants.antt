-- `print_bytes::spaces` meets its contract. What is left to write are as many spaces as the loop has not passed.
use Rattle.definitions.specs.Reply.Page.{spaces}
use Rattle.print_bytes.specs.Emitted.{Left}
use Rattle.print_bytes.proofs.spaces.Given as goal

abbrev pub invariant-loop-left : goal.invariant-loop-left
invariant-loop-left l = Left (spaces l.count) l.initial.out l.at (spaces l._left) l.out l.next
