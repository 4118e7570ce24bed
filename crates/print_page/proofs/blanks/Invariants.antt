-- `print_page::blanks` meets its contract.
use lib.ListN.{replicate}
use Rattle.definitions.specs.Lists.{flat_map}
use Rattle.definitions.specs.Reply.Page.{ended_line, blank_line}
use Rattle.print_bytes.specs.Emitted.{Left}
use Rattle.print_page.proofs.blanks.Given as goal

abbrev pub invariant-loop-left : goal.invariant-loop-left
invariant-loop-left l = Left (flat_map ended_line (replicate l.count blank_line)) l.initial.out l.at (flat_map ended_line (replicate l._left blank_line)) l.out l.next
