-- `print_page::following` meets its contract.
use mathlib.Core.Path.{◌≡◌}
use mathlib.Core.List.{List}
use lib.ListN.{length}
use Rattle.definitions.specs.Lists.{flat_map}
use Rattle.definitions.specs.Sheet.Sheets.{Label}
use Rattle.definitions.specs.Problem.Atoms.{Problem}
use Rattle.definitions.specs.Reply.Desk.{said}
use Rattle.definitions.specs.Reply.Page.{ended_line}
use Rattle.print_line.specs.Lines.{said_by}
use Rattle.problem_table.specs.Of.{Is}
use Rattle.print_bytes.specs.Emitted.{Left}
use Rattle.print_page.specs.Elements.{NamesAre}
use Rattle.print_page.specs.Bodies.{rest_from}
use Rattle.print_page.proofs.following.Given as goal

abbrev pub invariant-loop-i : goal.invariant-loop-i
invariant-loop-i l = (length l.out ≡ length l.initial.out) ×
    ((p : Problem) (ls : List Label) → Is p l.table → NamesAre p l.question l.names → said_by l.site l.labels ≡ said ls → Left (flat_map ended_line (rest_from ls p l.steps l.from)) l.initial.out l.at
    (flat_map ended_line (rest_from ls p l.steps l.i)) l.out l.next)
