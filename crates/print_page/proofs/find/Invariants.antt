-- `print_page::find` meets its contract.
use mathlib.Core.Path.{◌≡◌}
use mathlib.Core.List.{List}
use Prim.Native.Nat.{ℕ, ◌≤◌}
use lib.ListN.{length}
use Rattle.definitions.specs.Sheet.Sheets.{Label}
use Rattle.definitions.specs.Problem.Atoms.{Problem}
use Rattle.definitions.specs.Reply.Desk.{said}
use Rattle.print_line.specs.Lines.{said_by}
use Rattle.problem_table.specs.Of.{Is}
use Rattle.print_page.specs.Elements.{NamesAre}
use Rattle.print_page.specs.Bodies.{Before}
use Rattle.print_page.proofs.find.Given as goal

abbrev pub invariant-loop-index : goal.invariant-loop-index
invariant-loop-index l = (l.index ≤ length l.steps) × (l.line ≤ l.first) × ((p : Problem) (ls : List Label)
    (question : List ℕ) → Is p l.table → NamesAre p question l.names → said_by l.site l.labels ≡ said ls → Before ls p l.steps l.index l.line)
