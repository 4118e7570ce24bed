-- `call_page::page_text_with` meets its contract: the case is refused, or its steps are read into the list. Assumes nothing.
use Rattle.std.proofs.lemmas.Result.{err_from_is_err_and}
use Rattle.problem_table.specs.Lines.{table_length}
use Rattle.read_sheets.proofs.Loops.{no_label_words}
use Rattle.problem_layout.specs.LaidLaws.{most_zeros}
use Rattle.call_page.specs.Pages.{call_case}
use borrow.Author.Rules.{rules}
use Rattle.call_page.proofs.page_text_with.Goals as goal

pub open_usual-requires : goal.open_usual-requires
open_usual-requires c = record { facts_room = (c.requires.facts_room.0, no_label_words, c.requires.facts_room.1); table_len = (search rules, most_zeros table_length 0) }

pub returns-in_err-f : goal.returns-in_err-f
returns-in_err-f c =
    let p = err_from_is_err_and c.from_residual.result c.from_residual.ensures.1 in
    rw (p.1, p.2) (call_case _ _ _ _ _ _ _ c.in_err-f.ensures)

pub page_listed-requires : goal.page_listed-requires
page_listed-requires c = record { filed = c.in_ok-f.ensures; room_for = c.requires.room_for }
