-- `call_desk::check` meets its contract: the case is refused, the steps are, or they are run. Assumes nothing.
use Rattle.std.proofs.lemmas.Result.{err_from_is_err_and}
use mathlib.Core.Path.{refl}
use Rattle.std.specs.Prelude.{[], Err}
use Rattle.problem_layout.specs.LaidLaws.{most_zeros}
use Rattle.problem_table.specs.Lines.{table_length}
use Rattle.read_sheets.proofs.Loops.{zeros_clear, no_label_words}
use Rattle.open_case.specs.Fronts.{filed_alone}
use Rattle.open_case.specs.Rooms.{few_room}
use Rattle.open_case.specs.Replies.{text_refused, text_taken}
use Rattle.call_desk.specs.Known.{own, case_known}
use Rattle.call_desk.specs.Checked.{checked_refused, text_fault, steps_few}
use borrow.Author.Rules.{rules}
use Rattle.call_desk.proofs.check.Goals as goal

pub open_early-requires : goal.open_early-requires
open_early-requires c = record { facts_room = (few_room _, no_label_words, zeros_clear 512); table_len = (search rules, most_zeros table_length 0) }

pub returns-in_err-f : goal.returns-in_err-f
returns-in_err-f c =
    let p = err_from_is_err_and c.from_residual.result c.from_residual.ensures.1 in
    rw (p.1, p.2) (checked_refused _ _ _ _ _ (filed_alone own _ _ (Err _) [] [] [] c.in_err-f.ensures), refl)

pub returns-in_err-count : goal.returns-in_err-count
returns-in_err-count c =
    let p = err_from_is_err_and c.from_residual-in_err-count.result c.from_residual-in_err-count.ensures.1 in
    rw (p.1, p.2) (text_fault _ _ _ _ _ _ (case_known _ _ _ _ _ _ c.in_ok-f.ensures) _ _ _ (text_refused _ c.in_err-count.field-0.0 c.in_err-count.ensures), refl)

pub check_case-requires : goal.check_case-requires
check_case-requires c =
    let s = c.requires in
    (case_known _ _ _ _ _ _ c.in_ok-f.ensures, steps_few _ _ (text_taken _ _ _ _ c.in_ok-count.ensures) s.0, s.1)

pub returns : goal.returns
returns c = c.check_case.ensures _ (text_taken _ _ _ _ c.in_ok-count.ensures)
