-- `call_page::page_lent_in` meets its contract: the case is refused, the steps are too many, or they are run. Assumes nothing.
use native.Mathlib.Omega.{arith}
use Rattle.std.proofs.lemmas.Result.{err_from_is_err_and}
use Rattle.refusal.specs.declared.Cause.TheVariants.{TooLong}
use Rattle.problem_table.specs.Lines.{table_length}
use Rattle.read_sheets.proofs.Loops.{no_label_words}
use Rattle.problem_layout.specs.LaidLaws.{most_zeros}
use Rattle.open_case.specs.Replies.{lent_many, lent_few}
use Rattle.call_page.specs.Pages.{call_case, call_steps}
use borrow.Author.Rules.{rules}
use Rattle.call_page.proofs.page_lent_in.Goals as goal

pub open_usual-requires : goal.open_usual-requires
open_usual-requires c = record { facts_room = (c.requires.0, no_label_words, c.requires.1); table_len = (search rules, most_zeros table_length 0) }

pub returns-in_err-f : goal.returns-in_err-f
returns-in_err-f c =
    let p = err_from_is_err_and c.from_residual.result c.from_residual.ensures.1 in
    rw (p.1, p.2) (call_case _ _ _ _ _ _ _ c.in_err-f.ensures)

pub returns-then-steps-gt-STEPS : goal.returns-then-steps-gt-STEPS
returns-then-steps-gt-STEPS c = rw c.at.ensures (call_steps _ _ _ _ _ _ c.in_ok-f.ensures _ _ _ _ (record { cause = TooLong; place = 0 }) (lent_many _ (omega arith)))

pub returns : goal.returns
returns c = c.page_steps.ensures _ (lent_few _ (omega arith))
