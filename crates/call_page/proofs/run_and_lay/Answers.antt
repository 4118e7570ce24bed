-- `call_page::run_and_lay` meets its contract: the steps reach the goal and the page is laid out, or the ending is a refusal. Assumes nothing.
use mathlib.Core.Path.{sym}
use Rattle.std.proofs.lemmas.Result.{err_from_is_err_and}
use Rattle.call_page.specs.Pages.{after_goal, after_refused}
use Rattle.call_page.proofs.run_and_lay.Goals as goal

pub returns-in_err-reply_of : goal.returns-in_err-reply_of
returns-in_err-reply_of c =
    let p = err_from_is_err_and c.from_residual.result c.from_residual.ensures.1 in
    rw (p.1, p.2) (after_refused _ _ _ _ _ _ _ _ _ _ _ _ c.start_and_run-e.ensures _ (sym c.in_err-reply_of.ensures))

pub returns : goal.returns
returns c = after_goal _ _ _ _ _ _ _ _ _ _ _ _ c.start_and_run-e.ensures _ (sym c.in_ok-reply_of.ensures) _ _ c.lay_page.ensures
