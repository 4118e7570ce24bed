-- `call_read::run_and_copy` meets its contract: the steps reach the goal and the picks are copied, or the ending is a refusal. Assumes nothing.
use Rattle.std.proofs.lemmas.Result.{err_from_is_err_and}
use mathlib.Core.Path.{sym, ap, ◌∙◌}
use Rattle.open_case.specs.Replies.{result_of}
use Rattle.call_read.specs.Reads.{read_done, read_refused}
use Rattle.call_read.proofs.run_and_copy.Goals as goal

pub returns-in_err-i : goal.returns-in_err-i
returns-in_err-i c =
    let p = err_from_is_err_and c.from_residual.result c.from_residual.ensures.1 in
    rw (p.1, p.2) (read_refused _ _ _ _ _ _ _ c.start_and_run-ended.ensures _ (sym c.reply_of.ensures ∙ ap result_of c.in_err-i.was))

pub returns : goal.returns
returns c = read_done _ _ _ _ _ _ _ c.start_and_run-ended.ensures _ _ (sym c.reply_of.ensures ∙ ap result_of c.in_ok-i.was) c.copy_picks.ensures
