-- `call_judge::judge_lent_in` meets its contract: the case is refused, or the lent words are judged. Assumes nothing.
use Rattle.std.proofs.lemmas.Result.{err_from_is_err_and}
use mathlib.Core.Path.{refl}
use Rattle.definitions.specs.Limits.{usual}
use Rattle.call_judge.specs.Calls.{accepted_in, call_case, call_lent}
use Rattle.call_judge.proofs.judge_lent_in.Goals as goal

pub returns-in_err-o : goal.returns-in_err-o
returns-in_err-o c =
    let p = err_from_is_err_and c.from_residual.result c.from_residual.ensures.1 in
    rw (p.1, p.2) (call_case _ _ _ _ (c.in_err-o.ensures usual refl))

pub judge_case-requires : goal.judge_case-requires
judge_case-requires c = accepted_in _ _ _ _ (c.in_ok-o.ensures usual refl)

pub returns : goal.returns
returns c = call_lent _ _ _ _ (c.in_ok-o.ensures usual refl) _ _ c.judge_case.ensures
