-- `call_sizes::sizes` meets its contract: the tally's refusal, or what is within the limits. Assumes nothing.
use Rattle.std.proofs.lemmas.Result.{err_from_is_err_and}
use Rattle.call_sizes.specs.Sizings.{sizes_refused, sizes_counted}
use Rattle.call_sizes.proofs.sizes.Goals as goal

pub returns-in_err-tally : goal.returns-in_err-tally
returns-in_err-tally c =
    let p = err_from_is_err_and c.from_residual.result c.from_residual.ensures.1 in
    rw (p.1, p.2) (sizes_refused _ _ _ _ c.in_err-tally.ensures)

pub returns : goal.returns
returns c = sizes_counted _ _ _ _ c.in_ok-tally.ensures _ c.limited.ensures
