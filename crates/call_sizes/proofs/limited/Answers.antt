-- `call_sizes::limited` meets its contract: 11 or 23, or the counts. Assumes nothing.
use Rattle.std.proofs.lemmas.Result.{err_from_is_err_and}
use Rattle.definitions.specs.Limits.{usual}
use Rattle.call_sizes.specs.Sizings.{sizes_over, sizes_within}
use Rattle.call_sizes.proofs.limited.Goals as goal

pub returns-in_err-within : goal.returns-in_err-within
returns-in_err-within c =
    let p = err_from_is_err_and c.from_residual.result c.from_residual.ensures.1 in
    rw (p.1, p.2) (sizes_over usual _ _ c.usual_limits.ensures _ c.in_err-within.ensures)

pub returns : goal.returns
returns c = sizes_within usual _ _ c.usual_limits.ensures c.in_ok-within.ensures
