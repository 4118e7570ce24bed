use Rattle.std.proofs.lemmas.Result.{err_from_is_err_and}
use mathlib.Core.Path.{refl}
use native.Mathlib.Omega.{arith}
use Rattle.definitions.specs.Limits.{usual}
use Rattle.call_find.specs.Finds.{ends_case, accepted_in}
use Rattle.call_find.proofs.find_in.Goals as goal

pub returns-in_err-o : goal.returns-in_err-o
returns-in_err-o c =
    let p = err_from_is_err_and c.from_residual.result c.from_residual.ensures.1 in
    rw (p.1, p.2) (ends_case usual _ _ _ _ (c.in_err-o.ensures usual refl))

pub find_case-requires : goal.find_case-requires
find_case-requires c = accepted_in _ _ _ c.args.picks.now _ _ (c.in_ok-o.ensures usual refl) (omega arith)

pub returns : goal.returns
returns c = c.find_case.ensures _ (c.in_ok-o.ensures usual refl)
