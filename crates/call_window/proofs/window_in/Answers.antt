-- `call_window::window_in` meets its contract: the case is refused, or what it gives is told. Assumes nothing.
use Rattle.std.proofs.Math.Path.{refl}
use Rattle.std.proofs.lemmas.Result.{err_from_is_err_and}
use Rattle.definitions.specs.Limits.{usual}
use Rattle.call_window.specs.Windows.{window_refused}
use Rattle.call_window.proofs.window_in.Goals as goal

pub returns-in_err-o : goal.returns-in_err-o
returns-in_err-o c =
    let p = err_from_is_err_and c.from_residual.result c.from_residual.ensures.1 in
    rw (p.1, p.2) (window_refused usual _ _ _ (c.in_err-o.ensures usual refl))

pub of_case-requires : goal.of_case-requires
of_case-requires c = let (x, e, h) = c.in_ok-o.ensures usual refl in record { case = x; facts = _; holds = h }

pub returns : goal.returns
returns c = c.of_case.ensures _ _ (c.in_ok-o.ensures usual refl)
