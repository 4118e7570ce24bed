-- `call_check::check_listed` meets its contract: the text is refused, or its steps, which the list has room for, are run. Assumes nothing.
use native.Mathlib.Omega.{arith}
use Rattle.std.proofs.lemmas.Result.{err_from_is_err_and}
use Rattle.open_case.specs.Replies.{text_refused, text_taken}
use Rattle.call_check.specs.Replies.{call_steps}
use Rattle.call_check.proofs.check_listed.Goals as goal

pub returns-in_err-count : goal.returns-in_err-count
returns-in_err-count c =
    let p = err_from_is_err_and c.from_residual.result c.from_residual.ensures.1 in
    λ L q s opens. rw (p.1, p.2) (call_steps L q s _ _ _ _ _ opens _ (text_refused _ c.in_err-count.field-0.0 c.in_err-count.ensures))

pub slice_bounds-check_steps-end : goal.slice_bounds-check_steps-end
slice_bounds-check_steps-end c = omega (arith, c.in_ok-count.ensures.3, c.steps.auto.out)

pub returns : goal.returns
returns c = λ L q s opens. c.check_steps.ensures L q s _ opens (text_taken _ _ _ _ c.in_ok-count.ensures)
