-- `call_plan::plan_listed` meets its contract. Assumes nothing.
use native.Mathlib.Omega.{arith}
use Rattle.std.proofs.lemmas.Result.{err_from_is_err_and}
use Rattle.open_case.specs.Replies.{text_refused, text_taken}
use Rattle.call_plan.specs.Written.{planned_steps}
use Rattle.call_plan.proofs.plan_listed.Goals as goal

pub returns-in_err-count : goal.returns-in_err-count
returns-in_err-count c =
    let p = err_from_is_err_and c.from_residual.result c.from_residual.ensures.1 in
    λ site facts its. rw (p.1, p.2) (planned_steps _ site _ facts _ its _ _ _ (text_refused _ c.in_err-count.field-0.0 c.in_err-count.ensures))

pub slice_bounds-plan_steps-end : goal.slice_bounds-plan_steps-end
slice_bounds-plan_steps-end c = omega (arith, c.in_ok-count.ensures.3, c.steps.auto.out)

pub returns : goal.returns
returns c = λ site facts its. c.plan_steps.ensures site facts _ its (text_taken _ _ _ _ c.in_ok-count.ensures)
