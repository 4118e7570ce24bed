-- `call_read::read_listed` meets its contract: the text is refused, or its steps, which the list has room for, are run. Assumes nothing.
use Rattle.std.proofs.lemmas.Result.{err_from_is_err_and}
use native.Mathlib.Omega.{arith}
use mathlib.Core.Path.{sym}
use lib.Seq.{length-take-le}
use Rattle.open_case.specs.Replies.{text_refused, text_taken}
use Rattle.call_read.specs.Reads.{call_steps}
use Rattle.call_read.proofs.read_listed.Goals as goal

pub returns-in_err-count : goal.returns-in_err-count
returns-in_err-count c =
    let p = err_from_is_err_and c.from_residual.result c.from_residual.ensures.1 in
    λ L q site front. rw (p.1, p.2) (call_steps _ _ _ L q site _ _ _ front _ (text_refused _ c.in_err-count.field-0.0 c.in_err-count.ensures))

pub slice_bounds-read_steps-end : goal.slice_bounds-read_steps-end
slice_bounds-read_steps-end c = omega (arith, c.in_ok-count.ensures.3, c.steps.auto.out)

pub slice_bounds-read_steps-end-2 : goal.slice_bounds-read_steps-end-2
slice_bounds-read_steps-end-2 c = sym (length-take-le _ _ (omega (arith, c.in_ok-count.ensures.3, c.steps.auto.out)))

pub returns : goal.returns
returns c = c.read_steps.ensures _ (text_taken _ _ _ _ c.in_ok-count.ensures)
