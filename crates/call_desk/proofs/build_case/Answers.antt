-- `call_desk::build_case` meets its contract: 11, 12, 16, 17, or the steps built. Assumes nothing.
use Rattle.std.proofs.lemmas.Result.{err_from_is_err_and}
use mathlib.Core.Path.{refl, sym, ◌∙◌}
use native.Mathlib.Omega.{arith}
use lib.Seq.{length-take-le}
use Rattle.step_build.specs.Starts.{front_short}
use Rattle.open_case.specs.Known.{tabled}
use Rattle.call_desk.specs.Known.{own, few_atoms}
use Rattle.call_desk.specs.Planned.{built_fit, picked_reportable, reply_over, reply_long, reply_refused, reply_built}
use Rattle.call_desk.proofs.build_case.Goals as goal

pub returns-in_err-m : goal.returns-in_err-m
returns-in_err-m c =
    let p = err_from_is_err_and c.from_residual.result c.from_residual.ensures.1 in
    λ text F k P. rw (p.1, p.2) (reply_over _ _ _ _ _ _ _ (λ j. omega (arith, c.type_inv.picks j)) c.requires.1 _ _ k P _ c.in_err-m.was, refl)

pub returns-then-m-gt8192 : goal.returns-then-m-gt8192
returns-then-m-gt8192 c = λ text F k P.
    rw c.at.ensures (reply_long _ _ _ _ _ _ _ (λ j. omega (arith, c.type_inv.picks j)) c.requires.1 _ _ k P _ c.in_ok-m.was (omega (arith, c.if-m-gt8192.true)), refl)

pub start_and_build-requires : goal.start_and_build-requires
start_and_build-requires c =
    let k = c.requires.0.known in let t = tabled own _ _ _ k.held.grounded _ c.in_ok-m.was in
    let h = few_atoms _ _ _ _ _ _ k _ c.in_ok-m.was in (t.fits, t.ends ∙ sym t.atoms_are, omega (arith, h), omega (arith, h))

-- the steps built fit
pub slice_bounds-steps-end : goal.slice_bounds-steps-end
slice_bounds-steps-end c =
    let h = built_fit _ _ _ _ _ _ _ (λ j. omega (arith, c.type_inv.picks j)) c.requires.1 c.requires.0 _ c.in_ok-m.was
    (omega (arith, c.if-m-gt8192.false)) _ _ _ _ _
    c.start_and_build.ensures (omega arith) _ c.in_ok-count.was in omega arith

pub slice_bounds-report-end : goal.slice_bounds-report-end
slice_bounds-report-end c = sym (length-take-le _ _ (let h = built_fit _ _ _ _ _ _ _ (λ j. omega (arith, c.type_inv.picks j)) c.requires.1 c.requires.0 _ c.in_ok-m.was (omega (arith, c.if-m-gt8192.false)) _ _ _ _ _ c.start_and_build.ensures (omega arith) _ c.in_ok-count.was in omega arith))

pub report-requires : goal.report-requires
report-requires c = (
  picked_reportable _ _ _ _ _ _ _ (λ j. omega (arith, c.type_inv.picks j)) c.requires.1 c.requires.0 _
      (front_short c.in_ok-count.count _ _ (let h = built_fit _ _ _ _ _ _ _ (λ j. omega (arith, c.type_inv.picks j)) c.requires.1 c.requires.0 _ c.in_ok-m.was (omega (arith, c.if-m-gt8192.false)) _ _ _ _ _ c.start_and_build.ensures (omega arith) _ c.in_ok-count.was in omega arith)),
  c.requires.2,
)

pub returns-in_err-count : goal.returns-in_err-count
returns-in_err-count c =
    let p = err_from_is_err_and c.from_residual-in_err-count.result c.from_residual-in_err-count.ensures.1 in
    λ text F k P. rw (p.1, p.2) (
      reply_refused _ _ _ _ _ _ _ (λ j. omega (arith, c.type_inv.picks j)) c.requires.1 _ _ k P _ c.in_ok-m.was
          (omega (arith, c.if-m-gt8192.false)) _ _ _ _ _ c.start_and_build.ensures (omega arith) _ c.in_err-count.was,
      refl,
    )

pub returns : goal.returns
returns c = λ text F k P.
    reply_built _ _ _ _ _ _ _ (λ j. omega (arith, c.type_inv.picks j)) c.requires.1 _ _ k P _ c.in_ok-m.was
    (omega (arith, c.if-m-gt8192.false)) _ _ _ _ _
    c.start_and_build.ensures (omega arith) _ c.in_ok-count.was _ _ _ c.report.ensures
