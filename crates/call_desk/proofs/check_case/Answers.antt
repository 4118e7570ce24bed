-- `call_desk::check_case` meets its contract: 11, a run that ends early, or the picks copied from the state. Assumes nothing.
use Rattle.std.proofs.lemmas.Result.{err_from_is_err_and}
use mathlib.Core.Path.{refl, sym, ap, ◌∙◌}
use Rattle.open_case.specs.Replies.{result_of}
use native.Mathlib.Omega.{arith}
use lib.Seq.{length-take-le}
use Rattle.open_case.specs.Known.{tabled, table_is, words_fit}
use Rattle.step_build.specs.Starts.{front_fits}
use Rattle.call_desk.specs.Known.{own, few_atoms}
use Rattle.call_desk.specs.Checked.{picks_fit, done_reportable, reply_over, reply_done, reply_ended}
use Rattle.call_desk.proofs.check_case.Goals as goal

pub returns-in_err-m : goal.returns-in_err-m
returns-in_err-m c =
    let p = err_from_is_err_and c.from_residual.result c.from_residual.ensures.1 in
    λ text t. rw (p.1, p.2) (reply_over _ _ _ _ _ _ c.requires.0 _ _ t _ c.in_err-m.was, refl)

pub overflow_add-words : goal.overflow_add-words
overflow_add-words c = omega (arith, few_atoms _ _ _ _ _ _ c.requires.0 _ c.in_ok-m.was)

-- the state has room for the atoms, before the run and after it
pub slice_bounds-state-end : goal.slice_bounds-state-end
slice_bounds-state-end c = omega (arith, few_atoms _ _ _ _ _ _ c.requires.0 _ c.in_ok-m.was)

pub slice_bounds-start_and_run-end : goal.slice_bounds-start_and_run-end
slice_bounds-start_and_run-end c = sym (length-take-le _ _ (omega (arith, few_atoms _ _ _ _ _ _ c.requires.0 _ c.in_ok-m.was)))

pub start_and_run-ended-requires : goal.start_and_run-ended-requires
start_and_run-ended-requires c = let g = c.requires.0.held.grounded in record { grounded = table_is own _ _ _ g _ c.in_ok-m.was; table_in_bounds = words_fit own _ _ _ g _ c.in_ok-m.was _ (sym (length-take-le _ _ (omega (arith, few_atoms _ _ _ _ _ _ c.requires.0 _ c.in_ok-m.was)))) }

pub slice_bounds-state-end-2 : goal.slice_bounds-state-end-2
slice_bounds-state-end-2 c = let x = c.start_and_run-ended in front_fits _ _ x.new.state x.auto.state (omega (arith, few_atoms _ _ _ _ _ _ c.requires.0 _ c.in_ok-m.was))

pub slice_bounds-copy_picks-end : goal.slice_bounds-copy_picks-end
slice_bounds-copy_picks-end c = sym (length-take-le _ _ (let x = c.start_and_run-ended in front_fits _ _ x.new.state x.auto.state (omega (arith, few_atoms _ _ _ _ _ _ c.requires.0 _ c.in_ok-m.was))))

pub copy_picks-requires : goal.copy_picks-requires
copy_picks-requires c = let k = c.requires.0 in record { fits = (tabled own _ _ _ k.held.grounded _ c.in_ok-m.was).fits; table_in_bounds = picks_fit _ _ _ _ _ _ k _ c.in_ok-m.was }

pub returns-in_err-reply_of : goal.returns-in_err-reply_of
returns-in_err-reply_of c =
    let p = err_from_is_err_and c.from_residual-in_err-reply_of.result c.from_residual-in_err-reply_of.ensures.1 in
    λ text t. rw (p.1, p.2) (
      reply_ended _ _ _ _ _ _ c.requires.0 _ _ c.in_ok-m.was _ _ _ (sym (length-take-le _ _ (omega (arith, few_atoms _ _ _ _ _ _ c.requires.0 _ c.in_ok-m.was)))) c.start_and_run-ended.ensures _ t _
          (sym c.reply_of.ensures ∙ ap result_of c.in_err-reply_of.was),
      refl,
    )

pub report-requires : goal.report-requires
report-requires c =
    let s = c.requires in
    let k = c.copy_picks.ensures in (
      done_reportable _ _ _ _ _ _ s.0 _ _ c.in_ok-m.was _ _ _ (sym (length-take-le _ _ (omega (arith, few_atoms _ _ _ _ _ _ c.requires.0 _ c.in_ok-m.was)))) c.start_and_run-ended.ensures _
          (sym c.reply_of.ensures ∙ ap result_of c.in_ok-reply_of.was) _ _ _ k s.1 (omega arith),
      s.2,
    )

pub returns : goal.returns
returns c = λ text t.
    reply_done _ _ _ _ _ _ c.requires.0 _ _ c.in_ok-m.was _ _ _ (sym (length-take-le _ _ (omega (arith, few_atoms _ _ _ _ _ _ c.requires.0 _ c.in_ok-m.was)))) c.start_and_run-ended.ensures _ t _
    (sym c.reply_of.ensures ∙ ap result_of c.in_ok-reply_of.was) _ _ _ c.copy_picks.ensures _ _ _ c.report.ensures
