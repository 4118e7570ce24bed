-- `call_check::check_steps` meets its contract: each return is a law of `Replies`: 11, 12, or the steps taken. Assumes nothing.
use mathlib.Core.Path.{refl, sym}
use native.Mathlib.Omega.{arith}
use lib.Seq.{length-take-le}
use Rattle.std.proofs.lemmas.Result.{err_from_is_err_and}
use Rattle.open_case.specs.Known.{table_is, atoms_few, words_fit}
use Rattle.call_check.specs.Replies.{call_over, call_short, call_ran}
use Rattle.call_check.proofs.check_steps.Goals as goal

pub returns-in_err-m : goal.returns-in_err-m
returns-in_err-m c =
    let p = err_from_is_err_and c.from_residual.result c.from_residual.ensures.1 in
    λ L q s g opens t. rw (p.1, p.2) (call_over L q s g _ _ _ _ opens _ t _ c.in_err-m.was)

pub overflow_add-words : goal.overflow_add-words
overflow_add-words c = let h = c.requires.1 in omega (arith, h.atoms_few, atoms_few h.limits_are h.case _ _ h.held.grounded _ c.in_ok-m.was)

pub returns-then-state-words : goal.returns-then-state-words
returns-then-state-words c = λ L q s g opens t. rw c.at.ensures (call_short L q s g _ _ _ _ opens _ t _ c.in_ok-m.was c.if-state-words.true)

pub slice_bounds-start_and_run-end-2 : goal.slice_bounds-start_and_run-end-2
slice_bounds-start_and_run-end-2 c = sym (length-take-le _ _ (omega arith))

pub start_and_run-e-requires : goal.start_and_run-e-requires
start_and_run-e-requires c = let h = c.requires.1 in let o = c.in_ok-m.was in record { grounded = table_is h.limits_are h.case _ _ h.held.grounded _ o; table_in_bounds = words_fit h.limits_are h.case _ _ h.held.grounded _ o _ (sym (length-take-le _ _ (omega arith))) }

pub returns : goal.returns
returns c = λ L q s g opens t. call_ran L q s g _ _ _ _ opens _ t _ c.in_ok-m.was (omega arith) _ _ _ _ c.start_and_run-e.ensures refl c.reply_of.ensures
