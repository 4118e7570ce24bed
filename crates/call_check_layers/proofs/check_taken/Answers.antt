-- `call_check_layers::check_taken` meets its contract: each return is a law of `Replies`: 11, 23, 12, or the layers taken. Assumes nothing.
use Rattle.std.proofs.lemmas.Result.{err_from_is_err_and}
use mathlib.Core.Path.{refl, sym}
use native.Mathlib.Omega.{arith}
use lib.Seq.{length-take-le}
use Rattle.open_case.specs.Known.{table_is, atoms_few, words_fit}
use Rattle.call_check_layers.specs.Replies.{call_over, call_every, call_short, call_ran}
use Rattle.call_check_layers.proofs.check_taken.Goals as goal

pub returns-in_err-m : goal.returns-in_err-m
returns-in_err-m c =
    let p = err_from_is_err_and c.from_residual.result c.from_residual.ensures.1 in
    λ L q s opens t. rw (p.1, p.2) (call_over L q s _ _ _ _ _ _ opens t _ c.in_err-m.was)

pub returns-then-f-ne0 : goal.returns-then-f-ne0
returns-then-f-ne0 c = λ L q s opens t. rw c.at.ensures (call_every L q s _ _ _ _ _ _ opens t _ c.in_ok-m.was c.if-f-ne0.true)

pub overflow_add-words : goal.overflow_add-words
overflow_add-words c = let h = c.requires.by_index.1 in omega (arith, h.atoms_few, atoms_few h.limits_are h.case _ _ h.held.grounded _ c.in_ok-m.was)

pub returns-then-state-words : goal.returns-then-state-words
returns-then-state-words c = λ L q s opens t. rw c.at-then-state-words.ensures (call_short L q s _ _ _ _ _ _ opens t _ c.in_ok-m.was c.if-f-ne0.false c.if-state-words.true)

pub slice_bounds-start_and_run_layers-end-2 : goal.slice_bounds-start_and_run_layers-end-2
slice_bounds-start_and_run_layers-end-2 c = sym (length-take-le _ _ (omega arith))

pub start_and_run_layers-e-requires : goal.start_and_run_layers-e-requires
start_and_run_layers-e-requires c = let h = c.requires.by_index.1 in record { grounded = table_is h.limits_are h.case _ _ h.held.grounded _ c.in_ok-m.was; table_in_bounds = words_fit h.limits_are h.case _ _ h.held.grounded _ c.in_ok-m.was _ (sym (length-take-le _ _ (omega arith))); are_ends = c.requires.are_ends }

pub returns : goal.returns
returns c =
    λ L q s opens t.
    call_ran L q s _ _ _ _ _ _ opens t _ c.in_ok-m.was c.if-f-ne0.false (omega arith) _ _ _ _ c.start_and_run_layers-e.ensures refl
    c.reply_of.ensures
