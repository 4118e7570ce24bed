-- `call_page::page_steps` meets its contract: each return is a law of `Pages`: 11, 12 for the state, 12 for the page, or the steps run. Assumes nothing.
use native.Mathlib.Omega.{arith}
use Rattle.std.proofs.lemmas.Result.{err_from_is_err_and}
use mathlib.Core.Path.{refl, sym}
use lib.Seq.{length-take-le}
use Rattle.call_page.specs.Pages.{call_over, few_atoms, words_enough, printable, call_few_words, call_few_bytes, call_laid}
use Rattle.call_page.proofs.page_steps.Goals as goal

pub returns-in_err-m : goal.returns-in_err-m
returns-in_err-m c =
    let p = err_from_is_err_and c.from_residual.result c.from_residual.ensures.1 in
    λ given t. rw (p.1, p.2) (call_over _ _ _ _ _ _ c.requires _ c.in_err-m.was given _ _ _ _ t)

pub overflow_add-words : goal.overflow_add-words
overflow_add-words c = omega (arith, few_atoms _ _ _ _ _ _ c.requires _ c.in_ok-m.was)

pub returns-then-state-words : goal.returns-then-state-words
returns-then-state-words c = λ given t. rw c.at.ensures (call_few_words _ _ _ _ _ _ c.requires _ c.in_ok-m.was given _ _ _ _ t (omega arith))

pub returns-then-out-lt-PAGE : goal.returns-then-out-lt-PAGE
returns-then-out-lt-PAGE c = λ given t. rw c.at-then-out-lt-PAGE.ensures (call_few_bytes _ _ _ _ _ _ c.requires _ c.in_ok-m.was given _ _ _ _ t (omega arith) (omega arith))

pub slice_bounds-run_and_lay-end-2 : goal.slice_bounds-run_and_lay-end-2
slice_bounds-run_and_lay-end-2 c = sym (length-take-le _ _ (omega arith))

pub run_and_lay-requires : goal.run_and_lay-requires
run_and_lay-requires c = record { printable = printable _ _ _ _ _ _ c.requires _ c.in_ok-m.was; table_in_bounds = (words_enough _ _ _ _ _ _ c.requires _ c.in_ok-m.was _ (sym (length-take-le _ _ (omega arith))), omega arith) }

pub returns : goal.returns
returns c = λ given t. call_laid _ _ _ _ _ _ c.requires _ c.in_ok-m.was given _ _ _ _ t (omega (arith, c.if-state-words.false)) (omega (arith, c.if-out-lt-PAGE.false)) _ _ _ _ _ (sym (length-take-le _ _ (omega (arith, c.if-state-words.false)))) c.run_and_lay.ensures refl
