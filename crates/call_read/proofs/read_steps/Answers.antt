-- `call_read::read_steps` meets its contract: each return is a law of `Reads`: 11, 12 for picks, 12 for the state, or the steps taken. Assumes nothing.
use Rattle.std.proofs.lemmas.Result.{err_from_is_err_and}
use native.Mathlib.Omega.{arith}
use mathlib.Core.Path.{refl, sym}
use lib.Seq.{length-take-le}
use Rattle.open_case.specs.Known.{tabled, table_is, atoms_few, words_fit}
use Rattle.call_read.specs.Reads.{call_over, call_few_picks, call_few_words, call_ran}
use Rattle.call_read.proofs.read_steps.Goals as goal

pub returns-in_err-m : goal.returns-in_err-m
returns-in_err-m c =
    let p = err_from_is_err_and c.from_residual.result c.from_residual.ensures.1 in
    λ given t L q site front. rw (p.1, p.2) (call_over given _ _ L q site _ _ _ front _ t _ c.in_err-m.was)

pub picks_length-needed-requires : goal.picks_length-needed-requires
picks_length-needed-requires c = let r = c.requires.1 in (tabled r.limits_are r.case _ _ r.held.grounded _ c.in_ok-m.was).fits

pub returns-then-picks-needed : goal.returns-then-picks-needed
returns-then-picks-needed c = λ given t L q site front. rw c.at.ensures (call_few_picks given _ _ L q site _ _ _ front _ t _ c.in_ok-m.was _ c.picks_length-needed.ensures.picks (omega arith))

pub overflow_add-words : goal.overflow_add-words
overflow_add-words c = let r = c.requires.1 in omega (arith, atoms_few r.limits_are r.case _ _ r.held.grounded _ c.in_ok-m.was, r.atoms_few)

pub returns-then-state-words : goal.returns-then-state-words
returns-then-state-words c = λ given t L q site front. rw c.at-then-state-words.ensures (call_few_words given _ _ L q site _ _ _ front _ t _ c.in_ok-m.was _ c.picks_length-needed.ensures.picks (omega arith) (omega arith))

pub slice_bounds-run_and_copy-end-2 : goal.slice_bounds-run_and_copy-end-2
slice_bounds-run_and_copy-end-2 c = sym (length-take-le _ _ (omega arith))

pub run_and_copy-requires : goal.run_and_copy-requires
run_and_copy-requires c = let r = c.requires.1 in let g = r.held.grounded in record { grounded = table_is r.limits_are r.case _ _ g _ c.in_ok-m.was; table_in_bounds = words_fit r.limits_are r.case _ _ g _ c.in_ok-m.was _ (sym (length-take-le _ _ (omega arith))); table_in_bounds_2 = omega (arith, c.picks_length-needed.ensures.lines) }

pub returns : goal.returns
returns c = λ given t L q site front. call_ran given _ _ L q site _ _ _ front _ t _ c.in_ok-m.was _ c.picks_length-needed.ensures.picks (omega arith) (omega arith) _ _ _ _ _ (sym (length-take-le _ _ (omega arith))) c.run_and_copy.ensures refl
