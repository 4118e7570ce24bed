-- `open_tries::try_list` meets its contract: each way out is a law of `Laws`. Assumes nothing.
use mathlib.Core.Path.{◌∙◌}
use native.Mathlib.Omega.{arith}
use Rattle.open_tries.specs.Laws.{list_long, list_outside, list_ran}
use Rattle.open_tries.proofs.try_list.Goals as goal

pub returns-then-length-gt-STEPS : goal.returns-then-length-gt-STEPS
returns-then-length-gt-STEPS c = λ p s. rw c.at.ensures (list_long p _ _ _ (omega arith))

pub returns-then-steps-end : goal.returns-then-steps-end
returns-then-steps-end c = λ p s. rw c.at-then-steps-end.ensures (list_outside p _ _ _ (omega arith) (omega arith))

pub run_copy-requires : goal.run_copy-requires
run_copy-requires c = (c.requires, omega arith)

pub returns-then-words-le-FEW : goal.returns-then-words-le-FEW
returns-then-words-le-FEW c = λ p serves. c.run_copy.ensures p serves ∙ list_ran p _ _ _ (omega arith) (omega arith)

pub run_copy-requires-then-words-le-MANY : goal.run_copy-requires-then-words-le-MANY
run_copy-requires-then-words-le-MANY c = (c.requires, omega arith)

pub returns-then-words-le-MANY : goal.returns-then-words-le-MANY
returns-then-words-le-MANY c = λ p serves. c.run_copy-then-words-le-MANY.ensures p serves ∙ list_ran p _ _ _ (omega arith) (omega arith)

pub run_copy-requires-2 : goal.run_copy-requires-2
run_copy-requires-2 c = let ready = c.requires in (ready, omega (arith, ready.few))

pub returns : goal.returns
returns c = λ p serves. c.run_copy-2.ensures p serves ∙ list_ran p _ _ _ (omega arith) (omega arith)
