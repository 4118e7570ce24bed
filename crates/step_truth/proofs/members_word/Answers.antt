use Rattle.step_truth.specs.WordLaws.{some_none, some_next, some_all, members_any}
use mathlib.Core.Path.{◌∙◌}
use native.Mathlib.Omega.{arith}
use Rattle.step_truth.proofs.members_word.Goals as goal

pub loop-i-init : goal.loop-i-init
loop-i-init c = (omega arith, λ k h. some_none _ k _)

pub loop-i-preserved : goal.loop-i-preserved
loop-i-preserved c = (omega arith, λ k h. some_next _ _ _ _ _ k _ (omega arith) (c.single-w.ensures k h) (c.loop-i.invariant.1 k h))

pub returns : goal.returns
returns c = λ k h. some_all _ _ _ _ k _ (omega arith) (c.loop-i.invariant.1 k h) ∙ members_any _ _ _ k
