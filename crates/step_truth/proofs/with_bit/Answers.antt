use Rattle.step_truth.specs.WordLaws.{with_yes, with_no}
use Rattle.step_truth.proofs.with_bit.Goals as goal

pub returns-then-b : goal.returns-then-b
returns-then-b c = λ k h. with_yes _ _ _ k _ c.if-b.true (c.single.ensures k h)

pub returns : goal.returns
returns c = λ k h. with_no _ _ k _ c.if-b.false
