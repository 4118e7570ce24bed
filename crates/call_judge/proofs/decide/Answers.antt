-- `call_judge::decide` meets its contract: 16, 17, yes, each by a law of `Judges`. Assumes nothing.
use Rattle.call_judge.specs.Judges.{decides_kind, decides_yes, decides_no}
use Rattle.call_judge.proofs.decide.Goals as goal

pub returns-then-is_true : goal.returns-then-is_true
returns-then-is_true c = λ d F asks m. decides_yes d F _ _ _ _ _ _ _ _ asks _ (c.test_kinds.ensures _ asks.is) c.in_default.is _ (c.is_true.ensures d F asks.judged m) c.if-is_true.true

pub returns-in-Some : goal.returns-in-Some
returns-in-Some c = λ d F asks m. rw c.at.ensures (decides_kind d F _ _ _ _ _ _ _ _ asks _ (c.test_kinds.ensures _ asks.is) _ c.in-Some.is)

pub returns : goal.returns
returns c = λ d F asks m. rw c.at-2.ensures (decides_no d F _ _ _ _ _ _ _ _ asks _ (c.test_kinds.ensures _ asks.is) c.in_default.is _ (c.is_true.ensures d F asks.judged m) c.if-is_true.false)
