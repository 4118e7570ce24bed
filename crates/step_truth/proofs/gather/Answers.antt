use Rattle.step_truth.specs.WordLaws.{gather_none, gather_next, gather_all, far}
use native.Mathlib.Omega.{arith}
use Rattle.step_truth.proofs.gather.Goals as goal

pub loop-x-init : goal.loop-x-init
loop-x-init c = (omega arith, λ k h. gather_none _ _ _ k)

pub overflow_mul-x : goal.overflow_mul-x
overflow_mul-x c = omega (arith, far c.loop-x.x _ (omega arith) c.requires.1)

pub overflow_add-start : goal.overflow_add-start
overflow_add-start c = omega (arith, far c.loop-x.x _ (omega arith) c.requires.1, c.requires.0)

pub loop-x-preserved : goal.loop-x-preserved
loop-x-preserved c = (omega arith, λ k h. gather_next _ _ _ _ _ _ k _ (c.loop-x.invariant.1 k h) c.test-b.ensures (c.with_bit-w.ensures k h))

pub returns : goal.returns
returns c = λ k h. gather_all _ _ _ _ _ c.loop-x.x k h (omega arith) (c.loop-x.invariant.1 k (omega arith))
