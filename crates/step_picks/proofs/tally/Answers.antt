use Prim.Native.Nat.{ℕ, ◌+◌, ◌*◌, ◌≤◌}
use mathlib.Core.Path.{◌≡◌}
use native.Mathlib.Omega.{arith}
use native.Mathlib.Nat.{mul-le-mul}
use Rattle.bits.specs.Table.{bit}
use Rattle.step_picks.specs.TestLaws.{count_none, count_next, count_le, num_le}
use Rattle.step_picks.proofs.tally.Goals as goal

pub loop-i-init : goal.loop-i-init
loop-i-init c = (omega arith, count_none (λ (y : ℕ). bit _ _))

pub overflow_mul-i : goal.overflow_mul-i
overflow_mul-i c = let i : c.loop-i.i ≤ 64 = omega arith in omega (arith, mul-le-mul i c.requires.1)

pub overflow_add-start : goal.overflow_add-start
overflow_add-start c = let i : c.loop-i.i ≤ 64 = omega arith in omega (arith, mul-le-mul i c.requires.1)

pub overflow_add-sum : goal.overflow_add-sum
overflow_add-sum c =
    omega (
      arith,
      c.loop-i.invariant.1,
      count_le (λ (y : ℕ). bit c.args.picks.now (c.args.start + y * c.args.stride)) c.loop-i.i,
      c.digit-sum.ensures,
      num_le (bit c.args.picks.now (c.args.start + c.loop-i.i * c.args.stride)),
    )

pub loop-i-preserved : goal.loop-i-preserved
loop-i-preserved c = (omega arith, count_next (λ (y : ℕ). bit _ _) _ _ _ c.loop-i.invariant.1 c.digit-sum.ensures)

pub returns : goal.returns
returns c = let e : c.loop-i.i ≡ c.args.n = omega arith in rw e at c.loop-i.invariant.1
