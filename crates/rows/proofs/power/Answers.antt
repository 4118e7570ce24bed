use Prim.Native.Nat.{ℕ, ◌^◌}
use mathlib.Core.Path.{◌≡◌, ap, ◌∙◌}
use native.Mathlib.Omega.{arith}
use Rattle.rows.specs.Laws.{pow_first, pow_next, pow_below}
use Rattle.rows.proofs.power.Goals as goal

pub loop-i-init : goal.loop-i-init
loop-i-init c = (omega arith, pow_first c.args.n)

pub overflow_mul-r : goal.overflow_mul-r
overflow_mul-r c =
    omega (
      arith,
      pow_next c.args.n c.loop-i._i c.loop-i.r c.loop-i.invariant.1,
      pow_below
          c.args.n c.loop-i._i c.args.k (2 ^ 64) c.requires.0 c.loop-i-test.true
          c.requires.1,
    )

pub loop-i-preserved : goal.loop-i-preserved
loop-i-preserved c = (omega arith, pow_next c.args.n c.loop-i._i c.loop-i.r c.loop-i.invariant.1)

pub returns : goal.returns
returns c =
    let e : c.loop-i._i ≡ c.args.k = omega arith in
    c.loop-i.invariant.1 ∙ ap (λ (x : ℕ). c.args.n ^ x) e
