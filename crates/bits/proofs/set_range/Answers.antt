use native.Mathlib.Omega.{arith}
use mathlib.Core.Path.{◌≡◌}
use Prim.Native.Nat.{◌+◌}
use Rattle.bits.proofs.Laws.{paste_zero}
use Rattle.bits.proofs.Stores.{paste_on, full_digit}
use Rattle.bits.proofs.set_range.Goals as goal

pub loop-k-init : goal.loop-k-init
loop-k-init c = (omega arith, λ h. paste_zero _ _ _ 0)

pub loop-k-preserved : goal.loop-k-preserved
loop-k-preserved c = (omega arith, λ h. let e : c.min-c.result ≡ 64 = omega arith in rw e at (paste_on _ _ _ 0 _ _ _ (λ i u. full_digit i (omega arith)) (c.loop-k.invariant.1 h) (c.store.ensures (omega arith))))

pub returns : goal.returns
returns c = λ h. let e : c.loop-k.k ≡ c.args.n = omega arith in rw e at (c.loop-k.invariant.1 h)

pub returns-2 : goal.returns-2
returns-2 c = λ h. let e : c.loop-k.k + c.min-c.result ≡ c.args.n = omega arith in rw e at (paste_on _ _ _ 0 _ _ _ (λ i u. full_digit i (omega arith)) (c.loop-k.invariant.1 h) (c.store.ensures (omega arith)))
