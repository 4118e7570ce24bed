use native.Mathlib.Omega.{arith}
use mathlib.Core.Path.{◌≡◌, ◌∙◌}
use Prim.Native.Nat.{◌-◌}
use Rattle.bits.proofs.Laws.{paste_zero}
use Rattle.bits.proofs.Digit.{digit_of_zero}
use Rattle.problem_table.specs.ChangeLaws.{run_cleared, run_on}
use Rattle.problem_table.proofs.clear_run.Goals as goal

pub loop-k-init : goal.loop-k-init
loop-k-init c = (λ h. absurd (omega arith), let e : c.args.start - c.args.start ≡ 0 = omega arith in rw e (paste_zero _ _ _ 0))

pub loop-k-preserved : goal.loop-k-preserved
loop-k-preserved c =
    let e : c.min.result ≡ 64 = omega arith in
    let s = run_on _ _ _ _ _ _ _ digit_of_zero (omega arith) c.loop-k.invariant.1 (c.store.ensures (omega arith)) in
    (λ h. omega arith, rw e at s)

pub returns : goal.returns
returns c = c.loop-k.invariant.1 ∙ run_cleared _ _ _ _ (omega arith) (omega arith) (λ h. omega (arith, c.loop-k.invariant.0 h))

pub returns-2 : goal.returns-2
returns-2 c =
    let s = run_on _ _ _ _ _ _ _ digit_of_zero (omega arith) c.loop-k.invariant.1 (c.store.ensures (omega arith)) in
    s ∙ run_cleared _ _ _ _ (omega arith) (omega arith) (λ h. omega arith)
