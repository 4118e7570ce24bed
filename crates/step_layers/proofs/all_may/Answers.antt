use Prim.Native.Nat.{ℕ}
use mathlib.Core.Path.{refl, sym, ap, ◌∙◌}
use mathlib.Core.Bool.{true, false}
use native.Mathlib.Omega.{arith}
use native.Mathlib.Numerals.{add-one}
use lib.ListN.{drop}
use Rattle.definitions.specs.Lists.{all}
use Rattle.bits.specs.Table.{bit}
use Rattle.step_layers.specs.Tests.{may_at}
use Rattle.step_layers.specs.TestLaws.{test_next, test_none}
use Rattle.step_layers.proofs.all_may.Goals as goal

pub loop-step-init : goal.loop-step-init
loop-step-init c = λ p is. refl

pub loop-step-preserved : goal.loop-step-preserved
loop-step-preserved c =
    λ p is. c.loop-step.invariant p is ∙ test_next _ _ c.loop-step.step-index true (omega arith) (sym (c.may.ensures p is) ∙ c.if-not-may.false)
    ∙ ap (λ (m : ℕ). all (may_at p (bit c.args.state.now)) (drop m c.args.steps.now)) (sym (add-one c.loop-step.step-index))

pub returns-then-not-may : goal.returns-then-not-may
returns-then-not-may c = λ p is. sym (c.loop-step.invariant p is ∙ test_next _ _ c.loop-step.step-index false (omega arith) (sym (c.may.ensures p is) ∙ c.if-not-may.true))

pub returns : goal.returns
returns c = λ p is. sym (c.loop-step.invariant p is ∙ test_none _ c.args.steps.now c.loop-step.step-index (omega arith))
