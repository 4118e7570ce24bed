use Prim.Native.Nat.{ℕ}
use mathlib.Core.Path.{refl, sym, ap, ◌∙◌}
use mathlib.Core.Bool.{true, false}
use native.Mathlib.Omega.{arith}
use native.Mathlib.Numerals.{add-one}
use lib.ListN.{drop}
use Rattle.definitions.specs.Lists.{all}
use Rattle.step_layers.specs.Tests.{is_action}
use Rattle.step_layers.specs.TestLaws.{test_next, test_none}
use Rattle.step_layers.proofs.are_actions.Goals as goal

pub loop-step-init : goal.loop-step-init
loop-step-init c = λ p is. refl

pub loop-step-preserved : goal.loop-step-preserved
loop-step-preserved c =
    λ p is. c.loop-step.invariant p is ∙ test_next _ _ c.loop-step.step-index true (omega arith) (sym (c.is_action.ensures p is) ∙ c.if-not-is_action.false)
    ∙ ap (λ (m : ℕ). all (is_action p) (drop m c.args.steps.now)) (sym (add-one c.loop-step.step-index))

pub returns-then-not-is_action : goal.returns-then-not-is_action
returns-then-not-is_action c = λ p is. sym (c.loop-step.invariant p is ∙ test_next _ _ c.loop-step.step-index false (omega arith) (sym (c.is_action.ensures p is) ∙ c.if-not-is_action.true))

pub returns : goal.returns
returns c = λ p is. sym (c.loop-step.invariant p is ∙ test_none _ c.args.steps.now c.loop-step.step-index (omega arith))
