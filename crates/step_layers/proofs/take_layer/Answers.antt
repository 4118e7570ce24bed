-- `step_layers::take_layer` meets its contract.
use mathlib.Core.Path.{sym, ap, ◌∙◌}
use native.Mathlib.Omega.{arith}
use Rattle.bits.specs.Table.{bit}
use Rattle.meaning.specs.LayerTests.{was_taken}
use Rattle.step_layers.specs.TestLaws.{taken_is, layer_13, layer_not_may, layer_not_taken, layer_not_stay, layer_taken}
use Rattle.step_layers.proofs.take_layer.Goals as goal

pub returns : goal.returns
returns c =
    λ p G plain is room. let w = layer_taken p (bit c.args.state.now) G plain c.args.steps.now (sym (c.are_actions.ensures p is) ∙ c.if-not-are_actions.false)
    (bit c.run.new.state) (sym (c.all_may.ensures p is) ∙ c.if-not-all_may.false)
    (ap was_taken (sym (c.run.ensures p is room).0) ∙ sym (taken_is c.run.result) ∙ sym c.all_taken.ensures
    ∙ c.if-not-all_taken.false) (c.run.ensures p is room).1 (sym (c.all_stay.ensures p is) ∙ c.if-not-all_stay.false) in
    (sym w.0, λ _. w.1)

pub returns-then-not-all_stay : goal.returns-then-not-all_stay
returns-then-not-all_stay c =
    λ p G plain is room. (
      sym (layer_not_stay p (bit c.args.state.now) G plain c.args.steps.now (sym (c.are_actions.ensures p is) ∙ c.if-not-are_actions.false)
          (bit c.run.new.state) (sym (c.all_may.ensures p is) ∙ c.if-not-all_may.false)
          (ap was_taken (sym (c.run.ensures p is room).0) ∙ sym (taken_is c.run.result) ∙ sym c.all_taken.ensures
          ∙ c.if-not-all_taken.false) (c.run.ensures p is room).1 (sym (c.all_stay.ensures p is) ∙ c.if-not-all_stay.true)),
      λ e. absurd (omega (arith, e)),
    )

pub returns-then-not-all_taken : goal.returns-then-not-all_taken
returns-then-not-all_taken c =
    λ p G plain is room. (
      sym (layer_not_taken p (bit c.args.state.now) G plain c.args.steps.now (sym (c.are_actions.ensures p is) ∙ c.if-not-are_actions.false)
          (sym (c.all_may.ensures p is) ∙ c.if-not-all_may.false) (ap was_taken (sym (c.run.ensures p is room).0) ∙ sym (taken_is c.run.result) ∙ sym
          c.all_taken.ensures ∙ c.if-not-all_taken.true)),
      λ e. absurd (omega (arith, e)),
    )

pub returns-then-not-all_may : goal.returns-then-not-all_may
returns-then-not-all_may c =
    λ p G plain is room. (
      sym (layer_not_may p (bit c.args.state.now) G plain c.args.steps.now
          (sym (c.are_actions.ensures p is) ∙ c.if-not-are_actions.false)
          (sym (c.all_may.ensures p is) ∙ c.if-not-all_may.true)),
      λ e. absurd (omega (arith, e)),
    )

pub returns-then-not-are_actions : goal.returns-then-not-are_actions
returns-then-not-are_actions c =
    λ p G plain is room. (
      sym (layer_13 p (bit c.args.state.now) c.args.steps.now (sym (c.are_actions.ensures p is) ∙ c.if-not-are_actions.true)),
      λ e. absurd (omega (arith, e)),
    )
