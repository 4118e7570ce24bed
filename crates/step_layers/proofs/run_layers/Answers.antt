use Prim.Native.Nat.{ℕ}
use mathlib.Core.Path.{◌≡◌, refl, sym, subst, ◌∙◌}
use native.Mathlib.Omega.{arith}
use native.Mathlib.Numerals.{add-one}
use lib.ListN.{length, get_or, drop}
use Rattle.bits.specs.Table.{bit}
use Rattle.step_layers.specs.Layers.{AreEnds, LayersLeft, left_start, next_ends, left_next, end_13, end_14, end_layers_done, end_layers_no_goal}
use Rattle.step_layers.proofs.run_layers.Goals as goal

pub loop-i-init : goal.loop-i-init
loop-i-init c = (omega arith, omega arith, c.requires.are_ends, refl, λ p G plain is h. left_start p _ _ _)

pub overflow_cast-e : goal.overflow_cast-e
overflow_cast-e c = omega (arith, c.type_inv.ends c.loop-i.i)

pub slice_bounds-take_layer-count : goal.slice_bounds-take_layer-count
slice_bounds-take_layer-count c = let q = next_ends c.args.steps.now c.args.ends.now c.loop-i.i c.loop-i.k (omega arith) c.loop-i.invariant.2 in omega (arith, q.0)

pub slice_bounds-take_layer-start : goal.slice_bounds-take_layer-start
slice_bounds-take_layer-start c = let q = next_ends c.args.steps.now c.args.ends.now c.loop-i.i c.loop-i.k (omega arith) c.loop-i.invariant.2 in omega (arith, q.0)

pub slice_bounds-take_layer-end : goal.slice_bounds-take_layer-end
slice_bounds-take_layer-end c = let q = next_ends c.args.steps.now c.args.ends.now c.loop-i.i c.loop-i.k (omega arith) c.loop-i.invariant.2 in omega (arith, q.1)

pub returns-then-code-eq13 : goal.returns-then-code-eq13
returns-then-code-eq13 c = (
  c.loop-i.invariant.1,
  λ p G plain is h. let q = next_ends c.args.steps.now c.args.ends.now c.loop-i.i c.loop-i.k (omega arith) c.loop-i.invariant.2 in
      end_13 p _ c.args.steps.now c.args.ends.now (bit c.loop-i.state) c.loop-i.i c.loop-i.k (c.loop-i.invariant.4 p G plain is h)
      (omega arith) q.0 q.1 _ _ (c.take_layer-code.ensures p G plain is (omega (arith, c.loop-i.invariant.3, h))).0
      (omega arith),
)

pub returns-then-code-eq14 : goal.returns-then-code-eq14
returns-then-code-eq14 c = (
  c.loop-i.invariant.1,
  λ p G plain is h. let q = next_ends c.args.steps.now c.args.ends.now c.loop-i.i c.loop-i.k (omega arith) c.loop-i.invariant.2 in
      end_14 p _ c.args.steps.now c.args.ends.now (bit c.loop-i.state) c.loop-i.i c.loop-i.k (c.loop-i.invariant.4 p G plain is h)
      (omega arith) q.0 q.1 _ _ (c.take_layer-code.ensures p G plain is (omega (arith, c.loop-i.invariant.3, h))).0
      (omega arith),
)

pub loop-i-preserved : goal.loop-i-preserved
loop-i-preserved c =
    let q = next_ends c.args.steps.now c.args.ends.now c.loop-i.i c.loop-i.k (omega arith) c.loop-i.invariant.2 in (
      omega arith,
      q.1,
      subst (λ (m : ℕ). AreEnds (length c.args.steps.now) (get_or c.args.ends.now c.loop-i.i 0) (drop m c.args.ends.now))
          (sym (add-one c.loop-i.i)) q.2,
      c.take_layer-code.auto.state ∙ c.loop-i.invariant.3,
      λ p G plain is h. subst (λ (m : ℕ). LayersLeft p (bit c.args.state.now) c.args.steps.now c.args.ends.now (bit c.take_layer-code.new.state) m
          (get_or c.args.ends.now c.loop-i.i 0)) (sym (add-one c.loop-i.i))
          (left_next p _ c.args.steps.now c.args.ends.now (bit c.loop-i.state) c.loop-i.i c.loop-i.k (c.loop-i.invariant.4 p G plain is h)
          (omega arith) q.0 q.1 _ _
          (c.take_layer-code.ensures p G plain is (omega (arith, c.loop-i.invariant.3, h))).0 (λ e. omega arith) (λ e. omega arith)
          (c.take_layer-code.ensures p G plain is (omega (arith, c.loop-i.invariant.3, h))).1),
    )

pub returns-then-test : goal.returns-then-test
returns-then-test c = let all : c.loop-i.i ≡ length c.args.ends.now = omega arith in (
  c.loop-i.invariant.1,
  λ p G plain is h. rw all at (end_layers_done p _ c.args.steps.now c.args.ends.now (bit c.loop-i.state) c.loop-i.i c.loop-i.k
      (c.loop-i.invariant.4 p G plain is h) (omega arith) (sym c.test.ensures ∙ c.if-test.true)),
)

pub returns : goal.returns
returns c = let all : c.loop-i.i ≡ length c.args.ends.now = omega arith in (
  c.loop-i.invariant.1,
  λ p G plain is h. rw all at (end_layers_no_goal p _ c.args.steps.now c.args.ends.now (bit c.loop-i.state) c.loop-i.i c.loop-i.k
      (c.loop-i.invariant.4 p G plain is h) (omega arith) (sym c.test.ensures ∙ c.if-test.false)),
)
