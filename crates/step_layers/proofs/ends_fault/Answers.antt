use Prim.Native.Nat.{ℕ, suc, ◌+◌, ◌-◌}
use mathlib.Core.Path.{refl, sym, ap, subst, ◌∙◌}
use native.Mathlib.Omega.{arith}
use native.Mathlib.Numerals.{add-one}
use lib.ListN.{get_or, drop}
use Rattle.definitions.specs.Reply.Layers.{ends_test}
use Rattle.step_layers.specs.Layers.{AreEnds}
use Rattle.step_layers.specs.Checks.{ends_fall, ends_next, ends_all, ends_short, ends_left, ends_none, ends_so_far, ends_good, told_good, told_fault}
use Rattle.step_layers.proofs.ends_fault.Goals as goal

pub loop-i-init : goal.loop-i-init
loop-i-init c = (omega arith, refl, λ a _. a)

pub overflow_cast-e : goal.overflow_cast-e
overflow_cast-e c = omega (arith, c.type_inv.ends c.loop-i.i)

pub returns-then-e-k : goal.returns-then-e-k
returns-then-e-k c = (
  told_fault _ (c.loop-i.i + 1) c.loop-i.i (λ e. omega arith) (omega arith)
      (c.loop-i.invariant.1 ∙ ends_left c.args.count c.args.ends.now c.loop-i.k c.loop-i.i (omega arith)
      ∙ ends_fall c.args.count c.loop-i.k c.loop-i.i (get_or c.args.ends.now c.loop-i.i 0) (drop (suc c.loop-i.i) c.args.ends.now)
      (omega arith)),
  λ e. absurd (omega (arith, e)),
)

pub loop-i-preserved : goal.loop-i-preserved
loop-i-preserved c = (
  omega arith,
  c.loop-i.invariant.1 ∙ ends_left c.args.count c.args.ends.now c.loop-i.k c.loop-i.i (omega arith)
      ∙ ends_next c.args.count c.loop-i.k c.loop-i.i (get_or c.args.ends.now c.loop-i.i 0) (drop (suc c.loop-i.i) c.args.ends.now)
      (omega arith)
      ∙ ap (λ (m : ℕ). ends_test c.args.count (get_or c.args.ends.now c.loop-i.i 0) m (drop m c.args.ends.now)) (sym (add-one c.loop-i.i)),
  λ a m. ends_so_far c.args.count c.args.ends.now c.loop-i.k c.loop-i.i (omega arith) (omega arith) c.loop-i.invariant.2
      (subst (λ (m : ℕ). AreEnds c.args.count (get_or c.args.ends.now c.loop-i.i 0) (drop m c.args.ends.now)) (add-one c.loop-i.i) a) m,
)

pub returns-then-k-count : goal.returns-then-k-count
returns-then-k-count c = (
  told_good _ (c.loop-i.invariant.1 ∙ ends_none c.args.count c.args.ends.now c.loop-i.k c.loop-i.i (omega arith) ∙ ends_all c.args.count
      c.loop-i.k c.loop-i.i (omega arith)),
  λ _. ends_good c.args.count c.args.ends.now c.loop-i.k c.loop-i.i (omega arith) c.loop-i.invariant.2 (omega arith),
)

pub returns : goal.returns
returns c = (
  told_fault _ c.max.result (c.loop-i.i - 1) (λ e. omega arith) (omega arith)
      (c.loop-i.invariant.1 ∙ ends_none c.args.count c.args.ends.now c.loop-i.k c.loop-i.i (omega arith)
      ∙ ends_short c.args.count c.loop-i.k c.loop-i.i (λ e. omega arith)),
  λ e. absurd (omega arith),
)
