use mathlib.Core.Path.{sym, ◌∙◌}
use native.Mathlib.Omega.{arith}
use Rattle.laws.specs.Lists.{any_yes, any_no, any_end, any_start}
use Rattle.call_monotone.proofs.some_refuses.Goals as goal

pub loop-i-init : goal.loop-i-init
loop-i-init c = (omega arith, any_start _ _, c.requires.0.parts.parts_length)

pub overflow_add-q : goal.overflow_add-q
overflow_add-q c = omega (arith, c.requires.1)

pub offset_bounds-t-at : goal.offset_bounds-t-at
offset_bounds-t-at c = omega (arith, c.requires.1)

pub bounds-t-at : goal.bounds-t-at
bounds-t-at c = omega (arith, c.requires.1, c.loop-i.invariant.2)

pub returns-then-part_refuses : goal.returns-then-part_refuses
returns-then-part_refuses c = sym (c.loop-i.invariant.1 ∙ any_yes _ _ _ (omega arith) (sym c.part_refuses.ensures ∙ c.if-part_refuses.true))

pub loop-i-preserved : goal.loop-i-preserved
loop-i-preserved c = (omega arith, c.loop-i.invariant.1 ∙ any_no _ _ _ (omega arith) (sym c.part_refuses.ensures ∙ c.if-part_refuses.false), c.loop-i.invariant.2)

pub returns : goal.returns
returns c = sym (c.loop-i.invariant.1 ∙ any_end _ _ _ (omega arith))
