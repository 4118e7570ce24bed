use mathlib.Core.Path.{refl, ◌∙◌}
use mathlib.Core.Bool.{true, false}
use native.Mathlib.Omega.{arith}
use Rattle.laws.specs.Lists.{any_yes, any_no, any_end, any_start}
use Rattle.call_monotone.specs.Wants.{root_refuses, rows_refuse, row_of}
use Rattle.call_monotone.proofs.tree_refuses.Goals as goal

pub returns-then-part_refuses : goal.returns-then-part_refuses
returns-then-part_refuses c = root_refuses _ _ c.requires _ c.part_refuses.ensures c.if-part_refuses.true

pub loop-v-init : goal.loop-v-init
loop-v-init c = (omega arith, any_start _ _, c.requires.nodes.rows_length)

pub offset_bounds-t-v : goal.offset_bounds-t-v
offset_bounds-t-v c = omega (arith, c.requires.few)

pub bounds-t-v : goal.bounds-t-v
bounds-t-v c = omega (arith, c.requires.few, c.loop-v.invariant.2)

pub some_refuses-requires : goal.some_refuses-requires
some_refuses-requires c = (c.requires, omega (arith, c.wide-at.ensures.0, c.wide-many.ensures.0, (c.requires.nodes.node c.loop-v.v).parts, c.requires.few_parts))

pub returns-then-some_refuses : goal.returns-then-some_refuses
returns-then-some_refuses c = rows_refuse _ _ c.requires _ c.part_refuses.ensures true c.if-part_refuses.false (c.loop-v.invariant.1 ∙ any_yes _ _ _ (omega arith) (row_of _ c.args.t c.loop-v.v _ _ _ refl c.wide-at.ensures.0 c.wide-many.ensures.0 _ c.some_refuses.ensures true c.if-some_refuses.true))

pub loop-v-preserved : goal.loop-v-preserved
loop-v-preserved c = (omega arith, c.loop-v.invariant.1 ∙ any_no _ _ _ (omega arith) (row_of _ c.args.t c.loop-v.v _ _ _ refl c.wide-at.ensures.0 c.wide-many.ensures.0 _ c.some_refuses.ensures false c.if-some_refuses.false), c.loop-v.invariant.2)

pub returns : goal.returns
returns c = rows_refuse _ _ c.requires _ c.part_refuses.ensures false c.if-part_refuses.false (c.loop-v.invariant.1 ∙ any_end _ _ _ (omega arith))
