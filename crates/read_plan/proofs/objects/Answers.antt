use native.Mathlib.Omega.{arith}
use mathlib.Core.Path.{sym, ◌∙◌}
use Prim.Native.Nat.{◌+◌}
use Rattle.rows.specs.Laws.{within_set}
use Rattle.read_text.proofs.Laws.{end_within}
use Rattle.read_plan.specs.Objects.{gathered_first, objects_wrong, objects_many, objects_all, gathered_next}
use Rattle.read_plan.proofs.objects.Goals as goal

pub loop-at-init : goal.loop-at-init
loop-at-init c = (c.requires.1, gathered_first _ _ _ _ _ c.requires.2, c.requires.3)

pub overflow_add-at : goal.overflow_add-at
overflow_add-at c = omega (arith, c.requires.0)

pub find-f-requires : goal.find-f-requires
find-f-requires c = (omega arith, c.requires.0)

pub overflow_add-at-in-loop-at : goal.overflow_add-at-in-loop-at
overflow_add-at-in-loop-at c = omega (arith, c.requires.0)

pub object-x-requires : goal.object-x-requires
object-x-requires c = (omega (arith, c.find-f.ensures), omega (arith, c.find-f.ensures, c.requires.0, end_within 32 (c.loop-at.at + 1) c.args.e c.args.s.now (omega arith) c.requires.0))

pub shape_of-values-then-x-n : goal.shape_of-values-then-x-n
shape_of-values-then-x-n c = c.loop-at.invariant.1.room ∙ sym c.requires.2

pub returns-then-x-n : goal.returns-then-x-n
returns-then-x-n c = (objects_wrong _ _ _ _ c.loop-at.at c.find-f.result c.loop-at.count _ c.loop-at.invariant.1 (omega arith) c.requires.0 c.find-f.ensures _ c.object-x.ensures.1 (omega (arith, c.if-x-n.true)), c.loop-at.invariant.2)

pub shape_of-values-then-count-eq6 : goal.shape_of-values-then-count-eq6
shape_of-values-then-count-eq6 c = c.loop-at.invariant.1.room ∙ sym c.requires.2

pub returns-then-count-eq6 : goal.returns-then-count-eq6
returns-then-count-eq6 c = (objects_many _ _ _ _ c.loop-at.at c.find-f.result c.loop-at.count _ c.loop-at.invariant.1 (omega arith) c.requires.0 c.find-f.ensures (omega (arith, c.if-count-eq6.true)), c.loop-at.invariant.2)

pub offset_bounds-values-count : goal.offset_bounds-values-count
offset_bounds-values-count c = omega (arith, c.loop-at.invariant.1.few)

pub bounds-values-count : goal.bounds-values-count
bounds-values-count c = omega (arith, c.loop-at.invariant.1.few, c.loop-at.invariant.1.room, c.if-count-eq6.false)

pub overflow_add-count : goal.overflow_add-count
overflow_add-count c = omega (arith, c.loop-at.invariant.1.few)

pub loop-at-smaller : goal.loop-at-smaller
loop-at-smaller c = omega (arith, c.find-f.ensures)

pub loop-at-preserved : goal.loop-at-preserved
loop-at-preserved c = (
  omega (arith, c.find-f.ensures, end_within 32 (c.loop-at.at + 1) c.args.e c.args.s.now (omega arith) c.requires.0),
  gathered_next _ _ _ _ c.loop-at.at c.find-f.result c.loop-at.count _ c.loop-at.invariant.1 (omega arith) c.requires.0 c.find-f.ensures _ c.object-x.ensures.1 (omega (arith, c.object-x.ensures.0, c.if-x-n.false)) (omega (arith, c.loop-at.invariant.1.few, c.if-count-eq6.false)),
  within_set c.args.n c.loop-at.values c.loop-at.count c.object-x.result (omega (arith, c.object-x.ensures.0, c.if-x-n.false)) c.loop-at.invariant.2,
)

pub shape_of-values : goal.shape_of-values
shape_of-values c = c.loop-at.invariant.1.room ∙ sym c.requires.2

pub returns : goal.returns
returns c = (objects_all _ _ _ _ c.loop-at.at c.loop-at.count _ c.loop-at.invariant.1 (omega arith), c.loop-at.invariant.2)
