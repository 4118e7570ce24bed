use native.Mathlib.Omega.{arith}
use mathlib.Core.Path.{refl}
use Rattle.print_bytes.specs.Emitted.{begin, recut, next as then, finished}
use Rattle.print_plan.specs.Plans.{values_next, values_end}
use Rattle.print_plan.proofs.objects.Goals as goal

pub loop-x-init : goal.loop-x-init
loop-x-init c = begin _ refl (omega arith) (omega arith)

pub loop-x-preserved : goal.loop-x-preserved
loop-x-preserved c = then _ _ (then _ _ (recut (values_next _ c.loop-x.x-index (omega arith)) c.loop-x.invariant) c.byte-parted.ensures) c.object_word-next.ensures

pub returns : goal.returns
returns c = finished (recut (values_end _ c.loop-x.x-index (omega arith)) c.loop-x.invariant)
