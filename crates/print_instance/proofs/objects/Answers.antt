use native.Mathlib.Omega.{arith}
use Rattle.print_bytes.specs.Emitted.{begin, recut, next as then, finished}
use Rattle.print_instance.specs.Texts.{object_next, object_end, object_first}
use Rattle.print_instance.proofs.objects.Goals as goal

pub loop-x-init : goal.loop-x-init
loop-x-init c = begin _ (object_first _) (omega arith) (omega arith)

pub loop-x-preserved : goal.loop-x-preserved
loop-x-preserved c = then _ _ (then _ _ (recut (object_next c.loop-x.x c.args.n (omega arith)) c.loop-x.invariant) c.byte-spaced.ensures) c.object_word-next.ensures

pub shape_of-out : goal.shape_of-out
shape_of-out c = c.loop-x.invariant.size

pub returns : goal.returns
returns c = finished (recut (object_end c.loop-x.x c.args.n (omega arith)) c.loop-x.invariant)
