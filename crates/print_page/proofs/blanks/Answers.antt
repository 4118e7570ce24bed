use native.Mathlib.Omega.{arith}
use mathlib.Core.Path.{refl}
use Rattle.print_bytes.specs.Emitted.{begin, recut, next as then, finished}
use Rattle.print_page.specs.Bodies.{blank_next, no_blank}
use Rattle.print_page.proofs.blanks.Goals as goal

pub loop-left-init : goal.loop-left-init
loop-left-init c = begin _ refl (omega arith) (omega arith)

pub loop-left-preserved : goal.loop-left-preserved
loop-left-preserved c =
    then _ _ (then _ _ (recut (blank_next c.loop-left._left (omega arith))
    c.loop-left.invariant) c.spaces-filled.ensures) c.byte-next.ensures

pub shape_of-out : goal.shape_of-out
shape_of-out c = c.loop-left.invariant.size

pub returns : goal.returns
returns c = finished (recut (no_blank c.loop-left._left (omega arith)) c.loop-left.invariant)
