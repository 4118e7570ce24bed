use mathlib.Core.Path.{refl}
use mathlib.Core.List.{[], ◌∷◌}
use native.Mathlib.Omega.{arith}
use Rattle.print_bytes.specs.Emitted.{begin, recut, next as then, finished, one_space, no_space}
use Rattle.print_bytes.proofs.spaces.Goals as goal

pub loop-left-init : goal.loop-left-init
loop-left-init c = begin _ refl (omega arith) (omega arith)

pub loop-left-preserved : goal.loop-left-preserved
loop-left-preserved c = then (32 ∷ []) _ (recut (one_space c.loop-left._left (omega arith)) c.loop-left.invariant) c.byte-next.ensures

pub shape_of-out : goal.shape_of-out
shape_of-out c = c.loop-left.invariant.size

pub returns : goal.returns
returns c = finished (recut (no_space c.loop-left._left (omega arith)) c.loop-left.invariant)
