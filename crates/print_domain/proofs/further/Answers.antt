use native.Mathlib.Omega.{arith}
use mathlib.Core.Path.{refl}
use Rattle.print_bytes.specs.Emitted.{begin, recut, next as then, finished}
use Rattle.print_domain.specs.Texts.{params_next, params_end}
use Rattle.print_domain.proofs.further.Goals as goal

pub loop-i-init : goal.loop-i-init
loop-i-init c = (omega arith, begin _ refl (omega arith) (omega arith))

pub loop-i-preserved : goal.loop-i-preserved
loop-i-preserved c = (omega (arith, c.requires), then _ _ (then _ _ (recut (params_next c.loop-i.i c.args.count (omega arith)) c.loop-i.invariant.1) c.byte-spaced.ensures) c.parameter_word-next.ensures)

pub shape_of-out : goal.shape_of-out
shape_of-out c = c.loop-i.invariant.1.size

pub returns : goal.returns
returns c = finished (recut (params_end c.loop-i.i c.args.count (omega arith)) c.loop-i.invariant.1)
