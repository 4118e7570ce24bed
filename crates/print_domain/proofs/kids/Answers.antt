use native.Mathlib.Omega.{arith}
use Rattle.print_bytes.specs.Emitted.{begin, recut, next as then, finished}
use Rattle.print_words.specs.Loops.{flat_next, flat_end}
use Rattle.print_domain.specs.Nodes.{kids_many}
use Rattle.print_domain.proofs.kids.Goals as goal

pub offset_bounds-t-v : goal.offset_bounds-t-v
offset_bounds-t-v c = omega (arith, c.requires.2)

pub bounds-t-v : goal.bounds-t-v
bounds-t-v c = omega (arith, c.requires.2)

pub loop-k-init : goal.loop-k-init
loop-k-init c = (omega arith, begin _ (kids_many _ _ c.args.t c.args.v c.args.end _ c.wide-many.ensures.0) (omega arith) (omega arith))

pub kid-next-requires : goal.kid-next-requires
kid-next-requires c = (c.requires.0, c.requires.1, c.requires.2, omega (arith, c.wide-many.ensures.0, (c.requires.1.nodes.node c.args.v).parts, c.requires.1.few_parts))

pub loop-k-preserved : goal.loop-k-preserved
loop-k-preserved c = (omega arith, then _ _ (recut (flat_next _ c.loop-k.k c.wide-many.result (omega arith)) c.loop-k.invariant.1) c.kid-next.ensures)

pub shape_of-out : goal.shape_of-out
shape_of-out c = c.loop-k.invariant.1.size

pub returns : goal.returns
returns c = finished (recut (flat_end _ c.loop-k.k c.wide-many.result (omega arith)) c.loop-k.invariant.1)
