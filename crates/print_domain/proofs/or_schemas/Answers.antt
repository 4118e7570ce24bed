use native.Mathlib.Omega.{arith}
use Rattle.print_bytes.specs.Emitted.{begin, recut, next as then, finished}
use Rattle.print_words.specs.Loops.{flat_next, flat_end}
use Rattle.print_domain.specs.Nodes.{ors_many}
use Rattle.print_domain.proofs.or_schemas.Goals as goal

pub offset_bounds-t-v : goal.offset_bounds-t-v
offset_bounds-t-v c = omega (arith, c.requires.2)

pub bounds-t-v : goal.bounds-t-v
bounds-t-v c = omega (arith, c.requires.2)

pub loop-i-init : goal.loop-i-init
loop-i-init c = (omega arith, begin _ (ors_many _ _ c.args.t c.args.v c.args.end _ c.wide-many.ensures.0) (omega arith) (omega arith))

pub or_schema-next-requires : goal.or_schema-next-requires
or_schema-next-requires c = (c.requires.0, c.requires.1, c.requires.2, omega (arith, c.wide-many.ensures.0, (c.requires.1.nodes.node c.args.v).parts, c.requires.1.few_parts))

pub loop-i-preserved : goal.loop-i-preserved
loop-i-preserved c = (omega arith, then _ _ (recut (flat_next _ c.loop-i.i c.wide-many.result (omega arith)) c.loop-i.invariant.1) c.or_schema-next.ensures)

pub shape_of-out : goal.shape_of-out
shape_of-out c = c.loop-i.invariant.1.size

pub returns : goal.returns
returns c = finished (recut (flat_end _ c.loop-i.i c.wide-many.result (omega arith)) c.loop-i.invariant.1)
