use native.Mathlib.Omega.{arith}
use Rattle.print_bytes.specs.Emitted.{begin, recut, next as then, finished, emits_as}
use Rattle.print_words.specs.Loops.{flat_first, flat_next, flat_end}
use Rattle.print_domain.specs.Texts.{nodes_lines, node_parts, proved_fits}
use Rattle.print_domain.proofs.nodes_lines.Goals as goal

pub loop-v-init : goal.loop-v-init
unfolding nodes_lines
loop-v-init c = (omega arith, begin _ (flat_first _ _) (omega arith) (omega arith))

pub offset_bounds-t-v : goal.offset_bounds-t-v
offset_bounds-t-v c = omega (arith, c.requires.1.few)

pub bounds-t-v : goal.bounds-t-v
bounds-t-v c = omega (arith, c.requires.1.few)

pub node_places-requires : goal.node_places-requires
node_places-requires c = (c.requires.1.nodes.node c.loop-v.v).width

pub parameters-places-requires : goal.parameters-places-requires
parameters-places-requires c = omega (arith, c.node_places.ensures.1)

pub line-next-requires : goal.line-next-requires
line-next-requires c = (c.requires.0, proved_fits _ _, c.parameters-places.ensures.0)

pub loop-v-preserved : goal.loop-v-preserved
loop-v-preserved c = (
  omega arith,
  then _ _ (recut (flat_next _ c.loop-v.v c.args.t.count (omega arith)) c.loop-v.invariant.1)
      (emits_as (node_parts _ _ c.args.t c.loop-v.v _ _ _ c.wide.ensures.0 c.node_places.ensures.0 c.parameters-places.ensures.2) c.line-next.ensures),
)

pub shape_of-out : goal.shape_of-out
shape_of-out c = c.loop-v.invariant.1.size

pub returns : goal.returns
returns c = finished (recut (flat_end _ c.loop-v.v c.args.t.count (omega arith)) c.loop-v.invariant.1)
