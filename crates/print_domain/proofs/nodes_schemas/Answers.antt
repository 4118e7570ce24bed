use native.Mathlib.Omega.{arith}
use Rattle.print_bytes.specs.Emitted.{begin, recut, next as then, finished}
use Rattle.print_words.specs.Loops.{flat_first, flat_next, flat_end}
use Rattle.print_domain.specs.Actions.{nodes_text}
use Rattle.print_domain.proofs.nodes_schemas.Goals as goal

pub loop-v-init : goal.loop-v-init
unfolding nodes_text
loop-v-init c = (omega arith, begin _ (flat_first _ _) (omega arith) (omega arith))

pub node_schemas-next-requires : goal.node_schemas-next-requires
node_schemas-next-requires c = (c.requires.0, c.requires.1, c.requires.2, omega arith)

pub loop-v-preserved : goal.loop-v-preserved
loop-v-preserved c = (omega arith, then _ _ (recut (flat_next _ c.loop-v.v c.args.t.count (omega arith)) c.loop-v.invariant.1) c.node_schemas-next.ensures)

pub shape_of-out : goal.shape_of-out
shape_of-out c = c.loop-v.invariant.1.size

pub returns : goal.returns
returns c = finished (recut (flat_end _ c.loop-v.v c.args.t.count (omega arith)) c.loop-v.invariant.1)
