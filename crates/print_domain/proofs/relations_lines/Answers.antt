use native.Mathlib.Omega.{arith}
use Rattle.print_bytes.specs.Emitted.{begin, recut, next as then, finished}
use Rattle.print_words.specs.Loops.{flat_first, flat_next, flat_end}
use Rattle.print_domain.specs.Texts.{relations_lines}
use Rattle.print_domain.proofs.relations_lines.Goals as goal

pub loop-r-init : goal.loop-r-init
unfolding relations_lines
loop-r-init c = (omega arith, begin _ (flat_first _ _) (omega arith) (omega arith))

pub offset_bounds-g-r : goal.offset_bounds-g-r
offset_bounds-g-r c = omega (arith, c.requires.1.fit.count)

pub bounds-g-r : goal.bounds-g-r
bounds-g-r c = omega (arith, c.requires.1.fit.count)

pub offset_bounds-g-r-in-loop-r : goal.offset_bounds-g-r-in-loop-r
offset_bounds-g-r-in-loop-r c = omega (arith, c.requires.1.fit.count)

pub bounds-g-r-in-loop-r : goal.bounds-g-r-in-loop-r
bounds-g-r-in-loop-r c = omega (arith, c.requires.1.fit.count)

pub relation_lines-next-requires : goal.relation_lines-next-requires
relation_lines-next-requires c = (c.requires.0, omega (arith, c.requires.1.fit.count), c.requires.1.placed c.loop-r.r (omega arith))

pub loop-r-preserved : goal.loop-r-preserved
loop-r-preserved c = (omega arith, then _ _ (recut (flat_next _ c.loop-r.r c.args.g.count (omega arith)) c.loop-r.invariant.1) c.relation_lines-next.ensures)

pub shape_of-out : goal.shape_of-out
shape_of-out c = c.loop-r.invariant.1.size

pub returns : goal.returns
returns c = finished (recut (flat_end _ c.loop-r.r c.args.g.count (omega arith)) c.loop-r.invariant.1)
