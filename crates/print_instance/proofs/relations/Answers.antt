use native.Mathlib.Omega.{arith}
use mathlib.Core.Path.{refl}
use Rattle.print_bytes.specs.Emitted.{begin, recut, next as then, finished, emits_as}
use Rattle.print_words.specs.Loops.{flat_first, flat_next, flat_end}
use Rattle.print_instance.specs.Texts.{first_of, relations_text, known_is, known_here, first_next, first_small}
use Rattle.print_instance.proofs.relations.Goals as goal

pub loop-r-init : goal.loop-r-init
unfolding relations_text first_of
loop-r-init c = (omega arith, refl, begin _ (flat_first _ _) (omega arith) (omega arith))

pub offset_bounds-g-r : goal.offset_bounds-g-r
offset_bounds-g-r c = omega (arith, c.requires.1.fit.count)

pub bounds-g-r : goal.bounds-g-r
bounds-g-r c = omega (arith, c.requires.1.fit.count)

pub offset_bounds-g-r-in-loop-r : goal.offset_bounds-g-r-in-loop-r
offset_bounds-g-r-in-loop-r c = omega (arith, c.requires.1.fit.count)

pub bounds-g-r-in-loop-r : goal.bounds-g-r-in-loop-r
bounds-g-r-in-loop-r c = omega (arith, c.requires.1.fit.count)

pub relation-next-requires : goal.relation-next-requires
relation-next-requires c = (c.requires.0, known_here c.args.n c.args.g c.loop-r.r c.loop-r.first c.requires.1 (omega arith) c.loop-r.invariant.1, refl)

pub words-first-requires : goal.words-first-requires
words-first-requires c = (c.requires.1.some, c.requires.1.few, (c.requires.1.placed c.loop-r.r (omega arith)).1)

pub overflow_add-first : goal.overflow_add-first
overflow_add-first c = omega (arith, first_small c.args.n c.args.g c.loop-r.r c.loop-r.first _ c.requires.1 (omega arith) c.loop-r.invariant.1 c.words-first.ensures)

pub loop-r-preserved : goal.loop-r-preserved
loop-r-preserved c = (
  omega arith,
  first_next c.args.n c.args.g c.loop-r.r c.loop-r.first _ c.loop-r.invariant.1 c.words-first.ensures,
  then _ _ (recut (flat_next _ c.loop-r.r c.args.g.count (omega arith)) c.loop-r.invariant.2) (emits_as (known_is _ _ _ c.args.n c.args.g c.loop-r.r c.loop-r.first c.loop-r.invariant.1) c.relation-next.ensures),
)

pub shape_of-out : goal.shape_of-out
shape_of-out c = c.loop-r.invariant.2.size

pub returns : goal.returns
returns c = finished (recut (flat_end _ c.loop-r.r c.args.g.count (omega arith)) c.loop-r.invariant.2)
