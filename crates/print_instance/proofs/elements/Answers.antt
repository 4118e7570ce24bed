use native.Mathlib.Omega.{arith}
use Rattle.print_bytes.specs.Emitted.{begin, recut, next as then, finished, emits_as}
use Rattle.print_words.specs.Loops.{flat_first, flat_next, flat_end}
use Rattle.print_instance.specs.Texts.{element_is, only_code}
use Rattle.print_instance.proofs.elements.Goals as goal

pub parameters-none-requires : goal.parameters-none-requires
parameters-none-requires c = omega arith

pub loop-x-init : goal.loop-x-init
loop-x-init c = (omega arith, begin _ (flat_first _ _) (omega arith) (omega arith))

pub with_term-only-requires : goal.with_term-only-requires
with_term-only-requires c = (omega (arith, c.parameters-none.ensures.1), c.parameters-none.ensures.0)

pub line-next-requires : goal.line-next-requires
line-next-requires c = (c.requires.0, c.requires.1, c.with_term-only.ensures.0)

pub loop-x-preserved : goal.loop-x-preserved
loop-x-preserved c = (omega arith, then _ _ (recut (flat_next _ c.loop-x.x c.args.n (omega arith)) c.loop-x.invariant.1) (emits_as (element_is _ _ _ _ _ (only_code _ _ _ c.parameters-none.ensures.2 c.with_term-only.ensures.2)) c.line-next.ensures))

pub shape_of-out : goal.shape_of-out
shape_of-out c = c.loop-x.invariant.1.size

pub returns : goal.returns
returns c = finished (recut (flat_end _ c.loop-x.x c.args.n (omega arith)) c.loop-x.invariant.1)
