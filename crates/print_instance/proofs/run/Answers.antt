use native.Mathlib.Omega.{arith}
use Prim.Native.Nat.{◌+◌, ◌*◌}
use mathlib.Core.Path.{subst, sym, ◌∙◌}
use Rattle.print_bytes.specs.Emitted.{begin, recut, next as then, finished, emits_as}
use Rattle.print_words.specs.Loops.{flat_more, flat_stop}
use Rattle.print_words.specs.Words.{WordFits}
use Rattle.print_instance.specs.Texts.{agree_is, run_first, row_is, row_codes, word_fits, before_small}
use Rattle.print_instance.proofs.run.Goals as goal

pub overflow_sub-k : goal.overflow_sub-k
overflow_sub-k c = omega (arith, c.requires.1.placed)

pub places-t-requires : goal.places-t-requires
places-t-requires c = (c.requires.1.some, c.requires.1.few, omega (arith, c.requires.1.places), c.requires.2)

pub loop-z-init : goal.loop-z-init
loop-z-init c = (omega arith, begin _ (run_first _ _ _) (omega arith) (omega arith))

pub is_so-requires : goal.is_so-requires
is_so-requires c = (c.requires.1, before_small c.args.k c.args.before c.requires.1 c.requires.2, omega arith)

pub with_term-whole-requires : goal.with_term-whole-requires
with_term-whole-requires c = (omega (arith, c.places-t.ensures.1, c.requires.1.places), c.places-t.ensures.0)

pub line_if-next-requires : goal.line_if-next-requires
line_if-next-requires c = (c.requires.0, subst WordFits (sym c.word_for-w.ensures) (word_fits c.args.k.holds c.args.k.r c.requires.1.number), c.with_term-whole.ensures.0)

pub loop-z-preserved : goal.loop-z-preserved
loop-z-preserved c = (
  omega arith,
  then _ _ (recut (flat_more _ (c.args.before * c.args.k.n) c.loop-z.z c.args.k.n (omega arith)) c.loop-z.invariant.1)
      (emits_as (row_is c.args.question.now c.args.names.now c.args.facts.now c.args.k (c.args.before * c.args.k.n + c.loop-z.z) _ _ _ _ c.is_so.ensures (agree_is _ _) c.word_for-w.ensures
      (c.with_term-whole.ensures.2 ∙ row_codes c.args.k c.args.before c.loop-z.z _ c.requires.1 c.requires.2 (omega arith) c.places-t.ensures.2)) c.line_if-next.ensures),
)

pub shape_of-out : goal.shape_of-out
shape_of-out c = c.loop-z.invariant.1.size

pub returns : goal.returns
returns c = finished (recut (flat_stop _ (c.args.before * c.args.k.n) c.loop-z.z c.args.k.n (omega arith)) c.loop-z.invariant.1)
