use native.Mathlib.Omega.{arith}
use mathlib.Core.Path.{refl, sym, ◌∙◌}
use Prim.Native.Nat.{◌+◌}
use Rattle.read_text.proofs.Laws.{end_within}
use Rattle.read_plan.specs.Words.{words_yes, words_no, words_last}
use Rattle.read_plan.proofs.all_words.Goals as goal

pub find-j-requires : goal.find-j-requires
find-j-requires c = (c.requires.0, c.requires.1)

pub loop-j-init : goal.loop-j-init
loop-j-init c = (omega arith, omega (arith, c.find-j.ensures), omega (arith, c.find-j.ensures, end_within 32 c.args.a c.args.e c.args.s.now c.requires.0 c.requires.1), c.find-j.ensures, refl)

pub is_word-requires : goal.is_word-requires
is_word-requires c = (c.loop-j.invariant.1, omega (arith, c.loop-j.invariant.2, c.requires.1))

pub overflow_add-i : goal.overflow_add-i
overflow_add-i c = omega (arith, c.loop-j.invariant.2, c.requires.1)

pub find-j-requires-then-is_word : goal.find-j-requires-then-is_word
find-j-requires-then-is_word c = (omega (arith, c.loop-j.invariant.2), c.requires.1)

pub loop-j-smaller : goal.loop-j-smaller
loop-j-smaller c = omega (arith, c.loop-j.invariant.1)

pub loop-j-preserved : goal.loop-j-preserved
loop-j-preserved c = (
  omega (arith, c.loop-j.invariant.0, c.loop-j.invariant.1),
  omega (arith, c.find-j-then-is_word.ensures),
  omega (arith, c.find-j-then-is_word.ensures, end_within 32 (c.loop-j.j + 1) c.args.e c.args.s.now (omega arith) c.requires.1),
  c.find-j-then-is_word.ensures,
  c.loop-j.invariant.4 ∙ words_yes _ c.loop-j.i c.loop-j.j c.args.e (omega (arith, c.loop-j.invariant.1, c.loop-j.invariant.2)) c.requires.1 c.loop-j.invariant.3 (omega arith) (sym c.is_word.ensures ∙ c.if-is_word.true),
)

pub returns-else-is_word : goal.returns-else-is_word
returns-else-is_word c = sym (c.loop-j.invariant.4 ∙ words_no _ c.loop-j.i c.loop-j.j c.args.e (omega (arith, c.loop-j.invariant.1, c.loop-j.invariant.2)) c.requires.1 c.loop-j.invariant.3 (omega arith) (sym c.is_word.ensures ∙ c.if-is_word.false))

pub is_word-requires-2 : goal.is_word-requires-2
is_word-requires-2 c = (omega (arith, c.loop-j.invariant.1, c.loop-j.invariant.2), c.requires.1)

pub returns : goal.returns
returns c = c.is_word-2.ensures ∙ sym (c.loop-j.invariant.4 ∙ words_last _ c.loop-j.i c.loop-j.j c.args.e (omega (arith, c.loop-j.invariant.1, c.loop-j.invariant.2)) c.requires.1 c.loop-j.invariant.3 (omega arith))
