use native.Mathlib.Omega.{arith}
use mathlib.Core.Path.{refl, sym, ◌∙◌}
use Rattle.read_plan.specs.Words.{word_none, word_bytes, bytes_yes, bytes_no, bytes_end}
use Rattle.read_plan.proofs.is_word.Goals as goal

pub returns-then-a-e : goal.returns-then-a-e
returns-then-a-e c = word_none _ c.args.a c.args.e c.requires.1 (omega arith)

pub loop-i-init : goal.loop-i-init
loop-i-init c = (omega arith, omega arith, omega arith, refl)

pub bounds-s-i : goal.bounds-s-i
bounds-s-i c = omega (arith, c.requires.1)

pub loop-i-preserved : goal.loop-i-preserved
loop-i-preserved c = (omega arith, omega arith, omega arith, c.loop-i.invariant.3 ∙ bytes_yes _ c.loop-i.i c.args.e c.requires.1 (omega arith) (sym c.is_word_byte.ensures ∙ c.if-not-is_word_byte.false))

pub returns-then-not-is_word_byte : goal.returns-then-not-is_word_byte
returns-then-not-is_word_byte c = sym (word_bytes _ c.args.a c.args.e c.requires.1 (omega arith) ∙ c.loop-i.invariant.3 ∙ bytes_no _ c.loop-i.i c.args.e c.requires.1 (omega arith) (sym c.is_word_byte.ensures ∙ c.if-not-is_word_byte.true))

pub returns : goal.returns
returns c = sym (word_bytes _ c.args.a c.args.e c.requires.1 (omega arith) ∙ c.loop-i.invariant.3 ∙ bytes_end _ c.loop-i.i c.args.e c.requires.1 (omega arith) (omega arith))
