use mathlib.Core.Path.{◌≡◌, sym, ◌∙◌}
use native.Mathlib.Omega.{arith}
use Rattle.step_write.specs.Skipping.{words_next}
use Rattle.step_write.proofs.next_word.Goals as goal

pub loop-k-init : goal.loop-k-init
loop-k-init c = λ m l u. absurd (omega arith)

pub returns-then-word_at-ne0 : goal.returns-then-word_at-ne0
returns-then-word_at-ne0 c = (omega arith, omega arith, c.loop-k.invariant)

pub loop-k-preserved : goal.loop-k-preserved
loop-k-preserved c = let l = c.loop-k in let a = c.args in words_next a.words.now a.j l.k l.invariant (sym c.word_at.ensures ∙ c.if-word_at-ne0.false)

pub returns : goal.returns
returns c = let e : c.loop-k.k ≡ c.args.past = omega arith in (omega arith, omega arith, rw e at c.loop-k.invariant)
