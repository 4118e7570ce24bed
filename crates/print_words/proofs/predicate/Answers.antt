-- `print_words::predicate` meets its contract. Assumes nothing.
use native.Mathlib.Omega.{arith}
use Rattle.print_words.specs.Words.{WordFits, word_related, word_unrelated, word_first, word_second, word_proved}
use Prim.Native.Nat.{◌^◌, ◌<◌}
use lib.ListN.{length}
use Rattle.print_bytes.specs.Emitted.{begin, next as then, finish}
use Rattle.print_words.proofs.predicate.Goals as goal
use Rattle.print_words.proofs.predicate.Goals.{Start}

short : (c : Start) → (length c.args.out.now < 2 ^ 64) × (c.args.at < 2 ^ 64)
short c = (omega arith, omega arith)

pub name-requires : goal.name-requires
unfolding WordFits
name-requires c = (c.requires.0, c.requires.1 (omega (arith, c.if-w-eq0.true)))

pub returns-then-w-eq0 : goal.returns-then-w-eq0
returns-then-w-eq0 c = finish _ (then _ _ (begin _ (word_related _ _ _ c.if-w-eq0.true) (short (goal.at.returns-then-w-eq0 c).Start).0 (short (goal.at.returns-then-w-eq0 c).Start).1) c.text-begun.ensures) c.name.ensures

pub name-requires-then-w-eq1 : goal.name-requires-then-w-eq1
unfolding WordFits
name-requires-then-w-eq1 c = (c.requires.0, c.requires.1 (omega (arith, c.if-w-eq1.true)))

pub returns-then-w-eq1 : goal.returns-then-w-eq1
returns-then-w-eq1 c = finish _ (then _ _ (begin _ (word_unrelated _ _ _ c.if-w-eq1.true) (short (goal.at.returns-then-w-eq1 c).Start).0 (short (goal.at.returns-then-w-eq1 c).Start).1) c.text-begun-then-w-eq1.ensures) c.name-then-w-eq1.ensures

pub name-named-requires : goal.name-named-requires
unfolding WordFits
name-named-requires c = (c.requires.0, c.requires.1 (omega (arith, c.if-w-eq2.true)))

pub returns-then-w-eq2 : goal.returns-then-w-eq2
returns-then-w-eq2 c = finish _ (then _ _ (then _ _ (begin _ (word_first _ _ _ c.if-w-eq2.true) (short (goal.at.returns-then-w-eq2 c).Start).0 (short (goal.at.returns-then-w-eq2 c).Start).1) c.text-begun-then-w-eq2.ensures) c.name-named.ensures) c.text.ensures

pub name-named-requires-then-w-eq3 : goal.name-named-requires-then-w-eq3
unfolding WordFits
name-named-requires-then-w-eq3 c = (c.requires.0, c.requires.1 (omega (arith, c.if-w-eq3.true)))

pub returns-then-w-eq3 : goal.returns-then-w-eq3
returns-then-w-eq3 c = finish _ (then _ _ (then _ _ (begin _ (word_second _ _ _ c.if-w-eq3.true) (short (goal.at.returns-then-w-eq3 c).Start).0 (short (goal.at.returns-then-w-eq3 c).Start).1) c.text-begun-then-w-eq3.ensures) c.name-named-then-w-eq3.ensures) c.text-then-w-eq3.ensures

pub returns : goal.returns
returns c = finish _ (then _ _ (then _ _ (then _ _ (begin _ (word_proved _ _ _ c.if-w-eq0.false c.if-w-eq1.false c.if-w-eq2.false c.if-w-eq3.false) (short (goal.at.returns c).Start).0 (short (goal.at.returns c).Start).1) c.text-begun-2.ensures) c.shape_word-shaped.ensures) c.text-parted.ensures) c.decimal.ensures
