-- `print_words::shape_word` meets its contract. Assumes nothing.
use Rattle.print_bytes.specs.Emitted.{emits_as}
use Rattle.print_words.specs.Words.{shape_word, shape_last}
use mathlib.Core.Path.{ap}
use Rattle.print_words.proofs.shape_word.Goals as goal

pub returns-then-shape-eq0 : goal.returns-then-shape-eq0
unfolding shape_word
returns-then-shape-eq0 c = emits_as (ap shape_word c.if-shape-eq0.true) c.text.ensures

pub returns-then-shape-eq1 : goal.returns-then-shape-eq1
unfolding shape_word
returns-then-shape-eq1 c = emits_as (ap shape_word c.if-shape-eq1.true) c.text-then-shape-eq1.ensures

pub returns-then-shape-eq2 : goal.returns-then-shape-eq2
unfolding shape_word
returns-then-shape-eq2 c = emits_as (ap shape_word c.if-shape-eq2.true) c.text-then-shape-eq2.ensures

pub returns : goal.returns
returns c = emits_as (shape_last _ c.if-shape-eq0.false c.if-shape-eq1.false c.if-shape-eq2.false) c.text-2.ensures
