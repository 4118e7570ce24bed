-- `print_domain::relation_lines` meets its contract. Assumes nothing.
use Rattle.print_instance.specs.Texts.{relation_fits}
use Rattle.print_domain.specs.Texts.{lines_parts}
use native.Mathlib.Omega.{arith}
use Rattle.print_bytes.specs.Emitted.{begin, next as then, finish}
use Rattle.print_domain.proofs.relation_lines.Goals as goal

pub line-one-requires : goal.line-one-requires
line-one-requires c = (c.requires.0, rw c.word_of.ensures (relation_fits 0 c.args.r c.requires.1), c.parameters-places.ensures.0)

pub line-two-requires : goal.line-two-requires
line-two-requires c = (c.requires.0, rw c.word_of-2.ensures (relation_fits 1 c.args.r c.requires.1), c.parameters-places.ensures.0)

pub line_if-three-requires : goal.line_if-three-requires
line_if-three-requires c = (c.requires.0, rw c.word_of-3.ensures (relation_fits 2 c.args.r c.requires.1), c.parameters-only.ensures.0)

pub line_if-requires : goal.line_if-requires
line_if-requires c = (c.requires.0, rw c.word_of-4.ensures (relation_fits 3 c.args.r c.requires.1), c.parameters-only.ensures.0)

pub returns : goal.returns
returns c =
    let one = rw c.word_of.ensures at c.line-one.ensures in
    let two = rw c.word_of-2.ensures at c.line-two.ensures in
    let three = rw c.word_of-3.ensures at c.line_if-three.ensures in
    let four = rw c.word_of-4.ensures at c.line_if.ensures in
    finish _ (then _ _ (then _ _ (then _ _ (begin _ (lines_parts _ _ _ _ _ _ _ _ _ c.parameters-places.ensures.2 c.parameters-only.ensures.2 c.is_function-is.ensures c.is_injective-too.ensures) (omega arith) (omega arith)) one) two) three) four
