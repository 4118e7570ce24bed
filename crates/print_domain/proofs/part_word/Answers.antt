-- `print_domain::part_word` meets its contract. Assumes nothing.
use native.Mathlib.Omega.{arith}
use Rattle.print_domain.specs.Texts.{proved_fits}
use Rattle.print_domain.specs.Nodes.{word_tuple, word_node, tuple_fits, node_number_lem}
use Rattle.print_domain.proofs.part_word.Goals as goal

pub returns-then-tag-lt2 : goal.returns-then-tag-lt2
returns-then-tag-lt2 c = (word_tuple c.args.t c.args.q _ _ c.wide-tag.ensures.0 c.wide-number.ensures.0 c.if-tag-lt2.true, tuple_fits c.args.q _ _ c.requires.1 c.wide-tag.ensures.0 c.wide-number.ensures.0 c.if-tag-lt2.true)

pub bounds-t-number : goal.bounds-t-number
bounds-t-number c = omega (arith, node_number_lem c.args.q _ _ c.requires.1 c.wide-tag.ensures.0 c.wide-number.ensures.0 c.if-tag-lt2.false)

pub returns : goal.returns
returns c = (word_node c.args.t c.args.q _ _ _ c.wide-tag.ensures.0 c.wide-number.ensures.0 c.wide.ensures.0 c.if-tag-lt2.false, proved_fits _ _)
