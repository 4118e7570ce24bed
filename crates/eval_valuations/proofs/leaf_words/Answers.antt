use native.Mathlib.Omega.{arith}
use Rattle.problem_table.specs.NeedLaws.{within_most}
use Rattle.eval_rule.specs.Laws.{line_small}
use Rattle.eval_valuations.specs.Laws.{leaf_static, leaf_tuple, leaf_not}
use Rattle.eval_valuations.proofs.leaf_words.Goals as goal

pub returns-then-q-lt6 : goal.returns-then-q-lt6
returns-then-q-lt6 c = leaf_static _ _ _ _ _ _ _ c.leaf_holds.result _ (omega (arith, c.if-q-lt6.true)) c.leaf_holds.ensures c.spread.ensures

pub part_number-k-requires : goal.part_number-k-requires
part_number-k-requires c =
    let q = line_small c.args.n c.args.lines.now c.requires.0 c.args.i c.line_at-line.result c.line_at-line.ensures in
    (q.0, q.1, within_most c.args.n c.args.env c.requires.0.size c.requires.2)

pub returns-then-q-eq1 : goal.returns-then-q-eq1
returns-then-q-eq1 c = leaf_tuple _ _ _ _ _ _ c.line_at-line.result _ c.part_number-k.result _ (omega (arith, c.if-q-lt6.false)) c.if-q-eq1.true c.line_at-line.ensures c.part_number-k.ensures c.word_at.ensures

pub returns : goal.returns
returns c = leaf_not _ _ _ _ _ _ c.line_at-line.result _ c.part_number-k.result _ (omega (arith, c.if-q-lt6.false)) c.if-q-eq1.false c.line_at-line.ensures c.part_number-k.ensures c.word_at-2.ensures
