use lib.Dec.{eqb}
use Rattle.problem_table.specs.NeedLaws.{within_most}
use Rattle.eval_rule.specs.Laws.{line_small, number_small, leaf_is, agree_is}
use Rattle.eval_rule.proofs.leaf_holds.Goals as goal

pub part_number-k-requires : goal.part_number-k-requires
part_number-k-requires c =
    let q = line_small c.args.n c.args.lines.now c.requires.0 c.args.i c.line_at-line.result c.line_at-line.ensures in
    (q.0, q.1, within_most c.args.n c.args.env c.requires.0.size c.requires.2)

pub literal_holds-b-requires : goal.literal_holds-b-requires
literal_holds-b-requires c = (c.requires.0.some, number_small c.args.n c.args.lines.now c.requires.0 c.args.i c.part_number-k.result c.line_at-line.result c.args.env c.line_at-line.ensures c.requires.2 c.part_number-k.ensures)

pub returns : goal.returns
returns c =
    let k = c.part_number-k in let l = c.line_at-line in let b = c.literal_holds-b in
    leaf_is _ _ _ _ _ l.result _ k.result b.result _ l.ensures k.ensures b.ensures (agree_is b.result (eqb c.args.q.tag 1))
