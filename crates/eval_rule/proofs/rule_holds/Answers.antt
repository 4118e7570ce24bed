use native.Mathlib.Omega.{arith}
use Rattle.rows.specs.Laws.{within_zeros, value_zeros}
use Rattle.eval_rule.specs.Lines.{leaf_at}
use Rattle.eval_rule.specs.Laws.{root_node, root_leaf, root_small}
use Rattle.eval_rule.proofs.rule_holds.Goals as goal

pub node_holds-requires : goal.node_holds-requires
node_holds-requires c = (c.requires, root_small c.args.n c.args.lines.now c.requires c.part_at-q.result c.part_at-q.ensures c.if-q-eq0.true, within_zeros c.args.n c.requires.some)

pub returns-then-q-eq0 : goal.returns-then-q-eq0
returns-then-q-eq0 c =
    let part_at = c.part_at-q in λ H root h. root_node H root c.args.n c.args.lines.now (leaf_at c.args.facts.now c.args.picks.now c.args.n) h part_at.result part_at.ensures _
    value_zeros c.node_holds.result c.if-q-eq0.true (c.node_holds.ensures H root)

pub leaf_holds-requires : goal.leaf_holds-requires
leaf_holds-requires c = (c.requires, omega arith, within_zeros c.args.n c.requires.some)

pub returns : goal.returns
returns c =
    let part_at = c.part_at-q in λ H root h. root_leaf H root c.args.n c.args.lines.now (leaf_at c.args.facts.now c.args.picks.now c.args.n) h part_at.result part_at.ensures _
    value_zeros c.leaf_holds.result c.if-q-eq0.false (within_zeros c.args.n c.requires.some) c.leaf_holds.ensures
