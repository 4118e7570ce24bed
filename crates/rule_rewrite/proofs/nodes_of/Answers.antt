-- `nodes_of` meets its contract.
use Rattle.rule_rewrite.proofs.Root.{table_of_lem, rows_ranged}
use Rattle.rule_rewrite.proofs.nodes_of.Goals as goal

pub tabulate-requires : goal.tabulate-requires
tabulate-requires c = let r = c.rows_of-u in (r.auto.rows, r.ensures.few, rows_ranged _ _ _ _ c.requires _ r.ensures)

pub returns : goal.returns
returns c = table_of_lem _ _ _ _ c.requires _ _ c.rows_of-u.ensures c.tabulate.ensures
