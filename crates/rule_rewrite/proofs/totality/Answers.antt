-- `totality` meets its contract.
use Rattle.rule_nodes.specs.Lent.{rows_many}
use Rattle.rule_rewrite.proofs.Root.{totality_adds}
use Rattle.rule_rewrite.proofs.totality.Goals as goal

pub returns : goal.returns
returns c =
    totality_adds _ _ _ _ _ _ _ _ _ _ (rows_many _ 0 0) c.requires.0 c.pair_row-a.ensures
    (c.put_row.ensures.1 _ _) c.quant_row-b.ensures (c.put_row-2.ensures.1 _ _) c.quant_row-c.ensures
    (c.put_row-3.ensures.1 _ _)
