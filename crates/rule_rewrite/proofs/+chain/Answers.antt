use Rattle.rule_rewrite.proofs.Tables.{chain_none, chain_more}
use Rattle.rule_rewrite.proofs.+chain.Goals as goal

pub returns-then-k-eq0 : goal.returns-then-k-eq0
returns-then-k-eq0 t c = λ nodes. chain_none _ _ _ _ _ _ _ nodes c.if-k-eq0.true

pub returns : goal.returns
returns t c = λ nodes. chain_more _ _ _ _ _ _ _ _ _ nodes _ c.if-k-eq0.false c.requires.0 c.quant_row-row.ensures (c.put_row.ensures.1 _ nodes) (c.chain.ensures nodes)
