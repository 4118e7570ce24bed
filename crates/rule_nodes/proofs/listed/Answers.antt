-- `listed` meets its contract.
use Rattle.rule_nodes.proofs.Laws.{list_own, list_yes, list_no}
use Rattle.rule_nodes.proofs.listed.Goals as goal

pub returns-then-own : goal.returns-then-own
returns-then-own c = list_own _ _ _ _ c.if-own.true

pub returns-then-marked : goal.returns-then-marked
returns-then-marked c = list_yes _ _ _ _ c.if-own.false c.if-marked.true

pub returns : goal.returns
returns c = list_no _ _ _ _ c.if-own.false c.if-marked.false
