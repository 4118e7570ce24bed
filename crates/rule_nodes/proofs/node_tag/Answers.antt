-- `node_tag` meets its contract.
use Rattle.rule_nodes.proofs.Laws.{tag_forall, tag_other}
use Rattle.rule_nodes.proofs.node_tag.Goals as goal

pub returns-then-kind-eq0 : goal.returns-then-kind-eq0
returns-then-kind-eq0 c = tag_forall c.args.kind c.if-kind-eq0.true

pub returns-else-kind-eq0 : goal.returns-else-kind-eq0
returns-else-kind-eq0 c = tag_other c.args.kind c.if-kind-eq0.false
