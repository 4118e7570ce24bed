-- `node_part` meets its contract.
use Rattle.rule_nodes.proofs.node_part.Goals as goal

pub returns : goal.returns
returns c = rw c.node_tag-tag.ensures
