-- `joining` meets its contract.
use Rattle.read_rule.specs.Spans.{join_none, join_some}
use Rattle.read_rule.proofs.joining.Goals as goal

pub returns-then-t-eq0 : goal.returns-then-t-eq0
returns-then-t-eq0 c = join_none c.args.t c.if-t-eq0.true

pub returns-else-t-eq0 : goal.returns-else-t-eq0
returns-else-t-eq0 c = join_some c.args.t c.if-t-eq0.false
