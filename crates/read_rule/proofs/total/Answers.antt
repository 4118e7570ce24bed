-- `total` meets its contract.
use Rattle.read_rule.specs.Spans.{total_fun, total_inj, total_none}
use Rattle.read_rule.proofs.total.Goals as goal

pub returns-then-k-eq2 : goal.returns-then-k-eq2
returns-then-k-eq2 c = total_fun c.args.k c.if-k-eq2.true

pub returns-then-k-eq4 : goal.returns-then-k-eq4
returns-then-k-eq4 c = total_inj c.args.k c.if-k-eq4.true

pub returns : goal.returns
returns c = total_none c.args.k c.if-k-eq2.false c.if-k-eq4.false
