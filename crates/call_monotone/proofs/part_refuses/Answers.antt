use Rattle.call_monotone.specs.Wants.{refuses_yes, refuses_no}
use Rattle.rule_nodes.specs.Tables.{head_in}
use Rattle.call_monotone.proofs.part_refuses.Goals as goal

pub returns-then-q-eq1 : goal.returns-then-q-eq1
returns-then-q-eq1 c = refuses_yes _ (head_in c.args.q) c.if-q-eq1.true _ c.wide.ensures.0

pub returns : goal.returns
returns c = refuses_no _ (head_in c.args.q) c.if-q-eq1.false
