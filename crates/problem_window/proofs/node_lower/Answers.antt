-- `problem_window::node_lower` meets its contract, by the kind of the node. Assumes nothing.
use native.Mathlib.Omega.{arith}
use Rattle.problem_window.specs.FoldLaws.{lower_forall, lower_other, lower_or}
use Rattle.problem_window.proofs.node_lower.Goals as goal

pub returns-then-kind-eq0 : goal.returns-then-kind-eq0
returns-then-kind-eq0 c = lower_forall c.args.kind c.args.count c.args.least c.args.greatest (omega arith)

pub returns-then-kind-lt3 : goal.returns-then-kind-lt3
returns-then-kind-lt3 c =
    lower_other c.args.kind c.args.count c.args.least c.args.greatest
    c.if-kind-eq0.false (omega arith)

pub returns : goal.returns
returns c = lower_or c.args.kind c.args.count c.args.least c.args.greatest (omega arith)
