-- `problem_window::node_upper` meets its contract, by the kind of the node. Assumes nothing.
use native.Mathlib.Omega.{arith}
use Rattle.problem_window.specs.FoldLaws.{upper_forall, upper_other}
use Rattle.problem_window.proofs.node_upper.Goals as goal

pub returns-then-kind-eq0 : goal.returns-then-kind-eq0
returns-then-kind-eq0 c = upper_forall c.args.kind c.args.count c.args.greatest (omega arith)

pub returns : goal.returns
returns c = upper_other c.args.kind c.args.count c.args.greatest c.if-kind-eq0.false
