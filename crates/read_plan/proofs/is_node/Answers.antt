-- `read_plan::is_node` meets its contract. Assumes nothing.
use native.Mathlib.Omega.{arith}
use mathlib.Core.Path.{◌∙◌, ap}
use lib.Dec.{eqb}
use Rattle.problem_table.specs.declared.NodeLine.{NodeLine}
use Rattle.read_plan.specs.Domain.{node_past, node_there}
use Rattle.read_plan.proofs.is_node.Goals as goal

pub returns-then-table-v : goal.returns-then-table-v
returns-then-table-v c = node_past _ _ _ (omega arith)

pub returns : goal.returns
returns c = ap (λ (x : NodeLine). eqb x.kind c.args.kind) c.node_line.ensures ∙ node_there _ _ _ (omega arith)
