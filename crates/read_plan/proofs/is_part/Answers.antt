-- `read_plan::is_part` meets its contract. Assumes nothing.
use native.Mathlib.Omega.{arith}
use mathlib.Core.Path.{◌∙◌, ap, sym}
use lib.Dec.{ltb}
use Rattle.problem_table.specs.declared.NodeLine.{NodeLine}
use Rattle.read_plan.specs.Domain.{part_there, part_none, node_small}
use Rattle.read_plan.proofs.is_part.Goals as goal

pub node_line-requires : goal.node_line-requires
node_line-requires c = (c.requires.whole, omega (arith, c.requires.nodes, node_small _ _ _ (sym c.is_node.ensures ∙ c.if-is_node.true)))

pub returns-then-is_node : goal.returns-then-is_node
returns-then-is_node c = ap (λ (x : NodeLine). ltb c.args.i x.many) c.node_line.ensures ∙ part_there _ _ _ (sym c.is_node.ensures ∙ c.if-is_node.true)

pub returns : goal.returns
returns c = part_none _ _ _ (sym c.is_node.ensures ∙ c.if-is_node.false)
