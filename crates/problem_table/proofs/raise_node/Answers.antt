-- `problem_table::raise_node` meets its contract.
use native.Mathlib.Omega.{arith}
use Rattle.problem_table.specs.NeedLaws.{atoms_small}
use Rattle.problem_table.specs.ChangeLaws.{node_comes}
use Rattle.problem_table.proofs.raise_node.Goals as goal

pub overflow_add-v : goal.overflow_add-v
overflow_add-v c = omega (arith, atoms_small _ c.requires.0 _ _ c.node_line-v.ensures)

pub returns : goal.returns
returns c = node_comes _ _ _ _ _ _ _ c.node_line-v.ensures c.raise.ensures
