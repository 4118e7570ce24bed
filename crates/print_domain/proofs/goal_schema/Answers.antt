-- `print_domain::goal_schema` meets its contract. Assumes nothing.
use native.Mathlib.Omega.{arith}
use Rattle.print_domain.specs.Nodes.{small_goal, goal_parts}
use Rattle.print_bytes.specs.Emitted.{begin, next as then, finish}
use Rattle.print_domain.proofs.goal_schema.Goals as goal

pub head-headed-requires : goal.head-headed-requires
head-headed-requires c = (c.requires.0, small_goal, omega arith)

pub part-needed-requires : goal.part-needed-requires
part-needed-requires c = (c.requires.0, c.requires.1, c.requires.1.root)

pub returns : goal.returns
returns c = finish _ (then _ _ (then _ _ (begin _ (goal_parts _ _ _ _) (omega arith) (omega arith)) c.head-headed.ensures) c.part-needed.ensures) c.text.ensures
