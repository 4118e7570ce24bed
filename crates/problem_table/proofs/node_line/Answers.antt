-- `problem_table::node_line` meets its contract.
use mathlib.Core.Path.{refl}
use Rattle.problem_table.specs.Lines.{node_line}
use Rattle.problem_table.proofs.node_line.Goals as goal

pub returns : goal.returns
unfolding node_line
returns c = refl
