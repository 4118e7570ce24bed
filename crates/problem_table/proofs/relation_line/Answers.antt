-- `problem_table::relation_line` meets its contract.
use mathlib.Core.Path.{refl}
use Rattle.problem_table.specs.Lines.{relation_line}
use Rattle.problem_table.proofs.relation_line.Goals as goal

pub returns : goal.returns
unfolding relation_line
returns c = refl
