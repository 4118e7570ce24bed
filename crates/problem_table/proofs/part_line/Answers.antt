-- `problem_table::part_line` meets its contract.
use mathlib.Core.Path.{refl}
use Rattle.problem_table.specs.Lines.{part_line}
use Rattle.problem_table.proofs.part_line.Goals as goal

pub returns : goal.returns
unfolding part_line
returns c = refl
