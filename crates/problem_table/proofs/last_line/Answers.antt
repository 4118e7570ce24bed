-- `problem_table::last_line` meets its contract.
use native.Mathlib.Omega.{arith}
use Rattle.problem_table.specs.NeedLaws.{last_none}
use Rattle.problem_table.proofs.last_line.Goals as goal

pub returns-then-count-eq0 : goal.returns-then-count-eq0
returns-then-count-eq0 c = last_none _ _ (omega arith) c.relation_line.ensures
