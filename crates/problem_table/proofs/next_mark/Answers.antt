-- `problem_table::next_mark` meets its contract.
use native.Mathlib.Omega.{arith}
use Rattle.problem_table.specs.NeedLaws.{next_inside, next_past}
use Rattle.problem_table.proofs.next_mark.Goals as goal

pub returns-then-k-row : goal.returns-then-k-row
returns-then-k-row c = next_inside c.args.k c.args.row (omega arith)

pub returns : goal.returns
returns c = next_past c.args.k c.args.row (omega arith)
