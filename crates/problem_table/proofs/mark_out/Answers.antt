-- `problem_table::mark_out` meets its contract.
use Rattle.problem_table.specs.ChangeLaws.{mark_next}
use Rattle.problem_table.proofs.mark_out.Goals as goal

pub returns : goal.returns
returns c = mark_next _ _ _ _ _ _ _ c.next_mark.ensures c.take_mark.ensures
