-- `call_plan_read::read_plan_in` meets its contract. Assumes nothing.
use Rattle.std.proofs.lemmas.Result.{err_from_is_err_and}
use Rattle.problem_layout.specs.LaidLaws.{most_zeros}
use Rattle.problem_table.specs.Lines.{table_length}
use Rattle.call_plan_read.specs.Answered.{read_case}
use borrow.Author.Rules.{rules}
use Rattle.call_plan_read.proofs.read_plan_in.Goals as goal

pub open_case-requires : goal.open_case-requires
open_case-requires c = record { facts_room = c.requires; table_len = (search rules, most_zeros table_length 0) }

pub returns-in_err-f : goal.returns-in_err-f
returns-in_err-f c =
    let p = err_from_is_err_and c.from_residual.result c.from_residual.ensures.1 in
    rw (p.1, p.2) (read_case _ _ _ _ _ c.in_err-f.ensures)

pub read_lines-requires : goal.read_lines-requires
read_lines-requires c = record { site = _; facts = _; front = c.in_ok-f.ensures }

pub returns : goal.returns
returns c = c.read_lines.ensures _ _ c.in_ok-f.ensures
