-- `call_plan::plan_text_with` meets its contract. Assumes nothing.
use Rattle.std.proofs.lemmas.Result.{err_from_is_err_and}
use Rattle.problem_layout.specs.LaidLaws.{most_zeros}
use Rattle.problem_table.specs.Lines.{table_length}
use Rattle.call_plan.specs.Written.{planned_case}
use borrow.Author.Rules.{rules}
use Rattle.call_plan.proofs.plan_text_with.Goals as goal

pub open_case-requires : goal.open_case-requires
open_case-requires c = record { facts_room = c.requires.facts_room; table_len = (search rules, most_zeros table_length 0) }

pub returns-in_err-f : goal.returns-in_err-f
returns-in_err-f c =
    let p = err_from_is_err_and c.from_residual.result c.from_residual.ensures.1 in
    rw (p.1, p.2) (planned_case _ _ _ _ _ c.in_err-f.ensures)

pub plan_listed-requires : goal.plan_listed-requires
plan_listed-requires c = record { begun = record { site = _; facts = _; front = c.in_ok-f.ensures }; room_for = c.requires.room_for }

pub returns : goal.returns
returns c = c.plan_listed.ensures _ _ c.in_ok-f.ensures
