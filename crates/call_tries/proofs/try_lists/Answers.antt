-- `call_tries::try_lists`: a case is begun, and each record is answered.
use Rattle.std.proofs.Common.{rules}
use Rattle.definitions.specs.Limits.{usual}
use Rattle.problem_table.specs.Lines.{table_length}
use Rattle.problem_layout.specs.LaidLaws.{most_zeros}
use Rattle.call_tries.specs.Answers.{ends_refused, ends_tried}
use Rattle.call_tries.proofs.try_lists.Goals as goal

pub begin-requires : goal.begin-requires
begin-requires c = (search rules, most_zeros table_length 0)

pub returns-in-Ok : goal.returns-in-Ok
returns-in-Ok c =
    let a = c.args in let h = ends_tried usual a.question.now a.site.now a.steps.now a.state.now a.tries.now _ _ _ _ c.in-Ok.ensures c.try_each.ensures in
    record { value = h.0; tries_after = h.1.0; state_after = h.1.1 }

pub returns-in-Err : goal.returns-in-Err
returns-in-Err c =
    let a = c.args in let h = ends_refused usual a.question.now a.site.now a.steps.now a.state.now a.tries.now _ _ c.in-Err.ensures in
    record { value = rw c.number.ensures h.0; tries_after = h.1.0; state_after = h.1.1 }
