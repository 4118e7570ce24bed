-- `call_plan::plan_lent_in` meets its contract. Assumes nothing.
use native.Mathlib.Omega.{arith}
use Rattle.std.proofs.lemmas.Result.{err_from_is_err_and}
use Rattle.refusal.specs.declared.Cause.TheVariants.{TooLong}
use Rattle.problem_layout.specs.LaidLaws.{most_zeros}
use Rattle.problem_table.specs.Lines.{table_length}
use Rattle.open_case.specs.Replies.{lent_many, lent_few}
use Rattle.call_plan.specs.Written.{planned_case, planned_steps}
use borrow.Author.Rules.{rules}
use Rattle.call_plan.proofs.plan_lent_in.Goals as goal

pub open_case-requires : goal.open_case-requires
open_case-requires c = record { facts_room = c.requires; table_len = (search rules, most_zeros table_length 0) }

pub returns-in_err-f : goal.returns-in_err-f
returns-in_err-f c =
    let p = err_from_is_err_and c.from_residual.result c.from_residual.ensures.1 in
    rw (p.1, p.2) (planned_case _ _ _ _ _ c.in_err-f.ensures)

pub returns-then-steps-gt-STEPS : goal.returns-then-steps-gt-STEPS
returns-then-steps-gt-STEPS c = rw c.at.ensures (planned_steps _ _ _ _ _ c.in_ok-f.ensures _ _ (record { cause = TooLong; place = 0 }) (lent_many _ (omega arith)))

pub plan_steps-requires : goal.plan_steps-requires
plan_steps-requires c = record { site = _; facts = _; front = c.in_ok-f.ensures }

pub returns : goal.returns
returns c = c.plan_steps.ensures _ _ _ c.in_ok-f.ensures (lent_few _ (omega arith))
