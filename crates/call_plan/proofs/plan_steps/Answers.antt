-- `call_plan::plan_steps` meets its contract. Assumes nothing.
use native.Mathlib.Omega.{arith}
use Rattle.std.proofs.lemmas.Result.{err_from_is_err_and}
use Rattle.problem_layout.specs.LaidLaws.{most_zeros}
use Rattle.call_plan.specs.Written.{planned_gate, planned_missing, planned_short, planned_written, begun_sound, begun_grounded, begun_names}
use borrow.Author.Rules.{rules}
use Rattle.call_plan.proofs.plan_steps.Goals as goal

pub returns-in_err-m : goal.returns-in_err-m
returns-in_err-m c =
    let p = err_from_is_err_and c.from_residual.result c.from_residual.ensures.1 in
    λ site facts given its t. rw (p.1, p.2) (planned_gate _ site _ facts _ its given _ _ t _ c.in_err-m.ensures)

pub returns-then-bad-steps : goal.returns-then-bad-steps
returns-then-bad-steps c = λ site facts given its t. rw c.at.ensures (planned_missing _ site _ facts _ its given _ _ t _ c.in_ok-m.ensures _ c.missing-bad.ensures (omega arith))

pub names_of-requires : goal.names_of-requires
names_of-requires c = record { by_index = (_, begun_sound _ _ _ c.requires); names_len = (search rules, most_zeros 54 0) }

pub plan-bytes-requires : goal.plan-bytes-requires
plan-bytes-requires c = (begun_grounded _ _ _ c.requires _ c.in_ok-m.ensures, begun_names _ _ _ c.requires _ c.names_of.ensures)

pub returns-then-out-bytes : goal.returns-then-out-bytes
returns-then-out-bytes c = λ site facts given its t. rw c.at-then-out-bytes.ensures (planned_short _ site _ facts _ its given _ _ t _ c.in_ok-m.ensures _ c.missing-bad.ensures (omega arith) _ c.names_of.ensures _ _ _ c.plan-bytes.ensures (omega arith))

pub plan-requires : goal.plan-requires
plan-requires c = (begun_grounded _ _ _ c.requires _ c.in_ok-m.ensures, begun_names _ _ _ c.requires _ c.names_of.ensures)

pub returns : goal.returns
returns c = λ site facts given its t. planned_written _ site _ facts _ its given _ _ t _ c.in_ok-m.ensures _ c.missing-bad.ensures (omega arith) _ c.names_of.ensures _ _ _ _ _ c.plan-bytes.ensures c.plan.ensures (omega arith)
