-- `call_plan_read::read_lines` meets its contract. Assumes nothing.
use native.Mathlib.Omega.{arith}
use Rattle.std.proofs.lemmas.Result.{err_from_is_err_and}
use Rattle.problem_layout.specs.LaidLaws.{most_zeros}
use Rattle.call_plan.specs.Written.{begun_sound}
use Rattle.call_plan_read.specs.Answered.{formed_lines, begun_posed, read_formless, read_gate, read_short, read_stopped, read_written}
use borrow.Author.Rules.{rules}
use Rattle.call_plan_read.proofs.read_lines.Goals as goal

pub returns-in_err-count : goal.returns-in_err-count
returns-in_err-count c =
    let p = err_from_is_err_and c.from_residual.result c.from_residual.ensures.1 in
    λ site facts its. rw (p.1, p.2) (read_formless _ site _ facts _ its _ _ _ c.in_err-count.ensures)

pub returns-in_err-gate : goal.returns-in_err-gate
returns-in_err-gate c =
    let p = err_from_is_err_and c.from_residual-in_err-gate.result c.from_residual-in_err-gate.ensures.1 in
    λ site facts its. rw (p.1, p.2) (read_gate _ site _ facts _ its _ _ _ c.in_ok-count.ensures _ c.in_err-gate.ensures)

pub returns-then-steps-count : goal.returns-then-steps-count
returns-then-steps-count c = λ site facts its. rw c.at.ensures (read_short _ site _ facts _ its _ _ _ c.in_ok-count.ensures _ c.in_ok-gate.ensures (omega arith))

pub names_of-requires : goal.names_of-requires
names_of-requires c = record { by_index = (_, begun_sound _ _ _ c.requires); names_len = (search rules, most_zeros 54 0) }

pub steps-requires : goal.steps-requires
steps-requires c = record { posed = begun_posed _ _ _ c.requires _ c.in_ok-gate.ensures _ _ c.in_ok-count.ensures _ c.names_of.ensures; s_value = formed_lines _ _ c.in_ok-count.ensures }

pub returns-in_err-steps : goal.returns-in_err-steps
returns-in_err-steps c =
    let p = err_from_is_err_and c.from_residual-in_err-steps.result c.from_residual-in_err-steps.ensures.1 in
    λ site facts its. rw (p.1, p.2) (read_stopped _ site _ facts _ its _ _ _ c.in_ok-count.ensures _ c.in_ok-gate.ensures _ c.names_of.ensures (omega arith) _ _ _ c.in_err-steps.ensures)

pub steps-requires-2 : goal.steps-requires-2
steps-requires-2 c = record { posed = begun_posed _ _ _ c.requires _ c.in_ok-gate.ensures _ _ c.in_ok-count.ensures _ c.names_of.ensures; s_value = formed_lines _ _ c.in_ok-count.ensures }

pub returns : goal.returns
returns c = λ site facts its. read_written _ site _ facts _ its _ _ _ c.in_ok-count.ensures _ c.in_ok-gate.ensures _ c.names_of.ensures (omega arith) _ _ _ c.in_ok-steps.ensures _ _ c.steps-2.ensures
