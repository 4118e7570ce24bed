-- `call_check::check_lent_in` meets its contract: the case is refused, the steps are too many, or they are run. Assumes nothing.
use native.Mathlib.Omega.{arith}
use Rattle.std.proofs.lemmas.Result.{err_from_is_err_and}
use Rattle.refusal.specs.declared.Cause.TheVariants.{TooLong}
use Rattle.problem_layout.specs.LaidLaws.{most_zeros}
use Rattle.problem_table.specs.Lines.{table_length}
use Rattle.open_case.specs.Fronts.{front_ready}
use Rattle.open_case.specs.Replies.{lent_many, lent_few}
use Rattle.call_check.specs.Replies.{call_case, call_steps}
use borrow.Author.Rules.{rules}
use Rattle.call_check.proofs.check_lent_in.Goals as goal

pub open_case-requires : goal.open_case-requires
open_case-requires c = record { facts_room = c.requires; table_len = (search rules, most_zeros table_length 0) }

pub returns-in_err-f : goal.returns-in_err-f
returns-in_err-f c =
    let p = err_from_is_err_and c.from_residual.result c.from_residual.ensures.1 in
    rw (p.1, p.2) (call_case _ _ _ _ _ _ c.in_err-f.ensures)

pub returns-then-steps-gt-STEPS : goal.returns-then-steps-gt-STEPS
returns-then-steps-gt-STEPS c = rw c.at.ensures (call_steps _ _ _ _ _ _ _ _ c.in_ok-f.ensures (record { cause = TooLong; place = 0 }) (lent_many _ (omega arith)))

pub check_steps-requires : goal.check_steps-requires
check_steps-requires c = (_, front_ready _ _ _ _ _ _ c.in_ok-f.ensures (omega arith) (omega arith))

pub returns : goal.returns
returns c = c.check_steps.ensures _ _ _ _ c.in_ok-f.ensures (lent_few _ (omega arith))
