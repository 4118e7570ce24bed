-- `call_check_layers::check_layers_in` meets its contract: the case, the steps or the ends are refused, or the layers are run. Assumes nothing.
use Rattle.std.proofs.lemmas.Result.{err_from_is_err_and}
use native.Mathlib.Omega.{arith}
use Rattle.problem_layout.specs.LaidLaws.{most_zeros}
use Rattle.problem_table.specs.Lines.{table_length}
use Prim.Native.Nat.{◌-◌}
use Rattle.refusal.specs.declared.Cause.TheVariants.{TooLong, OutOfOrder}
use Rattle.open_case.specs.Fronts.{front_ready}
use Rattle.call_check_layers.specs.Replies.{call_case, call_layers, layers_many, layers_wrong, layers_there}
use borrow.Author.Rules.{rules}
use Rattle.call_check_layers.proofs.check_layers_in.Goals as goal

pub open_case-requires : goal.open_case-requires
open_case-requires c = record { facts_room = c.requires; table_len = (search rules, most_zeros table_length 0) }

pub returns-in_err-f : goal.returns-in_err-f
returns-in_err-f c =
    let p = err_from_is_err_and c.from_residual.result c.from_residual.ensures.1 in
    rw (p.1, p.2) (call_case _ _ _ _ _ _ _ c.in_err-f.ensures)

pub returns-then-steps-gt-STEPS : goal.returns-then-steps-gt-STEPS
returns-then-steps-gt-STEPS c = rw c.at.ensures (call_layers _ _ _ _ _ _ _ _ _ c.in_ok-f.ensures (record { cause = TooLong; place = 0 }) (layers_many _ _ (omega arith)))

pub returns-then-wrong-ne0 : goal.returns-then-wrong-ne0
returns-then-wrong-ne0 c =
    rw c.at-then-wrong-ne0.ensures
    (call_layers _ _ _ _ _ _ _ _ _ c.in_ok-f.ensures (record { cause = OutOfOrder; place = c.ends_fault-wrong.result - 1 })
    (layers_wrong _ _ (omega arith) _ c.ends_fault-wrong.ensures.0 c.if-wrong-ne0.true))

pub check_taken-requires : goal.check_taken-requires
check_taken-requires c = record { by_index = (_, front_ready _ _ _ _ _ _ c.in_ok-f.ensures (omega arith) (omega arith)); are_ends = c.ends_fault-wrong.ensures.1 c.if-wrong-ne0.false }

pub returns : goal.returns
returns c =
    c.check_taken.ensures _ _ _ c.in_ok-f.ensures
    (layers_there _ _ (omega arith) _ c.ends_fault-wrong.ensures.0 c.if-wrong-ne0.false)
