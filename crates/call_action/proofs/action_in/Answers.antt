-- `call_action::action_in` meets its contract: the case is refused, it is over the limits, there is no such action, or it is the one decoded. Assumes nothing.
use Rattle.std.proofs.lemmas.Result.{err_from_is_err_and}
use Rattle.problem_layout.specs.LaidLaws.{most_zeros}
use Rattle.problem_table.specs.Lines.{table_length}
use Rattle.call_action.specs.Asked.{asked_case, asked_over, asked_table, asked_none, asked_known}
use borrow.Author.Rules.{rules}
use Rattle.call_action.proofs.action_in.Goals as goal

pub open_case-requires : goal.open_case-requires
open_case-requires c = record { facts_room = c.requires; table_len = (search rules, most_zeros table_length 0) }

pub returns-in_err-f : goal.returns-in_err-f
returns-in_err-f c =
    let p = err_from_is_err_and c.from_residual.result c.from_residual.ensures.1 in
    rw (p.1, p.2) (asked_case _ _ _ _ _ c.in_err-f.ensures)

pub returns-in_err-m : goal.returns-in_err-m
returns-in_err-m c =
    let p = err_from_is_err_and c.from_residual-in_err-m.result c.from_residual-in_err-m.ensures.1 in
    rw (p.1, p.2) (asked_over _ _ _ _ _ _ _ c.in_ok-f.ensures _ c.in_err-m.was)

pub returns-then-m-k : goal.returns-then-m-k
returns-then-m-k c = rw c.at.ensures (asked_none _ _ _ _ _ _ _ c.in_ok-f.ensures _ c.in_ok-m.was c.if-m-k.true)

pub action_at-requires : goal.action_at-requires
action_at-requires c = asked_table _ _ _ 0 _ _ _ c.in_ok-f.ensures _ c.in_ok-m.was

pub returns : goal.returns
returns c = asked_known _ _ _ _ _ _ _ c.in_ok-f.ensures _ c.in_ok-m.was c.if-m-k.false _ c.action_at.ensures.1
