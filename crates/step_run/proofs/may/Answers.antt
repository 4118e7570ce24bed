-- `step_run::may` meets its contract.
use mathlib.Core.Path.{sym, ◌∙◌}
use mathlib.Core.List.{[]}
use Rattle.bits.specs.Table.{bit}
use Rattle.step_run.specs.RunLaws.{may_none, may_some}
use Rattle.step_run.proofs.may.Goals as goal

pub returns-then-is_nothing : goal.returns-then-is_nothing
returns-then-is_nothing c = λ p is. may_none p c.args.table.now is (bit c.args.state.now) 0 c.args.number [] c.action_at-a.result (c.action_at-a.ensures.1 p is) (sym c.is_nothing.ensures ∙ c.if-is_nothing.true)

pub returns : goal.returns
returns c = let action_at_lem = c.action_at-a in λ p is. may_some p c.args.table.now is (bit c.args.state.now) 0 c.args.number [] action_at_lem.result (action_at_lem.ensures.1 p is) c.may_take.result (sym c.is_nothing.ensures ∙ c.if-is_nothing.false) c.may_take.ensures
