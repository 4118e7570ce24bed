-- `step_run::step` meets its contract.
use mathlib.Core.List.{[]}
use lib.ListN.{length}
use Rattle.bits.specs.Table.{bit}
use Rattle.step_run.specs.RunLaws.{step_is}
use Rattle.step_run.proofs.step.Goals as goal

pub returns : goal.returns
returns c = let action_at_lem = c.action_at-a in λ p x is room y. step_is p c.args.table.now is (bit c.args.state.now) 0 c.args.number [] action_at_lem.result (action_at_lem.ensures.1 p is) x (bit c.take.new.state) (length c.args.state.now) y room c.take.ensures
