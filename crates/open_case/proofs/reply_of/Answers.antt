-- `open_case::reply_of` meets its contract: each ending is the answer that `ended` gives it. Assumes nothing.
use mathlib.Core.Path.{sym, ap}
use Rattle.step_run.specs.Ended.{ended}
use Rattle.open_case.proofs.reply_of.Goals as goal

pub returns-in-Done : goal.returns-in-Done
unfolding ended
returns-in-Done c = sym (ap ended c.in-Done.is)

pub returns-in-NoAction : goal.returns-in-NoAction
unfolding ended
returns-in-NoAction c = rw c.at.ensures (sym (ap ended c.in-NoAction.is))

pub returns-in-NotNow : goal.returns-in-NotNow
unfolding ended
returns-in-NotNow c = rw c.at-in-NotNow.ensures (sym (ap ended c.in-NotNow.is))

pub returns-in-NoGoal : goal.returns-in-NoGoal
unfolding ended
returns-in-NoGoal c = rw c.at-in-NoGoal.ensures (sym (ap ended c.in-NoGoal.is))
