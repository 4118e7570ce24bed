-- `step_start::rows` meets its contract. Assumes nothing.
use Rattle.step_start.specs.Rows.{rows_in}
use Rattle.step_start.proofs.rows.Goals as goal

pub returns : goal.returns
unfolding rows_in
returns c = c.saturating_sub.ensures
