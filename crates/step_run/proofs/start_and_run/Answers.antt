-- `step_run::start_and_run` meets its contract: the initial state, then the run from it, by the law `runs`. Assumes nothing.
use native.Mathlib.Omega.{arith}
use Rattle.step_run.specs.Checks.{runs}
use borrow.Author.Rules.{rules}
use Rattle.step_run.proofs.start_and_run.Goals as goal

pub returns : goal.returns
returns c = runs _ _ _ _ _ _ _ c.initial_state.ensures (search rules) (search rules) (λ j. omega (arith, c.type_inv.state j)) c.run.ensures
