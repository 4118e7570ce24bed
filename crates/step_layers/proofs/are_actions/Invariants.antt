-- `step_layers::are_actions` meets its contract.
use mathlib.Core.Path.{◌≡◌}
use lib.ListN.{drop}
use Rattle.definitions.specs.Lists.{all}
use Rattle.definitions.specs.Problem.Atoms.{Problem}
use Rattle.problem_table.specs.Of.{Is}
use Rattle.step_layers.specs.Tests.{is_action}
use Rattle.step_layers.proofs.are_actions.Given as goal

abbrev pub invariant-loop-step : goal.invariant-loop-step
invariant-loop-step l = (p : Problem) → Is p l.table → all (is_action p) l.fn.steps ≡ all (is_action p) (drop l.step-index l.fn.steps)
