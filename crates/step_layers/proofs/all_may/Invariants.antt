-- `step_layers::all_may` meets its contract.
use mathlib.Core.Path.{◌≡◌}
use lib.ListN.{drop}
use Rattle.definitions.specs.Lists.{all}
use Rattle.definitions.specs.Problem.Atoms.{Problem}
use Rattle.bits.specs.Table.{bit}
use Rattle.problem_table.specs.Of.{Is}
use Rattle.step_layers.specs.Tests.{may_at}
use Rattle.step_layers.proofs.all_may.Given as goal

abbrev pub invariant-loop-step : goal.invariant-loop-step
invariant-loop-step l = (p : Problem) → Is p l.table → all (may_at p (bit l.state)) l.fn.steps ≡ all (may_at p (bit l.state)) (drop l.step-index l.fn.steps)
