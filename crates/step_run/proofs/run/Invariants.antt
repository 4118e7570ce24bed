-- `step_run::run` meets its contract.
use Prim.Native.Nat.{◌*◌, ◌≤◌}
use mathlib.Core.Path.{◌≡◌}
use lib.ListN.{length, drop}
use Rattle.definitions.specs.Problem.Atoms.{Problem, atoms}
use Rattle.definitions.specs.Problem.Strips.{run_from}
use Rattle.bits.specs.Table.{bit}
use Rattle.problem_table.specs.Of.{Is}
use Rattle.step_run.proofs.run.Given as goal

abbrev pub invariant-loop-i : goal.invariant-loop-i
invariant-loop-i l = (l.i ≤ length l.steps) × (length l.state ≡ length l.initial.state) × ((p : Problem) → Is p l.table → atoms p ≤ 64 * length l.initial.state → run_from p (bit l.initial.state) 0 l.steps ≡ run_from p (bit l.state) l.i (drop l.i l.steps))
