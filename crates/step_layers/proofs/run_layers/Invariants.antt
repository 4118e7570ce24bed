-- `step_layers::run_layers` meets its contract.
use Prim.Native.Nat.{◌*◌, ◌≤◌}
use mathlib.Core.Path.{◌≡◌}
use lib.ListN.{length, drop}
use Rattle.definitions.specs.Problem.Atoms.{Problem, atoms}
use Rattle.meaning.specs.Means.{Good}
use Rattle.meaning.specs.Layers.{NoEvery}
use Rattle.bits.specs.Table.{bit}
use Rattle.problem_table.specs.Of.{Is}
use Rattle.step_layers.specs.Layers.{AreEnds, LayersLeft}
use Rattle.step_layers.proofs.run_layers.Given as goal

abbrev pub invariant-loop-i : goal.invariant-loop-i
invariant-loop-i l = (l.i ≤ length l.ends) × (l.k ≤ length l.steps) × AreEnds (length l.steps) l.k (drop l.i l.ends) × (length l.state ≡ length l.initial.state) ×
    ((p : Problem) → Good p → NoEvery p → Is p l.table → atoms p ≤ 64 * length l.initial.state → LayersLeft p (bit l.initial.state) l.steps l.ends (bit l.state) l.i l.k)
