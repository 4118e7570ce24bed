-- `step_layers::ends_fault` meets its contract.
use Prim.Native.Nat.{◌≤◌}
use mathlib.Core.Path.{◌≡◌}
use lib.ListN.{length, drop}
use Rattle.definitions.specs.Reply.Layers.{ends_test}
use Rattle.step_layers.specs.Layers.{AreEnds}
use Rattle.step_layers.proofs.ends_fault.Given as goal

abbrev pub invariant-loop-i : goal.invariant-loop-i
invariant-loop-i l = (l.i ≤ length l.ends) × (ends_test l.count 0 0 l.ends ≡ ends_test l.count l.k l.i (drop l.i l.ends)) × (AreEnds l.count l.k (drop l.i l.ends) → l.k ≤ l.count → AreEnds l.count 0 l.ends)
