-- `call_allowance::write` meets its contract: each turn writes the allowance of the next relation. Assumes nothing.
use Prim.Native.Nat.{◌≤◌}
use mathlib.Core.Path.{◌≡◌}
use lib.ListN.{length}
use Rattle.call_allowance.specs.Allows.{Shown}
use Rattle.call_allowance.proofs.write.Given as goal

abbrev pub invariant-loop-k : goal.invariant-loop-k
invariant-loop-k l = (l.k ≤ length l.out) × (length l.out ≡ length l.initial.out) × Shown l.n l.t l.first l.k l.out
