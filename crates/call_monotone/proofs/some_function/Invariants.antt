use Prim.Native.Nat.{◌-◌, ◌≤◌}
use mathlib.Core.Path.{◌≡◌}
use lib.ListN.{length}
use Rattle.definitions.specs.Lists.{any, from, below}
use Rattle.call_monotone.specs.Wants.{kind_at}
use Rattle.call_monotone.proofs.some_function.Given as goal

abbrev pub invariant-loop-i : goal.invariant-loop-i
invariant-loop-i l = (l.i ≤ l.count) × (any (kind_at l.g.kind l.first) (below l.count) ≡ any (kind_at l.g.kind l.first) (from l.i (l.count - l.i))) × (length l.g.kind ≡ 18)
