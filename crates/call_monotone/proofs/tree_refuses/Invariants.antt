use Prim.Native.Nat.{◌-◌, ◌≤◌}
use mathlib.Core.Path.{◌≡◌}
use lib.ListN.{length}
use Rattle.definitions.specs.Lists.{any, from, below}
use Rattle.call_monotone.specs.Wants.{row_refuses}
use Rattle.call_monotone.proofs.tree_refuses.Given as goal

abbrev pub invariant-loop-v : goal.invariant-loop-v
invariant-loop-v l = (l.v ≤ l.t.count) × (any (row_refuses l.first l.t) (below l.t.count) ≡ any (row_refuses l.first l.t) (from l.v (l.t.count - l.v))) × (length l.t.rows ≡ 64)
