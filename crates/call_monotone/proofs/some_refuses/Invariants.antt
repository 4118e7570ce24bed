use Prim.Native.Nat.{◌-◌, ◌≤◌}
use mathlib.Core.Path.{◌≡◌}
use lib.ListN.{length}
use Rattle.definitions.specs.Lists.{any, from, below}
use Rattle.call_monotone.specs.Wants.{part_at}
use Rattle.call_monotone.proofs.some_refuses.Given as goal

abbrev pub invariant-loop-i : goal.invariant-loop-i
invariant-loop-i l = (l.i ≤ l.many) × (any (part_at l.first l.t l.at) (below l.many) ≡ any (part_at l.first l.t l.at) (from l.i (l.many - l.i))) × (length l.t.parts ≡ 64)
