-- `problem_layout::node_starts` meets its contract.
use Prim.Native.Nat.{◌≤◌}
use mathlib.Core.Path.{◌≡◌}
use lib.ListN.{length}
use Rattle.problem_layout.specs.Laid.{NodesLaid}
use Rattle.problem_layout.proofs.node_starts.Given as goal

abbrev pub invariant-loop-v : goal.invariant-loop-v
invariant-loop-v l = (l.v ≤ l.t.count) × (length l.node ≡ 65) × (length l.act ≡ 65) × NodesLaid l.n l.ranges.count l.t l.from l.first l.v l.node l.act l.at l.acts × (l.t.count ≤ 64)
