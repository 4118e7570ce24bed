-- `read_text::find` meets its contract. The bytes before i are others, so what is sought is sought from i on.
use Prim.Native.Nat.{◌+◌, ◌-◌, ◌≤◌}
use mathlib.Core.Path.{◌≡◌}
use lib.Seq.{slice}
use Rattle.read_text.specs.Spans.{index_of}
use Rattle.read_text.proofs.find.Given as goal

abbrev pub invariant-loop-i : goal.invariant-loop-i
invariant-loop-i l = (l.i ≤ l.end) × (l.at + index_of l.b (slice l.at l.end l.s) ≡ l.i + index_of l.b (slice l.i l.end l.s))

abbrev pub decreases-loop-i : goal.decreases-loop-i
decreases-loop-i l = l.end - l.i

abbrev pub invariant-loop-k : goal.invariant-loop-k
invariant-loop-k l = (l.i ≤ l.k) × (l.at + index_of l.b (slice l.at l.end l.s) ≡ l.k + index_of l.b (slice l.k l.end l.s))
