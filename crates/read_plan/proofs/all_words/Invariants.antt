-- `read_plan::all_words` meets its contract. Assumes nothing.
use mathlib.Core.Path.{◌≡◌}
use Prim.Native.Nat.{◌+◌, ◌-◌, ◌≤◌}
use lib.Seq.{slice}
use Rattle.read_text.specs.Spans.{index_of}
use Rattle.read_plan.specs.Words.{are_words}
use Rattle.read_plan.proofs.all_words.Given as goal

abbrev pub invariant-loop-j : goal.invariant-loop-j
invariant-loop-j l = (l.a ≤ l.i) × (l.i ≤ l.j) × (l.j ≤ l.e) × (l.j ≡ l.i + index_of 32 (slice l.i l.e l.s)) × (are_words l.s l.a l.e ≡ are_words l.s l.i l.e)

abbrev pub decreases-loop-j : goal.decreases-loop-j
decreases-loop-j l = l.e - l.i
