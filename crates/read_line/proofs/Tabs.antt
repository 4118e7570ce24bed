-- Where the first byte b of a span is found, and its end where there is none.
use Prim.Native.Nat.{ℕ, ◌+◌, ◌≤◌}
use mathlib.Core.Path.{◌≡◌}
use mathlib.Core.List.{List}
use native.Mathlib.Omega.{arith}
use lib.ListN.{length}
use lib.Seq.{slice}
use Rattle.read_text.specs.Spans.{index_of}
use Rattle.read_text.proofs.Laws.{end_within}

pub found : (b a e t : ℕ) (s : List ℕ) → (a ≤ e) × (e ≤ length s) → t ≡ a + index_of b (slice a e s) → (a ≤ t) × (t ≤ e)
found b a e t s h q = (omega arith, omega (arith, end_within b a e s h.0 h.1))
