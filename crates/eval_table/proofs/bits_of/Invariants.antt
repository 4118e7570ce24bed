use Prim.Native.Nat.{ℕ, ◌*◌, ◌-◌, ◌^◌, ◌≤◌, ◌<◌}
use mathlib.Core.Path.{◌≡◌}
use lib.ListN.{get_or, length}
use Rattle.rows.specs.Values.{Most}
use Rattle.eval_table.specs.Lined.{fact_sum, choose_sum, bit_of}
use Rattle.eval_table.proofs.bits_of.Given as goal

abbrev pub invariant-loop-r : goal.invariant-loop-r
invariant-loop-r l = (l.r ≤ 18) × (l.facts ≡ fact_sum l.n l.g l.r) × (l.picks ≡ choose_sum l.n l.g l.r) × (l.facts ≤ l.r * 262145) × (l.picks ≤ l.r * 262145) × ((u : ℕ) → u < l.r → get_or l.bits u 0 ≡ bit_of l.n l.g u) × Most l.bits (2 ^ 32) × (length l.bits ≡ 18)
