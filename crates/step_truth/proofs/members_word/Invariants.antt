-- `step_truth::members_word` meets its contract.
use Prim.Native.Nat.{ℕ, zero, ◌+◌, ◌-◌, ◌<◌, ◌≤◌}
use Rattle.bits.specs.Table.{digit}
use Rattle.definitions.specs.Lists.{any, from}
use lib.Dec.{eqb}
use lib.ListN.{get_or}
use mathlib.Core.Bool.{◌||◌}
use mathlib.Core.Path.{◌≡◌}
use Rattle.step_truth.proofs.members_word.Given as goal

abbrev pub invariant-loop-i : goal.invariant-loop-i
invariant-loop-i l = (l.i ≤ l.count) × ((k : ℕ) → k < 64 → (digit l.w k || any (λ (j : ℕ). eqb k (get_or l.table (l.range + j) 0)) (from l.i (l.count - l.i))) ≡ any (λ (j : ℕ). eqb k (get_or l.table (l.range + j) 0)) (from zero l.count))
