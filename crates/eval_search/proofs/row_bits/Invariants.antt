use Prim.Native.Nat.{◌+◌, ◌-◌, ◌^◌, ◌<◌, ◌≤◌}
use mathlib.Core.Path.{◌≡◌}
use Rattle.bits.specs.Table.{digit, word}
use Rattle.eval_search.proofs.row_bits.Given as goal

abbrev pub invariant-loop-i : goal.invariant-loop-i
invariant-loop-i l = (l.i ≤ l.count) × (l.w ≡ word (λ k. digit l.m (l.left - l.count + l.i - 1 - k)) l.i) × (l.w < 2 ^ 20)
