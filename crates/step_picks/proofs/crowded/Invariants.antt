use Prim.Native.Nat.{ℕ, ◌+◌, ◌-◌, ◌≤◌}
use mathlib.Core.Path.{◌≡◌}
use Rattle.definitions.specs.Lists.{any, from}
use Rattle.bits.specs.Table.{bit}
use Rattle.meaning.specs.KindRows.{is_crowded}
use Rattle.step_picks.specs.TestLaws.{row_two}
use Rattle.step_picks.proofs.crowded.Given as goal

abbrev pub invariant-loop-x : goal.invariant-loop-x
invariant-loop-x l = (l.x ≤ l.n) × (is_crowded (λ (i : ℕ). bit l.picks (l.start + i)) l.n l.a l.b ≡ any (row_two l.picks l.start l.n l.a l.b) (from l.x (l.n - l.x)))
