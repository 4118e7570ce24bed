-- `some_strays` meets its contract.
use Prim.Native.Nat.{ℕ, ◌+◌, ◌-◌, ◌≤◌}
use mathlib.Core.Path.{◌≡◌}
use Rattle.bits.specs.Table.{bit}
use Rattle.definitions.specs.Lists.{any, from}
use Rattle.meaning.specs.KindRows.{is_stray}
use Rattle.step_picks.specs.Tests.{firsts_in, seconds_in}
use Rattle.step_picks.specs.TestLaws.{row_strays}
use Rattle.step_picks.proofs.some_strays.Given as goal

abbrev pub invariant-loop-x : goal.invariant-loop-x
invariant-loop-x l = (l.x ≤ l.n) × (is_stray (λ (i : ℕ). bit l.picks (l.start + i)) l.n (firsts_in l.table l.line) (seconds_in l.table l.line)
    ≡ any (row_strays l.picks l.start l.n l.table l.line) (from l.x (l.n - l.x)))
