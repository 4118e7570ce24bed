use Prim.Native.Nat.{◌-◌, ◌≤◌}
use mathlib.Core.Path.{◌≡◌}
use mathlib.Core.List.{List}
use lib.ListN.{length}
use Rattle.bits.specs.Table.{bit}
use Rattle.definitions.specs.Lists.{all, from}
use Rattle.definitions.specs.Sheet.Relations.{Tuple}
use Rattle.definitions.specs.Problem.Truth.{Case, values, rule_is_true}
use Rattle.step_build.specs.Following.{Building, round_at, round_holds}
use Rattle.step_build.proofs.rounds_hold.Given as goal

abbrev pub invariant-loop-k : goal.invariant-loop-k
invariant-loop-k l = (l.k ≤ l.last) × (length l.left ≡ length l.initial.left) × (length l.none ≡ 1)
    × ((c : Case) (F : List Tuple) → Building c F l.table (length l.initial.left) → bit l.initial.left ≡ round_at c F 0 → (bit l.left ≡ round_at c F l.k) × (rule_is_true c F ≡ all (round_holds c F) (from l.k (values c - l.k))))
