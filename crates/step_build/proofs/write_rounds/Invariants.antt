use Prim.Native.Nat.{◌+◌, ◌*◌, ◌^◌, ◌≤◌, ◌<◌}
use mathlib.Core.Path.{◌≡◌}
use mathlib.Core.List.{List}
use lib.ListN.{length}
use Rattle.bits.specs.Table.{bit}
use Rattle.definitions.specs.Sheet.Relations.{Tuple}
use Rattle.definitions.specs.Problem.Truth.{Case, values}
use Rattle.step_prove.specs.Following.{out}
use Rattle.step_build.specs.Following.{Building, round_at, RoundsTo}
use Rattle.step_build.proofs.write_rounds.Given as goal

abbrev pub invariant-loop-k : goal.invariant-loop-k
invariant-loop-k l = (l.k ≤ l.last) × (l.n ≤ l.at + l.k * 2 ^ 39) × (length l.state ≡ length l.initial.state) × (length l.steps ≡ length l.initial.steps)
    × ((c : Case) (F : List Tuple) → Building c F l.table (length l.initial.state) → l.last < values c → bit l.initial.state ≡ round_at c F 0 → RoundsTo c F (out (bit l.initial.state) l.initial.steps l.at) (out (bit l.state) l.steps l.n) l.k)
