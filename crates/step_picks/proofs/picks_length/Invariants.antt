-- `step_picks::picks_length` meets its contract. The invariant: the sum and the words of the lines left are all words. Assumes nothing.
use Prim.Native.Nat.{◌+◌, ◌-◌, ◌*◌, ◌^◌, ◌≤◌}
use mathlib.Core.Path.{◌≡◌}
use lib.ListN.{length}
use Rattle.problem_table.specs.Lines.{relations_in, table_length}
use Rattle.step_picks.specs.Copies.{count_from, picks_in}
use Rattle.step_picks.proofs.picks_length.Given as goal

abbrev pub invariant-loop-r : goal.invariant-loop-r
invariant-loop-r l = (l.r ≤ relations_in l.table) × (l.sum ≤ l.r * 2 ^ 27) × (l.sum + count_from l.table l.r (relations_in l.table - l.r) ≡ picks_in l.table) × (relations_in l.table ≤ 18)
    × (length l.table ≡ table_length)
