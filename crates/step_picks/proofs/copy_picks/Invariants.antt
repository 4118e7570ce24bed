-- `step_picks::copy_picks` meets its contract. The invariant: what is written and what is left to write are all words of the table's lines. Assumes nothing.
use Prim.Native.Nat.{◌+◌, ◌-◌, ◌≤◌}
use mathlib.Core.Path.{◌≡◌}
use lib.ListN.{length}
use lib.Seq.{sets}
use Rattle.bits.specs.Table.{bit}
use Rattle.problem_table.specs.Lines.{relations_in, table_length}
use Rattle.step_picks.specs.Copies.{count_from, picks_in, words_from}
use Rattle.step_picks.proofs.copy_picks.Given as goal

abbrev pub invariant-loop-r : goal.invariant-loop-r
invariant-loop-r l = (l.r ≤ relations_in l.table) × (length l.picks ≡ length l.initial.picks) × (l.word + count_from l.table l.r (relations_in l.table - l.r) ≡ picks_in l.table)
    × (sets l.initial.picks 0 (words_from (bit l.state) l.table 0 (relations_in l.table)) ≡ sets l.picks l.word (words_from (bit l.state) l.table l.r (relations_in l.table - l.r)))
    × (relations_in l.table ≤ 18) × (length l.table ≡ table_length)
