use Prim.Native.Nat.{◌+◌, ◌≤◌}
use mathlib.Core.Path.{◌≡◌}
use lib.ListN.{length, take}
use Rattle.problem_table.specs.Lines.{relations_in, table_length}
use Rattle.eval_search.specs.Counts.{cells_to, words_to, digits_to}
use Rattle.eval_search.proofs.number_picks.Given as goal

abbrev pub invariant-loop-r : goal.invariant-loop-r
invariant-loop-r l = (l.r ≤ relations_in l.table) × (l.word ≡ words_to l.table l.r) × (l.left + cells_to l.table l.r ≡ l.cells) × (take l.word l.words ≡ digits_to l.table l.cells l.m l.r) × (length l.words ≡ length l.initial.words) × (relations_in l.table ≤ 18) × (length l.table ≡ table_length)
