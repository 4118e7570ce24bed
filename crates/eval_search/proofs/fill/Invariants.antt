use Prim.Native.Nat.{◌+◌, ◌≤◌}
use mathlib.Core.Path.{◌≡◌}
use lib.ListN.{length}
use Rattle.problem_table.specs.Lines.{relations_in, table_length}
use Rattle.eval_search.specs.Lanes.{number_in}
use Rattle.eval_search.specs.Counts.{cells_to, words_to}
use Rattle.eval_search.specs.Filled.{CellsIn}
use Rattle.eval_search.proofs.fill.Given as goal

abbrev pub invariant-loop-r : goal.invariant-loop-r
invariant-loop-r l = (l.r ≤ relations_in l.table) × (l.word ≡ words_to l.table l.r) × (l.left + cells_to l.table l.r ≡ l.cells) × CellsIn l.table l.cells (number_in l.lanes.top l.lanes.low l.keeps) l.keeps l.r l.words × (length l.words ≡ length l.initial.words) × (relations_in l.table ≤ 18) × (length l.table ≡ table_length)
