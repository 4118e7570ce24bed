use Prim.Native.Nat.{◌≤◌}
use mathlib.Core.Path.{◌≡◌}
use lib.ListN.{length}
use Rattle.eval_search.specs.Lanes.{number_in}
use Rattle.eval_search.specs.Filled.{Filled}
use Rattle.eval_search.proofs.fill_rows.Given as goal

abbrev pub invariant-loop-row : goal.invariant-loop-row
invariant-loop-row l = (l.row ≤ l.count) × (length l.words ≡ length l.initial.words) × Filled (number_in l.lanes.top l.lanes.low l.keeps) l.left l.at l.row l.keeps l.initial.words l.words
