-- `problem_layout::fill_ranges` meets its contract.
use Prim.Native.Nat.{ℕ, ◌≤◌}
use mathlib.Core.Path.{◌≡◌}
use mathlib.Core.List.{List}
use lib.ListN.{length}
use Rattle.definitions.specs.Lists.{below}
use Rattle.problem_layout.specs.Filled.{splice, with_ranges}
use Rattle.problem_layout.proofs.fill_ranges.Given as goal

abbrev pub invariant-loop-k : goal.invariant-loop-k
invariant-loop-k l = (l.k ≤ l.types) × (length l.table ≡ length l.initial.table) × ((d : List ℕ) → l.initial.table ≡ splice l.at (below l.n) d → l.table ≡ with_ranges l.at l.n l.members l.k d) × (l.types ≤ 8)
