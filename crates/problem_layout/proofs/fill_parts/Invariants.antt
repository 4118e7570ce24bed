-- `problem_layout::fill_parts` meets its contract.
use Prim.Native.Nat.{ℕ, ◌^◌, ◌≤◌, ◌<◌}
use mathlib.Core.Path.{◌≡◌}
use mathlib.Core.List.{List}
use lib.ListN.{length, get_or}
use Rattle.rule_nodes.specs.Tables.{no_part}
use Rattle.rows.specs.Values.{Most}
use Rattle.problem_table.specs.Lines.{table_length}
use Rattle.problem_layout.specs.Filled.{parts_place, splice, tab, numbers_in}
use Rattle.problem_layout.proofs.fill_parts.Given as goal

abbrev pub invariant-loop-i : goal.invariant-loop-i
invariant-loop-i l = let line : ℕ → List ℕ = λ k. numbers_in l.n l.ranges.top l.rel l.neg l.node (get_or l.t.parts k no_part) in (l.i ≤ l.t.placed) × (length l.table ≡ length l.initial.table)
    × (l.table ≡ splice parts_place (tab line l.i) l.initial.table) × ((u : ℕ) → u < l.i → Most (line u) (2 ^ 32)) × (l.t.placed ≤ 64) × (length l.initial.table ≡ table_length)
