-- `problem_layout::fill_relations` meets its contract.
use Prim.Native.Nat.{◌≤◌}
use mathlib.Core.Path.{◌≡◌}
use lib.ListN.{length}
use Rattle.problem_table.specs.Lines.{table_length}
use Rattle.problem_layout.specs.Filled.{relations_place, splice, tab, relation_numbers}
use Rattle.problem_layout.proofs.fill_relations.Given as goal

abbrev pub invariant-loop-r : goal.invariant-loop-r
invariant-loop-r l = (l.r ≤ l.g.count) × (length l.table ≡ length l.initial.table) × (l.table ≡ splice relations_place (tab (relation_numbers l.ranges.count l.g l.l) l.r) l.initial.table)
    × (l.g.count ≤ 18) × (length l.initial.table ≡ table_length)
