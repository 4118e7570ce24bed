-- `problem_table::set_row` meets its contract.
use Prim.Native.Nat.{◌+◌, ◌*◌, ◌/◌, ◌%◌, ◌<◌, ◌≤◌}
use mathlib.Core.Path.{◌≡◌, sym, ◌∙◌}
use mathlib.Core.Bool.{false}
use native.Mathlib.Omega.{arith}
use lib.ListN.{get_or}
use Rattle.problem_table.specs.Lines.{table_length, size_in}
use Rattle.problem_table.specs.Numbers.{is_whole}
use Rattle.problem_table.specs.NeedLaws.{row_whole, row_pair, pair_inside, pair_small, pair_le}
use Rattle.problem_table.proofs.set_row.Goals as goal
use Rattle.problem_table.proofs.set_row.Goals.{Else-is_whole}

-- past the test the two places of the offset are members of their ranges
module _ (c : Else-is_whole) where
  typed : is_whole c.args.line ≡ false
  typed = sym c.is_whole.ensures ∙ c.if-is_whole.false

  inside : let k = c.args.line in let off = c.args.off in
      (0 < k.second_count) × (k.firsts + off / k.second_count < table_length) × (k.seconds + off % k.second_count < table_length)
  inside = pair_inside _ _ _ c.requires.1 (c.requires.2 typed)

  small : let a = c.args in let k = a.line in let t = a.table.now in
      (get_or t (k.firsts + a.off / k.second_count) 0 * size_in t ≤ 64 * 64) × (get_or t (k.seconds + a.off % k.second_count) 0 < size_in t)
  small =
      let h = c.requires.2 typed in
      (pair_le _ _ _ c.requires.1 h c.requires.0.size, (pair_small _ _ _ c.requires.1 h).1)

pub returns-then-is_whole : goal.returns-then-is_whole
returns-then-is_whole c = row_whole _ _ _ (sym c.is_whole.ensures ∙ c.if-is_whole.true)

pub nonzero_div-result : goal.nonzero_div-result
nonzero_div-result c = (inside c).0

pub overflow_add-result : goal.overflow_add-result
overflow_add-result c = omega (arith, (inside (goal.at.overflow_add-result c).Else-is_whole).1)

pub offset_bounds-table-line : goal.offset_bounds-table-line
offset_bounds-table-line c = omega (arith, (inside (goal.at.offset_bounds-table-line c).Else-is_whole).1)

pub bounds-table-line : goal.bounds-table-line
bounds-table-line c = omega (arith, (inside (goal.at.bounds-table-line c).Else-is_whole).1)

pub overflow_mul-result : goal.overflow_mul-result
overflow_mul-result c = omega (arith, (small (goal.at.overflow_mul-result c).Else-is_whole).0)

pub nonzero_rem-result : goal.nonzero_rem-result
nonzero_rem-result c = (inside (goal.at.nonzero_rem-result c).Else-is_whole).0

pub overflow_add-result-2 : goal.overflow_add-result-2
overflow_add-result-2 c = omega (arith, (inside (goal.at.overflow_add-result-2 c).Else-is_whole).2)

pub offset_bounds-table-line-2 : goal.offset_bounds-table-line-2
offset_bounds-table-line-2 c = omega (arith, (inside (goal.at.offset_bounds-table-line-2 c).Else-is_whole).2)

pub bounds-table-line-2 : goal.bounds-table-line-2
bounds-table-line-2 c = omega (arith, (inside (goal.at.bounds-table-line-2 c).Else-is_whole).2)

pub overflow_add-result-3 : goal.overflow_add-result-3
overflow_add-result-3 c = let q = small (goal.at.overflow_add-result-3 c).Else-is_whole in omega arith

pub returns : goal.returns
returns c = row_pair _ _ _ (typed (goal.at.returns c).Else-is_whole)
