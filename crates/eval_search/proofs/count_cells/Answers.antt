use mathlib.Core.Path.{◌≡◌, ap, ◌∙◌}
use native.Mathlib.Omega.{arith}
use borrow.Author.Rules.{rules}
use Rattle.problem_table.specs.Lines.{relations_in}
use Rattle.eval_search.specs.Counts.{cells_to, cells_start, cells_sum, line_few}
use Rattle.eval_search.proofs.count_cells.Goals as goal

pub loop-r-init : goal.loop-r-init
loop-r-init c = (omega arith, omega arith, cells_start _, search rules, search rules)

pub bounds-table-1 : goal.bounds-table-1
bounds-table-1 c = omega arith

pub overflow_add-sum : goal.overflow_add-sum
overflow_add-sum c = omega (arith, line_few _ _ _ _ c.requires c.relation_line-line.ensures c.cells_in-sum.ensures)

pub loop-r-preserved : goal.loop-r-preserved
loop-r-preserved c = (omega arith, omega (arith, line_few _ _ _ _ c.requires c.relation_line-line.ensures c.cells_in-sum.ensures), cells_sum _ _ _ _ _ c.relation_line-line.ensures c.cells_in-sum.ensures c.loop-r.invariant.2, c.loop-r.invariant.3, c.loop-r.invariant.4)

pub returns : goal.returns
returns c = let e : c.loop-r.r ≡ relations_in c.args.table.now = omega arith in c.loop-r.invariant.2 ∙ ap (cells_to c.args.table.now) e
