use Prim.Native.Nat.{ℕ}
use mathlib.Core.Path.{◌≡◌, refl, subst, ◌∙◌}
use native.Mathlib.Omega.{arith}
use Rattle.problem_table.specs.Lines.{relations_in}
use Rattle.step_picks.specs.WordLaws.{words_few}
use Rattle.eval_search.specs.Lanes.{number_in}
use Rattle.eval_search.specs.Counts.{words_start, words_sum, words_more, walk_few, walk_left, cells_first, cells_at}
use Rattle.eval_search.specs.Filled.{CellsIn, cells_none, cells_more}
use Rattle.eval_search.proofs.fill.Goals as goal

pub loop-r-init : goal.loop-r-init
loop-r-init c = let f = c.requires.0.fits in (omega arith, words_start c.args.table.now, cells_first c.args.table.now _, cells_none c.args.table.now c.args.cells (number_in c.args.lanes.top c.args.lanes.low c.args.keeps) c.args.keeps c.args.words.now, refl, f.relations, f.whole)

pub bounds-table-1 : goal.bounds-table-1
bounds-table-1 c = omega arith

pub relation_line-line-requires : goal.relation_line-line-requires
relation_line-line-requires c = let i = c.loop-r.invariant in (i.6, omega (arith, i.5, c.loop-r-test.true))

pub overflow_mul-word : goal.overflow_mul-word
overflow_mul-word c = let f = walk_few _ _ _ _ _ _ _ c.requires.0 (omega (arith, c.loop-r-test.true)) c.relation_line-line.ensures c.cells_in-count.ensures c.loop-r.invariant.2 c.loop-r.invariant.1 in omega (arith, f.2)

pub fill_rows-requires : goal.fill_rows-requires
fill_rows-requires c = let f = walk_few _ _ _ _ _ _ _ c.requires.0 (omega (arith, c.loop-r-test.true)) c.relation_line-line.ensures c.cells_in-count.ensures c.loop-r.invariant.2 c.loop-r.invariant.1 in (omega (arith, c.requires.1, c.loop-r.invariant.4, f.0, f.1, f.2), f.0, omega (arith, f.1))

pub words_in-word-requires : goal.words_in-word-requires
words_in-word-requires c = (words_few _ _ c.requires.0.fits _ c.relation_line-line.ensures).2

pub overflow_add-word : goal.overflow_add-word
overflow_add-word c = let f = walk_few _ _ _ _ _ _ _ c.requires.0 (omega (arith, c.loop-r-test.true)) c.relation_line-line.ensures c.cells_in-count.ensures c.loop-r.invariant.2 c.loop-r.invariant.1 in omega (arith, c.words_in-word.ensures, f.2, f.3)

pub overflow_sub-left : goal.overflow_sub-left
overflow_sub-left c = let f = walk_few _ _ _ _ _ _ _ c.requires.0 (omega (arith, c.loop-r-test.true)) c.relation_line-line.ensures c.cells_in-count.ensures c.loop-r.invariant.2 c.loop-r.invariant.1 in omega (arith, f.0)

pub loop-r-preserved : goal.loop-r-preserved
loop-r-preserved c =
    let i = c.loop-r.invariant in let l = c.loop-r-test.true in let e = c.relation_line-line.ensures in let k = c.cells_in-count.ensures in let g = c.fill_rows.ensures in let f = walk_few _ _ _ _ _ _ _ c.requires.0 (omega (arith, l)) e k i.2 i.1 in (
      omega (arith, l),
      words_more c.args.table.now c.loop-r.r _ _ _ _ c.words_in-word.ensures (words_sum _ _ _ c.words_in-word.result _ e i.1),
      walk_left _ _ _ _ _ _ _ c.requires.0 (omega (arith, l)) e k i.2 i.1,
      cells_more _ _ _ _ _ _ _ _ _ _ f.4 i.2 i.1 (cells_at _ _ _ _ e k) g i.3,
      g.long ∙ i.4,
      i.5,
      i.6,
    )

pub shape_of-words : goal.shape_of-words
shape_of-words c = c.loop-r.invariant.4

pub returns : goal.returns
returns c = let e : c.loop-r.r ≡ relations_in c.args.table.now = omega (arith, c.loop-r-test.false, c.loop-r.invariant.0) in subst (λ (n : ℕ). CellsIn c.args.table.now c.args.cells (number_in c.args.lanes.top c.args.lanes.low c.args.keeps) c.args.keeps n c.loop-r.words) e c.loop-r.invariant.3
