use Prim.Native.Nat.{ℕ, ◌+◌}
use mathlib.Core.Path.{◌≡◌, refl, sym, ap, ◌∙◌}
use native.Mathlib.Omega.{arith}
use lib.ListN.{take, set, length-set}
use Rattle.problem_table.specs.Lines.{relations_in}
use Rattle.step_picks.specs.WordLaws.{words_few}
use Rattle.eval_search.specs.Counts.{words_to, digits_to, words_start, words_sum, words_more, walk_few, walk_left, cells_first, digits_start, digits_next}
use Rattle.eval_search.proofs.number_picks.Goals as goal

pub loop-r-init : goal.loop-r-init
loop-r-init c = let f = c.requires.0.fits in (omega arith, words_start c.args.table.now, cells_first c.args.table.now _, digits_start c.args.table.now c.args.cells c.args.m c.args.words.now, refl, f.relations, f.whole)

pub bounds-table-1 : goal.bounds-table-1
bounds-table-1 c = omega arith

pub relation_line-line-requires : goal.relation_line-line-requires
relation_line-line-requires c = let i = c.loop-r.invariant in (i.6, omega (arith, i.5, c.loop-r-test.true))

pub row_bits-requires : goal.row_bits-requires
row_bits-requires c = let f = walk_few _ _ _ _ _ _ _ c.requires.0 (omega (arith, c.loop-r-test.true)) c.relation_line-line.ensures c.cells_in-count.ensures c.loop-r.invariant.2 c.loop-r.invariant.1 in (f.0, f.1)

pub offset_bounds-words-word : goal.offset_bounds-words-word
offset_bounds-words-word c = let f = walk_few _ _ _ _ _ _ _ c.requires.0 (omega (arith, c.loop-r-test.true)) c.relation_line-line.ensures c.cells_in-count.ensures c.loop-r.invariant.2 c.loop-r.invariant.1 in omega (arith, f.2)

pub bounds-words-word : goal.bounds-words-word
bounds-words-word c = let f = walk_few _ _ _ _ _ _ _ c.requires.0 (omega (arith, c.loop-r-test.true)) c.relation_line-line.ensures c.cells_in-count.ensures c.loop-r.invariant.2 c.loop-r.invariant.1 in omega (arith, c.requires.1, c.loop-r.invariant.4, f.2)

pub words_in-word-requires : goal.words_in-word-requires
words_in-word-requires c = (words_few _ _ c.requires.0.fits _ c.relation_line-line.ensures).2

pub overflow_add-word : goal.overflow_add-word
overflow_add-word c = let f = walk_few _ _ _ _ _ _ _ c.requires.0 (omega (arith, c.loop-r-test.true)) c.relation_line-line.ensures c.cells_in-count.ensures c.loop-r.invariant.2 c.loop-r.invariant.1 in omega (arith, c.words_in-word.ensures, f.2, f.3)

pub overflow_sub-left : goal.overflow_sub-left
overflow_sub-left c = let f = walk_few _ _ _ _ _ _ _ c.requires.0 (omega (arith, c.loop-r-test.true)) c.relation_line-line.ensures c.cells_in-count.ensures c.loop-r.invariant.2 c.loop-r.invariant.1 in omega (arith, f.0)

pub loop-r-preserved : goal.loop-r-preserved
loop-r-preserved c =
    let i = c.loop-r.invariant in let l = c.loop-r-test.true in let e = c.relation_line-line.ensures in let k = c.cells_in-count.ensures in let f = walk_few _ _ _ _ _ _ _ c.requires.0 (omega (arith, l)) e k i.2 i.1 in
    let n = digits_next _ _ _ _ c.loop-r.words _ _ _ _ _ e k (omega (arith, f.0, f.1)) i.2 c.row_bits.ensures i.1 (omega (arith, c.requires.1, i.4, f.2)) i.3 in (
      omega (arith, l),
      words_more c.args.table.now c.loop-r.r _ _ _ _ c.words_in-word.ensures (words_sum _ _ _ c.words_in-word.result _ e i.1),
      walk_left _ _ _ _ _ _ _ c.requires.0 (omega (arith, l)) e k i.2 i.1,
      ap (λ (x : ℕ). take (c.loop-r.word + x) (set c.loop-r.words c.loop-r.word c.row_bits.result)) c.words_in-word.ensures ∙ n,
      length-set c.loop-r.words _ _ ∙ i.4,
      i.5,
      i.6,
    )

pub shape_of-words : goal.shape_of-words
shape_of-words c = c.loop-r.invariant.4

pub returns : goal.returns
returns c =
    let e : c.loop-r.r ≡ relations_in c.args.table.now = omega (arith, c.loop-r-test.false, c.loop-r.invariant.0) in
    ap (λ (x : ℕ). take (words_to c.args.table.now x) c.loop-r.words) (sym e) ∙ ap (λ (x : ℕ). take x c.loop-r.words) (sym c.loop-r.invariant.1) ∙ c.loop-r.invariant.3 ∙ ap (digits_to c.args.table.now c.args.cells c.args.m) e
