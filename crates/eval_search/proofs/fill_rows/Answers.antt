use Prim.Native.Nat.{ℕ}
use mathlib.Core.Path.{◌≡◌, subst}
use native.Mathlib.Omega.{arith}
use borrow.Author.Rules.{rules}
use Rattle.eval_search.specs.Lanes.{number_in}
use Rattle.eval_search.specs.Filled.{Filled, filled_none, filled_more}
use Rattle.eval_search.proofs.fill_rows.Goals as goal

pub loop-row-init : goal.loop-row-init
loop-row-init c = (omega arith, search rules, filled_none _ _ _ _ _)

pub overflow_sub-left : goal.overflow_sub-left
overflow_sub-left c = omega (arith, c.requires.1, c.loop-row-test.true)

pub overflow_sub-left-in-loop-row : goal.overflow_sub-left-in-loop-row
overflow_sub-left-in-loop-row c = omega (arith, c.requires.1, c.loop-row-test.true)

pub lane_word-requires : goal.lane_word-requires
lane_word-requires c = omega (arith, c.requires.1, c.requires.2, c.loop-row-test.true)

pub overflow_add-words : goal.overflow_add-words
overflow_add-words c = omega (arith, c.requires.0, c.loop-row-test.true)

pub offset_bounds-words-at : goal.offset_bounds-words-at
offset_bounds-words-at c = omega (arith, c.requires.0, c.loop-row-test.true)

pub bounds-words-at : goal.bounds-words-at
bounds-words-at c = omega (arith, c.requires.0, c.loop-row-test.true, c.loop-row.invariant.1)

pub loop-row-preserved : goal.loop-row-preserved
loop-row-preserved c = let f = filled_more _ _ _ _ _ _ _ _ c.loop-row.invariant.2 (omega (arith, c.requires.0, c.loop-row-test.true)) c.lane_word.ensures in (omega (arith, c.loop-row-test.true), f.long, f)

pub returns : goal.returns
returns c =
    let o = c.loop-row in let a = c.args in let e : o.row ≡ a.count = omega (arith, c.loop-row-test.false, o.invariant.0) in
    subst (λ (k : ℕ). Filled (number_in a.lanes.top a.lanes.low a.keeps) a.left a.at k a.keeps a.words.now o.words) e o.invariant.2
