use mathlib.Core.Path.{◌∙◌}
use native.Mathlib.Omega.{arith}
use Rattle.definitions.specs.Problem.Atoms.{problem_of}
use Rattle.eval_search.specs.Worded.{all_cells}
use Rattle.eval_search.specs.Steps.{cells_of, first_placed, first_searched, all_full, before_end, nearer, answers_number, answers_nothing}
use Rattle.eval_search.proofs.least_number.Goals as goal

pub top_level-requires : goal.top_level-requires
top_level-requires c = c.requires.0.few

pub enter-at-requires : goal.enter-at-requires
enter-at-requires c = (c.requires.0, c.requires.1, c.top_level.ensures)

pub loop-at-init : goal.loop-at-init
loop-at-init c = (first_placed _ _ _ _ _ _ c.top_level.ensures _ c.enter-at.ensures, first_searched _ _ _ _ _ _ all_full _ c.enter-at.ensures)

pub number_at-requires : goal.number_at-requires
number_at-requires c = let p = c.loop-at.invariant.0 in (p.lanes, p.levels, p.near)

pub overflow_shl-cells : goal.overflow_shl-cells
overflow_shl-cells c = omega (arith, c.requires.0.few)

pub turn-at-requires : goal.turn-at-requires
turn-at-requires c = (c.requires.0, c.requires.1, c.loop-at.invariant.0, before_end _ _ _ c.requires.0.few c.number_at.ensures c.loop-at-test.true)

pub number_at-requires-then-at : goal.number_at-requires-then-at
number_at-requires-then-at c = let p = c.turn-at.ensures.placed in (p.lanes, p.levels, p.near)

pub returns-then-at : goal.returns-then-at
returns-then-at c = λ d a. let t = c.turn-at.ensures in answers_number d (cells_of d) _ _ c.number_at-then-at.ensures (t.searched d a (c.loop-at.invariant.1 d a)) (t.meant d a (c.loop-at.invariant.1 d a) c.if-at.true)

pub loop-at-smaller : goal.loop-at-smaller
loop-at-smaller c = let t = c.turn-at.ensures in nearer c.loop-at.at c.turn-at.result t.placed (before_end _ _ _ c.requires.0.few c.number_at.ensures c.loop-at-test.true) (t.falls c.if-at.false)

pub loop-at-preserved : goal.loop-at-preserved
loop-at-preserved c = let t = c.turn-at.ensures in (t.placed, λ d a. t.searched d a (c.loop-at.invariant.1 d a))

pub returns : goal.returns
returns c = λ d a. answers_nothing d (cells_of d) _ _ c.number_at.ensures (c.loop-at.invariant.1 d a) _ (c.requires.0.counted ∙ all_cells (problem_of d) _ a.sought.is) c.requires.0.few (omega (arith, c.loop-at-test.false))
