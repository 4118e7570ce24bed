-- `step_prove::spread` meets its contract.
use native.Mathlib.Omega.{arith}
use Rattle.step_prove.specs.TurnLaws.{spread_all, spread_most}
use borrow.Author.Rules.{rules}
use Rattle.step_prove.proofs.spread.Goals as goal

pub offset_bounds-values-levels : goal.offset_bounds-values-levels
offset_bounds-values-levels c = omega (arith, c.requires.1 3)

pub bounds-values-levels : goal.bounds-values-levels
bounds-values-levels c = omega (arith, c.requires.1 3)

pub offset_bounds-values-levels-2 : goal.offset_bounds-values-levels-2
offset_bounds-values-levels-2 c = omega (arith, c.requires.1 2)

pub bounds-values-levels-2 : goal.bounds-values-levels-2
bounds-values-levels-2 c = omega (arith, c.requires.1 2)

pub offset_bounds-values-levels-3 : goal.offset_bounds-values-levels-3
offset_bounds-values-levels-3 c = omega (arith, c.requires.1 1)

pub bounds-values-levels-3 : goal.bounds-values-levels-3
bounds-values-levels-3 c = omega (arith, c.requires.1 1)

pub offset_bounds-values-levels-4 : goal.offset_bounds-values-levels-4
offset_bounds-values-levels-4 c = omega (arith, c.requires.1 0)

pub bounds-values-levels-4 : goal.bounds-values-levels-4
bounds-values-levels-4 c = omega (arith, c.requires.1 0)

pub returns : goal.returns
returns c = search (rules, spread_most, spread_all)
