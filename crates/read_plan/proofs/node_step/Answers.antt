-- `read_plan::node_step` meets its contract. Assumes nothing.
use native.Mathlib.Omega.{arith}
use Rattle.read_plan.specs.Objects.{small_product}
use Rattle.read_plan.specs.Numbers.{node_number_lem, acts_small, width_few}
use Rattle.read_plan.proofs.node_step.Goals as goal

pub row-first-requires : goal.row-first-requires
row-first-requires c = (c.requires.fits.0.size, omega (arith, width_few _ _ _ c.requires.fits.0 c.requires.fits.1 c.node_line-line.ensures), omega (arith, width_few _ _ _ c.requires.fits.0 c.requires.fits.1 c.node_line-line.ensures, c.requires.fits.2), c.requires.fits.3)

pub overflow_add-width : goal.overflow_add-width
overflow_add-width c = omega (arith, width_few _ _ _ c.requires.fits.0 c.requires.fits.1 c.node_line-line.ensures, c.requires.each_bound.2)

pub overflow_mul-first : goal.overflow_mul-first
overflow_mul-first c = omega (arith, small_product c.row-first.result c.args.c.each c.row-first.ensures.1 c.requires.each_bound.0)

pub overflow_add-line : goal.overflow_add-line
overflow_add-line c = omega (arith, small_product c.row-first.result c.args.c.each c.row-first.ensures.1 c.requires.each_bound.0, acts_small _ _ _ c.requires.fits.0 c.node_line-line.ensures)

pub overflow_add-line-2 : goal.overflow_add-line-2
overflow_add-line-2 c = omega (arith, small_product c.row-first.result c.args.c.each c.row-first.ensures.1 c.requires.each_bound.0, acts_small _ _ _ c.requires.fits.0 c.node_line-line.ensures, c.requires.each_bound.1)

pub returns : goal.returns
returns c = node_number_lem _ _ _ _ _ _ _ _ _ _ c.node_line-line.ensures c.row-first.ensures.0 c.step_if.ensures
