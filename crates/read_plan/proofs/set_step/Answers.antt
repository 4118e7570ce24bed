-- `read_plan::set_step` meets its contract. Assumes nothing.
use native.Mathlib.Omega.{arith}
use mathlib.Core.Path.{refl}
use Rattle.read_plan.specs.Numbers.{set_number_lem, sets_small}
use Rattle.read_plan.proofs.set_step.Goals as goal

pub row-at-requires : goal.row-at-requires
row-at-requires c = (c.requires.fits.0.size, omega (arith, c.requires.by_index.1.arity c.args.r), omega (arith, c.requires.by_index.1.arity c.args.r, c.requires.fits.2), c.requires.fits.3)

pub overflow_add-line : goal.overflow_add-line
overflow_add-line c = omega (arith, sets_small _ _ _ c.requires.fits.0 c.relation_line-line.ensures, c.row-at.ensures.1)

pub returns : goal.returns
returns c = set_number_lem _ _ _ _ _ _ _ _ _ c.relation_line-line.ensures refl c.row-at.ensures.0 c.step_if.ensures
