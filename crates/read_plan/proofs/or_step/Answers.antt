-- `read_plan::or_step` meets its contract. Assumes nothing.
use native.Mathlib.Omega.{arith}
use mathlib.Core.Path.{refl}
use Rattle.read_plan.specs.Numbers.{or_number_lem, many_few}
use Rattle.read_plan.proofs.or_step.Goals as goal

pub node_step-requires : goal.node_step-requires
node_step-requires c = record { fits = c.requires.fits; each_bound = (many_few _ _ _ c.requires.fits.0 c.requires.fits.1 c.node_line-many.ensures, c.requires.i_bound, omega arith) }

pub returns : goal.returns
returns c = or_number_lem _ _ _ _ _ _ _ _ c.node_line-many.ensures refl c.node_step.ensures
