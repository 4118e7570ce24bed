-- `read_plan::exists_step` meets its contract. Assumes nothing.
use native.Mathlib.Omega.{arith}
use mathlib.Core.Path.{refl}
use Rattle.read_plan.specs.Numbers.{exists_number_lem, width_few}
use Rattle.read_plan.proofs.exists_step.Goals as goal

pub offset_bounds-values-width : goal.offset_bounds-values-width
offset_bounds-values-width c = omega (arith, width_few _ _ _ c.requires.0 c.requires.1 c.node_line-width.ensures)

pub bounds-values-width : goal.bounds-values-width
bounds-values-width c = omega (arith, width_few _ _ _ c.requires.0 c.requires.1 c.node_line-width.ensures, c.requires.2)

pub node_step-requires : goal.node_step-requires
node_step-requires c = record { fits = c.requires; each_bound = (c.requires.0.size, omega (arith, c.requires.3 c.node_line-width.result.width, c.requires.0.size), omega arith) }

pub returns : goal.returns
returns c = exists_number_lem _ _ _ _ _ _ _ c.node_line-width.ensures refl c.node_step.ensures
