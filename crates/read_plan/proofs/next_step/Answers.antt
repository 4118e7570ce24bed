-- `read_plan::next_step` meets its contract. Assumes nothing.
use native.Mathlib.Omega.{arith}
use mathlib.Core.Path.{refl}
use Prim.Native.Nat.{◌+◌}
use Rattle.read_plan.specs.Numbers.{next_none, next_number_lem, width_few}
use Rattle.read_plan.proofs.next_step.Goals as goal

pub overflow_add-z : goal.overflow_add-z
overflow_add-z c = omega (arith, width_few _ _ _ c.requires.0 c.requires.1 c.node_line-width.ensures)

pub offset_bounds-values-width : goal.offset_bounds-values-width
offset_bounds-values-width c = omega (arith, width_few _ _ _ c.requires.0 c.requires.1 c.node_line-width.ensures)

pub bounds-values-width : goal.bounds-values-width
bounds-values-width c = omega (arith, width_few _ _ _ c.requires.0 c.requires.1 c.node_line-width.ensures, c.requires.2)

pub offset_bounds-values-width-2 : goal.offset_bounds-values-width-2
offset_bounds-values-width-2 c = omega (arith, width_few _ _ _ c.requires.0 c.requires.1 c.node_line-width.ensures)

pub bounds-values-width-2 : goal.bounds-values-width-2
bounds-values-width-2 c = omega (arith, width_few _ _ _ c.requires.0 c.requires.1 c.node_line-width.ensures, c.requires.2)

pub overflow_add-values : goal.overflow_add-values
overflow_add-values c = omega (arith, c.requires.3 c.node_line-width.result.width, c.requires.0.size)

pub returns-then-z-values : goal.returns-then-z-values
returns-then-z-values c = next_none _ _ _ _ _ _ c.node_line-width.ensures refl c.if-z-values.true

pub node_step-requires : goal.node_step-requires
node_step-requires c = record { fits = c.requires; each_bound = (c.requires.0.size, omega (arith, c.requires.3 (c.node_line-width.result.width + 1), c.requires.0.size), omega arith) }

pub returns : goal.returns
returns c = next_number_lem _ _ _ _ _ _ c.node_line-width.ensures refl _ c.if-z-values.false c.node_step.ensures
