-- `print_page::name` meets its contract.
use Rattle.print_page.specs.Elements.{name_in}
use native.Mathlib.Omega.{arith}
use Rattle.print_page.proofs.name.Goals as goal

pub overflow_mul-from : goal.overflow_mul-from
overflow_mul-from c = omega (arith, c.requires.0.room, c.requires.1)

pub offset_bounds-names-r : goal.offset_bounds-names-r
offset_bounds-names-r c = omega (arith, c.requires.0.room, c.requires.1)

pub bounds-names-r : goal.bounds-names-r
bounds-names-r c = omega (arith, c.requires.0.room, c.requires.1)

pub overflow_mul-to : goal.overflow_mul-to
overflow_mul-to c = omega (arith, c.requires.0.room, c.requires.1)

pub overflow_add-to : goal.overflow_add-to
overflow_add-to c = omega (arith, c.requires.0.room, c.requires.1)

pub offset_bounds-names-r-2 : goal.offset_bounds-names-r-2
offset_bounds-names-r-2 c = omega (arith, c.requires.0.room, c.requires.1)

pub bounds-names-r-2 : goal.bounds-names-r-2
bounds-names-r-2 c = omega (arith, c.requires.0.room, c.requires.1)

pub slice_bounds-left-count : goal.slice_bounds-left-count
slice_bounds-left-count c = (c.requires.0.in_text c.args.r).0

pub slice_bounds-left-start : goal.slice_bounds-left-start
slice_bounds-left-start c = (c.requires.0.in_text c.args.r).0

pub slice_bounds-left-end : goal.slice_bounds-left-end
slice_bounds-left-end c = (c.requires.0.in_text c.args.r).1

pub returns : goal.returns
unfolding name_in
returns c = c.left.ensures
