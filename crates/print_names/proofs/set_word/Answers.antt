-- `print_names::set_word` meets its contract. Assumes nothing.
use native.Mathlib.Omega.{arith}
use Rattle.print_bytes.specs.Emitted.{begin, next as then, finish}
use Rattle.print_page.specs.Elements.{name_in}
use Rattle.print_names.specs.Naming.{set_parts}
use Rattle.print_names.proofs.set_word.Goals as goal

pub overflow_mul-from : goal.overflow_mul-from
overflow_mul-from c = omega (arith, c.requires.0.room, c.requires.1)

pub offset_bounds-names-r : goal.offset_bounds-names-r
offset_bounds-names-r c = omega (arith, c.requires.0.room, c.requires.1)

pub bounds-names-r : goal.bounds-names-r
bounds-names-r c = omega (arith, c.requires.0.room, c.requires.1)

pub overflow_mul-to : goal.overflow_mul-to
overflow_mul-to c = omega (arith, c.requires.0.room, c.requires.1)

pub overflow_add-to : goal.overflow_add-to
overflow_add-to c = omega (arith, c.requires.0.room, c.requires.1)

pub offset_bounds-names-r-2 : goal.offset_bounds-names-r-2
offset_bounds-names-r-2 c = omega (arith, c.requires.0.room, c.requires.1)

pub bounds-names-r-2 : goal.bounds-names-r-2
bounds-names-r-2 c = omega (arith, c.requires.0.room, c.requires.1)

pub slice_bounds-text-count : goal.slice_bounds-text-count
slice_bounds-text-count c = (c.requires.0.in_text c.args.r).0

pub slice_bounds-text-start : goal.slice_bounds-text-start
slice_bounds-text-start c = (c.requires.0.in_text c.args.r).0

pub slice_bounds-text-end-2 : goal.slice_bounds-text-end-2
slice_bounds-text-end-2 c = (c.requires.0.in_text c.args.r).1

pub returns : goal.returns
unfolding name_in
returns c = finish _ (then _ _ (then _ _ (begin c.args.out.now (set_parts c.args.question.now c.args.names.now c.args.r) (omega arith) (omega arith)) c.text-begun.ensures) c.text-named.ensures) c.text.ensures
