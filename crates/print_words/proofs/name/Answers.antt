-- `print_words::name` meets its contract. Assumes nothing.
use native.Mathlib.Omega.{arith}
use Rattle.print_bytes.specs.Emitted.{emits_as}
use Rattle.print_page.specs.Elements.{name_in}
use Rattle.print_words.specs.Words.{name_low, name_high}
use Rattle.print_words.proofs.name.Goals as goal

pub returns-then-r-lt5 : goal.returns-then-r-lt5
returns-then-r-lt5 c = emits_as (name_low _ _ _ c.if-r-lt5.true) c.built_in_name.ensures

pub overflow_mul-from : goal.overflow_mul-from
overflow_mul-from c = omega (arith, c.requires.0.room, c.requires.1)

pub offset_bounds-names-r : goal.offset_bounds-names-r
offset_bounds-names-r c = omega (arith, c.requires.0.room, c.requires.1)

pub bounds-names-r : goal.bounds-names-r
bounds-names-r c = omega (arith, c.requires.0.room, c.requires.1)

pub overflow_mul-to : goal.overflow_mul-to
overflow_mul-to c = omega (arith, c.requires.0.room, c.requires.1)

pub overflow_add-to : goal.overflow_add-to
overflow_add-to c = omega (arith, c.requires.0.room, c.requires.1)

pub offset_bounds-names-r-2 : goal.offset_bounds-names-r-2
offset_bounds-names-r-2 c = omega (arith, c.requires.0.room, c.requires.1)

pub bounds-names-r-2 : goal.bounds-names-r-2
bounds-names-r-2 c = omega (arith, c.requires.0.room, c.requires.1)

pub slice_bounds-text-count : goal.slice_bounds-text-count
slice_bounds-text-count c = (c.requires.0.in_text c.args.r).0

pub slice_bounds-text-start : goal.slice_bounds-text-start
slice_bounds-text-start c = (c.requires.0.in_text c.args.r).0

pub slice_bounds-text-end : goal.slice_bounds-text-end
slice_bounds-text-end c = (c.requires.0.in_text c.args.r).1

pub returns : goal.returns
unfolding name_in
returns c = emits_as (name_high _ _ _ (omega arith)) c.text.ensures
