-- `print_units::said` meets its contract.
use native.Mathlib.Omega.{arith}
use mathlib.Core.Path.{refl}
use Rattle.print_bytes.specs.Emitted.{emits_as}
use Rattle.print_units.specs.Units.{said_number, said_label, its_span}
use Rattle.print_units.proofs.said.Goals as goal

pub slice_bounds-text-count : goal.slice_bounds-text-count
slice_bounds-text-count c = (its_span c.args.site.now _ c.args.x _ _ c.in-Some.ensures.some.0 c.in-Some.ensures.some.1 _ c.requires (omega arith)).0

pub slice_bounds-text-start : goal.slice_bounds-text-start
slice_bounds-text-start c = (its_span c.args.site.now _ c.args.x _ _ c.in-Some.ensures.some.0 c.in-Some.ensures.some.1 _ c.requires (omega arith)).0

pub slice_bounds-text-end : goal.slice_bounds-text-end
slice_bounds-text-end c = (its_span c.args.site.now _ c.args.x _ _ c.in-Some.ensures.some.0 c.in-Some.ensures.some.1 _ c.requires (omega arith)).1

pub returns-in-Some : goal.returns-in-Some
returns-in-Some c = emits_as (said_label _ _ c.args.x _ _ c.in-Some.ensures.some.0 c.in-Some.ensures.some.1 c.in-Some.ensures.some.2) c.text.ensures

pub returns-in-None : goal.returns-in-None
returns-in-None c = emits_as (said_number _ _ c.args.x _ _ refl refl c.in-None.ensures.none) c.decimal.ensures
