-- `print_line::element` meets its contract.
use native.Mathlib.Omega.{arith}
use mathlib.Core.Path.{refl}
use mathlib.Core.List.{[], ◌∷◌}
use Rattle.print_line.specs.Printed.{begin, room_for, next as then, finish}
use Rattle.print_line.specs.Lines.{element_is, its_span, numbered, labelled}
use Rattle.print_line.proofs.element.Goals as goal

pub byte-next-requires : goal.byte-next-requires
byte-next-requires c = omega (arith, room_for (9 ∷ []) _ (begin c.args.out.now (element_is c.args.site.now c.args.labels.now c.args.x) c.requires.1))

pub slice_bounds-text-count : goal.slice_bounds-text-count
slice_bounds-text-count c = (its_span c.args.site.now c.args.labels.now c.args.x _ _ c.in-Some.ensures.some.0 c.in-Some.ensures.some.1 _ c.requires.0 (omega arith)).0

pub slice_bounds-text-start : goal.slice_bounds-text-start
slice_bounds-text-start c = (its_span c.args.site.now c.args.labels.now c.args.x _ _ c.in-Some.ensures.some.0 c.in-Some.ensures.some.1 _ c.requires.0 (omega arith)).0

pub slice_bounds-text-end : goal.slice_bounds-text-end
slice_bounds-text-end c = (its_span c.args.site.now c.args.labels.now c.args.x _ _ c.in-Some.ensures.some.0 c.in-Some.ensures.some.1 _ c.requires.0 (omega arith)).1

pub text-requires : goal.text-requires
text-requires c =
    let l0 = begin c.args.out.now (labelled c.args.site.now c.args.labels.now c.args.x _ _ c.in-Some.ensures.some.0 c.in-Some.ensures.some.1 c.in-Some.ensures.some.2) c.requires.1 in
    (then (9 ∷ []) _ l0 c.byte-next.ensures).room

pub returns-in-Some : goal.returns-in-Some
returns-in-Some c =
    let l0 = begin c.args.out.now (labelled c.args.site.now c.args.labels.now c.args.x _ _ c.in-Some.ensures.some.0 c.in-Some.ensures.some.1 c.in-Some.ensures.some.2) c.requires.1 in
    finish _ (then (9 ∷ []) _ l0 c.byte-next.ensures) c.text.ensures

pub decimal-requires : goal.decimal-requires
decimal-requires c =
    let l0 = begin c.args.out.now (numbered c.args.site.now c.args.labels.now c.args.x _ _ refl refl c.in-None.ensures.none) c.requires.1 in
    (then (9 ∷ []) _ l0 c.byte-next.ensures).room

pub returns-in-None : goal.returns-in-None
returns-in-None c =
    let l0 = begin c.args.out.now (numbered c.args.site.now c.args.labels.now c.args.x _ _ refl refl c.in-None.ensures.none) c.requires.1 in
    finish _ (then (9 ∷ []) _ l0 c.byte-next.ensures) c.decimal.ensures
