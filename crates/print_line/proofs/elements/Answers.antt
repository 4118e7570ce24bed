use Prim.Native.Nat.{◌-◌, ◌/◌, ◌%◌, ◌^◌}
use mathlib.Core.Path.{refl}
use native.Mathlib.Omega.{arith}
use native.Mathlib.Nat.{one-le-pow, mod-lt}
use Rattle.print_line.specs.Printed.{begin, recut, room_for, next as then, finished, left_length}
use Rattle.print_line.specs.Lines.{element, fewer, next_place, no_places, narrower}
use Rattle.print_line.proofs.elements.Goals as goal

pub loop-left-init : goal.loop-left-init
loop-left-init c = (c.requires.2, begin _ refl c.requires.3)

pub nonzero_div-width : goal.nonzero_div-width
nonzero_div-width c = omega arith

pub nonzero_div-row : goal.nonzero_div-row
nonzero_div-row c =
    let a = c.args in
    omega (arith, narrower a.n c.loop-left._left c.loop-left.width (omega arith) (omega arith) c.loop-left.invariant.0, one-le-pow (c.loop-left._left - 1) a.n (omega arith))

pub nonzero_rem-row : goal.nonzero_rem-row
nonzero_rem-row c = omega arith

pub element-next-requires : goal.element-next-requires
element-next-requires c =
    let a = c.args in
    let l = c.loop-left in (
      fewer c.requires.0 (omega (arith, mod-lt (a.row / (l.width / a.n)) c.requires.1)),
      rw (narrower a.n l._left l.width (omega arith) (omega arith) l.invariant.0)
          (room_for (element a.site.now a.labels.now (a.row / (a.n ^ (l._left - 1)) % a.n)) _ (recut (next_place a.site.now a.labels.now a.n l._left a.row (omega arith)) l.invariant.1)),
    )

pub loop-left-preserved : goal.loop-left-preserved
loop-left-preserved c =
    let a = c.args in
    let l = c.loop-left in let w = narrower a.n l._left l.width (omega arith) (omega arith) l.invariant.0 in
    (w, then (element a.site.now a.labels.now (a.row / (a.n ^ (l._left - 1)) % a.n)) _ (recut (next_place a.site.now a.labels.now a.n l._left a.row (omega arith)) l.invariant.1) (rw w at c.element-next.ensures))

pub shape_of-out : goal.shape_of-out
shape_of-out c = left_length c.loop-left.invariant.1

pub returns : goal.returns
returns c = let a = c.args in finished (recut (no_places a.site.now a.labels.now a.n c.loop-left._left a.row (omega arith)) c.loop-left.invariant.1)
