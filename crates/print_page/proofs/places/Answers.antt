use native.Mathlib.Omega.{arith}
use native.Mathlib.Nat.{mod-lt}
use mathlib.Core.Path.{refl}
use lib.ListN.{length-set}
use Rattle.rows.specs.Laws.{within_set}
use Rattle.print_page.specs.Elements.{rest_first, rest_next, places_first, places_next, places_all}
use Rattle.print_page.proofs.places.Goals as goal

pub loop-i-init : goal.loop-i-init
loop-i-init c = (omega arith, refl, rest_first c.args.n c.args.row c.args.count, places_first c.args.n c.args.row c.args.count c.args.values.now, c.requires.2)

pub nonzero_rem-values : goal.nonzero_rem-values
nonzero_rem-values c = omega arith

pub bounds-values-i : goal.bounds-values-i
bounds-values-i c = omega (arith, c.requires.1, c.loop-i.invariant.1)

pub nonzero_div-rest : goal.nonzero_div-rest
nonzero_div-rest c = omega arith

pub loop-i-preserved : goal.loop-i-preserved
loop-i-preserved c = (
  omega arith,
  simp length-set c.loop-i.invariant.1,
  rest_next c.args.n c.args.count c.loop-i.i c.args.row c.loop-i.rest (omega arith) (omega arith) c.loop-i.invariant.2,
  places_next c.args.n c.args.count c.loop-i.i c.args.row c.loop-i.rest c.loop-i.values (omega arith) (omega arith)
      (omega (arith, c.requires.1, c.loop-i.invariant.1)) c.loop-i.invariant.2 c.loop-i.invariant.3,
  within_set c.args.n c.loop-i.values _ _ (mod-lt c.loop-i.rest c.requires.0) c.loop-i.invariant.4,
)

pub shape_of-values : goal.shape_of-values
shape_of-values c = c.loop-i.invariant.1

pub returns : goal.returns
returns c = (
  places_all c.args.n c.args.count c.loop-i.i c.args.row c.loop-i.values (omega arith) c.loop-i.invariant.3,
  c.loop-i.invariant.4,
)
