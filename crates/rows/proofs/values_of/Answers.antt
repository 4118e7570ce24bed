use Prim.Native.Nat.{◌-◌}
use mathlib.Core.Path.{◌≡◌, refl}
use native.Mathlib.Omega.{arith}
use native.Mathlib.Nat.{mod-lt}
use borrow.Author.Rules.{rules}
use lib.ListN.{length, length-set}
use Rattle.rows.specs.Laws.{values_none, rest_none, values_next, values_all, within_zeros, within_set}
use Rattle.rows.proofs.values_of.Goals as goal

pub loop-i-init : goal.loop-i-init
loop-i-init c = (omega arith, refl, rest_none c.args.n c.args.row c.args.width, values_none c.args.n c.args.row c.args.width c.args.levels, within_zeros c.args.n (omega arith))

pub offset_bounds-out-levels : goal.offset_bounds-out-levels
offset_bounds-out-levels c = omega (arith, c.requires.levels (c.loop-i.i - 1))

pub bounds-out-levels : goal.bounds-out-levels
bounds-out-levels c = omega (arith, c.requires.levels (c.loop-i.i - 1))

pub loop-i-preserved : goal.loop-i-preserved
loop-i-preserved c =
    let l = c.loop-i in let len : length c.args.levels ≡ 4 = search rules in
    let t = values_next c.args.n c.args.width l.i c.args.row l.rest l.out c.args.levels (omega arith) (omega arith) (omega arith) (omega (arith, c.requires.levels (l.i - 1))) l.invariant.2 l.invariant.3 in
    (omega arith, simp length-set l.invariant.1, t.1, t.0, within_set c.args.n l.out _ _ (mod-lt l.rest (omega arith)) l.invariant.4)

pub returns : goal.returns
returns c = (values_all c.args.n c.args.width c.loop-i.i c.args.row c.loop-i.out c.args.levels c.loop-i-test.false c.loop-i.invariant.3, c.loop-i.invariant.4)
