use Prim.Native.Nat.{◌-◌}
use mathlib.Core.Path.{refl}
use native.Mathlib.Omega.{arith}
use native.Mathlib.Nat.{mod-lt}
use lib.ListN.{length-set}
use Rattle.rows.specs.Laws.{within_set}
use Rattle.step_prove.specs.TurnLaws.{rest_set}
use Rattle.step_write.specs.Skipping.{left_start, left_next, later_next}
use Rattle.step_write.proofs.digits_at.Goals as goal

pub loop-i-init : goal.loop-i-init
loop-i-init c = (omega arith, refl, c.requires.4, c.requires.5, left_start _ _ _, λ q a l. absurd (omega arith))

pub bounds-digits-i : goal.bounds-digits-i
bounds-digits-i c = let l = c.loop-i in omega (arith, l.invariant.1, c.requires.3)

pub loop-i-preserved : goal.loop-i-preserved
loop-i-preserved c =
    let l = c.loop-i in let a = c.args in let q = c.requires in (
      omega arith,
      simp length-set l.invariant.1,
      within_set a.n l.digits _ _ (mod-lt _ q.0) l.invariant.2,
      rest_set a.width (l.i - 1) _ l.digits (omega arith) l.invariant.3,
      left_next _ _ _ _ _ (omega arith) l.invariant.0 l.invariant.4,
      later_next a.n a.width a.row l.i l.rest (omega arith) l.invariant.0 l.invariant.4 l.digits (omega (arith, l.invariant.1, q.3)) l.invariant.5,
    )

pub shape_of-digits : goal.shape_of-digits
shape_of-digits c = c.loop-i.invariant.1

pub returns : goal.returns
returns c = let l = c.loop-i in (l.invariant.2, l.invariant.3, λ q u. l.invariant.5 q (omega arith) u)
