use Prim.Native.Nat.{◌-◌}
use mathlib.Core.Path.{refl}
use native.Mathlib.Omega.{arith}
use lib.ListN.{length-set}
use Rattle.rows.specs.Laws.{within_set}
use Rattle.step_prove.specs.TurnLaws.{rest_set, carry_start, carry_on, carry_done, carry_end}
use Rattle.step_prove.proofs.advance.Goals as goal

pub loop-i-init : goal.loop-i-init
loop-i-init c = (omega arith, refl, c.requires.3, c.requires.4, λ row D. carry_start c.args.n c.args.width row c.args.digits.now D)

pub bounds-digits-i : goal.bounds-digits-i
bounds-digits-i c = omega (arith, c.loop-i.invariant.1, c.requires.2)

pub overflow_add-d : goal.overflow_add-d
overflow_add-d c = omega (arith, c.loop-i.invariant.2 (c.loop-i.i - 1))

pub bounds-digits-i-then-d-n : goal.bounds-digits-i-then-d-n
bounds-digits-i-then-d-n c = omega (arith, c.loop-i.invariant.1, c.requires.2)

pub shape_of-digits-then-d-n : goal.shape_of-digits-then-d-n
shape_of-digits-then-d-n c = simp length-set c.loop-i.invariant.1

pub returns-then-d-n : goal.returns-then-d-n
returns-then-d-n c =
    let l = c.loop-i in let a = c.args in let some = c.requires.3 0 in (
      within_set a.n l.digits _ _ (omega arith) l.invariant.2,
      rest_set a.width (l.i - 1) _ l.digits (omega arith) l.invariant.3,
      λ row D. carry_done a.n a.width row l.i _ (omega arith) (omega arith) (omega arith) (omega arith) (l.invariant.4 row D) (omega arith),
    )

pub bounds-digits-i-in-loop-i : goal.bounds-digits-i-in-loop-i
bounds-digits-i-in-loop-i c = omega (arith, c.loop-i.invariant.1, c.requires.2)

pub loop-i-preserved : goal.loop-i-preserved
loop-i-preserved c =
    let l = c.loop-i in let a = c.args in let some = c.requires.3 0 in (
      omega arith,
      simp length-set l.invariant.1,
      within_set a.n l.digits _ _ (omega arith) l.invariant.2,
      rest_set a.width (l.i - 1) _ l.digits (omega arith) l.invariant.3,
      λ row D. carry_on a.n a.width row l.i _ (omega arith) (omega arith) (omega arith) (omega arith) (l.invariant.4 row D) (omega arith),
    )

pub shape_of-digits : goal.shape_of-digits
shape_of-digits c = c.loop-i.invariant.1

pub returns : goal.returns
returns c = (c.loop-i.invariant.2, c.loop-i.invariant.3, λ row D. carry_end _ _ row _ _ (omega arith) (c.loop-i.invariant.4 row D))
