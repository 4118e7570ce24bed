use mathlib.Core.Path.{refl, ◌∙◌}
use native.Mathlib.Omega.{arith}
use Rattle.step_build.specs.MarkLaws.{every_few, marks_start, marks_in, marks_out, marks_end}
use Rattle.step_build.specs.Holding.{ready_as}
use Rattle.step_build.proofs.marks.Goals as goal

pub loop-i-init : goal.loop-i-init
loop-i-init c = (omega arith, omega arith, refl, refl, λ p G R. marks_start p _ R.is _ _ _ c.every_tuples-count.ensures)

pub mark_in-requires : goal.mark_in-requires
mark_in-requires c = (
  c.requires.0,
  omega (arith, c.every_tuples-count.ensures),
  omega (
    arith,
    c.requires.1,
    c.loop-i.invariant.1,
    c.every_tuples-count.ensures,
    every_few _ c.requires.0,
  ),
)

pub returns-then-m-eq0 : goal.returns-then-m-eq0
returns-then-m-eq0 c =
    let l = c.loop-i in let t = c.mark_in in (
      omega (
        arith,
        t.ensures.0,
        l.invariant.1,
        c.every_tuples-count.ensures,
        every_few _ c.requires.0,
      ),
      λ p G R. l.invariant.4 p G R ∙ marks_in p _ _ _ _ _ _ (omega arith) c.if-m-eq0.true (t.ensures.1 p G (ready_as R l.invariant.2)),
    )

pub mark_out-n-requires : goal.mark_out-n-requires
mark_out-n-requires c = (
  c.requires.0,
  omega (arith, c.every_tuples-count.ensures),
  omega (
    arith,
    c.requires.1,
    c.loop-i.invariant.1,
    c.every_tuples-count.ensures,
    every_few _ c.requires.0,
  ),
)

pub loop-i-preserved : goal.loop-i-preserved
loop-i-preserved c =
    let l = c.loop-i in let t = c.mark_out-n in (
      omega arith,
      omega (arith, t.ensures.0, l.invariant.1),
      t.auto.state ∙ l.invariant.2,
      t.auto.steps ∙ l.invariant.3,
      λ p G R. l.invariant.4 p G R ∙ marks_out p _ _ _ _ _ _ (omega arith) (omega arith) (t.ensures.1 p G (ready_as R l.invariant.2)),
    )

pub returns : goal.returns
returns c =
    let l = c.loop-i in (
      omega (arith, l.invariant.1, c.every_tuples-count.ensures, every_few _ c.requires.0),
      λ p G R. l.invariant.4 p G R ∙ marks_end p _ _ _ _ _ (omega arith),
    )
