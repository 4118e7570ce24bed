use mathlib.Core.Path.{refl, subst, ◌∙◌}
use native.Mathlib.Omega.{arith}
use Rattle.step_build.specs.Following.{RoundsTo}
use Rattle.step_build.specs.RoundLaws.{rounds_start, rounds_next}
use Rattle.step_build.specs.Holding.{building_as}
use Rattle.step_build.proofs.write_rounds.Goals as goal

pub loop-k-init : goal.loop-k-init
loop-k-init c = (omega arith, omega arith, refl, refl, λ x F B h e. rounds_start x F _ e)

pub write_round-n-requires : goal.write_round-n-requires
write_round-n-requires c = (
  c.requires.0,
  omega (
    arith,
    c.requires.1,
    c.requires.2,
    c.loop-k.invariant.1,
  ),
)

pub loop-k-preserved : goal.loop-k-preserved
loop-k-preserved c =
    let l = c.loop-k in let t = c.write_round-n in (
      omega arith,
      omega (arith, t.ensures.0, l.invariant.1),
      t.auto.state ∙ l.invariant.2,
      t.auto.steps ∙ l.invariant.3,
      λ x F B h e. let R = l.invariant.4 x F B h e in rounds_next x F _ _ _ _ R (t.ensures.1 x F (building_as B l.invariant.2) (omega arith) R.begins) (omega arith),
    )

pub returns : goal.returns
returns c =
    let l = c.loop-k in (
      omega (arith, c.requires.1, c.requires.2, l.invariant.1),
      λ x F B h e. subst (RoundsTo x
          F _ _) (omega arith) (l.invariant.4 x F B h e),
    )
