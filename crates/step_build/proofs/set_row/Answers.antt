use mathlib.Core.Path.{◌∙◌}
use native.Mathlib.Omega.{arith}
use Rattle.step_build.specs.SetLaws.{row_yes, row_no, set_said}
use Rattle.step_build.proofs.set_row.Goals as goal

pub step-requires : goal.step-requires
step-requires c = record { fits = (c.requires.0, c.requires.3); act_fits = (c.requires.1, c.requires.2) }

pub returns-then-picked : goal.returns-then-picked
returns-then-picked c =
    let a = c.args in let taken = c.step in (
      omega (arith, taken.ensures.0),
      λ p R v n. row_yes p _ _ _ _ c.if-picked.true ∙ taken.ensures.1 p _ R v (set_said a.relation a.row) n,
    )

pub returns : goal.returns
returns c = (omega arith, λ p R v n. row_no p _ _ _ _ c.if-picked.false)
