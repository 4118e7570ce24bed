use native.Mathlib.Omega.{arith}
use mathlib.Core.Path.{sym, ◌∙◌}
use lib.Seq.{length-take-le}
use Rattle.step_build.specs.Lending.{lent_false, lent_steps}
use Rattle.step_build.specs.Holding.{as_true}
use Rattle.step_build.proofs.build_in.Goals as goal

pub slice_bounds-start_and_follow-end-then-rule_holds : goal.slice_bounds-start_and_follow-end-then-rule_holds
slice_bounds-start_and_follow-end-then-rule_holds c = sym (length-take-le _ _ c.requires.fits.3)

pub start_and_follow-count-requires : goal.start_and_follow-count-requires
start_and_follow-count-requires c =
    let q = c.requires in (
      q.fits.0,
      q.fits.1,
      length-take-le _
          _ q.fits.3,
      c.rule_holds.auto.left ∙ q.left_len,
    )

pub returns-then-rule_holds : goal.returns-then-rule_holds
returns-then-rule_holds c =
    let q = c.requires in let h = c.rule_holds in let f = c.start_and_follow-count in λ x F G n. lent_steps x F _ _ _ _ _ _ G n _ (h.ensures x F _ G n).told c.if-rule_holds.true _ _ _ (f.ensures x F _ G n (as_true c.if-rule_holds.true (h.ensures x F _ G n))) (λ j. omega (arith, c.type_inv.state j, c.type_inv.steps j))
    (f.auto.state ∙ length-take-le _ _ q.fits.3)

pub returns : goal.returns
returns c = let h = c.rule_holds in λ x F G n. rw c.at.ensures (lent_false x F _ _ _ _ _ _ G n _ (h.ensures x F _ G n).told c.if-rule_holds.false)
