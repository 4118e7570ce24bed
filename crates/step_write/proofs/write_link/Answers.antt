use mathlib.Core.Path.{sym, ◌∙◌}
use native.Mathlib.Omega.{arith}
use Rattle.step_write.specs.StepLaws.{link_yes, link_no}
use Rattle.step_write.proofs.write_link.Goals as goal

pub returns-then-test : goal.returns-then-test
returns-then-test c = (omega arith, λ h. link_yes _ _ _ _ _ (sym c.test.ensures ∙ c.if-test.true) (c.put.ensures h))

pub returns : goal.returns
returns c = (omega arith, λ h. link_no _ _ _ _ (sym c.test.ensures ∙ c.if-test.false))
