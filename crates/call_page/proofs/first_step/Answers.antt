-- `call_page::first_step` meets its contract: the step of that number, the end of the steps, or what `find` told. Assumes nothing.
use native.Mathlib.Omega.{arith}
use Rattle.call_page.specs.Pages.{found_least, found_after}
use Rattle.call_page.proofs.first_step.Goals as goal

pub returns-then-is_narrow : goal.returns-then-is_narrow
returns-then-is_narrow c = (
  omega (arith, c.min-index.ensures),
  omega (arith, c.min-index.ensures),
  λ h. omega (arith, h, c.min-index.ensures),
  found_least _ _ _ _ _ _ (c.is_narrow.ensures c.if-is_narrow.true) _ (λ h. omega (arith, h, c.min-index.ensures)) (λ h. omega (arith, h, c.min-index.ensures)),
)

pub returns : goal.returns
returns c = (c.find.ensures.0, c.find.ensures.1, c.find.ensures.2, found_after _ _ _ _ _ _ _ _ c.find.ensures.3)
