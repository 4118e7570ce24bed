-- `stray` meets its contract.
use mathlib.Core.Path.{sym, ◌∙◌}
use Rattle.step_picks.specs.TestLaws.{stray_yes, inside_no}
use Rattle.step_picks.proofs.stray.Goals as goal

pub inside-requires : goal.inside-requires
inside-requires c = c.requires

pub returns-then-test : goal.returns-then-test
returns-then-test c = stray_yes _ _ _ (sym c.test.ensures ∙ c.if-test.true) c.inside.ensures

pub returns-else-test : goal.returns-else-test
returns-else-test c = c.if-test.false ∙ inside_no _ _ (sym c.test.ensures ∙ c.if-test.false)
