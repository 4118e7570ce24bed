-- `inside` meets its contract.
use mathlib.Core.Path.{sym, ◌∙◌}
use Rattle.step_picks.specs.TestLaws.{inside_yes, inside_no}
use Rattle.step_picks.proofs.inside.Goals as goal

pub among-requires : goal.among-requires
among-requires c = (c.requires.0, c.requires.1.firsts.inside)

pub among-requires-then-among : goal.among-requires-then-among
among-requires-then-among c = (c.requires.0, c.requires.1.seconds.inside)

pub returns-then-among : goal.returns-then-among
returns-then-among c = inside_yes _ _ _ (sym c.among.ensures ∙ c.if-among.true) c.among-then-among.ensures

pub returns-else-among : goal.returns-else-among
returns-else-among c = c.if-among.false ∙ inside_no _ _ (sym c.among.ensures ∙ c.if-among.false)
