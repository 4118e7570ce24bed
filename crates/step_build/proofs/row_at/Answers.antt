-- `row_at` meets its contract.
use mathlib.Core.Path.{◌∙◌}
use Rattle.step_build.specs.SetLaws.{row_whole_at}
use Rattle.step_build.proofs.row_at.Goals as goal

pub returns-then-whole : goal.returns-then-whole
returns-then-whole c = row_whole_at _ _ c.requires.2 _ _ c.if-whole.true

pub set_row-requires : goal.set_row-requires
set_row-requires c = (c.requires.0, c.requires.1, λ e. c.requires.3 (c.requires.2 ∙ e))

pub returns : goal.returns
returns c = c.set_row.ensures
