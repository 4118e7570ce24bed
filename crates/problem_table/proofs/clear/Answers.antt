-- `problem_table::clear` meets its contract.
use mathlib.Core.Path.{◌∙◌}
use native.Mathlib.Omega.{arith}
use Rattle.problem_table.specs.ChangeLaws.{put_clear, clear_past}
use Rattle.problem_table.proofs.clear.Goals as goal

pub returns-then-i-words : goal.returns-then-i-words
returns-then-i-words c = c.clear.ensures ∙ put_clear _ _

pub returns-else-i-words : goal.returns-else-i-words
returns-else-i-words c = clear_past _ _ (omega arith)
