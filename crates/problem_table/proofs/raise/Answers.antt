-- `problem_table::raise` meets its contract.
use mathlib.Core.Path.{◌∙◌}
use native.Mathlib.Omega.{arith}
use Rattle.problem_table.specs.ChangeLaws.{put_raise}
use Rattle.problem_table.proofs.raise.Goals as goal

pub returns-then-i-words : goal.returns-then-i-words
returns-then-i-words c = λ h. c.set.ensures ∙ put_raise _ _

pub returns-else-i-words : goal.returns-else-i-words
returns-else-i-words c = λ h. absurd (omega arith)
