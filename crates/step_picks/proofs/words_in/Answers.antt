use mathlib.Core.Path.{sym, ◌∙◌}
use native.Mathlib.Omega.{arith}
use Rattle.step_picks.specs.WordLaws.{no_words, some_words}
use Rattle.step_picks.proofs.words_in.Goals as goal

pub overflow_add-result : goal.overflow_add-result
overflow_add-result c = omega (arith, c.tuples_in-tuples.ensures)

pub returns-then-is_chosen : goal.returns-then-is_chosen
returns-then-is_chosen c = some_words _ (sym c.is_chosen.ensures ∙ c.if-is_chosen.true) _ c.tuples_in-tuples.ensures

pub returns : goal.returns
returns c = no_words _ (sym c.is_chosen.ensures ∙ c.if-is_chosen.false)
