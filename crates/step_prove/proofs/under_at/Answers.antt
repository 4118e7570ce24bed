-- `step_prove::under_at` meets its contract.
use mathlib.Core.Path.{◌∙◌}
use Rattle.problem_table.specs.NeedLaws.{row_values_lem, within_most}
use Rattle.step_prove.specs.NeedLaws.{under_along}
use borrow.Author.Rules.{rules}
use Rattle.step_prove.proofs.under_at.Goals as goal

pub spread-env-requires : goal.spread-env-requires
spread-env-requires c = search (rules, within_most)

pub returns-then-v-lt2 : goal.returns-then-v-lt2
returns-then-v-lt2 c = let u = c.along in (u.ensures.0, u.ensures.1, λ row D k. under_along _ _ _ row _ _ _ (c.spread-env.ensures.1 _ row D ∙ row_values_lem _ _ row) u.ensures.2)
