use Prim.Native.Nat.{ℕ, ◌+◌, ◌/◌}
use mathlib.Core.Path.{ap, ◌∙◌}
use native.Mathlib.Omega.{arith}
use Rattle.step_start.specs.Rows.{rows_in}
use Rattle.step_start.specs.RowLaws.{words_none, words_are, rows_few}
use Rattle.step_start.proofs.words.Goals as goal

pub returns-then-r-lt5 : goal.returns-then-r-lt5
returns-then-r-lt5 c = words_none _ _ (omega arith)

pub overflow_add-result : goal.overflow_add-result
overflow_add-result c = omega (arith, c.rows.ensures, ap rows_in c.relation_line-k.ensures, rows_few _ c.requires.0 c.args.r)

pub returns : goal.returns
returns c = ap (λ (x : ℕ). (x + 63) / 64) (c.rows.ensures ∙ ap rows_in c.relation_line-k.ensures) ∙ words_are _ _ (omega arith)
