-- `problem_table::may_mark` meets its contract.
use mathlib.Core.Path.{sym, ◌∙◌}
use Rattle.problem_table.specs.NeedLaws.{all_no, all_yes, all_one}
use Rattle.problem_table.proofs.may_mark.Goals as goal

pub returns-then-test : goal.returns-then-test
returns-then-test c = all_yes _ _ _ _ (sym c.test.ensures ∙ c.if-test.true) (c.test-then-test.ensures ∙ all_one _ _)

pub returns-else-test : goal.returns-else-test
returns-else-test c = c.if-test.false ∙ all_no _ _ _ (sym c.test.ensures ∙ c.if-test.false)
