-- `problem_table::may_exists` meets its contract.
use mathlib.Core.Path.{sym, ◌∙◌}
use Rattle.problem_table.specs.NeedLaws.{exists_no, exists_under}
use Rattle.problem_table.proofs.may_exists.Goals as goal

pub returns-then-test : goal.returns-then-test
returns-then-test c = exists_under _ _ _ _ _ _ _ (sym c.test.ensures ∙ c.if-test.true) c.under_holds.ensures

pub returns-else-test : goal.returns-else-test
returns-else-test c = c.if-test.false ∙ exists_no _ _ _ _ _ _ (sym c.test.ensures ∙ c.if-test.false)
