-- `problem_table::may_set` meets its contract.
use mathlib.Core.Path.{sym, ◌∙◌}
use Rattle.problem_table.specs.NeedLaws.{set_no, set_not, set_free}
use Rattle.problem_table.proofs.may_set.Goals as goal
use Rattle.problem_table.proofs.may_set.Goals.{then-test, else-test}

pub returns-then-test-2 : goal.returns-then-test-2
returns-then-test-2 c = elim c.if-test.branch [
  | then-test w ↦ set_free _ _ _ _ _ (sym c.test.ensures ∙ w.if-test.true)
      (sym w.test-then-test.ensures ∙ sym w.value-is ∙ c.if-test-2.true) c.free_hold.ensures
  | else-test w ↦ cc
]

pub returns-else-test-2 : goal.returns-else-test-2
returns-else-test-2 c = c.if-test-2.false ∙ elim c.if-test.branch [
  | then-test w ↦ set_not _ _ _ _ (sym c.test.ensures ∙ w.if-test.true)
      (sym w.test-then-test.ensures ∙ sym w.value-is ∙ c.if-test-2.false)
  | else-test w ↦ set_no _ _ _ _ (sym c.test.ensures ∙ w.if-test.false)
]
