-- `problem_table::may_and` meets its contract.
use mathlib.Core.Path.{◌∙◌, sym}
use Rattle.problem_table.specs.NeedLaws.{and_no, and_parts, row_values_lem, within_most}
use Rattle.problem_table.proofs.may_and.Goals as goal

pub parts_hold-requires : goal.parts_hold-requires
parts_hold-requires c = (c.requires.2, c.requires.3.parts, within_most _ c.values_of-env.result c.requires.1 c.values_of-env.ensures.1)

pub returns-then-test : goal.returns-then-test
returns-then-test c = let values_of = c.values_of-env in and_parts _ _ _ _ _ _ (values_of.ensures.0 ∙ row_values_lem _ _ _) _ (sym c.test.ensures ∙ c.if-test.true) c.parts_hold.ensures

pub returns-else-test : goal.returns-else-test
returns-else-test c = c.if-test.false ∙ and_no _ _ _ _ _ (sym c.test.ensures ∙ c.if-test.false)
