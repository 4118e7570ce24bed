-- `problem_table::may_or` meets its contract.
use mathlib.Core.Path.{◌∙◌, sym}
use native.Mathlib.Omega.{arith}
use Rattle.problem_table.specs.NeedLaws.{or_no, or_part, row_values_lem, within_most}
use Rattle.problem_table.proofs.may_or.Goals as goal

pub part_holds-requires : goal.part_holds-requires
part_holds-requires c = (c.requires.2, omega (arith, c.requires.3.parts), within_most _ c.values_of-env.result c.requires.1 c.values_of-env.ensures.1)

pub returns-then-test : goal.returns-then-test
returns-then-test c = let values_of = c.values_of-env in or_part _ _ _ _ _ _ (values_of.ensures.0 ∙ row_values_lem _ _ _) _ _ (sym c.test.ensures ∙ c.if-test.true) c.part_holds.ensures

pub returns-else-test : goal.returns-else-test
returns-else-test c = c.if-test.false ∙ or_no _ _ _ _ _ _ (sym c.test.ensures ∙ c.if-test.false)
