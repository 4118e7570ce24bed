-- `problem_table::under_holds` meets its contract.
use mathlib.Core.Path.{ap, ◌∙◌}
use native.Mathlib.Omega.{arith}
use Rattle.bits.specs.Table.{bit}
use Rattle.problem_table.specs.NeedLaws.{under_with, within_most}
use Rattle.problem_table.proofs.under_holds.Goals as goal

pub part_holds-requires : goal.part_holds-requires
part_holds-requires c = (c.requires.2, omega (arith, c.requires.3.parts), within_most _ c.values_with-env.result c.requires.1 c.values_with-env.ensures.1)

pub returns : goal.returns
returns c = c.part_holds.ensures ∙ ap (bit c.args.state.now) (under_with _ _ _ _ _ _ c.values_with-env.ensures.0)
