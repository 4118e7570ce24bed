-- `problem_table::part_holds` meets its contract.
use mathlib.Core.Path.{ap, ◌∙◌}
use borrow.Author.Rules.{rules}
use Rattle.bits.specs.Table.{bit}
use Rattle.problem_table.specs.NeedLaws.{part_small, part_is}
use Rattle.problem_table.proofs.part_holds.Goals as goal

pub part_number-k-requires : goal.part_number-k-requires
part_number-k-requires c = let q = part_small _ c.requires.0 _ _ c.part_line-q.ensures in search rules

pub returns : goal.returns
returns c = c.test.ensures ∙ ap (bit c.args.state.now) (part_is _ _ _ _ _ c.part_line-q.ensures c.part_number-k.ensures)
