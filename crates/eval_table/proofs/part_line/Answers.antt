use Rattle.eval_table.specs.Numbers.{part_list_lem}
use native.Mathlib.Omega.{arith}
use borrow.Author.Rules.{rules}
use lib.ListN.{length}
use mathlib.Core.Path.{◌≡◌}
use Rattle.eval_table.proofs.part_line.Goals as goal

pub part_numbers-requires : goal.part_numbers-requires
part_numbers-requires c =
    let len : length c.args.g.kind ≡ 18 = search rules in
    (c.requires.0, c.requires.1, c.requires.2, omega (arith, len), c.requires.3, c.requires.5, c.requires.6)

pub returns : goal.returns
returns c = part_list_lem c.args.n c.args.value c.args.g c.args.bits.now c.part_numbers.result c.args.q c.requires.4 c.requires.2 c.part_numbers.ensures
