-- `print_page::part_of` meets its contract.
use Rattle.std.proofs.Common.{sym, ap}
use Rattle.print_page.specs.Elements.{part_in, no_part}
use Rattle.print_page.proofs.part_of.Goals as goal

pub returns-in-Or : goal.returns-in-Or
unfolding part_in
returns-in-Or c = sym (ap part_in c.in-Or.is)

pub returns-in_default : goal.returns-in_default
returns-in_default c = no_part c.args.a c.in_default.not-Or
