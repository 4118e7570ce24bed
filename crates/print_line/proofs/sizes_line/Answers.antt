-- `print_line::sizes_line` meets its contract.
use Rattle.definitions.specs.Reply.Desk.{sizes_line}
use Rattle.print_line.proofs.sizes_line.Goals as goal

pub line-requires : goal.line-requires
unfolding sizes_line
line-requires c = c.requires

pub returns : goal.returns
unfolding sizes_line
returns c = c.line.ensures
