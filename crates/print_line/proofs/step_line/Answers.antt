-- `print_line::step_line` meets its contract.
use Rattle.definitions.specs.Reply.Desk.{step_line}
use Rattle.print_line.proofs.step_line.Goals as goal

pub line-requires : goal.line-requires
unfolding step_line
line-requires c = c.requires

pub returns : goal.returns
unfolding step_line
returns c = c.line.ensures
