-- `open_case::says_small` meets its contract.
use mathlib.Core.Path.{sym, ap}
use Rattle.open_case.specs.Rooms.{says_small, no_size_small}
use Rattle.open_case.proofs.says_small.Goals as goal

pub returns-in-Size : goal.returns-in-Size
unfolding says_small
returns-in-Size c = sym (ap says_small c.in-Size.is)

pub returns-in_default : goal.returns-in_default
returns-in_default c = no_size_small _ c.in_default.not-Size
