-- The list that is lent has room for the steps of the text.
use Rattle.std.proofs.Common.{arith}
use Rattle.open_room.proofs.with_list_into.Goals as goal

pub returns-then-steps-le-SHORT : goal.returns-then-steps-le-SHORT
returns-then-steps-le-SHORT g c = (_, c.with_numbers_into.ensures.0, (λ few. omega arith), c.with_numbers_into.ensures.1)

pub returns-then-steps-le-LONG : goal.returns-then-steps-le-LONG
returns-then-steps-le-LONG g c = (_, c.with_numbers_into-then-steps-le-LONG.ensures.0, (λ few. omega arith), c.with_numbers_into-then-steps-le-LONG.ensures.1)

pub returns-else-steps-le-LONG : goal.returns-else-steps-le-LONG
returns-else-steps-le-LONG g c = (_, c.with_numbers_into-else-steps-le-LONG.ensures.0, (λ few. omega arith), c.with_numbers_into-else-steps-le-LONG.ensures.1)
