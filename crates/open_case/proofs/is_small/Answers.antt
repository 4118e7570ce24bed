-- `open_case::is_small` meets its contract: no line asks for no words, and the first line says what the others are read by.
use mathlib.Core.Path.{◌≡◌, sym, ◌∙◌}
use native.Mathlib.Omega.{arith}
use lib.ListN.{length}
use Rattle.std.proofs.lemmas.Grind.{common_steps}
use Rattle.open_case.specs.Rooms.{small_room, no_line_room}
use Rattle.open_case.proofs.is_small.Goals as goal

pub returns-then-is_empty : goal.returns-then-is_empty
returns-then-is_empty c = λ e. no_line_room _ (let z : length c.args.site.now ≡ 0 = grind (arith, common_steps) in z)

pub returns : goal.returns
returns c = λ e. small_room _ _ _ c.line.ensures.2 (sym c.says_small.ensures ∙ e)
