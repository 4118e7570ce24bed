-- `call_build_layers::build_opened` meets its contract. Assumes nothing.
use Rattle.std.specs.Prelude.{Ok}
use native.Mathlib.Omega.{arith}
use Rattle.definitions.specs.Limits.{usual}
use Rattle.read_sheets.proofs.Loops.{zeros_clear}
use Rattle.open_case.specs.Fronts.{front_ready, filed_alone}
use Rattle.open_case.specs.Elements.{few_picks, many_picks}
use Rattle.call_build.specs.Calls.{few_atoms, few_elements, picks_asked, labels_said}
use Rattle.call_build_layers.proofs.build_opened.Goals as goal

pub build_listed-requires : goal.build_listed-requires
build_listed-requires c = let opens = filed_alone usual _ _ (Ok _) _ _ _ c.requires in record { ready_front = (front_ready usual _ _ _ _ _ opens (omega arith) (omega arith), few_atoms usual _ _ _ _ _ opens, labels_said usual _ _ _ _ _ _ c.requires); picks_room = (picks_asked usual _ _ _ _ _ opens 16 256 c.if-o-le-SMALL_SIZE.true few_picks, zeros_clear 256) }

pub returns-then-o-le-SMALL_SIZE : goal.returns-then-o-le-SMALL_SIZE
returns-then-o-le-SMALL_SIZE c = c.build_listed.ensures usual c.requires (omega arith)

pub build_listed-requires-2 : goal.build_listed-requires-2
build_listed-requires-2 c = let opens = filed_alone usual _ _ (Ok _) _ _ _ c.requires in record { ready_front = (front_ready usual _ _ _ _ _ opens (omega arith) (omega arith), few_atoms usual _ _ _ _ _ opens, labels_said usual _ _ _ _ _ _ c.requires); picks_room = (picks_asked usual _ _ _ _ _ opens 64 16384 (few_elements usual _ _ _ _ _ opens) many_picks, zeros_clear 16384) }

pub returns : goal.returns
returns c = c.build_listed-2.ensures usual c.requires (omega arith)
