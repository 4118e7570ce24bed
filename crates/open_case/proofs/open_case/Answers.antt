-- `open_case::open_case` meets its contract: labels are read into numbers of its own, and not asked for. Assumes nothing.
use Rattle.open_case.specs.Fronts.{filed_alone}
use Rattle.read_sheets.proofs.Loops.{no_label_words}
use Rattle.open_case.proofs.open_case.Goals as goal

pub open_usual-requires : goal.open_usual-requires
open_usual-requires c = record { facts_room = (c.requires.facts_room.0, no_label_words, c.requires.facts_room.1); table_len = c.requires.table_len }

pub returns : goal.returns
returns c = filed_alone _ _ _ _ _ _ _ c.open_usual.ensures
