-- `call_build::build_listed` meets its contract: the text is refused, or steps are built from its picks. Assumes nothing.
use Rattle.std.proofs.lemmas.Result.{err_from_is_err_and}
use Rattle.call_build.specs.Calls.{call_text_refused, call_text}
use Rattle.call_build.proofs.build_listed.Goals as goal

pub picks-requires : goal.picks-requires
picks-requires c = let p = c.requires in let h = p.ready_front.0.held.holds in record { sound_signature = (h.sound, h.few_elements, p.picks_room.0, p.picks_room.1); labels_are = p.ready_front.2 }

pub build_picks-requires : goal.build_picks-requires
build_picks-requires c = let p = c.requires.ready_front in record { by_index = (_, p.0); atoms_bound = p.1 }

pub returns-in_err-picks : goal.returns-in_err-picks
returns-in_err-picks c =
    let p = err_from_is_err_and c.from_residual.result c.from_residual.ensures.1 in
    λ L filed few. rw (p.1, p.2) (call_text_refused L _ _ _ _ _ _ filed _ _ _ _ _ c.in_err-picks.ensures)

pub returns : goal.returns
returns c = λ L filed few.
    call_text L _ _ _ _ _ _ filed _ _ _ _ few _ c.in_ok-picks.ensures _ c.picks.auto.table
    c.requires.picks_room.0 _ _ _
    c.build_picks.ensures
