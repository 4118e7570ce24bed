-- `call_build_layers::build_listed` meets its contract. Assumes nothing.
use Rattle.std.proofs.lemmas.Result.{err_from_is_err_and}
use Rattle.call_build_layers.specs.Calls.{call_text_refused, call_text}
use Rattle.call_build_layers.proofs.build_listed.Goals as goal

pub returns-in_err-picks : goal.returns-in_err-picks
returns-in_err-picks c =
    let p = err_from_is_err_and c.from_residual.result c.from_residual.ensures.1 in
    λ L filed few. rw (p.1, p.2) (call_text_refused L _ _ _ _ _ _ filed _ _ _ _ _ _ c.in_err-picks.ensures)

pub returns : goal.returns
returns c = λ L filed few. call_text L _ _ _ _ _ _ filed _ _ _ _ _ few _ c.in_ok-picks.ensures _ c.picks.auto.table c.requires.picks_room.0 _ c.upper_number-upper.ensures _ _ _ _ c.build_picks.ensures
