-- `call_judge::judge_listed` meets its contract: the text is refused, or its picks are judged. Assumes nothing.
use Rattle.call_judge.specs.Calls.{call_text_refused, call_text}
use Rattle.std.proofs.Common.{length, arith}
use Rattle.std.proofs.lemmas.Result.{err_from_is_err_and}
use Rattle.call_judge.proofs.judge_listed.Goals as goal

pub picks-requires : goal.picks-requires
picks-requires c = let p = c.requires in let a = p.accepted_in.0 in record { sound_signature = (a.holds.sound, a.holds.few_elements, p.picks_room.0, p.picks_room.1); labels_are = p.accepted_in.1 }

pub judge_case-requires : goal.judge_case-requires
judge_case-requires c = c.requires.accepted_in.0

pub returns-in_err-picks : goal.returns-in_err-picks
returns-in_err-picks c =
    let p = err_from_is_err_and c.from_residual.result c.from_residual.ensures.1 in
    λ filed. rw (p.1, p.2) (call_text_refused _ _ _ _ _ filed _ _ _ c.in_err-picks.ensures)

pub returns : goal.returns
returns c = λ filed. call_text _ _ _ _ _ filed _ _ _ c.in_ok-picks.ensures (length c.args.words.now) (omega arith) c.requires.picks_room.0 _ c.judge_case.ensures
