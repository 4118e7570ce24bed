-- `nendokwe::nendokwe_picks_text` meets its contract: what `call_read::picks_text` returned is told. Assumes nothing.
use mathlib.Core.Path.{ap, ◌∙◌}
use Rattle.definitions.specs.Reply.Outcome.{reply_number, reply_place}
use Rattle.nendokwe.proofs.nendokwe_picks_text.Goals as goal

pub returns : goal.returns
returns c =
    let picks-text = c.picks_text-r in
    record { number_after = c.tell.ensures.number_after ∙ ap reply_number picks-text.ensures.answer; place_after = c.tell.ensures.place_after ∙ ap reply_place picks-text.ensures.answer; picks_after = picks-text.ensures.picks; state_after = picks-text.ensures.state }
