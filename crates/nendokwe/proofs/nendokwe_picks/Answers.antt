-- `nendokwe::nendokwe_picks` meets its contract: what `call_read::picks_lent` returned is told. Assumes nothing.
use mathlib.Core.Path.{ap, ◌∙◌}
use Rattle.definitions.specs.Reply.Outcome.{reply_number, reply_place}
use Rattle.nendokwe.proofs.nendokwe_picks.Goals as goal

pub returns : goal.returns
returns c =
    let picks-lent = c.picks_lent-r in
    record { number_after = c.tell.ensures.number_after ∙ ap reply_number picks-lent.ensures.answer; place_after = c.tell.ensures.place_after ∙ ap reply_place picks-lent.ensures.answer; picks_after = picks-lent.ensures.picks; state_after = picks-lent.ensures.state }
