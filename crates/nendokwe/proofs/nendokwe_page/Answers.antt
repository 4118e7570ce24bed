-- `nendokwe::nendokwe_page` meets its contract: what `call_page::page_lent` returned is told. Assumes nothing.
use mathlib.Core.Path.{ap, ◌∙◌}
use Rattle.definitions.specs.Reply.Outcome.{reply_number, reply_place}
use Rattle.nendokwe.proofs.nendokwe_page.Goals as goal

pub returns : goal.returns
returns c =
    let page-lent = c.page_lent-r in
    record { number_after = c.tell.ensures.number_after ∙ ap reply_number page-lent.ensures.answer; place_after = c.tell.ensures.place_after ∙ ap reply_place page-lent.ensures.answer; state_after = page-lent.ensures.state; out_after = page-lent.ensures.page }
