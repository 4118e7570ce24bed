-- `nendokwe::nendokwe_page_text` meets its contract: what `call_page::page_text` returned is told. Assumes nothing.
use mathlib.Core.Path.{ap, ◌∙◌}
use Rattle.definitions.specs.Reply.Outcome.{reply_number, reply_place}
use Rattle.nendokwe.proofs.nendokwe_page_text.Goals as goal

pub returns : goal.returns
returns c =
    let page-text = c.page_text-r in
    record { number_after = c.tell.ensures.number_after ∙ ap reply_number page-text.ensures.answer; place_after = c.tell.ensures.place_after ∙ ap reply_place page-text.ensures.answer; state_after = page-text.ensures.state; out_after = page-text.ensures.page }
