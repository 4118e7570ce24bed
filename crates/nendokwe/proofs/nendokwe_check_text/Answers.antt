-- `nendokwe::nendokwe_check_text` meets its contract: what `call_check::check_text` returned is told. Assumes nothing.
use mathlib.Core.Path.{ap, ◌∙◌}
use Rattle.definitions.specs.Reply.Outcome.{reply_number, reply_place}
use Rattle.nendokwe.proofs.nendokwe_check_text.Goals as goal

pub returns : goal.returns
returns c = let check-text = c.check_text-r in record { number_after = c.tell.ensures.number_after ∙ ap reply_number check-text.ensures.answer; place_after = c.tell.ensures.place_after ∙ ap reply_place check-text.ensures.answer; state_after = check-text.ensures.left }
