-- `nendokwe::nendokwe_check` meets its contract: what `call_check::check_lent` returned is told. Assumes nothing.
use mathlib.Core.Path.{ap, ◌∙◌}
use Rattle.definitions.specs.Reply.Outcome.{reply_number, reply_place}
use Rattle.nendokwe.proofs.nendokwe_check.Goals as goal

pub returns : goal.returns
returns c = let check-lent = c.check_lent-r in record { number_after = c.tell.ensures.number_after ∙ ap reply_number check-lent.ensures.answer; place_after = c.tell.ensures.place_after ∙ ap reply_place check-lent.ensures.answer; state_after = check-lent.ensures.left }
