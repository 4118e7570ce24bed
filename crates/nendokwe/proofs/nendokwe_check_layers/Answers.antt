-- `nendokwe::nendokwe_check_layers` meets its contract: what `call_check_layers::check_layers` returned is told. Assumes nothing.
use mathlib.Core.Path.{ap, ◌∙◌}
use Rattle.definitions.specs.Reply.Outcome.{reply_number, reply_place}
use Rattle.nendokwe.proofs.nendokwe_check_layers.Goals as goal

pub returns : goal.returns
returns c = let check-layers = c.check_layers-r in record { number_after = c.tell.ensures.number_after ∙ ap reply_number check-layers.ensures.answer; place_after = c.tell.ensures.place_after ∙ ap reply_place check-layers.ensures.answer; state_after = check-layers.ensures.left }
