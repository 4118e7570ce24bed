-- `nendokwe::nendokwe_monotone` meets its contract: what `call_monotone::monotone` returned is told. Assumes nothing.
use mathlib.Core.Path.{ap, ◌∙◌}
use Rattle.definitions.specs.Reply.Outcome.{reply_number, reply_place}
use Rattle.nendokwe.proofs.nendokwe_monotone.Goals as goal

pub returns : goal.returns
returns c = record { number_after = c.tell.ensures.number_after ∙ ap reply_number c.monotone-r.ensures; place_after = c.tell.ensures.place_after ∙ ap reply_place c.monotone-r.ensures }
