-- `nendokwe::nendokwe_find` meets its contract: what `call_find::find` returned is told. Assumes nothing.
use mathlib.Core.Path.{ap, ◌∙◌}
use Rattle.definitions.specs.Reply.Outcome.{reply_number, reply_place}
use Rattle.nendokwe.proofs.nendokwe_find.Goals as goal

pub returns : goal.returns
returns c = let find = c.find-r in record { number_after = c.tell.ensures.number_after ∙ ap reply_number find.ensures.answer; place_after = c.tell.ensures.place_after ∙ ap reply_place find.ensures.answer; picks_after = find.ensures.left }
