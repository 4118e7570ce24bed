-- `nendokwe::nendokwe_pddl_instance` meets its contract: what `call_instance::instance` returned is told. Assumes nothing.
use mathlib.Core.Path.{ap, ◌∙◌}
use Rattle.definitions.specs.Reply.Outcome.{reply_number, reply_place}
use Rattle.nendokwe.proofs.nendokwe_pddl_instance.Goals as goal

pub returns : goal.returns
returns c = let instance = c.instance-r in record { number_after = c.tell.ensures.number_after ∙ ap reply_number instance.ensures.answer; place_after = c.tell.ensures.place_after ∙ ap reply_place instance.ensures.answer; out_after = instance.ensures.text }
