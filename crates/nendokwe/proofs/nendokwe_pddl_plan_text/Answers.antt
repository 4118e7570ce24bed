-- `nendokwe::nendokwe_pddl_plan_text` meets its contract: what `call_plan::plan_text` returned is told. Assumes nothing.
use mathlib.Core.Path.{ap, ◌∙◌}
use Rattle.definitions.specs.Reply.Outcome.{reply_number, reply_place}
use Rattle.nendokwe.proofs.nendokwe_pddl_plan_text.Goals as goal

pub returns : goal.returns
returns c = let plan_text_lem = c.plan_text-r in record { number_after = c.tell.ensures.number_after ∙ ap reply_number plan_text_lem.ensures.answer; place_after = c.tell.ensures.place_after ∙ ap reply_place plan_text_lem.ensures.answer; out_after = plan_text_lem.ensures.text }
