-- `nendokwe::nendokwe_pddl_plan` meets its contract: what `call_plan::plan_lent` returned is told. Assumes nothing.
use mathlib.Core.Path.{ap, ◌∙◌}
use Rattle.definitions.specs.Reply.Outcome.{reply_number, reply_place}
use Rattle.nendokwe.proofs.nendokwe_pddl_plan.Goals as goal

pub returns : goal.returns
returns c = let plan-lent = c.plan_lent-r in record { number_after = c.tell.ensures.number_after ∙ ap reply_number plan-lent.ensures.answer; place_after = c.tell.ensures.place_after ∙ ap reply_place plan-lent.ensures.answer; out_after = plan-lent.ensures.text }
