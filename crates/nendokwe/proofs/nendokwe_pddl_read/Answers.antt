-- `nendokwe::nendokwe_pddl_read` meets its contract: what `call_plan_read::read_plan` returned is told. Assumes nothing.
use mathlib.Core.Path.{ap, ◌∙◌}
use Rattle.definitions.specs.Reply.Outcome.{reply_number, reply_place}
use Rattle.nendokwe.proofs.nendokwe_pddl_read.Goals as goal

pub returns : goal.returns
returns c = let read-plan = c.read_plan-r in record { number_after = c.tell.ensures.number_after ∙ ap reply_number read-plan.ensures.answer; place_after = c.tell.ensures.place_after ∙ ap reply_place read-plan.ensures.answer; steps_after = read-plan.ensures.steps }
