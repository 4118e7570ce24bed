-- `nendokwe::nendokwe_build` meets its contract: what `call_build::build_lent` returned is told. Assumes nothing.
use mathlib.Core.Path.{ap, ◌∙◌}
use Rattle.definitions.specs.Reply.Outcome.{reply_number, reply_place}
use Rattle.nendokwe.proofs.nendokwe_build.Goals as goal

pub returns : goal.returns
returns c =
    let build-lent = c.build_lent-r in
    record { number_after = c.tell.ensures.number_after ∙ ap reply_number build-lent.ensures.answer; place_after = c.tell.ensures.place_after ∙ ap reply_place build-lent.ensures.answer; state_after = build-lent.ensures.state; steps_after = build-lent.ensures.steps }
