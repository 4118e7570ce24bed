-- `nendokwe::nendokwe_build_layers` meets its contract: what `call_build_layers::build_layers_lent` returned is told. Assumes nothing.
use mathlib.Core.Path.{ap, ◌∙◌}
use Rattle.definitions.specs.Reply.Outcome.{reply_number, reply_place}
use Rattle.nendokwe.proofs.nendokwe_build_layers.Goals as goal

pub returns : goal.returns
returns c =
    let build-layers-lent = c.build_layers_lent-r in
    record { number_after = c.tell.ensures.number_after ∙ ap reply_number build-layers-lent.ensures.answer; place_after = c.tell.ensures.place_after ∙ ap reply_place build-layers-lent.ensures.answer; state_after = build-layers-lent.ensures.state; steps_after = build-layers-lent.ensures.steps; ends_after = build-layers-lent.ensures.ends }
