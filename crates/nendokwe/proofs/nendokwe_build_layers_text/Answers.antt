-- `nendokwe::nendokwe_build_layers_text` meets its contract: what `call_build_layers::build_layers_text` returned is told. Assumes nothing.
use mathlib.Core.Path.{ap, ◌∙◌}
use Rattle.definitions.specs.Reply.Outcome.{reply_number, reply_place}
use Rattle.nendokwe.proofs.nendokwe_build_layers_text.Goals as goal

pub returns : goal.returns
returns c =
    let build-layers-text = c.build_layers_text-r in
    record { number_after = c.tell.ensures.number_after ∙ ap reply_number build-layers-text.ensures.answer; place_after = c.tell.ensures.place_after ∙ ap reply_place build-layers-text.ensures.answer; state_after = build-layers-text.ensures.state; steps_after = build-layers-text.ensures.steps; ends_after = build-layers-text.ensures.ends }
