-- `nendokwe::nendokwe_build_text` meets its contract: what `call_build::build_text` returned is told. Assumes nothing.
use mathlib.Core.Path.{ap, ◌∙◌}
use Rattle.definitions.specs.Reply.Outcome.{reply_number, reply_place}
use Rattle.nendokwe.proofs.nendokwe_build_text.Goals as goal

pub returns : goal.returns
returns c =
    let build-text = c.build_text-r in
    record { number_after = c.tell.ensures.number_after ∙ ap reply_number build-text.ensures.answer; place_after = c.tell.ensures.place_after ∙ ap reply_place build-text.ensures.answer; state_after = build-text.ensures.state; steps_after = build-text.ensures.steps }
