-- `nendokwe::nendokwe_judge` meets its contract: what `call_judge::judge_lent` returned is told. Assumes nothing.
use mathlib.Core.Path.{ap, ◌∙◌}
use Rattle.definitions.specs.Reply.Outcome.{reply_number, reply_place}
use Rattle.nendokwe.proofs.nendokwe_judge.Goals as goal

pub returns : goal.returns
returns c = record { number_after = c.tell.ensures.number_after ∙ ap reply_number c.judge_lent-r.ensures; place_after = c.tell.ensures.place_after ∙ ap reply_place c.judge_lent-r.ensures }
