-- `nendokwe::nendokwe_allowances` meets its contract: what `call_allowance::allowances` returned is told. Assumes nothing.
use mathlib.Core.Path.{ap, ◌∙◌}
use Rattle.definitions.specs.Reply.Outcome.{reply_number, reply_place}
use Rattle.nendokwe.proofs.nendokwe_allowances.Goals as goal

pub returns : goal.returns
returns c = let allowances = c.allowances-r in record { number_after = c.tell.ensures.number_after ∙ ap reply_number allowances.ensures.answer; place_after = c.tell.ensures.place_after ∙ ap reply_place allowances.ensures.answer; allowances_after = allowances.ensures.left }
