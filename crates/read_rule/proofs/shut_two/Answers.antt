-- `shut_two` meets its contract.
use mathlib.Core.Path.{◌∙◌, ap}
use Rattle.read_rule.specs.Seen.{shut_of, one_more}
use Rattle.read_rule.proofs.shut_two.Goals as goal

pub shut_one-requires : goal.shut_one-requires
shut_one-requires c = (c.requires.0, rw c.both-h.ensures c.requires.1)

pub returns : goal.returns
returns c = c.shut_one.ensures ∙ ap (λ x. shut_of c.args.s.now c.args.at (one_more x)) c.both-h.ensures
