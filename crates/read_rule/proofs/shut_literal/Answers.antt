-- `shut_literal` meets its contract.
use mathlib.Core.Path.{refl, ap, ◌∙◌}
use Rattle.read_rule.specs.Seen.{shut_of}
use Rattle.read_rule.specs.Said.{facts_eq}
use Rattle.read_rule.proofs.shut_literal.Goals as goal

pub returns : goal.returns
returns c = let a = c.args in c.shut.ensures ∙ ap (λ x. shut_of a.s.now a.at x) (facts_eq _ _ _ _ _ _ _ _ _ _ refl refl c.known-known.ensures refl refl)
