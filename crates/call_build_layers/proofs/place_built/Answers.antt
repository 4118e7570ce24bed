-- `call_build_layers::place_built` meets its contract. Assumes nothing.
use Rattle.std.proofs.lemmas.Result.{err_from_is_err_and}
use mathlib.Core.Path.{◌∙◌}
use Rattle.call_build_layers.specs.Placing.{gives_placed, gives_refused}
use Rattle.call_build_layers.proofs.place_built.Goals as goal

pub returns-in_err-count : goal.returns-in_err-count
returns-in_err-count c =
    let p = err_from_is_err_and c.from_residual.result c.from_residual.ensures.1 in
    λ x F P plain few levels room. rw (p.1, p.2) (gives_refused x F _ _ _ _ _ _ (c.in_err-count.ensures x F P))

pub returns : goal.returns
returns c =
    λ x F P plain few levels room.
    gives_placed x F _ _ _ _ _ _ _ P plain few levels c.requires.3 _ _ _ (c.in_ok-count.ensures x F P) _ _ _
    (λ M s w t r q. c.place.ensures x F _ _ M s w t r (c.min.ensures ∙ q) room)
