use mathlib.Core.Path.{◌≡◌, refl, ap, ◌∙◌}
use mathlib.Core.Bool.{Bool, true, false}
use mir.Val.{bool_byte}
use Rattle.bits.specs.Table.{num}
use Rattle.step_picks.proofs.digit.Goals as goal

as_number : (b : Bool) → bool_byte b ≡ num b
as_number true = refl
as_number false = refl

pub returns : goal.returns
returns c = c.from.ensures ∙ as_number c.test.result ∙ ap num c.test.ensures
