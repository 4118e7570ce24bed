use mathlib.Core.Path.{◌≡◌, refl, ◌∙◌}
use Prim.Native.Nat.{ℕ}
use mathlib.Core.Bool.{Bool, true, false}
use mir.Val.{bool_byte}
use Rattle.step_picks.specs.Words.{is_open}
use Rattle.step_picks.specs.Tests.{chosen_by}
use Rattle.step_picks.proofs.chosen.Goals as goal

as_number : (kind : ℕ) (b : Bool) → b ≡ is_open kind → bool_byte b ≡ chosen_by kind
unfolding chosen_by
as_number kind true e = rw (← e) refl
as_number kind false e = rw (← e) refl

pub returns : goal.returns
returns c = c.from.ensures ∙ as_number c.args.kind c.is_chosen.result c.is_chosen.ensures
