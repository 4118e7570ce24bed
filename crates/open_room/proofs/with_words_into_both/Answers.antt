use Rattle.std.proofs.Math.Path.{refl}
use Rattle.open_room.proofs.with_words_into_both.Goals as goal

pub returns : goal.returns
returns g c = (_, record { lent = _; lent_2 = _; lent_3 = _; shows = (refl, refl, refl); back = _; back_2 = _; back_3 = _; met = c.f.ensures; leaves = (refl, refl, refl) })
