use Rattle.std.proofs.Math.Path.{refl}
use Rattle.open_room.proofs.with_words_into.Goals as goal

pub returns : goal.returns
returns g c = (_, record { lent = _; lent_2 = _; shows = (refl, refl); back = _; back_2 = _; met = c.f.ensures; leaves = (refl, refl) })
