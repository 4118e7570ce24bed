-- `test_readers::read_picks` meets its contract. A case that was read has a sound signature and labels, and a table of zeros is large enough.
use mathlib.Core.Path.{refl}
use native.Mathlib.Omega.{arith}
use native.Mathlib.Nat.{pow-le-pow_left}
use Rattle.definitions.specs.Problem.Atoms.{words_for}
use Rattle.read_sheets.proofs.Loops.{no_label_words, zeros_clear}
use Rattle.read_sheets.proofs.Turns.{picks_room_lem, up_to}
use Rattle.test_readers.proofs.read_picks.Goals as goal

pub read_filed-requires : goal.read_filed-requires
unfolding words_for
read_filed-requires c = (omega arith, λ k next r l. let e = pow-le-pow_left l 3 in omega (arith, e), no_label_words, zeros_clear 512)

pub picks-a-requires : goal.picks-a-requires
unfolding words_for
picks-a-requires c =
    let (f, e, h, l) = c.in-Ok.ensures (up_to 16) refl in
    let p = pow-le-pow_left h.few_elements 3 in
    record { sound_signature = (h.sound, h.few_elements, picks_room_lem _ _ h.sound _ 16384 (omega (arith, p)), zeros_clear 16384); labels_are = (f.labels, l) }
