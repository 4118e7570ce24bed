-- `test_readers::read_site_of` meets its contract. A question's signature is sound, and a table of zeros is cleared and large enough.
use native.Mathlib.Omega.{arith}
use native.Mathlib.Nat.{pow-le-pow_left}
use Rattle.definitions.specs.Problem.Atoms.{words_for}
use Rattle.read_sheets.proofs.Loops.{no_label_words, no_member_words, zeros_clear}
use Rattle.read_sheets.proofs.Turns.{facts_room}
use Rattle.test_readers.proofs.read_site_of.Goals as goal

pub site-a-requires : goal.site-a-requires
unfolding words_for
site-a-requires c =
    let sound = c.in-Ok.ensures.2.sound in
    (sound, omega arith, λ k next r l. let e = pow-le-pow_left l 3 in facts_room _ _ sound k 32768 (omega (arith, e)), no_label_words, no_member_words, zeros_clear 32768)
