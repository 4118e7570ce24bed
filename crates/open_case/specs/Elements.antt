-- Words that hold the picks over the most elements hold those of any text.
use Rattle.std.specs.Prelude.{ℕ, ◌*◌, ◌^◌, ◌≤◌, Bool, List}
use Rattle.std.proofs.Common.{arith}
use Rattle.std.proofs.Math.Nat.{pow-le-pow_left}
use Rattle.definitions.specs.Problem.Truth.{Case}
use Rattle.definitions.specs.Problem.Atoms.{words_for}
use Rattle.read_sheets.specs.Reading.{PicksRoom}
use Rattle.read_sheets.specs.declared.Opened.{Opened}
use Rattle.read_sheets.specs.Opening.{Holds}
use Rattle.read_sheets.proofs.Turns.{picks_room_lem}

-- four relations of three places over the most elements have no fewer words
pub picks_enough : (question : List ℕ) (c : Case) (o : Opened) (facts : ℕ → Bool) → Holds question c o facts → (most room : ℕ) → o.n ≤ most → 4 * words_for (most ^ 3) ≤ room → PicksRoom o.sig o.n room
unfolding words_for
picks_enough question c o facts h most room n k =
    let q = pow-le-pow_left n 3 in
    picks_room_lem question o.sig h.sound o.n room (omega (arith, q))

-- 256 words do so for 16, 16,384 for 64
pub few_picks : 4 * words_for (16 ^ 3) ≤ 256
unfolding words_for
few_picks = omega arith

pub many_picks : 4 * words_for (64 ^ 3) ≤ 16384
unfolding words_for
many_picks = omega arith
