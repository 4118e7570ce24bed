-- The words that are lent are enough for four relations of three places, and clear.
use Rattle.std.proofs.Common.{arith}
use Rattle.std.proofs.Math.Nat.{pow-le-pow_left}
use Rattle.definitions.specs.Problem.Atoms.{words_for}
use Rattle.read_sheets.proofs.Loops.{zeros_clear}
use Rattle.std.specs.Prelude.{ℕ, ◌*◌, ◌^◌, ◌≤◌}
use Rattle.open_room.proofs.with_picks_into_both.Goals as goal

few : (n : ℕ) → n ≤ 16 → 4 * words_for (n ^ 3) ≤ 256
unfolding words_for
few n h = omega (arith, pow-le-pow_left h 3)

many : (n : ℕ) → n ≤ 64 → 4 * words_for (n ^ 3) ≤ 16384
unfolding words_for
many n h = omega (arith, pow-le-pow_left h 3)

pub with_words_into_both-requires-clause-takes : goal.with_words_into_both-requires-clause-takes
with_words_into_both-requires-clause-takes g c = c.requires.takes _ (few _ c.if-n-le-SMALL_SIZE.true) (zeros_clear 256)

pub returns-then-n-le-SMALL_SIZE : goal.returns-then-n-le-SMALL_SIZE
returns-then-n-le-SMALL_SIZE g c = (_, c.with_words_into_both.ensures.0, few _ c.if-n-le-SMALL_SIZE.true, zeros_clear 256, c.with_words_into_both.ensures.1)

pub with_words_into_both-requires-else-n-le-SMALL_SIZE-clause-takes : goal.with_words_into_both-requires-else-n-le-SMALL_SIZE-clause-takes
with_words_into_both-requires-else-n-le-SMALL_SIZE-clause-takes g c = c.requires.takes _ (many _ c.requires.few) (zeros_clear 16384)

pub returns-else-n-le-SMALL_SIZE : goal.returns-else-n-le-SMALL_SIZE
returns-else-n-le-SMALL_SIZE g c = (_, c.with_words_into_both-else-n-le-SMALL_SIZE.ensures.0, many _ c.requires.few, zeros_clear 16384, c.with_words_into_both-else-n-le-SMALL_SIZE.ensures.1)
