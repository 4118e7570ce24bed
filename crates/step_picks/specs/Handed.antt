-- Picks that are handed over, once they stand in words: a text's are written to words that are long enough and have no spare bit, lent
-- words are themselves. What a call tests of either is tested of the words.
use Rattle.std.specs.Prelude.{ℕ, zero, ◌+◌, ◌≡◌, Bool, List, [], length}
use Rattle.std.proofs.Math.Path.{refl}
use Rattle.std.proofs.Math.Option.{none, some}
use Rattle.std.proofs.Common.{le-ltb}
use Rattle.bits.specs.Table.{bit, Words}
use Rattle.definitions.specs.Refusal.{Result, refused, accepted, ◌>>=◌, refuse_if}
use Rattle.definitions.specs.Sheet.Relations.{Tuple}
use Rattle.definitions.specs.Sheet.Sheets.{Label, read_picks}
use Rattle.definitions.specs.Problem.Truth.{Case}
use Rattle.definitions.specs.Problem.Atoms.{Problem, problem_of}
use Rattle.definitions.specs.Problem.Built.{chosen_numbers}
use Rattle.definitions.specs.Reply.Outcome.{ThirdInput, as_text, as_numbers, picks_length, lent_picks, spare_word, text_picks, picks_room, room_for, spare_refusal, take_picks, satisfying}
use Rattle.read_names.specs.Signatures.{chosen_of}
use Rattle.laws.specs.Labels.{LabelsFit}
use Rattle.laws.specs.Reader.{Accepted}
use Rattle.std.specs.Prelude.{Ok}
use Rattle.read_sheets.specs.Reading.{GotPicks, PicksRoom}
use Rattle.read_sheets.specs.declared.Opened.{Opened}
use Rattle.read_sheets.specs.Opening.{Holds}
use Rattle.step_picks.specs.Picked.{Held, text_fits, text_are, text_front, text_clear, lent_are, lent_front}

-- picks that were taken: 16, 17 (those of a text are taken as they are)
unfoldable pub decided : Case → Problem → List Tuple → Result (List Tuple)
decided c p F = satisfying c p (as_text []) F

-- the words are those of the picks F of the case c, as they are handed over; a text's are read first, by the labels
pub record Handed (c : Case) (labels : List Label) (given : ThirdInput) (words : List ℕ) (read F : List Tuple) : Type 0 where
  pub is_read : text_picks c labels given ≡ accepted read
  pub room_is : picks_room (problem_of c) given ≡ room_for (picks_length (problem_of c)) (length words)
  pub taken : take_picks (problem_of c) given read ≡ (spare_refusal (spare_word (problem_of c) words zero (chosen_numbers (problem_of c))) >>= λ _. accepted F)
  pub held : Held c words F

module _ (c : Case) (labels : List Label) (given : ThirdInput) (words : List ℕ) (read F : List Tuple) (h : Handed c labels given words read F) where
  pub spare_refused : (j : ℕ) → spare_word (problem_of c) words zero (chosen_numbers (problem_of c)) ≡ some j → satisfying c (problem_of c) given read ≡ refused 10 j
  unfolding satisfying spare_refusal ◌>>=◌
  spare_refused j e = rw (h.taken, e) refl

  pub spare_clear : spare_word (problem_of c) words zero (chosen_numbers (problem_of c)) ≡ none → satisfying c (problem_of c) given read ≡ decided c (problem_of c) F
  unfolding decided satisfying take_picks spare_refusal ◌>>=◌
  spare_clear e = rw (h.taken, e) refl

-- ---- from a text
pub text_handed : (s : List ℕ) (c : Case) (A : Accepted c) (o : Opened) (facts : ℕ → Bool) → Holds s c o facts → (labels : List Label) → LabelsFit c.site.size labels
    → (text : List ℕ) (F : List Tuple) → text_picks c labels (as_text text) ≡ accepted F
    → (w : List ℕ) → Words w → PicksRoom o.sig o.n (length w) → (k : ℕ) → GotPicks o.sig o.n (read_picks (chosen_of s o.sig) (5 + o.sig.rels) o.n labels text) (Ok k) (bit w) → Handed c labels (as_text text) w F F
unfolding picks_room take_picks room_for refuse_if spare_refusal ◌>>=◌
text_handed s c A o facts h labels fit text F t w ok room k held =
    record {
      is_read = t;
      room_is = rw (le-ltb (length w) (picks_length (problem_of c)) (text_fits s c A o facts h (length w) room)) refl;
      taken = rw (text_clear s c A o facts h labels fit text F t w ok room k held) refl;
      held = λ _ _. (text_are s c A o facts h labels fit text F t, text_front s c A o facts h labels fit text F t w ok room k held);
    }

-- ---- lent
pub lent_handed : (c : Case) → Accepted c → (labels : List Label) (w : List ℕ) → Words w → Handed c labels (as_numbers w) w [] (lent_picks (problem_of c) w (chosen_numbers (problem_of c)))
unfolding text_picks picks_room take_picks
lent_handed c A labels w ok =
    record {
      is_read = refl;
      room_is = refl;
      taken = refl;
      held = λ room clear. (lent_are c A w room clear, lent_front c A w room clear ok);
    }
