-- Letters folded, and what of a text that leaves: where it is cut, its digits, its words in brackets. Assumes nothing.
use Prim.Native.Nat.{ℕ, zero, suc, ◌+◌, ◌-◌, ◌≤◌, ◌<◌}
use Rattle.std.proofs.Math.Path.{◌≡◌, refl, ap}
use Rattle.std.proofs.Common.{sym, ap₂, ◌∙◌, inl, ⊎_elim, arith}
use Rattle.std.specs.Prelude.{◌⊎◌, Bool, ◌&&◌, ◌||◌, eqb, leb, length, get_or, if◌then◌else◌}
use Rattle.std.proofs.Math.Bool.{true, false}
use Rattle.std.proofs.Math.Option.{Option, none, some}
use mathlib.Core.List.{List, [], ◌∷◌, ◌++◌, map, map-append}
use Rattle.std.proofs.lemmas.List.{length-map}
use Rattle.std.proofs.Math.Seq.{slice}
use borrow.Author.Tests.{le-leb, lt-leb, ne_eqb, leb-true}
use Rattle.definitions.specs.Lists.{all, option}
use Rattle.definitions.specs.Sheet.Text.{split, on_first, is_between, is_capital, is_digit, is_small, number}
use Rattle.definitions.specs.Reply.Pddl.{small, folded, is_word_byte, is_word, closed, words_in}
use Rattle.laws.specs.Booleans.{T_of}
use Rattle.meaning.specs.PddlWords.{digits_small}
use Rattle.read_text.specs.Spans.{index_of}
use Rattle.read_text.proofs.Laws.{slice_done, slice_next, span_append}

-- ---- one byte
pub small_low : (b : ℕ) → b < 65 → small b ≡ b
unfolding small is_capital is_between
small_low b h = rw (lt-leb 65 b h)

pub small_high : (b : ℕ) → 90 < b → small b ≡ b
unfolding small is_capital is_between
small_high b h = rw (le-leb 65 b (omega arith), lt-leb b 90 h)

pub small_capital : (b : ℕ) → 65 ≤ b → b ≤ 90 → small b ≡ b + 32
unfolding small is_capital is_between
small_capital b h l = rw (le-leb 65 b h, le-leb b 90 l)

-- by where it stands
module _ (b : ℕ) where
  pub word_low : b < 48 → is_word_byte (small b) ≡ eqb b 45
  unfolding is_word_byte is_small is_digit is_between
  word_low h = rw (small_low b (omega arith), lt-leb 97 b (omega arith), lt-leb 48 b h, ne_eqb b 95 (λ q. omega arith))

  pub word_digit : 48 ≤ b → b ≤ 57 → is_word_byte (small b) ≡ true
  unfolding is_word_byte is_small is_digit is_between
  word_digit h l = rw (small_low b (omega arith), lt-leb 97 b (omega arith), le-leb 48 b h, le-leb b 57 l)

  pub word_mid : 57 < b → b < 65 → is_word_byte (small b) ≡ false
  unfolding is_word_byte is_small is_digit is_between
  word_mid h l = rw (small_low b (omega arith), lt-leb 97 b (omega arith), le-leb 48 b (omega arith), lt-leb b 57 h, ne_eqb b 95 (λ q. omega arith), ne_eqb b 45 (λ q. omega arith))

  pub word_capital : 65 ≤ b → b ≤ 90 → is_word_byte (small b) ≡ true
  unfolding is_word_byte is_small is_digit is_between
  word_capital h l = rw (small_capital b h l, le-leb 97 (b + 32) (omega arith), le-leb (b + 32) 122 (omega arith))

  pub word_between : 90 < b → b < 97 → is_word_byte (small b) ≡ eqb b 95
  unfolding is_word_byte is_small is_digit is_between
  word_between h l = rw (small_high b h, lt-leb 97 b l, le-leb 48 b (omega arith), lt-leb b 57 (omega arith), ne_eqb b 45 (λ q. omega arith)) (or_false (eqb b 95))
    where
      or_false : (x : Bool) → (x || false) ≡ x
      or_false true = refl
      or_false false = refl

  pub word_small : 97 ≤ b → is_word_byte (small b) ≡ leb b 122
  unfolding is_word_byte is_small is_digit is_between
  word_small h = rw (small_high b (omega arith), le-leb 97 b h, le-leb 48 b (omega arith), lt-leb b 57 (omega arith), ne_eqb b 95 (λ q. omega arith), ne_eqb b 45 (λ q. omega arith)) (or_none (leb b 122))
    where
      or_none : (x : Bool) → (((x || false) || false) || false) ≡ x
      or_none true = refl
      or_none false = refl

-- a byte that is no letter is so before and after
abbrev pub Apart : ℕ → Type 0
Apart sep = (sep < 65) ⊎ ((90 < sep) × (sep < 97))

pub small_apart : (sep b : ℕ) → Apart sep → eqb (small b) sep ≡ eqb b sep
unfolding small is_capital is_between
small_apart sep b o = by_test (leb 65 b && leb b 90) refl
  where
    by_test : (t : Bool) → (leb 65 b && leb b 90) ≡ t → eqb (if t then b + 32 else b) sep ≡ eqb b sep
    by_test false q = refl
    by_test true q =
        let (h, l) = parts (leb 65 b) (leb b 90) q in
        let low = leb-true 65 b h in let high = leb-true b 90 l in
        ne_eqb (b + 32) sep (λ e. ⊎_elim (λ x. omega arith) (λ x. omega arith) o) ∙ sym (ne_eqb b sep (λ e. ⊎_elim (λ x. omega arith) (λ x. omega arith) o))
      where
        parts : (x y : Bool) → (x && y) ≡ true → (x ≡ true) × (y ≡ true)
        parts true y e = (refl, e)
        parts false y e = let z : ◌≡◌ {A = ℕ} 0 1 = cc in absurd (omega arith)

-- ---- a text cut, and where a byte first stands
pub split_folded : (sep : ℕ) → Apart sep → (xs : List ℕ) → split sep (folded xs) ≡ map folded (split sep xs)
unfolding folded split on_first
split_folded sep o [] = refl
split_folded sep o (b ∷ xs) = rw (small_apart sep b o) (by_test (eqb b sep) (split_folded sep o xs))
  where
    first : (ps : List (List ℕ)) → on_first (small b) (map (map small) ps) ≡ map (map small) (on_first b ps)
    first [] = refl
    first (p ∷ ps) = refl

    by_test : (t : Bool) → split sep (map small xs) ≡ map (map small) (split sep xs) → (if t then [] ∷ split sep (map small xs) else on_first (small b) (split sep (map small xs))) ≡ map (map small) (if t then [] ∷ split sep xs else on_first b (split sep xs))
    by_test true h = ap (λ (ps : List (List ℕ)). [] ∷ ps) h
    by_test false h = ap (on_first (small b)) h ∙ first (split sep xs)

pub index_folded : (sep : ℕ) → Apart sep → (xs : List ℕ) → index_of sep (folded xs) ≡ index_of sep xs
unfolding folded index_of
index_folded sep o [] = refl
index_folded sep o (b ∷ xs) = rw (small_apart sep b o, index_folded sep o xs)

pub length_folded : (xs : List ℕ) → length (folded xs) ≡ length xs
unfolding folded
length_folded xs = length-map xs small

-- ---- numbers have no letters
digit_small : (b : ℕ) → is_digit (small b) ≡ is_digit b
unfolding small is_capital is_digit is_between
digit_small b = by_test (leb 65 b && leb b 90) refl
  where
    by_test : (t : Bool) → (leb 65 b && leb b 90) ≡ t → (leb 48 (if t then b + 32 else b) && leb (if t then b + 32 else b) 57) ≡ (leb 48 b && leb b 57)
    by_test false q = refl
    by_test true q = let h = leb-true 65 b (part (leb 65 b) (leb b 90) q) in
        rw (le-leb 48 (b + 32) (omega arith), lt-leb (b + 32) 57 (omega arith), le-leb 48 b (omega arith), lt-leb b 57 (omega arith)) refl
      where
        part : (x y : Bool) → (x && y) ≡ true → x ≡ true
        part true y e = refl
        part false y e = e

all_digits : (xs : List ℕ) → all is_digit (folded xs) ≡ all is_digit xs
unfolding folded all
all_digits [] = refl
all_digits (b ∷ xs) = ap₂ ◌&&◌ (digit_small b) (all_digits xs)

pub number_folded : (xs : List ℕ) → number (folded xs) ≡ number xs
unfolding number
number_folded xs = by_test (all is_digit xs) refl
  where
    by_test : (t : Bool) → all is_digit xs ≡ t → number (folded xs) ≡ number xs
    by_test true q = ap number (digits_small xs (T_of q))
    by_test false q = rw (all_digits xs, q) refl

-- ---- words in brackets
closed_snoc : (xs : List ℕ) (b : ℕ) → closed (xs ++ (b ∷ [])) ≡ (if eqb b 41 then some xs else none)
unfolding closed option
closed_snoc [] b = refl
closed_snoc (x ∷ []) b = by_test (eqb b 41)
  where
    by_test : (t : Bool) → option (if t then some [] else none) none (λ (l : List ℕ). some (x ∷ l)) ≡ (if t then some (x ∷ []) else none)
    by_test true = refl
    by_test false = refl
closed_snoc (x ∷ y ∷ xs) b = rw (closed_snoc (y ∷ xs) b) (by_test (eqb b 41))
  where
    by_test : (t : Bool) → option (if t then some (y ∷ xs) else none) none (λ (l : List ℕ). some (x ∷ l)) ≡ (if t then some (x ∷ y ∷ xs) else none)
    by_test true = refl
    by_test false = refl

-- the words of an inner text, if all of them are words
unfoldable pub words_of : List ℕ → Option (List (List ℕ))
words_of t = if all is_word (split 32 t) then some (split 32 t) else none

bracket_words : (a e : ℕ) (t : List ℕ) → words_in (a ∷ (t ++ (e ∷ []))) ≡ (if eqb a 40 then (if eqb e 41 then words_of t else none) else none)
unfolding words_in words_of option
bracket_words a e t = rw (closed_snoc t e) (by_test (eqb e 41))
  where
    by_test : (x : Bool) → (if eqb a 40 then option (if x then some t else none) none (λ (t : List ℕ). if all is_word (split 32 t) then some (split 32 t) else none) else none)
        ≡ (if eqb a 40 then (if x then (if all is_word (split 32 t) then some (split 32 t) else none) else none) else none)
    by_test true = refl
    by_test false = refl

module _ (s : List ℕ) (a e : ℕ) (k : e ≤ length s) where
  -- a span of two bytes or more
  span_parts : a + 2 ≤ e → slice a e s ≡ get_or s a 0 ∷ (slice (a + 1) (e - 1) s ++ (get_or s (e - 1) 0 ∷ []))
  span_parts h = slice_next a e s (omega arith) k ∙ ap (λ (t : List ℕ). get_or s a 0 ∷ t) (by_length (e - a - 2) refl)
    where
      last : slice (e - 1) e s ≡ get_or s (e - 1) 0 ∷ []
      last = slice_next (e - 1) e s (omega arith) k ∙ ap (λ (t : List ℕ). get_or s (e - 1) 0 ∷ t) (slice_done (e - 1 + 1) e s (omega arith) (omega arith))

      by_length : (j : ℕ) → e - a - 2 ≡ j → slice (a + 1) e s ≡ slice (a + 1) (e - 1) s ++ (get_or s (e - 1) 0 ∷ [])
      by_length zero q =
          let z : a + 1 ≡ e - 1 = omega arith in
          ap (λ (i : ℕ). slice i e s) z ∙ last ∙ ap (λ (t : List ℕ). t ++ (get_or s (e - 1) 0 ∷ [])) (sym (slice_done (a + 1) (e - 1) s (omega arith) (omega arith)))
      by_length (suc j) q =
          let z : a + 1 + suc j ≡ e - 1 = omega arith in
          span_append (a + 1) j e s (omega arith) ∙ ap₂ (λ (x y : List ℕ). x ++ y) (ap (λ (i : ℕ). slice (a + 1) i s) z) (ap (λ (i : ℕ). slice i e s) z ∙ last)

  folded_parts : a + 2 ≤ e → folded (slice a e s) ≡ small (get_or s a 0) ∷ (folded (slice (a + 1) (e - 1) s) ++ (small (get_or s (e - 1) 0) ∷ []))
  unfolding folded
  folded_parts h = ap (map small) (span_parts h) ∙ ap (λ (t : List ℕ). small (get_or s a 0) ∷ t) (map-append small (slice (a + 1) (e - 1) s) (get_or s (e - 1) 0 ∷ []))

  pub words_parts : a + 2 ≤ e → words_in (folded (slice a e s)) ≡ (if eqb (get_or s a 0) 40 then (if eqb (get_or s (e - 1) 0) 41 then words_of (folded (slice (a + 1) (e - 1) s)) else none) else none)
  words_parts h = ap words_in (folded_parts h) ∙ bracket_words (small (get_or s a 0)) (small (get_or s (e - 1) 0)) (folded (slice (a + 1) (e - 1) s))
      ∙ ap₂ (λ (x y : Bool). if x then (if y then words_of (folded (slice (a + 1) (e - 1) s)) else none) else none) (small_apart 40 (get_or s a 0) (inl (omega arith))) (small_apart 41 (get_or s (e - 1) 0) (inl (omega arith)))

  pub words_short : a ≤ e → e < a + 2 → words_in (folded (slice a e s)) ≡ none
  unfolding folded words_in closed option
  words_short h l = by_length (e - a) refl
    where
      by_length : (j : ℕ) → e - a ≡ j → words_in (map small (slice a e s)) ≡ none
      by_length zero q = rw (slice_done a e s h (omega arith)) refl
      by_length (suc j) q =
          rw (slice_next a e s (omega arith) k, slice_done (a + 1) e s (omega arith) (omega arith)) (by_test (eqb (small (get_or s a 0)) 40))
        where
          by_test : (t : Bool) → ◌≡◌ {A = Option (List (List ℕ))} (if t then none else none) none
          by_test true = refl
          by_test false = refl
