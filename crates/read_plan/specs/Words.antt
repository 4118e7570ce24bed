-- Words of a span, one after another. Assumes nothing.
use Rattle.std.specs.Prelude.{ℕ, ◌+◌, ◌-◌, ◌≤◌, ◌<◌, ◌≡◌, Bool, ◌&&◌, List, [], ◌∷◌, map, eqb, ltb, length, get_or, if◌then◌else◌}
use Rattle.std.proofs.Math.Path.{refl, sym, ap}
use Rattle.std.proofs.Common.{◌∙◌, inl, arith}
use Rattle.std.proofs.Math.Bool.{true, false}
use Rattle.std.proofs.Math.Option.{none, some}
use Rattle.std.proofs.Math.Seq.{slice}
use borrow.Author.Tests.{eq-eqb, ne_eqb, ltb-true, ltb-false}
use Rattle.definitions.specs.Lists.{all, is_some, is_empty}
use Rattle.definitions.specs.Sheet.Text.{split}
use Rattle.definitions.specs.Reply.Pddl.{small, folded, is_word_byte, is_word, words_in}
use Rattle.read_text.specs.Spans.{index_of}
use Rattle.read_text.proofs.Laws.{slice_done, slice_next, pieces_at, pieces_whole, end_within}
use Rattle.read_plan.specs.Spelled.{split_folded, words_of, words_parts, words_short}

module _ (s : List ℕ) (i e : ℕ) (k : e ≤ length s) where
  pub folded_next : i < e → folded (slice i e s) ≡ small (get_or s i 0) ∷ folded (slice (i + 1) e s)
  unfolding folded
  folded_next h = ap (map small) (slice_next i e s h k)

  pub folded_none : i ≤ e → e ≤ i → folded (slice i e s) ≡ []
  unfolding folded
  folded_none h l = ap (map small) (slice_done i e s h l)

  -- one word
  pub word_none : i ≡ e → false ≡ is_word (folded (slice i e s))
  unfolding is_word is_empty
  word_none h = sym (ap is_word (folded_none (omega arith) (omega arith)))

  pub word_bytes : i < e → is_word (folded (slice i e s)) ≡ all is_word_byte (folded (slice i e s))
  unfolding is_word is_empty
  word_bytes h = rw (folded_next h) refl

  bytes_next : i < e → all is_word_byte (folded (slice i e s)) ≡ (is_word_byte (small (get_or s i 0)) && all is_word_byte (folded (slice (i + 1) e s)))
  unfolding all
  bytes_next h = rw (folded_next h) refl

  pub bytes_yes : i < e → is_word_byte (small (get_or s i 0)) ≡ true → all is_word_byte (folded (slice i e s)) ≡ all is_word_byte (folded (slice (i + 1) e s))
  bytes_yes h t = bytes_next h ∙ ap (λ (b : Bool). b && all is_word_byte (folded (slice (i + 1) e s))) t

  pub bytes_no : i < e → is_word_byte (small (get_or s i 0)) ≡ false → all is_word_byte (folded (slice i e s)) ≡ false
  bytes_no h t = bytes_next h ∙ ap (λ (b : Bool). b && all is_word_byte (folded (slice (i + 1) e s))) t

  pub bytes_end : e ≤ i → i ≤ e → all is_word_byte (folded (slice i e s)) ≡ true
  unfolding all
  bytes_end h l = ap (all is_word_byte) (folded_none l h)

-- several
abbrev pub are_words : List ℕ → ℕ → ℕ → Bool
are_words s i e = all is_word (split 32 (folded (slice i e s)))

module _ (s : List ℕ) (i j e : ℕ) (h : i ≤ e) (k : e ≤ length s) (q : j ≡ i + index_of 32 (slice i e s)) where
  cut_at_lem : j < e → split 32 (folded (slice i e s)) ≡ folded (slice i j s) ∷ split 32 (folded (slice (j + 1) e s))
  cut_at_lem l = split_folded 32 (inl (omega arith)) (slice i e s) ∙ ap (map folded) (pieces_at 32 i e s h k j q l) ∙ ap (λ (x : List (List ℕ)). folded (slice i j s) ∷ x) (sym (split_folded 32 (inl (omega arith)) (slice (j + 1) e s)))

  cut_whole : e ≤ j → split 32 (folded (slice i e s)) ≡ folded (slice i e s) ∷ []
  cut_whole l = split_folded 32 (inl (omega arith)) (slice i e s) ∙ ap (map folded) (pieces_whole 32 i e s h k j q l)

  pub words_yes : j < e → is_word (folded (slice i j s)) ≡ true → are_words s i e ≡ are_words s (j + 1) e
  unfolding all
  words_yes l t = ap (all is_word) (cut_at_lem l) ∙ ap (λ (b : Bool). b && are_words s (j + 1) e) t

  pub words_no : j < e → is_word (folded (slice i j s)) ≡ false → are_words s i e ≡ false
  unfolding all
  words_no l t = ap (all is_word) (cut_at_lem l) ∙ ap (λ (b : Bool). b && are_words s (j + 1) e) t

  pub words_last : e ≤ j → are_words s i e ≡ is_word (folded (slice i e s))
  unfolding all
  words_last l = ap (all is_word) (cut_whole l) ∙ and_true (is_word (folded (slice i e s)))
    where
      and_true : (b : Bool) → (b && true) ≡ b
      and_true true = refl
      and_true false = refl

  -- the words, the first by itself
  pub first_word_lem : split 32 (folded (slice i e s)) ≡ folded (slice i j s) ∷ (if ltb j e then split 32 (folded (slice (j + 1) e s)) else [])
  first_word_lem = go (ltb j e) refl
    where
      go : (b : Bool) → ltb j e ≡ b → split 32 (folded (slice i e s)) ≡ folded (slice i j s) ∷ (if b then split 32 (folded (slice (j + 1) e s)) else [])
      go true t = cut_at_lem (ltb-true j e t)
      go false t =
          let l = ltb-false j e t in
          let w = end_within 32 i e s h k in
          let z : e ≡ j = omega arith in
          cut_whole l ∙ ap (λ (x : ℕ). folded (slice i x s) ∷ []) z

-- ---- in brackets
module _ (s : List ℕ) (a e : ℕ) (h : a ≤ e) (k : e ≤ length s) where
  pub formed_short : e - a < 2 → false ≡ is_some (words_in (folded (slice a e s)))
  unfolding is_some
  formed_short l = sym (ap is_some (words_short s a e k h (omega arith)))

  module _ (l : 2 ≤ e - a) where
    parts : words_in (folded (slice a e s)) ≡ (if eqb (get_or s a 0) 40 then (if eqb (get_or s (e - 1) 0) 41 then words_of (folded (slice (a + 1) (e - 1) s)) else none) else none)
    parts = words_parts s a e k (omega arith)

    pub formed_open : (get_or s a 0 ≡ 40 → ⊥) → false ≡ is_some (words_in (folded (slice a e s)))
    unfolding is_some
    formed_open x = let f : words_in (folded (slice a e s)) ≡ none = parts ∙ rw (ne_eqb (get_or s a 0) 40 x) refl in sym (ap is_some f)

    pub formed_close : get_or s a 0 ≡ 40 → (get_or s (e - 1) 0 ≡ 41 → ⊥) → false ≡ is_some (words_in (folded (slice a e s)))
    unfolding is_some
    formed_close x y = let f : words_in (folded (slice a e s)) ≡ none = parts ∙ rw (eq-eqb (get_or s a 0) 40 x, ne_eqb (get_or s (e - 1) 0) 41 y) refl in sym (ap is_some f)

    pub formed_words : get_or s a 0 ≡ 40 → get_or s (e - 1) 0 ≡ 41 → are_words s (a + 1) (e - 1) ≡ is_some (words_in (folded (slice a e s)))
    unfolding is_some words_of
    formed_words x y =
        let f : words_in (folded (slice a e s)) ≡ words_of (folded (slice (a + 1) (e - 1) s)) = parts ∙ rw (eq-eqb (get_or s a 0) 40 x, eq-eqb (get_or s (e - 1) 0) 41 y) refl in
        sym (ap is_some f ∙ by_test (are_words s (a + 1) (e - 1)))
      where
        by_test : (b : Bool) → is_some (if b then some (split 32 (folded (slice (a + 1) (e - 1) s))) else none) ≡ b
        by_test true = refl
        by_test false = refl
