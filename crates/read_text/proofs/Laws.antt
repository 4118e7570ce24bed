-- Laws of spans and of `split`: a scan a byte at a time, the pieces of a span by the place of its first separator, equal spans.
use Rattle.std.specs.Prelude.{if◌then◌else◌}
use Rattle.std.specs.List.{list_all}
use Rattle.std.specs.Cmp.Lexicographic.{pointwise}
use Rattle.std.proofs.lemmas.List.{length-take, take_min, drop_min, drop-take}
use Prim.Native.Nat.{ℕ, suc, ◌+◌, ◌-◌, ◌≤◌, ◌<◌, min}
use mathlib.Core.Path.{◌≡◌, refl, sym, ap, ap₂, ◌∙◌}
use mathlib.Core.Bool.{Bool, true, false, and-false}
use mathlib.Core.List.{List, [], ◌∷◌, ◌++◌}
use native.Mathlib.Numerals.{add-one}
use native.Mathlib.Omega.{arith}
use lib.Dec.{eqb}
use lib.ListN.{take-append-drop, length, take, drop, get_or, length-drop, drop_of_length-le}
use lib.Seq.{slice, slice-cons, slice_empty, length-slice, get_or-drop, get_or-take, take-length, take-take, drop-drop, drop-cons}
use borrow.Author.Tests.{eq-eqb, ne_eqb}
use Rattle.definitions.specs.Lists.{same, all}
use Rattle.definitions.specs.Sheet.Text.{split, on_first}
use Rattle.read_text.specs.Spans.{index_of}

-- ---- a scan of a slice, a byte at a time

pub slice_next : (i e : ℕ) (s : List ℕ) → i < e → e ≤ length s → slice i e s ≡ get_or s i 0 ∷ slice (i + 1) e s
slice_next i e s h k = rw (add-one, slice-cons i e s 0)

pub slice_done : (i e : ℕ) (s : List ℕ) → i ≤ e → e ≤ i → slice i e s ≡ []
slice_done i e s h k = let q : i ≡ e = omega arith in rw q (slice_empty e s)

pub slice_all : (i : ℕ) (s : List ℕ) → slice i (length s) s ≡ drop i s
slice_all i s = rw (take-length s)

-- ---- where a byte first stands

pub index_of_hit : (b c : ℕ) (t : List ℕ) → c ≡ b → index_of b (c ∷ t) ≡ 0
unfolding index_of
index_of_hit b c t e = simp (eq-eqb c b e)

pub index_of_miss : (b c : ℕ) (t : List ℕ) → (c ≡ b → ⊥) → index_of b (c ∷ t) ≡ suc (index_of b t)
unfolding index_of
index_of_miss b c t h = simp (ne_eqb c b h)

pub span_hit : (b i e : ℕ) (s : List ℕ) → i < e → e ≤ length s → get_or s i 0 ≡ b → index_of b (slice i e s) ≡ 0
span_hit b i e s h k q = ap (index_of b) (slice_next i e s h k) ∙ index_of_hit b (get_or s i 0) (slice (i + 1) e s) q

pub span_miss : (b i e : ℕ) (s : List ℕ) → i < e → e ≤ length s → (get_or s i 0 ≡ b → ⊥) → index_of b (slice i e s) ≡ suc (index_of b (slice (i + 1) e s))
span_miss b i e s h k q = ap (index_of b) (slice_next i e s h k) ∙ index_of_miss b (get_or s i 0) (slice (i + 1) e s) q

-- k bytes from i on are others, and one more
pub span_more : (b i k e : ℕ) (s : List ℕ) → i + k < e → e ≤ length s → (get_or s (i + k) 0 ≡ b → ⊥) → index_of b (slice i e s) ≡ k + index_of b (slice (i + k) e s) → index_of b (slice i e s) ≡ k + 1 + index_of b (slice (i + (k + 1)) e s)
span_more b i k e s h l q p = let a : i + k + 1 ≡ i + (k + 1) = omega arith in omega (arith, rw a at (span_miss b (i + k) e s h l q), p)

pub span_none : (b i e : ℕ) (s : List ℕ) → i ≤ e → e ≤ i → index_of b (slice i e s) ≡ 0
unfolding index_of
span_none b i e s h k = ap (index_of b) (slice_done i e s h k)

pub index_of_le : (b : ℕ) (t : List ℕ) → index_of b t ≤ length t
unfolding index_of
index_of_le b [] = omega arith
index_of_le b (c ∷ t) = by_test (eqb c b) (index_of_le b t)
  where
    by_test : (u : Bool) → index_of b t ≤ length t → (if u then 0 else suc (index_of b t)) ≤ suc (length t)
    by_test true h = omega arith
    by_test false h = omega arith

-- ---- split: the first piece goes up to the first byte b

unfoldable pub Split : ℕ → List ℕ → Type 0
Split b t = split b t ≡ take (index_of b t) t ∷ split b (drop (suc (index_of b t)) t)

split_cons : (b c : ℕ) (t : List ℕ) (u : Bool) → eqb c b ≡ u → (index_of b t < length t → Split b t) → index_of b (c ∷ t) < length (c ∷ t) → Split b (c ∷ t)
unfolding Split index_of split on_first
split_cons b c t true e ih h = simp e
split_cons b c t false e ih h = simp e (rw (ih (let h' = simp e at h in omega arith)))

pub split_first : (b : ℕ) (t : List ℕ) → index_of b t < length t → Split b t
split_first b [] h = absurd (omega arith)
split_first b (c ∷ t) h = split_cons b c t (eqb c b) refl (split_first b t) h

last_cons : (b c : ℕ) (t : List ℕ) (u : Bool) → eqb c b ≡ u → (index_of b t ≡ length t → split b t ≡ t ∷ []) → index_of b (c ∷ t) ≡ length (c ∷ t) → split b (c ∷ t) ≡ (c ∷ t) ∷ []
unfolding index_of split on_first
last_cons b c t true e ih h = let h' = simp e at h in absurd (omega arith)
last_cons b c t false e ih h = let h' = simp e at h in simp e (rw (ih (omega arith)))

-- where there is no byte b, the one piece is the text
pub split_last : (b : ℕ) (t : List ℕ) → index_of b t ≡ length t → split b t ≡ t ∷ []
unfolding split
split_last b [] h = refl
split_last b (c ∷ t) h = last_cons b c t (eqb c b) refl (split_last b t) h

on_first_length : (c : ℕ) (ps : List (List ℕ)) → 0 < length ps → length (on_first c ps) ≡ length ps
unfolding on_first
on_first_length c [] h = absurd (omega arith)
on_first_length c (p ∷ ps) h = refl

pub split_some : (b : ℕ) (t : List ℕ) → 0 < length (split b t)
unfolding split
split_some b [] = omega arith
split_some b (c ∷ t) = by_test (eqb c b) (split_some b t)
  where
    by_test : (u : Bool) → 0 < length (split b t) → 0 < length (if u then [] ∷ split b t else on_first c (split b t))
    by_test true h = omega arith
    by_test false h = rw (on_first_length c (split b t) h) h

span_take : (a k e : ℕ) (s : List ℕ) → a + k ≤ e → slice a (a + k) s ≡ take k (slice a e s)
span_take a k e s h = ap (drop a) (sym (take-take (a + k) e s h)) ∙ drop-take a k (take e s)

span_drop : (a k e : ℕ) (s : List ℕ) → slice (a + k + 1) e s ≡ drop (suc k) (slice a e s)
span_drop a k e s = let q : a + suc k ≡ a + k + 1 = omega arith in rw (← q, drop-drop (suc k) a (take e s))

-- a span in two
pub span_append : (a k e : ℕ) (s : List ℕ) → a + suc k ≤ e → slice a e s ≡ slice a (a + suc k) s ++ slice (a + suc k) e s
span_append a k e s h =
    let z : a + suc k ≡ a + k + 1 = omega arith in
    sym (ap₂ ◌++◌ (span_take a (suc k) e s h) (ap (λ (b : ℕ). slice b e s) z ∙ span_drop a k e s) ∙ take-append-drop (suc k) (slice a e s))

module _ (b at e : ℕ) (s : List ℕ) (h : at ≤ e) (k : e ≤ length s) where
  pub end_within : at + index_of b (slice at e s) ≤ e
  end_within = omega (arith, index_of_le b (slice at e s), length-slice at e s k)

  -- the pieces of a span by w, the index of its first byte b
  module _ (w : ℕ) (q : w ≡ at + index_of b (slice at e s)) where
    pub pieces_at : w < e → split b (slice at e s) ≡ slice at w s ∷ split b (slice (w + 1) e s)
    unfolding Split
    pieces_at l =
        let n : ℕ = index_of b (slice at e s) in
        split_first b (slice at e s) (omega (arith, length-slice at e s k))
        ∙ rw (q, ← span_take at n e s end_within, ← span_drop at n e s)

    pub pieces_whole : e ≤ w → split b (slice at e s) ≡ slice at e s ∷ []
    pieces_whole l =
        let p : w ≡ e = omega (arith, end_within) in
        split_last b (slice at e s) (omega (arith, length-slice at e s k))

-- ---- a span, which ends with the text at the latest

module _ (a e n : ℕ) (s : List ℕ) (q : n ≡ min e (length s)) where
  span_end : take n s ≡ take e s
  span_end = rw q (take_min e s)

  pub span_size : n - a ≡ length (slice a e s)
  span_size = sym (length-drop a (take e s) ∙ ap (λ (k : ℕ). k - a) (length-take e s ∙ sym q))

  pub span_is : (m : ℕ) → m ≡ min a n → take (n - m) (drop m s) ≡ slice a e s
  span_is m p =
      let k : m + (n - m) ≡ n = omega arith in
      let l : m ≡ min a (length (take e s)) = p ∙ ap (min a) (q ∙ sym (length-take e s)) in
      sym (drop-take m (n - m) s) ∙ rw (k, span_end, l) (drop_min a (take e s))

-- an index below the length of a span is one of the text
pub in_text : (a e : ℕ) (s : List ℕ) (i : ℕ) → i < length (slice a e s) → (a + i < e) × (a + i < length s)
in_text a e s i h = let z = length-drop a (take e s) in let w = length-take e s in (omega arith, omega arith)

-- ---- two texts, element by element

-- an element of a span
pub span_at : (a e : ℕ) (s : List ℕ) (i : ℕ) → a + i < e → get_or (slice a e s) i 0 ≡ get_or s (a + i) 0
span_at a e s i h = get_or-drop a (take e s) i 0 ∙ get_or-take e s (a + i) 0 h

pub drop_next : (t : List ℕ) (i : ℕ) → i < length t → drop i t ≡ get_or t i 0 ∷ drop (i + 1) t
drop_next t i h = rw (add-one, drop-cons t i 0)

pub same_hit : (x y : List ℕ) (i : ℕ) → i < length x → i < length y → get_or x i 0 ≡ get_or y i 0 → same (drop i x) (drop i y) ≡ same (drop (i + 1) x) (drop (i + 1) y)
unfolding same
same_hit x y i h k q = rw (drop_next x i h, drop_next y i k) (simp (eq-eqb (get_or x i 0) (get_or y i 0) q))

pub same_miss : (x y : List ℕ) (i : ℕ) → i < length x → i < length y → (get_or x i 0 ≡ get_or y i 0 → ⊥) → same (drop i x) (drop i y) ≡ false
unfolding same
same_miss x y i h k q = rw (drop_next x i h, drop_next y i k) (simp (ne_eqb (get_or x i 0) (get_or y i 0) q))

pub same_end : (x y : List ℕ) (i : ℕ) → length x ≤ i → length y ≤ i → same (drop i x) (drop i y) ≡ true
unfolding same
same_end x y i h k = rw (drop_of_length-le x h, drop_of_length-le y k)

pub same_length : (x y : List ℕ) → (length x ≡ length y → ⊥) → same x y ≡ false
unfolding same
same_length [] [] h = absurd (h refl)
same_length [] (b ∷ y) h = refl
same_length (a ∷ x) [] h = refl
same_length (a ∷ x) (b ∷ y) h = rw (same_length x y (λ e. h (ap suc e))) (and-false (eqb a b))

-- `==` of the library compares as `same` does
pub same_is : (x y : List ℕ) → pointwise eqb x y ≡ same x y
unfolding same
same_is [] [] = refl
same_is [] (b ∷ y) = refl
same_is (a ∷ x) [] = refl
same_is (a ∷ x) (b ∷ y) = rw (same_is x y)

-- ---- tests of all bytes

pub all_list : (p : ℕ → Bool) (t : List ℕ) → list_all p t ≡ all p t
unfolding all
all_list p [] = refl
all_list p (c ∷ t) = rw (all_list p t)
