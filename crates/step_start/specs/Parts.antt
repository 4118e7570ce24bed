-- A state that is written part by part, and the table of words that it is written into.
use Rattle.std.specs.Prelude.{◌≡◌, refl, Bool, true, false, ◌&&◌, List, ◌++◌, ◌≢◌, ◌⊎◌, ℕ, zero, suc, ◌+◌, ◌-◌, ◌*◌, ◌/◌, ◌%◌, ◌^◌, ◌≤◌, ◌<◌, ltb, length, get_or, drop}
use Rattle.std.proofs.Common.{sym, ap, subst, ◌∙◌, inl, inr, arith, lt-ltb, le-ltb, length-append, length-drop, get_or-append-add, get_or-drop}
use Rattle.std.proofs.Math.Path.{fun_ext}
use Rattle.std.proofs.Math.Decide.{dec_lt, dec_le}
use Rattle.std.proofs.Math.ListN.{get_or-append}
use Rattle.bits.specs.Table.{digit, bit, put, paste, Words, words}
use Rattle.bits.proofs.Laws.{put_same, put_other, paste_in, paste_out, bit_past, bit_words, length_words, words_fit, table_ext}

pub lt_or_le : (i n : ℕ) → (i < n) ⊎ (n ≤ i)
lt_or_le i n = from_this (dec_lt i n)
  where
    from_this : Dec (i < n) → (i < n) ⊎ (n ≤ i)
    from_this (yes l) = inl l
    from_this (no l) = inr (omega arith)

-- ---- the part of a state before atom k, and a state that is written part by part
unfoldable pub cut : (ℕ → Bool) → ℕ → ℕ → Bool
cut s k i = ltb i k && s i

cut_in : (s : ℕ → Bool) (k i : ℕ) → i < k → cut s k i ≡ s i
unfolding cut
cut_in s k i h = rw (lt-ltb i k h) refl

cut_out : (s : ℕ → Bool) (k i : ℕ) → k ≤ i → cut s k i ≡ false
unfolding cut
cut_out s k i h = rw (le-ltb i k h) refl

-- the first m bits of old become s
abbrev pub over : (ℕ → Bool) → ℕ → (ℕ → Bool) → ℕ → Bool
over old m s = paste old 0 s 0 m

over_in : (old : ℕ → Bool) (m : ℕ) (s : ℕ → Bool) (i : ℕ) → i < m → over old m s i ≡ s i
over_in old m s i h = let e : 0 + (i - 0) ≡ i = omega arith in paste_in old 0 s 0 m i (omega arith) (omega arith) ∙ ap s e

over_out : (old : ℕ → Bool) (m : ℕ) (s : ℕ → Bool) (i : ℕ) → m ≤ i → over old m s i ≡ old i
over_out old m s i h = paste_out old 0 s 0 m i (λ q. omega (arith, q.1))

module _ (old : ℕ → Bool) (m : ℕ) (s : ℕ → Bool) where
  -- the next w bits
  pub cut_more : (a w : ℕ) (g : ℕ → Bool) → a + w ≤ m → ((i : ℕ) → i < w → g i ≡ s (a + i)) → paste (over old m (cut s a)) a g 0 w ≡ over old m (cut s (a + w))
  cut_more a w g l h = fun_ext (λ j. by_number j (dec_le a j) (dec_lt j (a + w)))
    where
      outside : (j : ℕ) → ((a ≤ j) × (j < a + w) → ⊥) → cut s a j ≡ cut s (a + w) j → paste (over old m (cut s a)) a g 0 w j ≡ over old m (cut s (a + w)) j
      outside j o e = paste_out (over old m (cut s a)) a g 0 w j o ∙ below (dec_lt j m)
        where
          below : Dec (j < m) → over old m (cut s a) j ≡ over old m (cut s (a + w)) j
          below (yes q) = over_in old m (cut s a) j q ∙ e ∙ sym (over_in old m (cut s (a + w)) j q)
          below (no q) = over_out old m (cut s a) j (omega arith) ∙ sym (over_out old m (cut s (a + w)) j (omega arith))

      by_number : (j : ℕ) → Dec (a ≤ j) → Dec (j < a + w) → paste (over old m (cut s a)) a g 0 w j ≡ over old m (cut s (a + w)) j
      by_number j (yes p) (yes q) =
          let z : 0 + (j - a) ≡ j - a = omega arith in
          let e : a + (j - a) ≡ j = omega arith in
          paste_in (over old m (cut s a)) a g 0 w j p q ∙ ap g z ∙ h (j - a) (omega arith) ∙ ap s e ∙ sym (cut_in s (a + w) j q)
          ∙ sym (over_in old m (cut s (a + w)) j (omega arith))
      by_number j (yes p) (no q) = outside j (λ z. q z.1) (cut_out s a j p ∙ sym (cut_out s (a + w) j (omega arith)))
      by_number j (no p) q = outside j (λ z. p z.0) (cut_in s a j (omega arith) ∙ sym (cut_in s (a + w) j (omega arith)))

  -- nothing is set yet in a part that comes later
  pub cut_clear : (a i : ℕ) → a ≤ i → i < m → over old m (cut s a) i ≡ false
  cut_clear a i h l = over_in old m (cut s a) i l ∙ cut_out s a i h

  -- three parts, one after another
  pub cut_three : (a c w t o u : ℕ) (g h : ℕ → Bool) → t ≡ a → o ≡ a + c → u ≡ a + c + c → a + c + c + w ≤ m
      → ((i : ℕ) → i < c → g i ≡ s (a + i)) → ((i : ℕ) → i < c → h i ≡ s (a + c + i)) → ((i : ℕ) → i < w → true ≡ s (a + c + c + i))
      → paste (paste (paste (over old m (cut s a)) t g 0 c) o h 0 c) u (λ i. true) 0 w ≡ over old m (cut s (a + c + c + w))
  cut_three a c w t o u g h et eo eu l p q x =
      rw (et, eo, eu) (
      ap (λ (z : ℕ → Bool). paste (paste z (a + c) h 0 c) (a + c + c) (λ i. true) 0 w) (cut_more a c g (omega arith) p)
      ∙ ap (λ (z : ℕ → Bool). paste z (a + c + c) (λ i. true) 0 w) (cut_more (a + c) c h (omega arith) q)
      ∙ cut_more (a + c + c) w (λ i. true) l x)

  -- nothing but the first of three
  pub cut_first : 3 ≤ m → s 0 ≡ true → s 1 ≡ false → s 2 ≡ false → put (over old m (λ i. false)) 0 true ≡ over old m (cut s 3)
  cut_first l a b c = fun_ext by_number
    where
      none : (j : ℕ) → j ≢ 0 → cut s 3 j ≡ false → Dec (j < m) → put (over old m (λ i. false)) 0 true j ≡ over old m (cut s 3) j
      none j n e (yes q) = put_other (over old m (λ i. false)) 0 true j n ∙ over_in old m (λ i. false) j q ∙ sym (over_in old m (cut s 3) j q ∙ e)
      none j n e (no q) = put_other (over old m (λ i. false)) 0 true j n ∙ over_out old m (λ i. false) j (omega arith) ∙ sym (over_out old m (cut s 3) j (omega arith))

      by_number : (j : ℕ) → put (over old m (λ i. false)) 0 true j ≡ over old m (cut s 3) j
      by_number zero = put_same (over old m (λ i. false)) 0 true ∙ sym (over_in old m (cut s 3) 0 (omega arith) ∙ cut_in s 3 0 (omega arith) ∙ a)
      by_number (suc zero) = none 1 (λ z. omega arith) (cut_in s 3 1 (omega arith) ∙ b) (dec_lt 1 m)
      by_number (suc (suc zero)) = none 2 (λ z. omega arith) (cut_in s 3 2 (omega arith) ∙ c) (dec_lt 2 m)
      by_number (suc (suc (suc j))) = none (suc (suc (suc j))) (λ z. omega arith) (cut_out s 3 (suc (suc (suc j))) (omega arith)) (dec_lt (suc (suc (suc j))) m)

  -- a part in which nothing is set may be left out
  pub cut_skip : (a b : ℕ) → a ≤ b → ((i : ℕ) → a ≤ i → i < b → s i ≡ false) → cut s a ≡ cut s b
  cut_skip a b h z = fun_ext (λ i. by_number i (dec_lt i a) (dec_lt i b))
    where
      by_number : (i : ℕ) → Dec (i < a) → Dec (i < b) → cut s a i ≡ cut s b i
      by_number i (yes q) k = cut_in s a i q ∙ sym (cut_in s b i (omega arith))
      by_number i (no q) (yes k) = cut_out s a i (omega arith) ∙ sym (cut_in s b i k ∙ z i (omega arith) k)
      by_number i (no q) (no k) = cut_out s a i (omega arith) ∙ sym (cut_out s b i (omega arith))

  pub cut_all : (k : ℕ) → ((i : ℕ) → k ≤ i → s i ≡ false) → cut s k ≡ s
  cut_all k h = fun_ext (λ i. by_number i (dec_lt i k))
    where
      by_number : (i : ℕ) → Dec (i < k) → cut s k i ≡ s i
      by_number i (yes q) = cut_in s k i q
      by_number i (no q) = cut_out s k i (omega arith) ∙ sym (h i (omega arith))

-- ---- the same as words
written_bits : (t old : List ℕ) → bit (t ++ drop (length t) old) ≡ paste (bit old) 0 (bit t) 0 (64 * length t)
unfolding bit
written_bits t old = fun_ext (λ i. by_number i (dec_lt i (64 * length t)))
  where
    by_number : (i : ℕ) → Dec (i < 64 * length t) → bit (t ++ drop (length t) old) i ≡ over (bit old) (64 * length t) (bit t) i
    by_number i (yes l) = ap (λ (x : ℕ). digit x (i % 64)) (get_or-append t (drop (length t) old) 0 (i / 64) (omega arith)) ∙ sym (over_in (bit old) (64 * length t) (bit t) i l)
    by_number i (no l) =
        let e : i / 64 ≡ length t + (i / 64 - length t) = omega arith in
        ap (λ (x : ℕ). digit x (i % 64))
        (ap (λ (x : ℕ). get_or (t ++ drop (length t) old) x 0) e ∙ get_or-append-add t (drop (length t) old) (i / 64 - length t) 0
        ∙ get_or-drop (length t) old (i / 64 - length t) 0 ∙ ap (λ (x : ℕ). get_or old x 0) (sym e))
        ∙ sym (over_out (bit old) (64 * length t) (bit t) i (omega arith))

written_fit : (t old : List ℕ) → Words t → Words old → Words (t ++ drop (length t) old)
written_fit t old wt wo j = from_this (dec_lt j (length t))
  where
    from_this : Dec (j < length t) → get_or (t ++ drop (length t) old) j 0 < 2 ^ 64
    from_this (yes l) = subst (λ (x : ℕ). x < 2 ^ 64) (sym (get_or-append t (drop (length t) old) 0 j l)) (wt j)
    from_this (no l) =
        let e : j ≡ length t + (j - length t) = omega arith in
        let q : get_or (t ++ drop (length t) old) j 0 ≡ get_or old j 0 =
        ap (λ (x : ℕ). get_or (t ++ drop (length t) old) x 0) e ∙ get_or-append-add t (drop (length t) old) (j - length t) 0 ∙ get_or-drop (length t) old (j - length t) 0 ∙ ap (λ (x : ℕ). get_or old x 0) (sym e) in
        subst (λ (x : ℕ). x < 2 ^ 64) (sym q) (wo j)

written_length : (t old : List ℕ) → length t ≤ length old → length (t ++ drop (length t) old) ≡ length old
written_length t old h = length-append t (drop (length t) old) ∙ omega (arith, length-drop (length t) old)

-- a state of so many words whose bits are s's
module _ (s : ℕ → Bool) (k : ℕ) (old new : List ℕ) (wo : Words old) (wn : Words new) (room : k ≤ length old) (len : length new ≡ length old) (e : bit new ≡ over (bit old) (64 * k) s) where
  same_over : over (bit old) (64 * k) s ≡ over (bit old) (64 * k) (bit (words s k))
  same_over = fun_ext (λ i. by_number i (dec_lt i (64 * k)))
    where
      by_number : (i : ℕ) → Dec (i < 64 * k) → over (bit old) (64 * k) s i ≡ over (bit old) (64 * k) (bit (words s k)) i
      by_number i (yes l) = over_in (bit old) (64 * k) s i l ∙ sym (bit_words s k i l) ∙ sym (over_in (bit old) (64 * k) (bit (words s k)) i l)
      by_number i (no l) = over_out (bit old) (64 * k) s i (omega arith) ∙ sym (over_out (bit old) (64 * k) (bit (words s k)) i (omega arith))

  pub words_over : new ≡ words s k ++ drop (length (words s k)) old
  words_over =
      let l = length_words s k in
      table_ext new (words s k ++ drop (length (words s k)) old) wn (written_fit (words s k) old (words_fit s k) wo)
      (len ∙ sym (written_length (words s k) old (omega arith)))
      (λ i _. ap (λ (b : ℕ → Bool). b i) (e ∙ same_over ∙ ap (λ (c : ℕ). over (bit old) (64 * c) (bit (words s k))) (sym l) ∙ sym (written_bits (words s k) old)))

  pub whole_over : length old ≡ k → ((i : ℕ) → 64 * k ≤ i → s i ≡ false) → bit new ≡ s
  whole_over q z = fun_ext (λ i. ap (λ (b : ℕ → Bool). b i) e ∙ by_number i (dec_lt i (64 * k)))
    where
      by_number : (i : ℕ) → Dec (i < 64 * k) → over (bit old) (64 * k) s i ≡ s i
      by_number i (yes l) = over_in (bit old) (64 * k) s i l
      by_number i (no l) = over_out (bit old) (64 * k) s i (omega arith) ∙ bit_past old i (omega arith) ∙ sym (z i (omega arith))
