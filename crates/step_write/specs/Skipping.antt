-- Bits that are passed over are not set; the digits of a row by itself.
use Rattle.std.specs.Prelude.{ℕ, suc, ◌+◌, ◌-◌, ◌*◌, ◌/◌, ◌%◌, ◌^◌, ◌≤◌, ◌<◌, ◌≡◌, false, ◌&&◌, List, ltb, length, get_or, set}
use Rattle.std.proofs.Common.{sym, ◌∙◌, arith, get_or-set_same, get_or-set_other, pow-suc, div-one}
use Rattle.std.proofs.Math.Path.{ap}
use Rattle.std.proofs.Math.Decide.{ℕ_discrete, dec_lt}
use Rattle.std.proofs.Math.Nat.{pow-zero, div-div-eq-div-mul}
use Rattle.bits.specs.Table.{digit, bit, word, first}
use Rattle.bits.proofs.Digit.{digit_of_zero}
use Rattle.bits.proofs.Cuts.{cut_whole}
use Rattle.bits.proofs.Firsts.{first_le, first_least}

module _ (t : List ℕ) where
  -- words without a bit, one more
  pub words_next : (j k : ℕ) → ((m : ℕ) → j ≤ m → m < k → get_or t m 0 ≡ 0) → get_or t k 0 ≡ 0 → (m : ℕ) → j ≤ m → m < k + 1 → get_or t m 0 ≡ 0
  words_next j k zs z m l u = from_this (ℕ_discrete m k)
    where
      from_this : Dec (m ≡ k) → get_or t m 0 ≡ 0
      from_this (yes e) = ap (λ (x : ℕ). get_or t x 0) e ∙ z
      from_this (no n) = zs m l (omega arith)

  word_none : (k : ℕ) → get_or t (k / 64) 0 ≡ 0 → bit t k ≡ false
  unfolding bit
  word_none k z = ap (λ (x : ℕ). digit x (k % 64)) z ∙ digit_of_zero (k % 64)

  word_before : (j v k : ℕ) → v ≡ get_or t j 0 → k / 64 ≡ j → k < 64 * j + first (digit v) 64 → bit t k ≡ false
  unfolding bit
  word_before j v k e q u =
      ap (λ (x : ℕ). digit (get_or t x 0) (k % 64)) q ∙ ap (λ (x : ℕ). digit x (k % 64)) (sym e) ∙ first_least (digit v) 64 (k % 64) (omega arith)

  -- before the first of the 64 bits from bit i on
  module _ (i w : ℕ) (e : w ≡ word (λ k. ltb k 64 && bit t (i + k)) 64) where
    cut_at_lem : (k : ℕ) → i ≤ k → k < i + 64 → bit t k ≡ digit w (k - i)
    cut_at_lem k l u =
        let d : k ≡ i + (k - i) = omega arith in
        ap (bit t) d ∙ sym (cut_whole t i 64 (k - i) (omega arith) (omega arith)) ∙ ap (λ (x : ℕ). digit x (k - i)) (sym e)

    pub none_here : (r : ℕ) → r ≤ i + first (digit w) 64 → (k : ℕ) → i ≤ k → k < r → bit t k ≡ false
    none_here r h k l u = cut_at_lem k l (omega (arith, first_le (digit w) 64)) ∙ first_least (digit w) 64 (k - i) (omega arith)

    -- and where none of them is set
    pub none_there : w ≡ 0 → (j : ℕ) → ((m : ℕ) → i / 64 + 1 ≤ m → m < j → get_or t m 0 ≡ 0) → (v r : ℕ) → v ≡ get_or t j 0 → r ≤ 64 * j + first (digit v) 64
        → (k : ℕ) → i ≤ k → k < r → bit t k ≡ false
    none_there z j zs v r q h k l u = from_this (dec_lt k (i + 64)) (dec_lt (k / 64) j)
      where
        from_this : Dec (k < i + 64) → Dec (k / 64 < j) → bit t k ≡ false
        from_this (yes a) b = cut_at_lem k l a ∙ ap (λ (x : ℕ). digit x (k - i)) z ∙ digit_of_zero (k - i)
        from_this (no a) (yes b) = word_none k (zs (k / 64) (omega arith) b)
        from_this (no a) (no b) = word_before j v k q (omega (arith, first_le (digit v) 64)) (omega arith)

-- ---- the digits of a row, the last first: what is left of the row is of those before
module _ (n w row : ℕ) where
  pub left_start : row ≡ row / n ^ (w - w)
  left_start = let z : w - w ≡ 0 = omega arith in rw (z, pow-zero, div-one row)

  module _ (i rest : ℕ) (o : 0 < i) (h : i ≤ w) (e : rest ≡ row / n ^ (w - i)) where
    pub left_next : rest / n ≡ row / n ^ (w - (i - 1))
    left_next =
        let s : w - (i - 1) ≡ suc (w - i) = omega arith in
        ap (λ (y : ℕ). y / n) e ∙ div-div-eq-div-mul row (n ^ (w - i)) n ∙ ap (λ (y : ℕ). row / y) (sym (pow-suc n (w - i)) ∙ ap (λ (y : ℕ). n ^ y) (sym s))

    pub later_next : (ds : List ℕ) → w ≤ length ds → ((q : ℕ) → i ≤ q → q < w → get_or ds q 0 ≡ row / n ^ (w - suc q) % n)
        → (q : ℕ) → i - 1 ≤ q → q < w → get_or (set ds (i - 1) (rest % n)) q 0 ≡ row / n ^ (w - suc q) % n
    later_next ds k later q a l = from_this (ℕ_discrete q (i - 1))
      where
        from_this : Dec (q ≡ i - 1) → get_or (set ds (i - 1) (rest % n)) q 0 ≡ row / n ^ (w - suc q) % n
        from_this (yes f) =
            let m : w - i ≡ w - suc q = omega arith in
            ap (λ (y : ℕ). get_or (set ds (i - 1) (rest % n)) y 0) f ∙ get_or-set_same ds (i - 1) (rest % n) 0 (omega arith)
            ∙ ap (λ (y : ℕ). y % n) (e ∙ ap (λ (y : ℕ). row / n ^ y) m)
        from_this (no f) = get_or-set_other ds (i - 1) q (rest % n) 0 f ∙ later q (omega arith) l
