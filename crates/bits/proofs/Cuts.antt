-- A word cut out of two by shifts and a mask, digit by digit. Assumes nothing.
use Prim.Native.Nat.{ℕ, ◌+◌, ◌-◌, ◌*◌, ◌/◌, ◌%◌, ◌^◌, ◌≤◌, ◌<◌}
use mathlib.Core.Path.{◌≡◌, sym, ap, ap₂, ◌∙◌}
use mathlib.Core.Bool.{Bool, false, ◌&&◌, ◌||◌, and_comm, or-false}
use mathlib.Core.List.{List}
use native.Mathlib.Nat.{mod-lt}
use native.Mathlib.Decide.{dec_lt}
use native.Mathlib.Omega.{arith}
use lib.Bits.{bit_and, bit_or, or_lt, and_lt}
use lib.Dec.{ltb}
use lib.ListN.{get_or}
use lib.Pow.{pow-lt, shr_le}
use borrow.Author.Tests.{lt-ltb}
use Rattle.bits.specs.Table.{digit, bit, word}
use Rattle.bits.proofs.Digit.{digit_or, digit_and, digit_ext, digit_word, word_lt}
use Rattle.bits.proofs.Laws.{one_shl}
use Rattle.bits.proofs.Shifts.{mask_digit, mod_digit, right_digit, left_low, left_high, past_digit}

-- ---- two neighbouring words: from digit s of the first on, then the second's

unfoldable pub joined : ℕ → ℕ → ℕ → ℕ
joined w v s = bit_or (w / 2 ^ s) (((v * 2 ^ 1) % 2 ^ 64 * 2 ^ (63 - s)) % 2 ^ 64)

module _ (w v s : ℕ) (small : w < 2 ^ 64) (inside : s < 64) where
  joined_lt : joined w v s < 2 ^ 64
  unfolding joined
  joined_lt = or_lt 64 (w / 2 ^ s) _ (omega (arith, shr_le w s)) (mod-lt _ (omega arith))

  abbrev shifted : ℕ
  shifted = (v * 2 ^ 1) % 2 ^ 64

  joined_first : (k : ℕ) → s + k < 64 → digit (joined w v s) k ≡ digit w (s + k)
  unfolding joined
  joined_first k l =
      digit_or (w / 2 ^ s) ((shifted * 2 ^ (63 - s)) % 2 ^ 64) k
      ∙ ap₂ ◌||◌ (right_digit w s k) (mod_digit (shifted * 2 ^ (63 - s)) 64 k (omega arith) ∙ none (dec_lt k (63 - s)))
      ∙ or-false (digit w (s + k))
    where
      none : Dec (k < 63 - s) → digit (shifted * 2 ^ (63 - s)) k ≡ false
      none (yes h) = left_low shifted (63 - s) k h
      none (no h) =
          let e : k ≡ 63 - s + 0 = omega arith in
          ap (digit (shifted * 2 ^ (63 - s))) e ∙ left_high shifted (63 - s) 0 ∙ mod_digit (v * 2 ^ 1) 64 0 (omega arith) ∙ left_low v 1 0 (omega arith)

  joined_second : (k : ℕ) → k < 64 → 64 ≤ s + k → digit (joined w v s) k ≡ digit v (s + k - 64)
  unfolding joined
  joined_second k h l =
      let e : k ≡ 63 - s + (1 + (s + k - 64)) = omega arith in
      digit_or (w / 2 ^ s) ((shifted * 2 ^ (63 - s)) % 2 ^ 64) k
      ∙ ap₂ ◌||◌ (right_digit w s k ∙ past_digit w 64 (s + k) small l)
      (mod_digit (shifted * 2 ^ (63 - s)) 64 k h
      ∙ ap (digit (shifted * 2 ^ (63 - s))) e ∙ left_high shifted (63 - s) (1 + (s + k - 64))
      ∙ mod_digit (v * 2 ^ 1) 64 (1 + (s + k - 64)) (omega arith)
      ∙ left_high v 1 (s + k - 64))

-- ---- 64 bits of a table from bit i on, and the first n of them
module _ (t : List ℕ) (i : ℕ) (small : get_or t (i / 64) 0 < 2 ^ 64) where
  abbrev both : ℕ
  both = joined (get_or t (i / 64) 0) (get_or t (i / 64 + 1) 0) (i % 64)

  both_digit : (k : ℕ) → k < 64 → digit both k ≡ bit t (i + k)
  unfolding bit
  both_digit k l = from_this (dec_lt (i % 64 + k) 64)
    where
      from_this : Dec (i % 64 + k < 64) → digit both k ≡ bit t (i + k)
      from_this (yes h) =
          let q : i / 64 ≡ (i + k) / 64 = omega arith in
          let r : i % 64 + k ≡ (i + k) % 64 = omega arith in
          joined_first _ _ (i % 64) small (omega arith) k h ∙ ap₂ (λ (x y : ℕ). digit (get_or t x 0) y) q r
      from_this (no h) =
          let q : i / 64 + 1 ≡ (i + k) / 64 = omega arith in
          let r : i % 64 + k - 64 ≡ (i + k) % 64 = omega arith in
          joined_second _ _ (i % 64) small (omega arith) k l (omega arith) ∙ ap₂ (λ (x y : ℕ). digit (get_or t x 0) y) q r

  all_bits : (n : ℕ) → 64 ≤ n → both ≡ word (λ k. ltb k n && bit t (i + k)) 64
  all_bits n h =
      digit_ext 64 both (word (λ k. ltb k n && bit t (i + k)) 64) (joined_lt _ _ (i % 64) small (omega arith)) (word_lt _ 64) (λ k l.
      both_digit k l ∙ ap (λ (b : Bool). b && bit t (i + k)) (sym (lt-ltb k n (omega arith))) ∙ sym (digit_word (λ k. ltb k n && bit t (i + k)) 64 k l))

  some_bits : (n : ℕ) → n < 64 → bit_and both ((1 * 2 ^ n) % 2 ^ 64 - 1) ≡ word (λ k. ltb k n && bit t (i + k)) 64
  some_bits n h =
      ap (λ (x : ℕ). bit_and both (x - 1)) (one_shl n h)
      ∙ digit_ext 64 (bit_and both (2 ^ n - 1)) (word (λ k. ltb k n && bit t (i + k)) 64)
      (and_lt 64 both (2 ^ n - 1) (joined_lt _ _ (i % 64) small (omega arith)) (omega (arith, pow-lt {i = n} {j = 64} h)))
      (word_lt _ 64)
      (λ k l.
      digit_and both (2 ^ n - 1) k ∙ ap₂ ◌&&◌ (both_digit k l) (mask_digit n k) ∙ and_comm (bit t (i + k)) (ltb k n)
      ∙ sym (digit_word (λ k. ltb k n && bit t (i + k)) 64 k l))

  module _ (w v n : ℕ) (e : w ≡ get_or t (i / 64) 0) (f : v ≡ get_or t (i / 64 + 1) 0) where
    pub cut_all : 64 ≤ n → joined w v (i % 64) ≡ word (λ k. ltb k n && bit t (i + k)) 64
    cut_all h = ap₂ (λ (a b : ℕ). joined a b (i % 64)) e f ∙ all_bits n h

    pub cut_some : n < 64 → bit_and (joined w v (i % 64)) ((1 * 2 ^ n) % 2 ^ 64 - 1) ≡ word (λ k. ltb k n && bit t (i + k)) 64
    cut_some h = ap₂ (λ (a b : ℕ). bit_and (joined a b (i % 64)) ((1 * 2 ^ n) % 2 ^ 64 - 1)) e f ∙ some_bits n h

-- ---- the digits of what is cut
pub cut_digit : (t : List ℕ) (i n k : ℕ) → k < 64 → digit (word (λ k. ltb k n && bit t (i + k)) 64) k ≡ (ltb k n && bit t (i + k))
cut_digit t i n k l = digit_word (λ k. ltb k n && bit t (i + k)) 64 k l

pub cut_whole : (t : List ℕ) (i n k : ℕ) → k < n → k < 64 → digit (word (λ k. ltb k n && bit t (i + k)) 64) k ≡ bit t (i + k)
cut_whole t i n k h l = cut_digit t i n k l ∙ ap (λ (b : Bool). b && bit t (i + k)) (lt-ltb k n h)
