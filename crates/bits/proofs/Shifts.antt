-- The digits of masks and shifts. Assumes nothing.
use Prim.Native.Nat.{ℕ, zero, suc, ◌+◌, ◌-◌, ◌*◌, ◌/◌, ◌%◌, ◌^◌, ◌≤◌, ◌<◌}
use mathlib.Core.Path.{◌≡◌, sym, ap, ◌∙◌}
use mathlib.Core.Bool.{Bool, false, ◌&&◌, and-true}
use native.Mathlib.Nat.{div-eq_of_lt, pow-suc}
use native.Mathlib.Omega.{arith}
use lib.Bits.{bit_and, and_mask, shifted_half, shifted_even}
use lib.Dec.{eqb, ltb, leb-suc-suc}
use lib.Pow.{pow_pos, pow_mono, shl-shr, shr-shr}
use borrow.Author.Tests.{lt-ltb, le-ltb, ne_eqb}
use Rattle.bits.specs.Table.{digit}
use Rattle.bits.proofs.Digit.{digit_zero, digit_suc, digit_and, digit_of_zero, digit_pow}
use Rattle.bits.proofs.Laws.{one_shl}

pub mask_digit : (n k : ℕ) → digit (2 ^ n - 1) k ≡ ltb k n
mask_digit zero k = digit_of_zero k ∙ sym (le-ltb k 0 (omega arith))
mask_digit (suc n) zero =
    let odd : (2 ^ suc n - 1) % 2 ≡ 1 = omega (arith, pow-suc 2 n, pow_pos n) in
    digit_zero (2 ^ suc n - 1) ∙ ap (λ (x : ℕ). eqb x 1) odd ∙ sym (lt-ltb 0 (suc n) (omega arith))
mask_digit (suc n) (suc k) =
    let half : (2 ^ suc n - 1) / 2 ≡ 2 ^ n - 1 = omega (arith, pow-suc 2 n, pow_pos n) in
    digit_suc (2 ^ suc n - 1) k ∙ ap (λ (x : ℕ). digit x k) half ∙ mask_digit n k ∙ sym (leb-suc-suc (suc k) n)

pub mod_digit : (w n k : ℕ) → k < n → digit (w % 2 ^ n) k ≡ digit w k
mod_digit w n k l =
    ap (λ (x : ℕ). digit x k) (sym (and_mask w n)) ∙ digit_and w (2 ^ n - 1) k ∙ ap (λ (b : Bool). digit w k && b) (mask_digit n k ∙ lt-ltb k n l) ∙ and-true (digit w k)

pub right_digit : (w s k : ℕ) → digit (w / 2 ^ s) k ≡ digit w (s + k)
unfolding digit
right_digit w s k = ap (λ (x : ℕ). eqb (x % 2) 1) (shr-shr w s k)

pub left_low : (w a k : ℕ) → k < a → digit (w * 2 ^ a) k ≡ false
left_low w zero k l = absurd (omega arith)
left_low w (suc a) zero l = digit_zero (w * 2 ^ suc a) ∙ ap (λ (x : ℕ). eqb x 1) (shifted_even w a)
left_low w (suc a) (suc k) l = digit_suc (w * 2 ^ suc a) k ∙ ap (λ (x : ℕ). digit x k) (shifted_half w a) ∙ left_low w a k (omega arith)

pub left_high : (w a k : ℕ) → digit (w * 2 ^ a) (a + k) ≡ digit w k
left_high w a k = sym (right_digit (w * 2 ^ a) a k) ∙ ap (λ (x : ℕ). digit x k) (shl-shr w a)

pub past_digit : (w n k : ℕ) → w < 2 ^ n → n ≤ k → digit w k ≡ false
unfolding digit
past_digit w n k h l = let z : w / 2 ^ k ≡ 0 = div-eq_of_lt (omega (arith, pow_mono {i = n} {j = k} l)) in ap (λ (x : ℕ). eqb (x % 2) 1) z

-- the mask is not 0
pub mask_fits : (n : ℕ) → n < 64 → 1 ≤ (1 * 2 ^ n) % 2 ^ 64
mask_fits n h = omega (arith, one_shl n h, pow_pos n)

-- ---- under a mask: the bits of a word
pub masked_digit : (w n k : ℕ) → digit (bit_and w (2 ^ n - 1)) k ≡ (digit w k && ltb k n)
masked_digit w n k = digit_and w (2 ^ n - 1) k ∙ ap (λ (b : Bool). digit w k && b) (mask_digit n k)

-- ---- a single bit, or none
pub single_digit : (x k : ℕ) → x < 64 → digit ((1 * 2 ^ x) % 2 ^ 64) k ≡ eqb k x
single_digit x k h = ap (λ (w : ℕ). digit w k) (one_shl x h) ∙ digit_pow x k

pub single_none : (x k : ℕ) → 64 ≤ x → k < 64 → digit 0 k ≡ eqb k x
single_none x k h l = digit_of_zero k ∙ sym (ne_eqb k x (λ e. omega arith))
