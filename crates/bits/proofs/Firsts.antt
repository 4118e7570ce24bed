-- The lowest set bit of a word, the word without it, and how many bits stand below a place. Assumes nothing.
use Prim.Native.Nat.{ℕ, zero, suc, ◌+◌, ◌-◌, ◌/◌, ◌%◌, ◌^◌, ◌≤◌, ◌<◌}
use mathlib.Core.Path.{◌≡◌, refl, sym, ap, ap₂, ◌∙◌, fun_ext}
use mathlib.Core.Bool.{Bool, true, false, cond, ◌&&◌}
use native.Mathlib.Nat.{pow-suc, mod-lt}
use native.Mathlib.Omega.{arith}
use lib.Bits.{bit_and, and_mask, and_le_l}
use lib.Count.{ones, ones-le, count_trailing_zeros, under}
use lib.Pow.{pow_pos}
use lib.Dec.{eqb, eqb-suc-suc}
use Rattle.bits.specs.Table.{digit, put, count, first}
use Rattle.bits.proofs.Digit.{digit_zero, digit_suc, digit_and}
use Rattle.bits.proofs.Laws.{put_same, put_other, count_digits, count_shift}
use Rattle.bits.proofs.Shifts.{mod_digit}

-- ---- the first place
first_same : (p q : ℕ → Bool) (n : ℕ) → ((k : ℕ) → p k ≡ q k) → first p n ≡ first q n
first_same p q n h = ap (λ (z : ℕ → Bool). first z n) (fun_ext h)

pub first_none : (p : ℕ → Bool) → 0 ≡ first p 0
unfolding first
first_none p = refl

pub first_here : (p : ℕ → Bool) (n : ℕ) → p 0 ≡ true → 0 ≡ first p (suc n)
unfolding first
first_here p n e = sym (ap (λ (b : Bool). cond b 0 (suc (first (λ k. p (suc k)) n))) e)

pub first_later : (p : ℕ → Bool) (n : ℕ) → p 0 ≡ false → suc (first (λ k. p (suc k)) n) ≡ first p (suc n)
unfolding first
first_later p n e = sym (ap (λ (b : Bool). cond b 0 (suc (first (λ k. p (suc k)) n))) e)

pub first_le : (p : ℕ → Bool) (n : ℕ) → first p n ≤ n
first_le p zero = omega (arith, first_none p)
first_le p (suc n) = by_test (p 0) refl (first_le (λ k. p (suc k)) n)
  where
    by_test : (b : Bool) → p 0 ≡ b → first (λ k. p (suc k)) n ≤ n → first p (suc n) ≤ suc n
    by_test true e l = omega (arith, first_here p n e)
    by_test false e l = omega (arith, first_later p n e)

-- none stands before it
pub first_least : (p : ℕ → Bool) (n k : ℕ) → k < first p n → p k ≡ false
first_least p zero k h = absurd (omega (arith, first_none p))
first_least p (suc n) k h = by_test k (p 0) refl h (first_least (λ k. p (suc k)) n)
  where
    by_test : (k : ℕ) (b : Bool) → p 0 ≡ b → k < first p (suc n) → ((i : ℕ) → i < first (λ k. p (suc k)) n → p (suc i) ≡ false) → p k ≡ false
    by_test k true e h r = absurd (omega (arith, first_here p n e))
    by_test zero false e h r = e
    by_test (suc k) false e h r = r k (omega (arith, first_later p n e))

-- p holds there
pub first_holds : (p : ℕ → Bool) (n : ℕ) → first p n < n → p (first p n) ≡ true
first_holds p zero h = absurd (omega arith)
first_holds p (suc n) h = by_test (p 0) refl (first_holds (λ k. p (suc k)) n)
  where
    by_test : (b : Bool) → p 0 ≡ b → (first (λ k. p (suc k)) n < n → p (suc (first (λ k. p (suc k)) n)) ≡ true) → p (first p (suc n)) ≡ true
    by_test true e r = ap p (sym (first_here p n e)) ∙ e
    by_test false e r = ap p (sym (first_later p n e)) ∙ r (omega (arith, first_later p n e))

-- ---- as the machine counts it
trailing_first : (n w : ℕ) → count_trailing_zeros n w ≡ first (digit w) n
unfolding count_trailing_zeros
trailing_first zero w = first_none (digit w)
trailing_first (suc n) w = by_number (w % 2) refl (mod-lt w (omega arith)) (trailing_first n (w / 2))
  where
    by_number : (x : ℕ) → w % 2 ≡ x → x < 2 → count_trailing_zeros n (w / 2) ≡ first (digit (w / 2)) n → under x (count_trailing_zeros n (w / 2)) ≡ first (digit w) (suc n)
    by_number zero e h r =
        ap suc (r ∙ first_same (digit (w / 2)) (λ k. digit w (suc k)) n (λ k. sym (digit_suc w k)))
        ∙ first_later (digit w) n (digit_zero w ∙ ap (λ (x : ℕ). eqb x 1) e)
    by_number (suc zero) e h r = first_here (digit w) n (digit_zero w ∙ ap (λ (x : ℕ). eqb x 1) e)
    by_number (suc (suc x)) e h r = absurd (omega arith)

pub lowest_is : (w : ℕ) → count_trailing_zeros 64 w ≡ first (digit w) 64
lowest_is w = trailing_first 64 w

-- ---- how many bits stand below place k
rank_is : (w k : ℕ) → ones (bit_and w (2 ^ k - 1)) ≡ count (digit w) 0 k
rank_is w k =
    ap ones (and_mask w k) ∙ sym (count_digits k (w % 2 ^ k) (mod-lt w (pow_pos k)))
    ∙ count_shift (digit (w % 2 ^ k)) (digit w) 0 0 k (λ i l. mod_digit w k (0 + i) (omega arith))

pub rank_by : (w k x : ℕ) → x ≡ 2 ^ k - 1 → ones (bit_and w x) ≡ count (digit w) 0 k
rank_by w k x e = ap (λ (y : ℕ). ones (bit_and w y)) e ∙ rank_is w k

pub rank_few : (w x : ℕ) → w < 2 ^ 64 → ones (bit_and w x) ≤ 64
rank_few w x h = ones-le 64 (bit_and w x) (omega (arith, and_le_l w x))

-- ---- a word without its lowest set bit: `w & (w - 1)`
put_suc : (p q : ℕ → Bool) (i k : ℕ) → p k ≡ q (suc k) → put p i false k ≡ put q (suc i) false (suc k)
unfolding put
put_suc p q i k e = ap₂ (λ (a b : Bool). cond a false b) (sym (eqb-suc-suc k i)) e

and_same : (b : Bool) → (b && b) ≡ b
and_same true = refl
and_same false = refl

and_none : (b : Bool) → (b && false) ≡ false
and_none true = refl
and_none false = refl

dropped : (n w k : ℕ) → 0 < w → w < 2 ^ n → (digit w k && digit (w - 1) k) ≡ put (digit w) (first (digit w) n) false k
dropped zero w k p h = absurd (omega arith)
dropped (suc n) w k p h = by_number k (w % 2) refl (mod-lt w (omega arith)) (λ i u v. dropped n (w / 2) i u v)
  where
    odd : w % 2 ≡ 1 → digit w 0 ≡ true
    odd e = digit_zero w ∙ ap (λ (x : ℕ). eqb x 1) e

    even : w % 2 ≡ 0 → digit w 0 ≡ false
    even e = digit_zero w ∙ ap (λ (x : ℕ). eqb x 1) e

    by_number : (k x : ℕ) → w % 2 ≡ x → x < 2
        → ((i : ℕ) → 0 < w / 2 → w / 2 < 2 ^ n → (digit (w / 2) i && digit (w / 2 - 1) i) ≡ put (digit (w / 2)) (first (digit (w / 2)) n) false i)
        → (digit w k && digit (w - 1) k) ≡ put (digit w) (first (digit w) (suc n)) false k
    by_number zero (suc zero) e l r =
        let q : (w - 1) % 2 ≡ 0 = omega arith in
        ap (λ (b : Bool). digit w 0 && b) (digit_zero (w - 1) ∙ ap (λ (x : ℕ). eqb x 1) q) ∙ and_none (digit w 0)
        ∙ sym (ap (λ (i : ℕ). put (digit w) i false 0) (sym (first_here (digit w) n (odd e))) ∙ put_same (digit w) 0 false)
    by_number (suc k) (suc zero) e l r =
        let q : (w - 1) / 2 ≡ w / 2 = omega arith in
        ap (λ (b : Bool). digit w (suc k) && b) (digit_suc (w - 1) k ∙ ap (λ (x : ℕ). digit x k) q ∙ sym (digit_suc w k)) ∙ and_same (digit w (suc k))
        ∙ sym (ap (λ (i : ℕ). put (digit w) i false (suc k)) (sym (first_here (digit w) n (odd e))) ∙ put_other (digit w) 0 false (suc k) (λ z. omega arith))
    by_number zero zero e l r =
        ap (λ (b : Bool). b && digit (w - 1) 0) (even e)
        ∙ sym (ap (λ (i : ℕ). put (digit w) i false 0) (sym (first_later (digit w) n (even e))) ∙ put_other (digit w) _ false 0 (λ z. omega arith) ∙ even e)
    by_number (suc k) zero e l r =
        let q : (w - 1) / 2 ≡ w / 2 - 1 = omega arith in
        let halves : first (digit (w / 2)) n ≡ first (λ i. digit w (suc i)) n = first_same (digit (w / 2)) (λ i. digit w (suc i)) n (λ i. sym (digit_suc w i)) in
        ap₂ ◌&&◌ (digit_suc w k) (digit_suc (w - 1) k ∙ ap (λ (x : ℕ). digit x k) q)
        ∙ r k (omega arith) (omega (arith, pow-suc 2 n))
        ∙ put_suc (digit (w / 2)) (digit w) (first (digit (w / 2)) n) k (sym (digit_suc w k))
        ∙ ap (λ (i : ℕ). put (digit w) i false (suc k)) (ap suc halves ∙ first_later (digit w) n (even e))
    by_number k (suc (suc x)) e l r = absurd (omega arith)

pub drop_is : (w : ℕ) → 0 < w → w < 2 ^ 64 → digit (bit_and w (w - 1)) ≡ put (digit w) (first (digit w) 64) false
drop_is w p h = fun_ext (λ k. digit_and w (w - 1) k ∙ dropped 64 w k p h)
