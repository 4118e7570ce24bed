-- Numbers in decimal: their last digit. Assumes nothing.
use Rattle.std.specs.Prelude.{ℕ, zero, suc, ◌+◌, ◌/◌, ◌%◌, ◌^◌, ◌≤◌, ◌<◌, ◌≡◌, refl, Bool, true, false, [], ◌∷◌, ◌++◌, leb}
use Rattle.std.proofs.Common.{sym, ◌∙◌, pow-suc, arith, leb-true, leb-false}
use Rattle.std.proofs.Math.Nat.{pow-zero}
use Rattle.definitions.specs.Sheet.Text.{decimal_in, decimal}
use Rattle.laws.specs.Decimals.{one_digit, more_digits}

-- a digit too many makes no difference
deeper : (n k : ℕ) → k < 10 ^ suc n → decimal_in (suc (suc n)) k ≡ decimal_in (suc n) k
deeper zero k h = let l : k ≤ 9 = omega (arith, pow-suc 10 0, pow-zero 10) in one_digit 1 k l ∙ sym (one_digit 0 k l)
deeper (suc n) k h = by_test (leb k 9) refl (deeper n (k / 10))
  where
    by_test : (b : Bool) → leb k 9 ≡ b → (k / 10 < 10 ^ suc n → decimal_in (suc (suc n)) (k / 10) ≡ decimal_in (suc n) (k / 10)) → decimal_in (suc (suc (suc n))) k ≡ decimal_in (suc (suc n)) k
    by_test true e ih = let l = leb-true k 9 e in one_digit (suc (suc n)) k l ∙ sym (one_digit (suc n) k l)
    by_test false e ih =
        let l = leb-false k 9 e in
        more_digits (suc (suc n)) k l ∙ rw (ih (omega (arith, pow-suc 10 (suc n)))) (sym (more_digits (suc n) k l))

pub decimal_small : (k : ℕ) → k ≤ 9 → decimal k ≡ (k + 48) ∷ []
unfolding decimal
decimal_small k h = one_digit 19 k h

pub decimal_large : (k : ℕ) → 9 < k → k < 2 ^ 64 → decimal k ≡ decimal (k / 10) ++ ((k % 10 + 48) ∷ [])
unfolding decimal
decimal_large k h l = more_digits 19 k h ∙ rw (deeper 18 (k / 10) (omega arith))
