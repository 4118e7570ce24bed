-- Binary digits of the numbers of a block: those of a run of 2 ^ k numbers from a multiple of 2 ^ k on.
use Rattle.std.specs.Prelude.{ℕ, suc, ◌+◌, ◌-◌, ◌*◌, ◌/◌, ◌%◌, ◌^◌, ◌<◌, ◌≡◌, refl, Bool, true, false, not, eqb, ltb}
use Rattle.std.proofs.Common.{sym, ap, subst, ◌∙◌, arith, mul_comm, mul_assoc, pow-suc, pow_pos, pow-add, ltb-true, ltb-false}
use Rattle.std.proofs.Math.Nat.{div-div-eq-div-mul, add-mul-div_right, add-mul-mod_self_right}
use Rattle.std.proofs.Math.Arith.{digits_div}
use Rattle.bits.specs.Table.{digit}
use Rattle.bits.proofs.Digit.{digit_not, digit_of_zero}
use Rattle.laws.specs.Booleans.{T_of}

-- the digits from k on are those of the multiple, the others those of what is added
pub digit_high : (a r k e : ℕ) → r < 2 ^ k → digit (a * 2 ^ k + r) (k + e) ≡ digit a e
unfolding digit
digit_high a r k e h = ap (λ (x : ℕ). eqb (x % 2) 1) (ap (λ (x : ℕ). (a * 2 ^ k + r) / x) (pow-add 2 k e) ∙ sym (div-div-eq-div-mul (a * 2 ^ k + r) (2 ^ k) (2 ^ e)) ∙ ap (λ (x : ℕ). x / 2 ^ e) (digits_div a h))

pub digit_low : (a r d f : ℕ) → digit (a * 2 ^ (d + suc f) + r) d ≡ digit r d
unfolding digit
digit_low a r d f =
    let e : a * 2 ^ (d + suc f) ≡ a * 2 ^ f * 2 * 2 ^ d = ap (λ (x : ℕ). a * x) (pow-add 2 d (suc f) ∙ mul_comm (2 ^ d) (2 ^ suc f) ∙ ap (λ (x : ℕ). x * 2 ^ d) (pow-suc 2 f)) ∙ sym (mul_assoc a (2 ^ f * 2) (2 ^ d)) ∙ ap (λ (x : ℕ). x * 2 ^ d) (sym (mul_assoc a (2 ^ f) 2)) in
    let s : a * 2 ^ (d + suc f) + r ≡ r + a * 2 ^ f * 2 * 2 ^ d = omega arith in
    ap (λ (x : ℕ). eqb (x / 2 ^ d % 2) 1) s ∙ ap (λ (x : ℕ). eqb (x % 2) 1) (add-mul-div_right r (a * 2 ^ f * 2) (pow_pos d)) ∙ ap (λ (x : ℕ). eqb x 1) (add-mul-mod_self_right (r / 2 ^ d) (a * 2 ^ f) 2)

-- no digit of x that is set is missing in y
abbrev pub Under : ℕ → ℕ → Type 0
Under x y = (d : ℕ) → digit x d ≡ true → digit y d ≡ true

split : (k : ℕ) (P : ℕ → Type 0) → ((d f : ℕ) → k ≡ d + suc f → P d) → ((e : ℕ) → P (k + e)) → (d : ℕ) → P d
split k P low high d = by_test (ltb d k) refl
  where
    by_test : (b : Bool) → ltb d k ≡ b → P d
    by_test true e = let h = ltb-true d k e in low d (k - d - 1) (omega arith)
    by_test false e = let h = ltb-false d k e in let s : k + (d - k) ≡ d = omega arith in subst P s (high (d - k))

-- two numbers with the same multiple, or the same rest
pub same_high : (a k r s : ℕ) → r < 2 ^ k → s < 2 ^ k → Under r s → Under (a * 2 ^ k + r) (a * 2 ^ k + s)
same_high a k r s hr hs u = split k (λ d. digit (a * 2 ^ k + r) d ≡ true → digit (a * 2 ^ k + s) d ≡ true)
    (λ d f e h. ap (λ (x : ℕ). digit (a * 2 ^ x + s) d) e ∙ digit_low a s d f ∙ u d (sym (digit_low a r d f) ∙ ap (λ (x : ℕ). digit (a * 2 ^ x + r) d) (sym e) ∙ h))
    (λ e h. digit_high a s k e hs ∙ sym (digit_high a r k e hr) ∙ h)

pub same_low : (a b k r : ℕ) → r < 2 ^ k → Under a b → Under (a * 2 ^ k + r) (b * 2 ^ k + r)
same_low a b k r h u = split k (λ d. digit (a * 2 ^ k + r) d ≡ true → digit (b * 2 ^ k + r) d ≡ true)
    (λ d f e g. ap (λ (x : ℕ). digit (b * 2 ^ x + r) d) e ∙ digit_low b r d f ∙ sym (digit_low a r d f) ∙ ap (λ (x : ℕ). digit (a * 2 ^ x + r) d) (sym e) ∙ g)
    (λ e g. digit_high b r k e h ∙ u e (sym (digit_high a r k e h) ∙ g))

-- nothing is under everything, and everything below 2 ^ k is under 2 ^ k - 1
pub none_under : (x : ℕ) → Under 0 x
none_under x d h = absurd (T_of (sym (digit_of_zero d) ∙ h))

pub under_all : (k x : ℕ) → x < 2 ^ k → Under x (2 ^ k - 1)
under_all k x l = split k (λ d. digit x d ≡ true → digit (2 ^ k - 1) d ≡ true)
    (λ d f e h. ap (λ (y : ℕ). digit y d) (let s : 2 ^ k - 1 ≡ (2 ^ k - 1) - 0 = omega arith in s) ∙ digit_not k 0 d (pow_pos k) (omega arith) ∙ ap not (digit_of_zero d))
    (λ e h. absurd (T_of (sym (digit_of_zero e) ∙ sym (digit_high 0 x k e l) ∙ ap (λ (y : ℕ). digit y (k + e)) (let s : 0 * 2 ^ k + x ≡ x = omega arith in s) ∙ h)))
