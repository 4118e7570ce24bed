-- Binary digits: of zero, of a number with zeros behind it, and how they change where one is added there.
use Rattle.std.specs.Prelude.{ℕ, zero, suc, ◌+◌, ◌*◌, ◌/◌, ◌%◌, ◌^◌, ◌<◌, ◌≡◌, refl, true, false}
use Rattle.std.proofs.Common.{sym, ap, ◌∙◌, arith, zero-add, div-one, mul-one, mul_assoc, mul_left_comm, eq-eqb, eqb-true, ne_eqb}
use Rattle.std.proofs.Math.Nat.{zero-div, pow-succ', div-div-eq-div-mul}
use Rattle.std.proofs.lemmas.Bool.{eqb-false}
use Rattle.definitions.specs.Problem.Truth.{is_odd, digit}

-- an odd number, and an even one
pub odd_is : (m : ℕ) → is_odd m ≡ true → m % 2 ≡ 1
unfolding is_odd
odd_is m e = eqb-true (m % 2) 1 e

pub even_is : (m : ℕ) → is_odd m ≡ false → m % 2 ≡ 0
unfolding is_odd
even_is m e = let h : m % 2 ≡ 1 → ⊥ = eqb-false (m % 2) 1 e in rest (m % 2) h (omega arith)
  where
    rest : (k : ℕ) → (k ≡ 1 → ⊥) → k < 2 → k ≡ 0
    rest zero n l = refl
    rest (suc zero) n l = absurd (n refl)
    rest (suc (suc k)) n l = absurd (omega arith)

pub is_odd_lem : (m : ℕ) → m % 2 ≡ 1 → is_odd m ≡ true
unfolding is_odd
is_odd_lem m e = eq-eqb (m % 2) 1 e

pub is_even : (m : ℕ) → m % 2 ≡ 0 → is_odd m ≡ false
unfolding is_odd
is_even m e = ne_eqb (m % 2) 1 (λ h. omega arith)

-- the first digit, and the further ones
pub digit_first : (k : ℕ) → digit k 0 ≡ is_odd k
unfolding digit
digit_first k = ap is_odd (div-one k)

pub digit_next : (k i : ℕ) → digit k (suc i) ≡ digit (k / 2) i
unfolding digit
digit_next k i = ap is_odd (ap (λ (x : ℕ). k / x) (pow-succ' 2 i) ∙ sym (div-div-eq-div-mul k 2 (2 ^ i)))

pub digit_zero : (i : ℕ) → digit 0 i ≡ false
unfolding digit
digit_zero i = ap is_odd (zero-div (2 ^ i)) ∙ is_even 0 refl

-- m with i zeros behind it
pub shift_none : (m : ℕ) → m * 2 ^ 0 ≡ m
shift_none m = mul-one m

pub shift_more : (m i : ℕ) → m * 2 ^ suc i ≡ 2 * (m * 2 ^ i)
shift_more m i = ap (λ (x : ℕ). m * x) (pow-succ' 2 i) ∙ mul_left_comm m 2 (2 ^ i)

twice_even : (x : ℕ) → is_odd (2 * x) ≡ false
twice_even x = is_even (2 * x) (omega arith)

twice_half : (x : ℕ) → 2 * x / 2 ≡ x
twice_half x = omega arith

digit_shift : (m i j : ℕ) → digit (m * 2 ^ suc i) (suc j) ≡ digit (m * 2 ^ i) j
digit_shift m i j = ap (λ (x : ℕ). digit x (suc j)) (shift_more m i) ∙ digit_next (2 * (m * 2 ^ i)) j ∙ ap (λ (x : ℕ). digit x j) (twice_half (m * 2 ^ i))

pub digit_at : (i m : ℕ) → digit (m * 2 ^ i) i ≡ is_odd m
digit_at zero m = digit_first (m * 2 ^ 0) ∙ ap is_odd (shift_none m)
digit_at (suc i) m = digit_shift m i i ∙ digit_at i m

-- one more before i zeros, where that digit was 0, changes no other
pub digit_other : (i m row : ℕ) → is_odd m ≡ false → (row ≡ i → ⊥) → digit (suc m * 2 ^ i) row ≡ digit (m * 2 ^ i) row
digit_other zero m zero e n = absurd (n refl)
digit_other zero m (suc row) e n =
    let h = even_is m e in
    let q : suc m / 2 ≡ m / 2 = omega arith in
    ap (λ (x : ℕ). digit x (suc row)) (shift_none (suc m)) ∙ digit_next (suc m) row ∙ ap (λ (x : ℕ). digit x row) q ∙ sym (ap (λ (x : ℕ). digit x (suc row)) (shift_none m) ∙ digit_next m row)
digit_other (suc i) m zero e n = even (suc m) ∙ sym (even m)
  where
    even : (k : ℕ) → digit (k * 2 ^ suc i) 0 ≡ false
    even k = digit_first (k * 2 ^ suc i) ∙ ap is_odd (shift_more k i) ∙ twice_even (k * 2 ^ i)
digit_other (suc i) m (suc row) e n = digit_shift (suc m) i row ∙ digit_other i m row e (λ q. n (ap suc q)) ∙ sym (digit_shift m i row)

-- an odd m loses its last digit: the others stay, and the next number is the same
module _ (i m : ℕ) (o : is_odd m ≡ true) where
  abbrev half : ℕ
  half = 2 * (m / 2)

  odd_half : suc (2 * (m / 2)) ≡ m
  odd_half = let h = odd_is m o in omega arith

  half_shift : m / 2 * 2 ^ suc i ≡ half * 2 ^ i
  half_shift = shift_more (m / 2) i ∙ sym (mul_assoc 2 (m / 2) (2 ^ i))

  pub out_other : (row : ℕ) → (row ≡ i → ⊥) → digit (m / 2 * 2 ^ suc i) row ≡ digit (m * 2 ^ i) row
  out_other row n = ap (λ (x : ℕ). digit x row) half_shift ∙ sym (digit_other i half row (twice_even (m / 2)) n) ∙ ap (λ (x : ℕ). digit (x * 2 ^ i) row) odd_half

  pub out_at : digit (m / 2 * 2 ^ suc i) i ≡ false
  out_at = ap (λ (x : ℕ). digit x i) half_shift ∙ digit_at i half ∙ twice_even (m / 2)

  pub out_next : suc (m / 2) * 2 ^ suc i ≡ suc m * 2 ^ i
  out_next =
      let e : 2 * suc (m / 2) ≡ suc m = let h = odd_is m o in omega arith in
      shift_more (suc (m / 2)) i ∙ sym (mul_assoc 2 (suc (m / 2)) (2 ^ i)) ∙ ap (λ (x : ℕ). x * 2 ^ i) e

-- the same for what goes in: an even m becomes odd
pub even_next : (m : ℕ) → is_odd m ≡ false → is_odd (suc m) ≡ true
even_next m e = let h = even_is m e in is_odd_lem (suc m) (omega arith)

-- powers of two
pub pow_split : (a k : ℕ) → 2 ^ a * 2 ^ k ≡ 2 ^ (k + a)
pow_split a zero = mul-one (2 ^ a) ∙ ap (λ (x : ℕ). 2 ^ x) (sym (zero-add a))
pow_split a (suc k) =
    let e : suc (k + a) ≡ suc k + a = omega arith in
    shift_more (2 ^ a) k ∙ ap (λ (x : ℕ). 2 * x) (pow_split a k) ∙ sym (pow-succ' 2 (k + a)) ∙ ap (λ (x : ℕ). 2 ^ x) e
