-- Laws of `number`: what a scan over a span uses.
use Rattle.std.specs.Prelude.{if◌then◌else◌}
use Prim.Native.Nat.{ℕ, zero, suc, ◌+◌, ◌-◌, ◌*◌, ◌^◌, ◌≤◌, ◌<◌}
use mathlib.Core.Path.{◌≡◌, refl, sym, ◌∙◌}
use mathlib.Core.Logic.{◌⊎◌, inl, inr}
use mathlib.Core.Bool.{Bool, true, false, ◌&&◌}
use mathlib.Core.List.{List, [], ◌∷◌}
use mathlib.Core.Option.{Option, none, some}
use native.Mathlib.Nat.{pow-suc, pow-le-pow_right, lt_of_lt_of_le}
use native.Mathlib.Numerals.{add-one}
use native.Mathlib.Omega.{arith}
use lib.Dec.{eqb, leb}
use lib.ListN.{length, get_or, drop, drop_of_length-le}
use borrow.Author.Tests.{eq-eqb, eqb-true, ne_eqb, le-leb, lt-leb}
use Rattle.std.specs.Char.{is_ascii_digit}
use Rattle.definitions.specs.Lists.{all}
use Rattle.definitions.specs.Sheet.Text.{is_between, is_digit, decimal_value, no_leading_zero, number}
use Rattle.read_text.proofs.Laws.{drop_next}

-- the number that the digits of t write after those that wrote v
unfoldable pub read_on : ℕ → List ℕ → Option ℕ
read_on v t = if all is_digit t then some (decimal_value v t) else none

number_is : (t : List ℕ) → number t ≡ (if all is_digit t && no_leading_zero t && leb (length t) 7 then some (decimal_value zero t) else none)
unfolding number
number_is t = refl

second_bad : (a b c : Bool) (v : ℕ) → b ≡ false → (if a && b && c then some v else none) ≡ none
second_bad true b c v e = rw e
second_bad false b c v e = refl

third_bad : (a b c : Bool) (v : ℕ) → c ≡ false → (if a && b && c then some v else none) ≡ none
third_bad true true c v e = rw e
third_bad true false c v e = refl
third_bad false b c v e = refl

both_good : (a b c : Bool) (v : ℕ) → b ≡ true → c ≡ true → (if a && b && c then some v else none) ≡ (if a then some v else none)
both_good true b c v e f = rw (e, f)
both_good false b c v e f = refl

not_led : (t : List ℕ) → 0 < length t → (get_or t 0 0 ≡ 48 → length t ≤ 1) → no_leading_zero t ≡ true
unfolding no_leading_zero
not_led [] h l = absurd (omega arith)
not_led (b ∷ []) h l = refl
not_led (b ∷ c ∷ t) h l = rw (ne_eqb b 48 (λ z. omega (arith, l z)))

led : (t : List ℕ) → get_or t 0 0 ≡ 48 → 1 < length t → no_leading_zero t ≡ false
unfolding no_leading_zero
led [] h k = refl
led (b ∷ []) h k = absurd (omega arith)
led (b ∷ c ∷ t) h k = rw (eq-eqb b 48 h)

pub number_empty : (t : List ℕ) → length t ≡ 0 → number t ≡ none
unfolding number no_leading_zero all
number_empty [] h = refl
number_empty (b ∷ t) h = absurd (omega arith)

module _ (t : List ℕ) where
  pub number_long : 7 < length t → number t ≡ none
  number_long p = number_is t ∙ third_bad (all is_digit t) (no_leading_zero t) _ _ (lt-leb (length t) 7 p)

  pub number_led : get_or t 0 0 ≡ 48 → 1 < length t → number t ≡ none
  number_led q p = number_is t ∙ second_bad (all is_digit t) (no_leading_zero t) _ _ (led t q p)

  pub number_read : 0 < length t → length t ≤ 7 → (get_or t 0 0 ≡ 48 → length t ≤ 1) → number t ≡ read_on 0 t
  unfolding read_on
  number_read h p q = number_is t ∙ both_good (all is_digit t) (no_leading_zero t) _ _ (not_led t h q) (le-leb (length t) 7 p)

  module _ (i : ℕ) (h : i < length t) (v : ℕ) where
    pub read_next : 48 ≤ get_or t i 0 → get_or t i 0 ≤ 57 → read_on v (drop i t) ≡ read_on (v * 10 + (get_or t i 0 - 48)) (drop (i + 1) t)
    unfolding read_on all is_digit is_between decimal_value
    read_next a b = rw (drop_next t i h) (simp (le-leb 48 (get_or t i 0) a, le-leb (get_or t i 0) 57 b))

    pub read_bad : is_ascii_digit (get_or t i 0) ≡ false → read_on v (drop i t) ≡ none
    unfolding read_on all is_digit is_between
    read_bad a = rw (drop_next t i h, a)

  pub read_end : (i v : ℕ) → length t ≤ i → read_on v (drop i t) ≡ some v
  unfolding read_on all decimal_value
  read_end i v h = rw (drop_of_length-le t h)

-- what the two tests of `number` refuse
pub number_sized : (t : List ℕ) (b : Bool) → b ≡ eqb (length t) 0 → (b ≡ true) ⊎ ((b ≡ false) × (7 < length t)) → number t ≡ none
number_sized t b p (inl q) = number_empty t (eqb-true (length t) 0 (sym p ∙ q))
number_sized t b p (inr q) = number_long t q.1

pub not_empty : (n : ℕ) (b : Bool) → b ≡ eqb n 0 → b ≡ false → 0 < n
not_empty zero b p q = let z : true ≡ false = sym p ∙ q in cc
not_empty (suc n) b p q = omega arith

pub unled : (t : List ℕ) → ((get_or t 0 0 ≡ 48) × (length t ≤ 1)) ⊎ (get_or t 0 0 ≡ 48 → ⊥) → get_or t 0 0 ≡ 48 → length t ≤ 1
unled t (inl q) z = q.1
unled t (inr q) z = absurd (q z)

-- a number of k digits, k at most 6
pub small : (v k : ℕ) → v < 10 ^ k → k ≤ 6 → v < 1000000
small v k h l = lt_of_lt_of_le h (pow-le-pow_right (omega arith) l)

-- one digit more
pub grown : (v d i : ℕ) → v < 10 ^ i → d ≤ 9 → v * 10 + d < 10 ^ (i + 1)
grown v d i h g = rw (add-one, pow-suc 10 i) (omega arith)
