-- Reading a number is the inverse of writing it: `number` takes exactly what `decimal` gives for numbers of at most 7 digits; and how long
-- numbers are.
use Rattle.std.specs.Prelude.{ℕ, zero, suc, ◌+◌, ◌-◌, ◌*◌, ◌/◌, ◌%◌, ◌^◌, ◌≤◌, ◌<◌, ◌≡◌, refl, Bool, true, false, not, ◌&&◌, List, [], ◌∷◌, ◌++◌, T, leb, length, if◌then◌else◌}
use Rattle.std.proofs.Common.{sym, ap, ap₂, subst, ◌∙◌, append-nil, arith, pow-suc, zero-add, lt_of_lt_of_le, leb→le, length-append, le-leb, leb-true, leb-false, ne_eqb}
use Rattle.std.proofs.Math.Option.{none, some}
use Rattle.std.proofs.Math.Nat.{pow-zero, pow-le-pow_right}
use Rattle.std.proofs.Math.Arith.{digits_div, digits_mod}
use Rattle.std.proofs.Math.Seq.{append_snoc}
use Rattle.std.proofs.lemmas.Bool.{lt-leb}
use Rattle.definitions.specs.Lists.{all}
use Rattle.definitions.specs.Sheet.Text.{is_between, is_digit, decimal_value, no_leading_zero, number, decimal_in, decimal}
use Rattle.laws.specs.Booleans.{T_and_l, T_and_r, T_of, T_true, and_T, neq}
use Rattle.laws.specs.Lists.{none_some, some_eq}

ten : 0 < 10
ten = omega arith

-- ---- the digits of a number
pub one_digit : (k n : ℕ) → n ≤ 9 → decimal_in (suc k) n ≡ (n + 48) ∷ []
unfolding decimal_in
one_digit k n h = rw (le-leb n 9 h) refl

pub more_digits : (k n : ℕ) → 9 < n → decimal_in (suc k) n ≡ decimal_in k (n / 10) ++ ((n % 10 + 48) ∷ [])
unfolding decimal_in
more_digits k n h = rw (lt-leb n 9 h) refl

-- by cases on the number of digits: one, or one more than those of the tenth
digit_cases : (P : ℕ → Type 0) (n : ℕ) → (n ≤ 9 → P n) → (9 < n → P n) → P n
digit_cases P n f g = by_test (leb n 9) refl
  where
    by_test : (b : Bool) → leb n 9 ≡ b → P n
    by_test true e = f (leb-true n 9 e)
    by_test false e = g (leb-false n 9 e)

tenth : (k n : ℕ) → n < 10 ^ suc k → n / 10 < 10 ^ k
tenth k n h = let e = pow-suc 10 k in omega arith

snoc_value : (v : ℕ) (xs : List ℕ) (b : ℕ) → decimal_value v (xs ++ (b ∷ [])) ≡ decimal_value v xs * 10 + (b - 48)
unfolding decimal_value
snoc_value v [] b = refl
snoc_value v (x ∷ xs) b = snoc_value (v * 10 + (x - 48)) xs b

value_of : (k n : ℕ) → n < 10 ^ k → decimal_value 0 (decimal_in k n) ≡ n
unfolding decimal_value decimal_in
value_of zero n h = let e = pow-zero 10 in omega arith
value_of (suc k) n h = digit_cases (λ n. n < 10 ^ suc k → decimal_value 0 (decimal_in (suc k) n) ≡ n) n
    (λ l h. ap (decimal_value 0) (one_digit k n l) ∙ omega arith)
    (λ l h. let r = value_of k (n / 10) (tenth k n h) in ap (decimal_value 0) (more_digits k n l) ∙ snoc_value 0 (decimal_in k (n / 10)) (n % 10 + 48) ∙ omega arith) h

-- ---- every byte is a digit, the first is not 0 unless it stands alone, and there are at most as many as were asked for
digit_is : (d : ℕ) → d ≤ 9 → is_digit (d + 48) ≡ true
unfolding is_digit is_between
digit_is d h = rw (le-leb 48 (d + 48) (omega arith), le-leb (d + 48) 57 (omega arith)) refl

all_snoc : (xs : List ℕ) (b : ℕ) → all is_digit xs ≡ true → is_digit b ≡ true → all is_digit (xs ++ (b ∷ [])) ≡ true
unfolding all
all_snoc [] b e h = rw h refl
all_snoc (x ∷ xs) b e h = T_true (is_digit x && all is_digit (xs ++ (b ∷ []))) (and_T (is_digit x) _ (T_and_l (is_digit x) _ (T_of e)) (T_of (all_snoc xs b (T_true (all is_digit xs) (T_and_r (is_digit x) _ (T_of e))) h)))

pub digits_of : (k n : ℕ) → all is_digit (decimal_in k n) ≡ true
unfolding decimal_in all
digits_of zero n = refl
digits_of (suc k) n = digit_cases (λ n. all is_digit (decimal_in (suc k) n) ≡ true) n
    (λ l. ap (all is_digit) (one_digit k n l) ∙ rw (digit_is n l) refl)
    (λ l. ap (all is_digit) (more_digits k n l) ∙ all_snoc (decimal_in k (n / 10)) (n % 10 + 48) (digits_of k (n / 10)) (digit_is (n % 10) (omega arith)))

unfoldable Leads : List ℕ → Type 0
Leads [] = ⊥
Leads (b ∷ bs) = b ≡ 48 → ⊥

leads_snoc : (xs : List ℕ) (b : ℕ) → Leads xs → Leads (xs ++ (b ∷ []))
unfolding Leads
leads_snoc [] b h = absurd h
leads_snoc (x ∷ xs) b h = h

leads_no_zero : (xs : List ℕ) → Leads xs → no_leading_zero xs ≡ true
unfolding Leads no_leading_zero
leads_no_zero [] h = absurd h
leads_no_zero (b ∷ []) h = refl
leads_no_zero (b ∷ c ∷ bs) h = ap not (ne_eqb b 48 h)

leads_of : (k n : ℕ) → 1 ≤ n → n < 10 ^ k → Leads (decimal_in k n)
unfolding Leads
leads_of zero n h l = absurd (let e = pow-zero 10 in omega arith)
leads_of (suc k) n h l = digit_cases (λ n. 1 ≤ n → n < 10 ^ suc k → Leads (decimal_in (suc k) n)) n
    (λ g h l. subst Leads (sym (one_digit k n g)) (λ e. omega arith))
    (λ g h l. subst Leads (sym (more_digits k n g)) (leads_snoc (decimal_in k (n / 10)) (n % 10 + 48) (leads_of k (n / 10) (omega arith) (tenth k n l)))) h l

no_zero_of : (k n : ℕ) → n < 10 ^ suc k → no_leading_zero (decimal_in (suc k) n) ≡ true
unfolding no_leading_zero
no_zero_of k n h = digit_cases (λ n. n < 10 ^ suc k → no_leading_zero (decimal_in (suc k) n) ≡ true) n
    (λ l h. ap no_leading_zero (one_digit k n l))
    (λ l h. leads_no_zero (decimal_in (suc k) n) (leads_of (suc k) n (omega arith) h)) h

length_of : (m k n : ℕ) → n < 10 ^ suc m → length (decimal_in (suc (m + k)) n) ≤ suc m
length_of zero k n h = let e = pow-suc 10 0 in let z = pow-zero 10 in subst (λ (t : List ℕ). length t ≤ 1) (sym (one_digit (0 + k) n (omega arith))) (omega arith)
length_of (suc m) k n h = digit_cases (λ n. n < 10 ^ suc (suc m) → length (decimal_in (suc (suc m + k)) n) ≤ suc (suc m)) n
    (λ l h. subst (λ (t : List ℕ). length t ≤ suc (suc m)) (sym (one_digit (suc m + k) n l)) (omega arith))
    (λ l h. let w : suc m + k ≡ suc (m + k) = omega arith in
    let r = length_of m k (n / 10) (tenth (suc m) n h) in
    let a = length-append (decimal_in (suc (m + k)) (n / 10)) ((n % 10 + 48) ∷ []) in
    subst (λ (t : List ℕ). length t ≤ suc (suc m)) (sym (more_digits (suc m + k) n l ∙ ap (λ (x : ℕ). decimal_in x (n / 10) ++ ((n % 10 + 48) ∷ [])) w)) (omega arith)) h

-- what is written for a number of at most 7 digits is read as that number
pub number_decimal : (n : ℕ) → n < 10 ^ 7 → number (decimal n) ≡ some n
unfolding number decimal
number_decimal n h =
    let h20 : n < 10 ^ 20 = omega arith in
    rw (digits_of 20 n, no_zero_of 19 n h20, le-leb (length (decimal_in 20 n)) 7 (length_of 6 13 n h)) (ap some (value_of 20 n h20))

-- ---- and what is read as a number is what is written for it
next_digit : (n v d : ℕ) → 0 < v → d ≤ 9 → decimal_in (suc (suc n)) (v * 10 + d) ≡ decimal_in (suc n) v ++ ((d + 48) ∷ [])
next_digit n v d h l = let g : d < 10 = omega arith in more_digits (suc n) (v * 10 + d) (omega arith) ∙ ap₂ (λ (a b : ℕ). decimal_in (suc n) a ++ ((b + 48) ∷ [])) (digits_div v g) (digits_mod v g)

written_as : (t : List ℕ) (v n : ℕ) → 0 < v → T (all is_digit t) → decimal_in (length t + suc n) (decimal_value v t) ≡ decimal_in (suc n) v ++ t
unfolding all decimal_value is_digit is_between
written_as [] v n h d = ap (λ (k : ℕ). decimal_in k v) (zero-add (suc n)) ∙ sym (append-nil (decimal_in (suc n) v))
written_as (c ∷ t) v n h d =
    let a = leb→le 48 c (T_and_l (leb 48 c) _ (T_and_l (leb 48 c && leb c 57) _ d)) in
    let b = leb→le c 57 (T_and_r (leb 48 c) _ (T_and_l (leb 48 c && leb c 57) _ d)) in
    let m : suc (length t) + suc n ≡ length t + suc (suc n) = omega arith in
    let q : c - 48 + 48 ≡ c = omega arith in
    ap (λ (k : ℕ). decimal_in k (decimal_value (v * 10 + (c - 48)) t)) m ∙ written_as t (v * 10 + (c - 48)) (suc n) (omega arith) (T_and_r (leb 48 c && leb c 57) _ d)
    ∙ ap (λ (x : List ℕ). x ++ t) (next_digit n v (c - 48) h (omega arith) ∙ ap (λ (x : ℕ). decimal_in (suc n) v ++ (x ∷ [])) q) ∙ append_snoc (decimal_in (suc n) v) c t

value_bound : (t : List ℕ) (v n : ℕ) → v < 10 ^ n → T (all is_digit t) → decimal_value v t < 10 ^ (length t + n)
unfolding all decimal_value is_digit is_between
value_bound [] v n h d = subst (λ (k : ℕ). v < 10 ^ k) (sym (zero-add n)) h
value_bound (c ∷ t) v n h d =
    let b = leb→le c 57 (T_and_r (leb 48 c) _ (T_and_l (leb 48 c && leb c 57) _ d)) in
    let m : length t + suc n ≡ suc (length t) + n = omega arith in
    let e = pow-suc 10 n in
    subst (λ (k : ℕ). decimal_value (v * 10 + (c - 48)) t < 10 ^ k) m (value_bound t (v * 10 + (c - 48)) (suc n) (omega arith) (T_and_r (leb 48 c && leb c 57) _ d))

digit_range : (c : ℕ) → T (is_digit c) → (48 ≤ c) × (c ≤ 57)
unfolding is_digit is_between
digit_range c t = (leb→le 48 c (T_and_l (leb 48 c) _ t), leb→le c 57 (T_and_r (leb 48 c) _ t))

alone : (c : ℕ) → T (is_digit c) → (c ∷ [] ≡ decimal (0 * 10 + (c - 48))) × (0 * 10 + (c - 48) < 10 ^ 7)
unfolding decimal
alone c t =
    let r = digit_range c t in
    let v : 0 * 10 + (c - 48) ≤ 9 = omega (arith, r.1) in
    let q : c ≡ 0 * 10 + (c - 48) + 48 = omega (arith, r.0) in
    (ap (λ (x : ℕ). x ∷ []) q ∙ sym (one_digit 19 (0 * 10 + (c - 48)) v), omega arith)

several : (c : ℕ) (t : List ℕ) → T (is_digit c) → T (all is_digit t) → (c ≡ 48 → ⊥) → length t ≤ 6 → (c ∷ t ≡ decimal (decimal_value (0 * 10 + (c - 48)) t)) × (decimal_value (0 * 10 + (c - 48)) t < 10 ^ 7)
unfolding decimal
several c t d ds n l =
    let r = digit_range c d in
    let v : 0 * 10 + (c - 48) ≤ 9 = omega (arith, r.1) in
    let q : 0 * 10 + (c - 48) + 48 ≡ c = omega (arith, r.0) in
    let w : length t + suc (19 - length t) ≡ 20 = omega arith in
    let s : 0 * 10 + (c - 48) < 10 ^ 1 = let e = pow-suc 10 0 in let z = pow-zero 10 in omega arith in
    let b : length t + 1 ≤ 7 = omega arith in (
      sym (ap (λ (k : ℕ). decimal_in k (decimal_value (0 * 10 + (c - 48)) t)) (sym w) ∙ written_as t (0 * 10 + (c - 48)) (19 - length t) (omega (arith, r.0)) ds ∙ ap (λ (x : List ℕ). x ++ t) (one_digit (19 - length t) (0 * 10 + (c - 48)) v ∙ ap (λ (x : ℕ). x ∷ []) q)),
      lt_of_lt_of_le (value_bound t (0 * 10 + (c - 48)) 1 s ds) (pow-le-pow_right ten b),
    )

written_from : (t : List ℕ) → T (all is_digit t) → T (no_leading_zero t) → length t ≤ 7 → (t ≡ decimal (decimal_value 0 t)) × (decimal_value 0 t < 10 ^ 7)
unfolding all no_leading_zero decimal_value
written_from [] d z l = absurd z
written_from (c ∷ []) d z l = alone c (T_and_l (is_digit c) _ d)
written_from (c ∷ b ∷ bs) d z l = several c (b ∷ bs) (T_and_l (is_digit c) _ d) (T_and_r (is_digit c) _ d) (neq c 48 z) (omega arith)

pub decimal_number : (t : List ℕ) (n : ℕ) → number t ≡ some n → (t ≡ decimal n) × (n < 10 ^ 7)
unfolding number
decimal_number t n e = by_test (all is_digit t && no_leading_zero t && leb (length t) 7) refl e
  where
    by_test : (b : Bool) → (all is_digit t && no_leading_zero t && leb (length t) 7) ≡ b → (if b then some (decimal_value zero t) else none) ≡ some n → (t ≡ decimal n) × (n < 10 ^ 7)
    by_test true q h =
        let a = T_and_l (all is_digit t && no_leading_zero t) _ (T_of q) in
        let w = written_from t (T_and_l (all is_digit t) _ a) (T_and_r (all is_digit t) _ a) (leb→le (length t) 7 (T_and_r (all is_digit t && no_leading_zero t) _ (T_of q))) in
        subst (λ (k : ℕ). (t ≡ decimal k) × (k < 10 ^ 7)) (some_eq h) w
    by_test false q h = absurd (none_some h)

-- ---- how long a number is
-- a number below a power of ten has no more digits than that
short : (f n k : ℕ) → k < 10 ^ suc n → length (decimal_in f k) ≤ suc n
unfolding decimal_in
short zero n k h = omega arith
short (suc f) n k h = by_number n (leb k 9) refl (λ m. short f m (k / 10)) h
  where
    by_number : (n : ℕ) (b : Bool) → leb k 9 ≡ b → ((m : ℕ) → k / 10 < 10 ^ suc m → length (decimal_in f (k / 10)) ≤ suc m) → k < 10 ^ suc n → length (decimal_in (suc f) k) ≤ suc n
    by_number n true e ih l = rw (one_digit f k (leb-true k 9 e)) (omega arith)
    by_number zero false e ih l = let s = leb-false k 9 e in absurd (omega (arith, pow-suc 10 0, pow-zero 10))
    by_number (suc n) false e ih l =
        let s = leb-false k 9 e in
        let i = ih n (omega (arith, pow-suc 10 (suc n))) in
        rw (more_digits f k s, length-append (decimal_in f (k / 10)) ((k % 10 + 48) ∷ [])) (omega arith)

pub decimal_length : (n k : ℕ) → k < 10 ^ suc n → length (decimal k) ≤ suc n
unfolding decimal
decimal_length n k h = short 20 n k h
