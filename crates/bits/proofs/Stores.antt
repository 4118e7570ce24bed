-- Bits of a word put at any bit of a table, and ranges that are written piece by piece. Assumes nothing.
use Prim.Native.Nat.{ℕ, ◌+◌, ◌-◌, ◌*◌, ◌/◌, ◌%◌, ◌^◌, ◌≤◌, ◌<◌}
use mathlib.Core.Path.{◌≡◌, refl, sym, ap, ap₂, ◌∙◌, fun_ext}
use mathlib.Core.Bool.{Bool, true, false, cond, not, ◌&&◌, ◌||◌}
use mathlib.Core.List.{List}
use native.Mathlib.Decide.{ℕ_discrete, dec_lt, dec_le}
use native.Mathlib.Omega.{arith}
use lib.Bits.{bit_and, bit_or}
use lib.Dec.{ltb}
use lib.ListN.{length, get_or, set}
use lib.Seq.{get_or-set_same, get_or-set_other}
use borrow.Author.Tests.{lt-ltb, le-ltb, eq-eqb, ne_eqb}
use Rattle.bits.specs.Table.{digit, bit, paste, blended, turned}
use Rattle.bits.proofs.Digit.{digit_or, digit_and, digit_not}
use Rattle.bits.proofs.Laws.{one_shl, paste_in, paste_out, within}
use Rattle.bits.proofs.Shifts.{mask_digit, mod_digit, right_digit, left_low, left_high}

-- ---- the masks that the code computes
pub mask_some : (n : ℕ) → n < 64 → (1 * 2 ^ n) % 2 ^ 64 - 1 ≡ 2 ^ n - 1
mask_some n h = ap (λ (x : ℕ). x - 1) (one_shl n h)

pub mask_all : (n : ℕ) → n ≤ 64 → 64 ≤ n → 2 ^ 64 - 1 - 0 ≡ 2 ^ n - 1
mask_all n h l = let e : 64 ≡ n = omega arith in ap (λ (x : ℕ). 2 ^ x - 1) e

-- ---- a word whose bits of a mask are replaced
choose_cond : (m w o : Bool) → ((o && not m) || (w && m)) ≡ cond m w o
choose_cond true true true = refl
choose_cond true true false = refl
choose_cond true false true = refl
choose_cond true false false = refl
choose_cond false true true = refl
choose_cond false true false = refl
choose_cond false false true = refl
choose_cond false false false = refl

blend_digit : (o m w k : ℕ) → m < 2 ^ 64 → k < 64 → digit (bit_or (bit_and o ((2 ^ 64 - 1) - m)) (bit_and w m)) k ≡ cond (digit m k) (digit w k) (digit o k)
blend_digit o m w k h l =
    digit_or (bit_and o ((2 ^ 64 - 1) - m)) (bit_and w m) k
    ∙ ap₂ ◌||◌ (digit_and o ((2 ^ 64 - 1) - m) k ∙ ap (λ (b : Bool). digit o k && b) (digit_not 64 m k h l)) (digit_and w m k)
    ∙ choose_cond (digit m k) (digit w k) (digit o k)

pub blend_bits : (t : List ℕ) (j m w : ℕ) → m < 2 ^ 64 → j < length t → bit (set t j (bit_or (bit_and (get_or t j 0) ((2 ^ 64 - 1) - m)) (bit_and w m))) ≡ blended (bit t) j m w
unfolding bit blended
blend_bits t j m w h l = fun_ext (λ i. by_number i (ℕ_discrete (i / 64) j))
  where
    by_number : (i : ℕ) → Dec (i / 64 ≡ j) → bit (set t j (bit_or (bit_and (get_or t j 0) ((2 ^ 64 - 1) - m)) (bit_and w m))) i ≡ blended (bit t) j m w i
    by_number i (yes e) =
        ap (λ (x : ℕ). digit (get_or (set t j (bit_or (bit_and (get_or t j 0) ((2 ^ 64 - 1) - m)) (bit_and w m))) x 0) (i % 64)) e
        ∙ ap (λ (x : ℕ). digit x (i % 64)) (get_or-set_same t j (bit_or (bit_and (get_or t j 0) ((2 ^ 64 - 1) - m)) (bit_and w m)) 0 l)
        ∙ blend_digit (get_or t j 0) m w (i % 64) h (omega arith)
        ∙ ap₂ (λ (b : Bool) (x : ℕ). cond (b && digit m (i % 64)) (digit w (i % 64)) (digit (get_or t x 0) (i % 64))) (sym (eq-eqb (i / 64) j e)) (sym e)
    by_number i (no n) =
        ap (λ (x : ℕ). digit x (i % 64)) (get_or-set_other t j (i / 64) (bit_or (bit_and (get_or t j 0) ((2 ^ 64 - 1) - m)) (bit_and w m)) 0 n)
        ∙ ap (λ (b : Bool). cond (b && digit m (i % 64)) (digit w (i % 64)) (bit t i)) (sym (ne_eqb (i / 64) j n))

blended_here : (p : ℕ → Bool) (j m w i : ℕ) → i / 64 ≡ j → blended p j m w i ≡ cond (digit m (i % 64)) (digit w (i % 64)) (p i)
unfolding blended
blended_here p j m w i e = ap (λ (b : Bool). cond (b && digit m (i % 64)) (digit w (i % 64)) (p i)) (eq-eqb (i / 64) j e)

blended_else : (p : ℕ → Bool) (j m w i : ℕ) → (i / 64 ≡ j → ⊥) → blended p j m w i ≡ p i
unfolding blended
blended_else p j m w i n = ap (λ (b : Bool). cond (b && digit m (i % 64)) (digit w (i % 64)) (p i)) (ne_eqb (i / 64) j n)

-- ---- n bits from bit i on: what of them lies in its word, and what in the next
module _ (p : ℕ → Bool) (i n w : ℕ) (some : 0 < n) (few : n ≤ 64) where
  abbrev s : ℕ
  s = i % 64

  abbrev m : ℕ
  m = 2 ^ n - 1

  left_digit : (x k : ℕ) → k < 64 → s ≤ k → digit ((x * 2 ^ s) % 2 ^ 64) k ≡ digit x (k - s)
  left_digit x k h l =
      let e : k ≡ s + (k - s) = omega arith in
      mod_digit (x * 2 ^ s) 64 k h ∙ ap (digit (x * 2 ^ s)) e ∙ left_high x s (k - s)

  left_none : (x k : ℕ) → k < s → digit ((x * 2 ^ s) % 2 ^ 64) k ≡ false
  left_none x k l = mod_digit (x * 2 ^ s) 64 k (omega arith) ∙ left_low x s k l

  right_all : (x k : ℕ) → digit (x / 2 ^ 1 / 2 ^ (63 - s)) k ≡ digit x (64 - s + k)
  right_all x k =
      let e : 1 + (63 - s + k) ≡ 64 - s + k = omega arith in
      right_digit (x / 2 ^ 1) (63 - s) k ∙ right_digit x 1 (63 - s + k) ∙ ap (digit x) e

  abbrev once : ℕ → Bool
  once = blended p (i / 64) ((m * 2 ^ s) % 2 ^ 64) ((w * 2 ^ s) % 2 ^ 64)

  once_in : (x : ℕ) → x / 64 ≡ i / 64 → i ≤ x → x < i + n → once x ≡ digit w (x - i)
  once_in x e l u =
      let q : x % 64 - s ≡ x - i = omega arith in
      blended_here p (i / 64) ((m * 2 ^ s) % 2 ^ 64) ((w * 2 ^ s) % 2 ^ 64) x e
      ∙ ap (λ (b : Bool). cond b (digit ((w * 2 ^ s) % 2 ^ 64) (x % 64)) (p x)) (left_digit m (x % 64) (omega arith) (omega arith) ∙ mask_digit n (x % 64 - s) ∙ lt-ltb (x % 64 - s) n (omega arith))
      ∙ left_digit w (x % 64) (omega arith) (omega arith) ∙ ap (digit w) q

  once_out : (x : ℕ) → x / 64 ≡ i / 64 → ((i ≤ x) × (x < i + n) → ⊥) → once x ≡ p x
  once_out x e o =
      blended_here p (i / 64) ((m * 2 ^ s) % 2 ^ 64) ((w * 2 ^ s) % 2 ^ 64) x e
      ∙ ap (λ (b : Bool). cond b (digit ((w * 2 ^ s) % 2 ^ 64) (x % 64)) (p x)) (none (dec_le i x))
    where
      none : Dec (i ≤ x) → digit ((m * 2 ^ s) % 2 ^ 64) (x % 64) ≡ false
      none (yes l) =
          let u : ¬ (x < i + n) = λ u. o (l, u) in
          left_digit m (x % 64) (omega arith) (omega arith) ∙ mask_digit n (x % 64 - s) ∙ le-ltb (x % 64 - s) n (omega arith)
      none (no l) = left_none m (x % 64) (omega arith)

  store_one : s + n ≤ 64 → once ≡ paste p i (digit w) 0 n
  store_one h = fun_ext (λ x. by_number x (ℕ_discrete (x / 64) (i / 64)) (within i n x))
    where
      by_number : (x : ℕ) → Dec (x / 64 ≡ i / 64) → Dec ((i ≤ x) × (x < i + n)) → once x ≡ paste p i (digit w) 0 n x
      by_number x (yes e) (yes q) =
          let z : x - i ≡ 0 + (x - i) = omega arith in
          once_in x e q.0 q.1 ∙ ap (digit w) z ∙ sym (paste_in p i (digit w) 0 n x q.0 q.1)
      by_number x (yes e) (no q) = once_out x e q ∙ sym (paste_out p i (digit w) 0 n x q)
      by_number x (no e) (yes q) = let a = q.0 in let b = q.1 in absurd (e (omega arith))
      by_number x (no e) (no q) = blended_else p (i / 64) _ _ x e ∙ sym (paste_out p i (digit w) 0 n x q)

  abbrev twice : ℕ → Bool
  twice = blended once (i / 64 + 1) (m / 2 ^ 1 / 2 ^ (63 - s)) (w / 2 ^ 1 / 2 ^ (63 - s))

  twice_next : (x : ℕ) → x / 64 ≡ i / 64 + 1 → twice x ≡ cond (ltb (64 - s + x % 64) n) (digit w (64 - s + x % 64)) (p x)
  twice_next x e =
      blended_here once (i / 64 + 1) (m / 2 ^ 1 / 2 ^ (63 - s)) (w / 2 ^ 1 / 2 ^ (63 - s)) x e
      ∙ ap₂ (λ (b : Bool) (c : Bool). cond b c (once x)) (right_all m (x % 64) ∙ mask_digit n (64 - s + x % 64)) (right_all w (x % 64))
      ∙ ap (λ (c : Bool). cond (ltb (64 - s + x % 64) n) (digit w (64 - s + x % 64)) c) (blended_else p (i / 64) ((m * 2 ^ s) % 2 ^ 64) ((w * 2 ^ s) % 2 ^ 64) x (λ z. omega arith))

  store_two : 64 < s + n → twice ≡ paste p i (digit w) 0 n
  store_two h = fun_ext (λ x. by_number x (ℕ_discrete (x / 64) (i / 64)) (ℕ_discrete (x / 64) (i / 64 + 1)) (within i n x))
    where
      by_number : (x : ℕ) → Dec (x / 64 ≡ i / 64) → Dec (x / 64 ≡ i / 64 + 1) → Dec ((i ≤ x) × (x < i + n)) → twice x ≡ paste p i (digit w) 0 n x
      by_number x (yes e) f (yes q) =
          let z : x - i ≡ 0 + (x - i) = omega arith in
          blended_else once (i / 64 + 1) _ _ x (λ y. omega arith) ∙ once_in x e q.0 q.1 ∙ ap (digit w) z ∙ sym (paste_in p i (digit w) 0 n x q.0 q.1)
      by_number x (yes e) f (no q) = blended_else once (i / 64 + 1) _ _ x (λ y. omega arith) ∙ once_out x e q ∙ sym (paste_out p i (digit w) 0 n x q)
      by_number x (no e) (yes f) (yes q) =
          let a = q.0 in let b = q.1 in
          let z : 64 - s + x % 64 ≡ 0 + (x - i) = omega arith in
          twice_next x f ∙ ap (λ (b : Bool). cond b (digit w (64 - s + x % 64)) (p x)) (lt-ltb (64 - s + x % 64) n (omega arith)) ∙ ap (digit w) z ∙ sym (paste_in p i (digit w) 0 n x q.0 q.1)
      by_number x (no e) (yes f) (no q) =
          let u : ¬ (x < i + n) = λ u. q (omega arith, u) in
          twice_next x f ∙ ap (λ (b : Bool). cond b (digit w (64 - s + x % 64)) (p x)) (le-ltb (64 - s + x % 64) n (omega arith)) ∙ sym (paste_out p i (digit w) 0 n x q)
      by_number x (no e) (no f) (yes q) = let a = q.0 in let b = q.1 in absurd (omega arith)
      by_number x (no e) (no f) (no q) = blended_else once (i / 64 + 1) _ _ x f ∙ blended_else p (i / 64) _ _ x e ∙ sym (paste_out p i (digit w) 0 n x q)

  -- the same of what the code computes
  pub stored_one : (x : ℕ) → x ≡ 2 ^ n - 1 → {d : ℕ → Bool} → d ≡ blended p (i / 64) ((x * 2 ^ (i % 64)) % 2 ^ 64) ((w * 2 ^ (i % 64)) % 2 ^ 64)
      → i % 64 + n ≤ 64 → d ≡ paste p i (digit w) 0 n
  stored_one x e f h = f ∙ ap (λ (y : ℕ). blended p (i / 64) ((y * 2 ^ (i % 64)) % 2 ^ 64) ((w * 2 ^ (i % 64)) % 2 ^ 64)) e ∙ store_one h

  pub stored_two : (x : ℕ) → x ≡ 2 ^ n - 1 → {d d' : ℕ → Bool} → d ≡ blended p (i / 64) ((x * 2 ^ (i % 64)) % 2 ^ 64) ((w * 2 ^ (i % 64)) % 2 ^ 64)
      → d' ≡ blended d (i / 64 + 1) (x / 2 ^ 1 / 2 ^ (63 - i % 64)) (w / 2 ^ 1 / 2 ^ (63 - i % 64)) → 64 < i % 64 + n → d' ≡ paste p i (digit w) 0 n
  stored_two x e f g h =
      g ∙ ap (λ (z : ℕ → Bool). blended z (i / 64 + 1) (x / 2 ^ 1 / 2 ^ (63 - i % 64)) (w / 2 ^ 1 / 2 ^ (63 - i % 64))) f
      ∙ ap (λ (y : ℕ). blended (blended p (i / 64) ((y * 2 ^ (i % 64)) % 2 ^ 64) ((w * 2 ^ (i % 64)) % 2 ^ 64)) (i / 64 + 1) (y / 2 ^ 1 / 2 ^ (63 - i % 64)) (w / 2 ^ 1 / 2 ^ (63 - i % 64))) e
      ∙ store_two h

-- ---- a range that is written piece by piece: after a bits, c more
pub paste_on : (p : ℕ → Bool) (to : ℕ) (q : ℕ → Bool) (from a c : ℕ) (g : ℕ → Bool) → ((i : ℕ) → i < c → g i ≡ q (from + a + i)) → {d d' : ℕ → Bool}
    → d ≡ paste p to q from a → d' ≡ paste d (to + a) g 0 c → d' ≡ paste p to q from (a + c)
paste_on p to q from a c g h e e' = e' ∙ ap (λ (z : ℕ → Bool). paste z (to + a) g 0 c) e ∙ fun_ext (λ j. by_number j (within to a j) (within (to + a) c j))
  where
    by_number : (j : ℕ) → Dec ((to ≤ j) × (j < to + a)) → Dec ((to + a ≤ j) × (j < to + a + c)) → paste (paste p to q from a) (to + a) g 0 c j ≡ paste p to q from (a + c) j
    by_number j u (yes v) =
        let k = v.0 in let l = v.1 in
        let x : from + a + (0 + (j - (to + a))) ≡ from + (j - to) = omega arith in
        paste_in (paste p to q from a) (to + a) g 0 c j k l ∙ h (0 + (j - (to + a))) (omega arith) ∙ ap q x ∙ sym (paste_in p to q from (a + c) j (omega arith) (omega arith))
    by_number j (yes u) (no v) =
        let k = u.0 in let l = u.1 in
        paste_out (paste p to q from a) (to + a) g 0 c j v ∙ paste_in p to q from a j k l ∙ sym (paste_in p to q from (a + c) j k (omega arith))
    by_number j (no u) (no v) =
        paste_out (paste p to q from a) (to + a) g 0 c j v ∙ paste_out p to q from a j u ∙ sym (paste_out p to q from (a + c) j (λ w. out w.0 w.1 (dec_lt j (to + a))))
      where
        out : to ≤ j → j < to + (a + c) → Dec (j < to + a) → ⊥
        out k l (yes x) = u (k, x)
        out k l (no x) = v (omega arith, omega arith)

-- where a range was clear, writing no bit there changes nothing
pub paste_clear : (p : ℕ → Bool) (to n : ℕ) (q : ℕ → Bool) → ((i : ℕ) → i < n → p (to + i) ≡ q i) → p ≡ paste p to q 0 n
paste_clear p to n q h = fun_ext (λ j. by_number j (within to n j))
  where
    by_number : (j : ℕ) → Dec ((to ≤ j) × (j < to + n)) → p j ≡ paste p to q 0 n j
    by_number j (yes v) =
        let k = v.0 in let l = v.1 in
        let x : j ≡ to + (0 + (j - to)) = omega arith in
        ap p x ∙ h (0 + (j - to)) (omega arith) ∙ sym (paste_in p to q 0 n j k l)
    by_number j (no v) = sym (paste_out p to q 0 n j v)

-- ---- opposites
pub turn_yes : (w k : ℕ) (f : Bool) → f ≡ true → w < 2 ^ 64 → k < 64 → digit ((2 ^ 64 - 1) - w) k ≡ turned f (digit w k)
unfolding turned
turn_yes w k f e h l = digit_not 64 w k h l ∙ ap (λ (b : Bool). cond b (not (digit w k)) (digit w k)) (sym e)

pub turn_no : (w k : ℕ) (f : Bool) → f ≡ false → digit w k ≡ turned f (digit w k)
unfolding turned
turn_no w k f e = ap (λ (b : Bool). cond b (not (digit w k)) (digit w k)) (sym e)

-- every digit of `!0`
pub full_digit : (k : ℕ) → k < 64 → digit (2 ^ 64 - 1) k ≡ true
full_digit k l = mask_digit 64 k ∙ lt-ltb k 64 l
