-- Windows, members and chains, bit by bit.
use Rattle.std.specs.Prelude.{ℕ, zero, suc, ◌+◌, ◌-◌, ◌*◌, ◌^◌, ◌<◌, ◌≤◌, ◌≡◌, refl, Bool, true, false, not, ◌&&◌, ◌||◌, eqb, ltb, get_or}
use Rattle.std.proofs.Math.Path.{sym, ap}
use Rattle.std.proofs.Common.{ap₂, subst, ◌∙◌, ⊎_elim, arith, mul-one, mul-zero, mul-le-mul, ltb→lt, lt→ltb, nltb→le, eqb-true, lt-ltb, le-ltb}
use Rattle.std.proofs.Math.Bool.{and-true, or-false}
use mathlib.Core.List.{List, [], ◌∷◌, map}
use Rattle.std.specs.Int.Bits.{bit_and, bit_or}
use Rattle.std.proofs.Math.Dec.{T}
use Rattle.std.proofs.lemmas.Bool.{eqb-false}
use Rattle.definitions.specs.Lists.{all, any, from, below, is_in, up_to}
use Rattle.laws.specs.Booleans.{and_T, T_and_l, T_and_r, T_of, T_true, T_false, T_ext, T_dec, or_assoc}
use Rattle.laws.specs.Lists.{any_of, any_none, any_end, any_start}
use Rattle.laws.specs.Members.{in_mem, mem_in, up_at, up_of}
use Rattle.bits.specs.Table.{digit, bit, turned, first, word}
use Rattle.bits.proofs.Digit.{digit_and, digit_or, digit_not, digit_of_zero}
use Rattle.bits.proofs.Shifts.{masked_digit}
use Rattle.bits.proofs.Cuts.{cut_whole}
use Rattle.bits.proofs.Firsts.{first_le, first_least, first_holds}
use Rattle.problem_table.specs.Lines.{members_in}
use Rattle.step_truth.specs.Nodes.{IsWord}

-- ---- one bit more
pub with_yes : (w m x k : ℕ) (b : Bool) → b ≡ true → digit m k ≡ eqb k x → digit (bit_or w m) k ≡ (digit w k || (eqb k x && b))
with_yes w m x k b e q = digit_or w m k ∙ ap (λ (t : Bool). digit w k || t) (q ∙ sym (ap (λ (t : Bool). eqb k x && t) e ∙ and-true (eqb k x)))

pub with_no : (w x k : ℕ) (b : Bool) → b ≡ false → digit w k ≡ (digit w k || (eqb k x && b))
with_no w x k b e = sym (ap (λ (t : Bool). digit w k || t) (ap (λ (t : Bool). eqb k x && t) e ∙ and_none (eqb k x)) ∙ or-false (digit w k))
  where
    and_none : (t : Bool) → (t && false) ≡ false
    and_none true = refl
    and_none false = refl

-- ---- bits that stand apart, gathered one by one
module _ (t : List ℕ) (start stride : ℕ) where
  abbrev apart : ℕ → Bool
  apart k = bit t (start + k * stride)

  pub gather_none : (k : ℕ) → digit 0 k ≡ (ltb k 0 && bit t (start + k * stride))
  gather_none k = digit_of_zero k ∙ sym (ap (λ (b : Bool). b && apart k) (le-ltb k 0 (omega arith)))

  pub gather_next : (w r x k : ℕ) (b : Bool) → digit w k ≡ (ltb k x && bit t (start + k * stride)) → b ≡ bit t (start + x * stride) → digit r k ≡ (digit w k || (eqb k x && b)) → digit r k ≡ (ltb k (x + 1) && bit t (start + k * stride))
  gather_next w r x k b i e q = q ∙ by_test (eqb k x) refl
    where
      below_it : k < x + 1 → (k ≡ x → ⊥) → k < x
      below_it h s = omega arith

      by_test : (c : Bool) → eqb k x ≡ c → (digit w k || (c && b)) ≡ (ltb k (x + 1) && apart k)
      by_test true o = let s = eqb-true k x o in rw (i, lt-ltb k (x + 1) (omega arith), le-ltb k x (omega arith)) (e ∙ ap apart (sym s))
      by_test false o =
          let s = eqb-false k x o in
          or-false (digit w k) ∙ i
          ∙ ap (λ (c : Bool). c && apart k) (T_ext (ltb k x) (ltb k (x + 1)) (λ h. lt→ltb k (x + 1) (omega (arith, ltb→lt k x h))) (λ h. lt→ltb k x (below_it (ltb→lt k (x + 1) h) s)))

  pub gather_all : (w n x k : ℕ) → k < n → n ≤ x → digit w k ≡ (ltb k x && bit t (start + k * stride)) → digit w k ≡ bit t (start + k * stride)
  gather_all w n x k h l e = e ∙ ap (λ (b : Bool). b && apart k) (lt-ltb k x (omega arith))

-- the last of the bits is not far
pub far : (x stride : ℕ) → x ≤ 64 → stride ≤ 2 ^ 32 → x * stride ≤ 64 * 2 ^ 32
far x stride a b = mul-le-mul a b

-- ---- a window: side by side; one bit for all
pub window_one : (t : List ℕ) (start stride n r x : ℕ) → stride ≡ 1 → r ≡ word (λ k. ltb k n && bit t (start + k)) 64 → n ≤ 64 → x < n → digit r x ≡ bit t (start + x * stride)
window_one t start stride n r x e q h l =
    ap (λ (w : ℕ). digit w x) q ∙ cut_whole t start n x l (omega arith) ∙ ap (λ (y : ℕ). bit t (start + y)) (sym (ap (λ (s : ℕ). x * s) e ∙ mul-one x))

pub window_none : (t : List ℕ) (start stride n r x : ℕ) (b : Bool) → stride ≡ 0 → b ≡ bit t start → ((k : ℕ) → k < 64 → digit r k ≡ turned b (digit 0 k)) → n ≤ 64 → x < n → digit r x ≡ bit t (start + x * stride)
unfolding turned
window_none t start stride n r x b e q d h l =
    d x (omega arith) ∙ ap (turned b) (digit_of_zero x) ∙ by_bit b ∙ q ∙ ap (bit t) (same (ap (λ (s : ℕ). x * s) e ∙ mul-zero x))
  where
    by_bit : (c : Bool) → turned c false ≡ c
    by_bit true = refl
    by_bit false = refl

    same : x * stride ≡ 0 → start ≡ start + x * stride
    same z = omega arith

-- ---- one of several, word by word
any_cons : (g : ℕ → Bool) (i k : ℕ) → i < k → any g (from i (k - i)) ≡ (g i || any g (from (i + 1) (k - (i + 1))))
unfolding any from
any_cons g i k h = let m : k - i ≡ suc (k - (i + 1)) = omega arith in let n : i + 1 ≡ suc i = omega arith in rw (m, n)

pub some_none : (g : ℕ → Bool) (x k : ℕ) → (digit 0 x || any g (from 0 (k - 0))) ≡ any g (from zero k)
unfolding below
some_none g x k = ap (λ (t : Bool). t || any g (from 0 (k - 0))) (digit_of_zero x) ∙ sym (any_start g k)

pub some_next : (g : ℕ → Bool) (a t i k x : ℕ) (whole : Bool) → i < k → digit t x ≡ g i → (digit a x || any g (from i (k - i))) ≡ whole → (digit (bit_or a t) x || any g (from (i + 1) (k - (i + 1)))) ≡ whole
some_next g a t i k x whole h e q =
    ap (λ (b : Bool). b || any g (from (i + 1) (k - (i + 1)))) (digit_or a t x) ∙ or_assoc (digit a x) (digit t x) (any g (from (i + 1) (k - (i + 1))))
    ∙ ap (λ (b : Bool). digit a x || b) (ap (λ (b : Bool). b || any g (from (i + 1) (k - (i + 1)))) e ∙ sym (any_cons g i k h)) ∙ q

pub some_all : (g : ℕ → Bool) (a i k x : ℕ) (whole : Bool) → k ≤ i → (digit a x || any g (from i (k - i))) ≡ whole → digit a x ≡ whole
some_all g a i k x whole h q = sym (ap (λ (b : Bool). digit a x || b) (any_end g k i h) ∙ or-false (digit a x)) ∙ q

-- ---- the members of a range of the table
any_map : (f : ℕ → Bool) (g : ℕ → ℕ) (l : List ℕ) → any f (map g l) ≡ any (λ i. f (g i)) l
unfolding any
any_map f g [] = refl
any_map f g (x ∷ l) = ap (λ (b : Bool). f (g x) || b) (any_map f g l)

pub members_any : (t : List ℕ) (a k z : ℕ) → any (λ i. eqb z (get_or t (a + i) 0)) (from zero k) ≡ is_in z (members_in t a k)
unfolding is_in members_in below
members_any t a k z = sym (any_map (eqb z) (λ i. get_or t (a + i) 0) (from zero k))

-- ---- members up to the first that fails
pub lowest_few : (w k : ℕ) → k ≡ first (digit w) 64 → k ≤ 64
lowest_few w k e = omega (arith, first_le (digit w) 64)

module _ (w m : ℕ) (fits : w < 2 ^ 64) (ms : List ℕ) (I : IsWord m ms) where
  abbrev failed : ℕ
  failed = bit_and m ((2 ^ 64 - 1) - w)

  failed_at : (k : ℕ) → k < 64 → digit (bit_and m ((2 ^ 64 - 1) - w)) k ≡ (is_in k ms && not (digit w k))
  failed_at k h = digit_and m ((2 ^ 64 - 1) - w) k ∙ ap₂ ◌&&◌ (I.0 k h) (digit_not 64 w k fits h)

  none_failed : (b : Bool) → (true && not b) ≡ false → T b
  none_failed true e = tt
  none_failed false e = absurd (subst T e tt)

  one_failed : (a b : Bool) → (a && not b) ≡ true → T a × (T b → ⊥)
  one_failed true true e = absurd (subst T (sym e) tt)
  one_failed true false e = (tt, λ t. t)
  one_failed false b e = absurd (subst T (sym e) tt)

  module _ (z : ℕ) (h : z < 64) where
    up : z < first (digit failed) 64 → T (all (digit w) (up_to ms z))
    up l = up_of (digit w) ms z (λ y i k.
        let b = first_le (digit failed) 64 in
        none_failed (digit w y) (ap (λ (t : Bool). t && not (digit w y)) (sym (T_true (is_in y ms) (mem_in y ms i))) ∙ sym (failed_at y (I.1 y i)) ∙ first_least (digit failed) 64 y (omega arith)))

    down : T (all (digit w) (up_to ms z)) → z < first (digit failed) 64
    down t = ⊎_elim (λ l. ltb→lt z (first (digit failed) 64) l) (λ l. absurd (late (nltb→le z (first (digit failed) 64) l))) (T_dec (ltb z (first (digit failed) 64)))
      where
        late : first (digit failed) 64 ≤ z → ⊥
        late l =
            let k = first (digit failed) 64 in
            let q = one_failed (is_in k ms) (digit w k) (sym (failed_at k (omega arith)) ∙ first_holds (digit failed) 64 (omega arith)) in
            q.1 (up_at (digit w) ms z t k (in_mem k ms q.0) l)

  pub chain_is : (k x r z : ℕ) → k ≡ first (digit (bit_and m ((2 ^ 64 - 1) - w))) 64 → x ≡ 2 ^ k - 1 → r ≡ bit_and m x → z < 64 → digit r z ≡ (is_in z ms && all (digit w) (up_to ms z))
  chain_is k x r z e a b h =
      ap (λ (y : ℕ). digit y z) (b ∙ ap (bit_and m) a) ∙ masked_digit m k z ∙ ap (λ (t : Bool). t && ltb z k) (I.0 z h) ∙ ap (λ (t : Bool). is_in z ms && t)
      (T_ext (ltb z k) (all (digit w) (up_to ms z)) (λ t. up z h (subst (λ (y : ℕ). z < y) e (ltb→lt z k t))) (λ t. lt→ltb z k (subst (λ (y : ℕ). z < y) (sym e) (down z h t))))

-- ---- a member in a word
module _ (w m : ℕ) (ms : List ℕ) (I : IsWord m ms) (k : ℕ) (e : k ≡ first (digit (bit_and w m)) 64) where
  pub meets_yes : k < 64 → digit 1 0 ≡ any (digit w) ms
  unfolding digit
  meets_yes h =
      let q : T (digit w k && digit m k) = T_of (sym (digit_and w m k) ∙ ap (digit (bit_and w m)) e ∙ first_holds (digit (bit_and w m)) 64 (subst (λ (y : ℕ). y < 64) e h)) in
      sym (T_true (any (digit w) ms) (any_of (digit w) ms k (in_mem k ms (subst T (I.0 k h) (T_and_r (digit w k) _ q))) (T_and_l (digit w k) _ q)))

  pub meets_no : 64 ≤ k → digit 0 0 ≡ any (digit w) ms
  meets_no h = digit_of_zero 0 ∙ sym (any_none (digit w) ms (λ y i.
      T_false (digit w y) (λ t. subst T (sym (digit_and w m y) ∙ first_least (digit (bit_and w m)) 64 y (subst (λ (z : ℕ). y < z) e (omega (arith, I.1 y i))))
      (and_T (digit w y) (digit m y) t (subst T (sym (I.0 y (I.1 y i))) (mem_in y ms i))))))
