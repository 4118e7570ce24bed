-- Sixty-four runs of numbers side by side, lane by lane: the least number of a run, and the greatest.
use Prim.Native.Nat.{ℕ, suc, ◌+◌, ◌-◌, ◌*◌, ◌^◌, ◌<◌, ◌≤◌}
use Rattle.std.specs.Prelude.{◌≡◌, refl, Bool, false, not, ◌&&◌, ltb}
use Rattle.std.proofs.Math.Path.{sym, ap}
use Rattle.std.proofs.Common.{◌∙◌, pow_pos, pow_mono, le-ltb, ltb-true, ltb-false}
use Rattle.std.proofs.Math.Bool.{true}
use native.Mathlib.Omega.{arith}
use Rattle.std.specs.Int.Bits.{bit_and}
use Rattle.std.proofs.Math.Pow.{ones_lt}
use Rattle.bits.specs.Table.{digit, first}
use Rattle.bits.proofs.Digit.{digit_and, digit_not, digit_of_zero}
use Rattle.bits.proofs.Firsts.{first_le, first_least, first_holds}
use Rattle.bits.proofs.Shifts.{mask_digit}
use Rattle.laws.specs.Booleans.{T_of, and_both}
use Rattle.eval_rule.specs.Lines.{agree}
use Rattle.eval_valuations.specs.Words.{full, spread_of, Turned}
use Rattle.eval_valuations.specs.Laws.{spread_digit}
use Rattle.eval_search.specs.Digits.{digit_high, digit_low}

-- what the greatest number of a run has more than the least
unfoldable pub rest_of : Bool → ℕ → ℕ
rest_of true low = 2 ^ low - 1
rest_of false low = 0

-- run j of those that `top` counts, each of 2 ^ low numbers: the greatest number, or the least
abbrev pub number_in : (top low : ℕ) → Bool → ℕ → ℕ
number_in top low keeps j = (top * 2 ^ 6 + j) * 2 ^ low + rest_of keeps low

rest_lt : (keeps : Bool) (low : ℕ) → rest_of keeps low < 2 ^ low
unfolding rest_of
rest_lt true low = ones_lt low
rest_lt false low = pow_pos low

rest_agrees : (keeps : Bool) (d f : ℕ) → agree (digit (rest_of keeps (d + suc f)) d) keeps ≡ true
unfolding rest_of agree
rest_agrees true d f =
    let s : 2 ^ (d + suc f) - 1 ≡ (2 ^ (d + suc f) - 1) - 0 = omega arith in
    ap (λ (b : Bool). agree b true) (ap (λ (y : ℕ). digit y d) s ∙ digit_not (d + suc f) 0 d (pow_pos (d + suc f)) (omega arith) ∙ ap not (digit_of_zero d))
rest_agrees false d f = ap (λ (b : Bool). agree b false) (digit_of_zero d)

module _ (top low d : ℕ) (keeps : Bool) where
  -- below the runs' own digits each is open
  pub lane_open : d < low → (j : ℕ) → j < 64 → digit full j ≡ agree (digit (number_in top low keeps j) d) keeps
  unfolding spread_of
  lane_open h j l =
      let e : low ≡ d + suc (low - d - 1) = omega arith in
      spread_digit true j l ∙ sym (rest_agrees keeps d (low - d - 1))
      ∙ ap (λ (b : Bool). agree b keeps) (sym (digit_low (top * 2 ^ 6 + j) (rest_of keeps (d + suc (low - d - 1))) d (low - d - 1)) ∙ ap (λ (x : ℕ). digit ((top * 2 ^ 6 + j) * 2 ^ x + rest_of keeps x) d) (sym e))

  -- from there on it is the lane's
  pub lane_digit : low ≤ d → (w r : ℕ) → ((j : ℕ) → j < 64 → digit w j ≡ digit (top * 2 ^ 6 + j) (d - low)) → Turned w keeps r → (j : ℕ) → j < 64 → digit r j ≡ agree (digit (number_in top low keeps j) d) keeps
  lane_digit h w r is t j l =
      let e : low + (d - low) ≡ d = omega arith in
      t j l ∙ ap (λ (b : Bool). agree b keeps) (is j l ∙ sym (digit_high (top * 2 ^ 6 + j) (rest_of keeps low) low (d - low) (rest_lt keeps low)) ∙ ap (digit (number_in top low keeps j)) e)

-- the first lane from `from` on that is set, or 64
pub record NextLane (w from r : ℕ) : Type 0 where
  pub from_there : from ≤ r
  pub most : r ≤ 64
  pub out : (j : ℕ) → from ≤ j → j < r → digit w j ≡ false
  pub is_set : r < 64 → digit w r ≡ true

and_true : (b : Bool) → (b && not false) ≡ b
and_true true = refl
and_true false = refl

and_false : (b : Bool) → (b && not true) ≡ false
and_false true = refl
and_false false = refl

module _ (w from m r : ℕ) (h : from ≤ 64) (e : m ≡ 2 ^ from - 1) (is : r ≡ first (digit (bit_and w ((2 ^ 64 - 1) - m))) 64) where
  abbrev rest : ℕ
  rest = bit_and w ((2 ^ 64 - 1) - m)

  masked : (j : ℕ) → j < 64 → digit rest j ≡ (digit w j && not (ltb j from))
  masked j l =
      let b : m < 2 ^ 64 = let p = pow_mono {i = from} {j = 64} h in let q = pow_pos from in omega arith in
      digit_and w ((2 ^ 64 - 1) - m) j ∙ ap (λ (y : Bool). digit w j && y) (digit_not 64 m j b l ∙ ap not (ap (λ (y : ℕ). digit y j) e ∙ mask_digit from j))

  set : r < 64 → digit rest r ≡ true
  set l = ap (digit rest) is ∙ first_holds (digit rest) 64 (omega (arith, is))

  from_on : (b : Bool) → ltb r from ≡ b → from ≤ r
  from_on false q = ltb-false r from q
  from_on true q =
      let l : r < 64 = let a = ltb-true r from q in omega arith in
      absurd (T_of (sym (ap (λ (y : Bool). digit w r && not y) q ∙ and_false (digit w r)) ∙ sym (masked r l) ∙ set l))

  pub next_lane : NextLane w from r
  next_lane = let few : r ≤ 64 = omega (arith, is, first_le (digit rest) 64) in
      record {
        from_there = from_on (ltb r from) refl;
        most = few;
        out = λ j a b. sym (ap (λ (x : Bool). digit w j && not x) (le-ltb j from a) ∙ and_true (digit w j)) ∙ sym (masked j (omega (arith, few))) ∙ first_least (digit rest) 64 j (omega (arith, is));
        is_set = λ l. (and_both (digit w r) _ (sym (masked r l) ∙ set l)).0;
      }
