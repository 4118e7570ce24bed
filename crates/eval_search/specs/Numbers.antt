-- Digit d of sixty-four numbers in a row, as a word.
use Rattle.std.specs.Prelude.{ℕ, zero, suc, ◌+◌, ◌-◌, ◌*◌, ◌/◌, ◌^◌, ◌<◌, ◌≤◌, ◌≡◌, Bool, true, false, T, eqb}
use Rattle.std.proofs.Math.Path.{refl}
use Rattle.std.proofs.Common.{sym, ap, ◌∙◌, arith}
use Rattle.std.specs.Int.Bits.{bit_and}
use Rattle.definitions.specs.Lists.{all, from, below}
use Rattle.bits.specs.Table.{digit}
use Rattle.bits.proofs.Digit.{test_one}
use Rattle.eval_rule.specs.Lines.{agree}
use Rattle.laws.specs.Booleans.{T_of}
use Rattle.laws.specs.Lists.{all_at, mem_below}
use Rattle.eval_valuations.specs.Words.{spread_of}
use Rattle.eval_valuations.specs.Laws.{spread_digit}
use Rattle.eval_search.specs.Digits.{digit_high, digit_low}

unfoldable pub pattern_of : ℕ → ℕ
pattern_of zero = 12297829382473034410
pattern_of (suc zero) = 14757395258967641292
pattern_of (suc (suc zero)) = 17361641481138401520
pattern_of (suc (suc (suc zero))) = 18374966859414961920
pattern_of (suc (suc (suc (suc zero)))) = 18446462603027742720
pattern_of (suc (suc (suc (suc (suc d))))) = 18446744069414584320

agrees : ℕ → ℕ → Bool
agrees d j = agree (digit (pattern_of d) j) (digit j d)

all_agree : all (λ d. all (agrees d) (below 64)) (below 6) ≡ true
unfolding all below from agree digit pattern_of agrees
all_agree = refl

same_of : (a b : Bool) → T (agree a b) → a ≡ b
unfolding agree
same_of true true t = refl
same_of true false t = absurd t
same_of false true t = absurd t
same_of false false t = refl

pattern_digit : (d j : ℕ) → d < 6 → j < 64 → digit (pattern_of d) j ≡ digit j d
unfolding agrees
pattern_digit d j h l = same_of _ _ (all_at (agrees d) (below 64) (all_at (λ d. all (agrees d) (below 64)) (below 6) (T_of all_agree) d (mem_below 6 d h)) j (mem_below 64 j l))

pub low_word : (top d w : ℕ) → d < 6 → w ≡ pattern_of d → (j : ℕ) → j < 64 → digit w j ≡ digit (top * 2 ^ 6 + j) d
low_word top d w h e j l =
    let s : 6 ≡ d + suc (5 - d) = omega arith in
    ap (λ (x : ℕ). digit x j) e ∙ pattern_digit d j h l ∙ sym (digit_low top j d (5 - d)) ∙ ap (λ (k : ℕ). digit (top * 2 ^ k + j) d) (sym s)

pub high_word : (top d w : ℕ) → 6 ≤ d → (b : Bool) → b ≡ eqb (bit_and (top / 2 ^ (d - 6)) 1) 1 → w ≡ spread_of b → (j : ℕ) → j < 64 → digit w j ≡ digit (top * 2 ^ 6 + j) d
high_word top d w h b f e j l =
    let s : 6 + (d - 6) ≡ d = omega arith in
    ap (λ (x : ℕ). digit x j) e ∙ spread_digit b j l ∙ f ∙ test_one top (d - 6) ∙ sym (digit_high top j 6 (d - 6) l) ∙ ap (digit (top * 2 ^ 6 + j)) s

module _ (d : ℕ) where
  pub is_0 : d ≡ 0 → 12297829382473034410 ≡ pattern_of d
  unfolding pattern_of
  is_0 e = rw e refl

  pub is_1 : d ≡ 1 → 14757395258967641292 ≡ pattern_of d
  unfolding pattern_of
  is_1 e = rw e refl

  pub is_2 : d ≡ 2 → 17361641481138401520 ≡ pattern_of d
  unfolding pattern_of
  is_2 e = rw e refl

  pub is_3 : d ≡ 3 → 18374966859414961920 ≡ pattern_of d
  unfolding pattern_of
  is_3 e = rw e refl

  pub is_4 : d ≡ 4 → 18446462603027742720 ≡ pattern_of d
  unfolding pattern_of
  is_4 e = rw e refl

  pub is_5 : d ≡ 5 → 18446744069414584320 ≡ pattern_of d
  unfolding pattern_of
  is_5 e = rw e refl
