-- The search over runs of numbers: what runs that cannot hold a solution add, and what is known where it ends.
use Rattle.std.specs.Prelude.{ℕ, ◌+◌, ◌-◌, ◌*◌, ◌/◌, ◌%◌, ◌^◌, ◌<◌, ◌≤◌, ◌≡◌, Bool, List}
use Rattle.std.proofs.Math.Path.{refl, ap}
use Rattle.std.proofs.Common.{sym, subst, ◌∙◌, arith, div-add-mod', le-div_iff_mul-le, div-lt_iff_lt-mul, pow_pos}
use Rattle.std.proofs.Math.Bool.{true, false}
use Rattle.std.proofs.Math.Option.{none, some}
use Rattle.std.proofs.Math.Nat.{mod-lt, mod-add-div'}
use borrow.Author.Tests.{ltb-true, ltb-false}
use Rattle.std.proofs.Math.Dec.{ltb}
use Rattle.std.proofs.Math.ListN.{length}
use Rattle.definitions.specs.Lists.{below}
use Rattle.definitions.specs.Sheet.Relations.{Tuple}
use Rattle.definitions.specs.Problem.Truth.{Case}
use Rattle.definitions.specs.Reply.Finding.{numbered, meets, least_number}
use Rattle.laws.specs.Booleans.{T_of}
use Rattle.laws.specs.Lists.{any_none, below_lt, get_or_below, length_below}
use Rattle.laws.specs.Positions.{position_at, position_none}
use Rattle.meaning.specs.Cells.{numbered_high}
use Rattle.eval_search.specs.Blocks.{NoneIn}

-- no smaller number's picks meet the rule
abbrev pub NoneBelow : Case → List Tuple → ℕ → Type 0
NoneBelow c ts x = (y : ℕ) → y < x → meets c (numbered ts y) ≡ false

module _ (c : Case) (ts : List Tuple) where
  pub none_yet : NoneBelow c ts 0
  none_yet y h = absurd (omega arith)

  -- runs in which there is none, one after another: a number before their end is before their start or in one of them
  pub skip_runs : (a i k s : ℕ) → i ≤ k → NoneBelow c ts ((a + i) * 2 ^ s) → ((j : ℕ) → i ≤ j → j < k → NoneIn c ts (a + j) s) → NoneBelow c ts ((a + k) * 2 ^ s)
  skip_runs a i k s o before inside y h = by_test (ltb y ((a + i) * 2 ^ s)) refl
    where
      by_test : (b : Bool) → ltb y ((a + i) * 2 ^ s) ≡ b → meets c (numbered ts y) ≡ false
      by_test true e = before y (ltb-true y ((a + i) * 2 ^ s) e)
      by_test false e =
          let k' = ltb-false y ((a + i) * 2 ^ s) e in
          let d : y / 2 ^ s * 2 ^ s + y % 2 ^ s ≡ y = div-add-mod' y (2 ^ s) in
          let l : y % 2 ^ s < 2 ^ s = mod-lt y (pow_pos s) in
          let low : a + i ≤ y / 2 ^ s = (le-div_iff_mul-le (pow_pos s)).1 k' in
          let high : y / 2 ^ s < a + k = (div-lt_iff_lt-mul (pow_pos s)).1 h in
          let e' : a + (y / 2 ^ s - a) ≡ y / 2 ^ s = omega arith in
          ap (λ (z : ℕ). meets c (numbered ts z)) (sym d ∙ ap (λ (z : ℕ). z * 2 ^ s + y % 2 ^ s) (sym e')) ∙ inside (y / 2 ^ s - a) (omega arith) (omega arith) (y % 2 ^ s) l

  -- ---- where it ends: the first number that meets the rule is the least, and it is one of the cells' own
  own_low : (x : ℕ) → numbered ts (x % 2 ^ length ts) ≡ numbered ts x
  own_low x = sym (numbered_high ts (x / 2 ^ length ts) (x % 2 ^ length ts)) ∙ ap (numbered ts) (mod-add-div' x (2 ^ length ts))

  pub least_is : (x : ℕ) → NoneBelow c ts x → meets c (numbered ts x) ≡ true → least_number c ts ≡ some x
  unfolding least_number
  least_is x before t = position_at (λ m. meets c (numbered ts m)) (below (2 ^ length ts)) 0 x
      (subst (λ (k : ℕ). x < k) (sym (length_below (2 ^ length ts))) inside)
      (ap (λ (m : ℕ). meets c (numbered ts m)) (get_or_below (2 ^ length ts) x inside) ∙ t)
      (λ j h. ap (λ (m : ℕ). meets c (numbered ts m)) (get_or_below (2 ^ length ts) j (omega (arith, inside))) ∙ before j h)
    where
      inside : x < 2 ^ length ts
      inside = by_test (ltb x (2 ^ length ts)) refl
        where
          by_test : (b : Bool) → ltb x (2 ^ length ts) ≡ b → x < 2 ^ length ts
          by_test true e = ltb-true x (2 ^ length ts) e
          by_test false e =
              let k = ltb-false x (2 ^ length ts) e in
              let l = mod-lt x (pow_pos (length ts)) in
              absurd (T_of (sym (before (x % 2 ^ length ts) (omega arith)) ∙ ap (meets c) (own_low x) ∙ t))

  pub none_is : (x : ℕ) → 2 ^ length ts ≤ x → NoneBelow c ts x → least_number c ts ≡ none
  unfolding least_number
  none_is x h before = position_none (λ m. meets c (numbered ts m)) (below (2 ^ length ts)) (any_none (λ m. meets c (numbered ts m)) (below (2 ^ length ts)) (λ y i. let l = below_lt (2 ^ length ts) y i in before y (omega arith)))
