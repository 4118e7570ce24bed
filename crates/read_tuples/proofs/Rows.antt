-- Rows of elements, one place at a time and for any number of places; the powers of at most 64 elements.
use Rattle.std.specs.Prelude.{Some, None}
use Rattle.std.specs.Prelude as P
use Prim.Native.Nat.{ℕ, suc, ◌+◌, ◌*◌, ◌^◌, ◌≤◌, ◌<◌}
use mathlib.Core.Path.{◌≡◌, refl, sym, ap₂, subst, ◌∙◌}
use mathlib.Core.Bool.{true, ◌&&◌, and-true, and-false, and_assoc}
use mathlib.Core.List.{List, [], ◌∷◌, ◌++◌}
use native.Mathlib.Nat.{pow-suc, pow-zero, pow-le-pow_left, pow-le-pow_right, le_trans, mul-le-mul, mul-one, mul_assoc, add-mul}
use native.Mathlib.Decide.{dec_lt}
use native.Mathlib.Omega.{arith}
use lib.Dec.{ltb}
use lib.ListN.{length, length-append}
use borrow.Author.Tests.{lt-ltb, le-ltb}
use Rattle.definitions.specs.Lists.{all}
use Rattle.definitions.specs.Problem.Atoms.{row_of, places_of}
use Rattle.laws.specs.Booleans.{T_of}
use Rattle.laws.specs.Rows as R
use Rattle.read_line.specs.Entries.{codes_of}
use Rattle.read_line.specs.declared.Places.{Places}
use Rattle.read_line.specs.declared.Places.TheVariants.{One, Two, Three}
use Rattle.read_tuples.specs.Marks.{are_below, InRow, RowBelow}

-- ---- rows of elements

pub row_lt : (n : ℕ) (xs : List ℕ) → are_below n xs ≡ true → row_of n xs < n ^ length xs
unfolding are_below
row_lt n xs p = R.row_lt n xs (T_of p)

pub row_same : (n : ℕ) (xs ys : List ℕ) → are_below n xs ≡ true → are_below n ys ≡ true → length xs ≡ length ys → row_of n xs ≡ row_of n ys → xs ≡ ys
unfolding are_below
row_same n xs ys p q l e = from_this (dec_lt 0 n)
  where
    none : (zs : List ℕ) → all (λ x. ltb x n) zs ≡ true → n ≡ 0 → zs ≡ []
    none [] r z = refl
    none (y ∷ zs) r z = absurd (omega (arith, (R.below_cons n y zs (T_of r)).0))

    from_this : Dec (0 < n) → xs ≡ ys
    from_this (yes h) = sym (R.places_row n xs h (T_of p)) ∙ ap₂ (places_of n) l e ∙ R.places_row n ys h (T_of q)
    from_this (no h) = none xs p (omega arith) ∙ sym (none ys q (omega arith))

-- ---- one place more

row_snoc : (n : ℕ) (xs : List ℕ) (x : ℕ) → row_of n xs * n + x ≡ row_of n (xs ++ (x ∷ []))
unfolding row_of
row_snoc n [] x = let z : n ^ 0 ≡ 1 = pow-zero n in rw (z, mul-one x) (omega arith)
row_snoc n (y ∷ xs) x =
    let l : length (xs ++ (x ∷ [])) ≡ suc (length xs) = length-append xs (x ∷ []) ∙ (omega arith) in
    rw (l, pow-suc n (length xs), ← row_snoc n xs x) (omega (arith, add-mul (y * n ^ length xs) (row_of n xs) n, mul_assoc y (n ^ length xs) n))

below_snoc : (n : ℕ) (xs : List ℕ) (x : ℕ) → are_below n (xs ++ (x ∷ [])) ≡ (are_below n xs && ltb x n)
unfolding are_below all
below_snoc n [] x = and-true (ltb x n)
below_snoc n (y ∷ xs) x = rw (below_snoc n xs x) (sym (and_assoc (ltb y n) (are_below n xs) (ltb x n)))

module _ (n : ℕ) (f : P.Option ℕ) (x : ℕ) (xs : List ℕ) (w : InRow n xs f) where
  pub more_outside : f ≡ None → InRow n (xs ++ (x ∷ [])) None
  unfolding InRow
  more_outside e = below_snoc n xs x ∙ rw (subst (λ (f : P.Option ℕ). InRow n xs f) e w)

  pub more_above : n ≤ x → InRow n (xs ++ (x ∷ [])) None
  unfolding InRow
  more_above h = below_snoc n xs x ∙ rw (le-ltb x n h) (and-false (are_below n xs))

  pub more_inside : (row : ℕ) → f ≡ Some row → x < n → InRow n (xs ++ (x ∷ [])) (Some (row * n + x))
  unfolding InRow
  more_inside row e h =
      let v = subst (λ (f : P.Option ℕ). InRow n xs f) e w in
      (below_snoc n xs x ∙ rw (v.0, lt-ltb x n h), rw v.1 (row_snoc n xs x))

pub row_none : (n : ℕ) → InRow n [] (Some 0)
unfolding InRow are_below all row_of
row_none n = (refl, refl)

-- ---- sizes

pub power_le : (n k : ℕ) → n ≤ 64 → k ≤ 3 → n ^ k ≤ 262144
power_le n k h l = le_trans (pow-le-pow_left h k) (pow-le-pow_right {n = 64} (omega arith) l)

pub row_power : (n : ℕ) (xs : List ℕ) (b : ℕ) (f : P.Option ℕ) → f ≡ Some b → InRow n xs f → b < n ^ length xs
unfolding InRow
row_power n xs b f e w = let v = subst (λ (f : P.Option ℕ). InRow n xs f) e w in rw v.1 (row_lt n xs v.0)

pub row_small : (n : ℕ) (xs : List ℕ) (f : P.Option ℕ) → InRow n xs f → n ≤ 64 → length xs ≤ 2 → RowBelow 4096 f
unfolding RowBelow
row_small n xs None w h l = tt
row_small n xs (Some b) w h l =
    let e : n ^ length xs ≤ 4096 = le_trans (pow-le-pow_left h (length xs)) (pow-le-pow_right {n = 64} (omega arith) l) in
    omega (arith, row_power n xs b (Some b) refl w)

pub small_row : (k b : ℕ) (f : P.Option ℕ) → f ≡ Some b → RowBelow k f → b < k
unfolding RowBelow
small_row k b f e w = subst (λ (f : P.Option ℕ). RowBelow k f) e w

pub small_times : (b n : ℕ) → b < 4096 → n ≤ 64 → b * n ≤ 262144
small_times b n h k = mul-le-mul {n₂ = 4096} (omega arith) k

pub no_row : RowBelow 4096 (Some 0)
unfolding RowBelow
no_row = omega arith

-- ---- the elements of a line

module _ (n : ℕ) (p : Places) where
  pub places_1 : (x : ℕ) (f : P.Option ℕ) → p ≡ One x → InRow n (x ∷ []) f → InRow n (codes_of p) f
  unfolding codes_of
  places_1 x f e w = rw e w

  pub places_2 : (x y : ℕ) (f : P.Option ℕ) → p ≡ Two x y → InRow n (x ∷ y ∷ []) f → InRow n (codes_of p) f
  unfolding codes_of
  places_2 x y f e w = rw e w

  pub places_3 : (x y z : ℕ) (f : P.Option ℕ) → p ≡ Three x y z → InRow n (x ∷ y ∷ z ∷ []) f → InRow n (codes_of p) f
  unfolding codes_of
  places_3 x y z f e w = rw e w
