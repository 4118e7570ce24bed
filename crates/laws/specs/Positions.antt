-- The first element that passes a test: its place is what `position` finds, and nothing before it passes.
use Prim.Native.Nat.{ℕ, zero, suc, ◌<◌}
use Rattle.std.specs.Prelude.{◌≡◌, ◌⊎◌, Bool, not, ◌||◌, get_or, if◌then◌else◌}
use Rattle.std.proofs.Math.Path.{refl, ap}
use Rattle.std.proofs.Common.{sym, subst, ◌∙◌}
use Rattle.std.proofs.Math.Logic.{inl, inr, ⊎_elim}
use Rattle.std.proofs.Math.Bool.{true, false}
use Rattle.std.proofs.Math.Option.{none, some}
use mathlib.Core.List.{List, [], ◌∷◌, ◌++◌}
use native.Mathlib.Omega.{arith}
use Rattle.std.proofs.Math.Dec.{T}
use Rattle.std.proofs.Math.ListN.{length}
use Rattle.definitions.specs.Lists.{all, any, option, position}
use Rattle.definitions.specs.Problem.Built.{least}
use Rattle.laws.specs.Booleans.{T_or, or_l, or_r, T_of, T_true, T_false}
use Rattle.laws.specs.Lists.{none_some, some_eq}

unfoldable pub place : {A : Type 0} → (A → Bool) → List A → ℕ
place p [] = zero
place p (x ∷ xs) = if p x then zero else suc (place p xs)

module _ {A : Type 0} (p : A → Bool) where
  pub position_place : (xs : List A) → T (any p xs) → position p xs ≡ some (place p xs)
  unfolding any position place option
  position_place [] t = absurd t
  position_place (x ∷ xs) t = by_test (p x) t (position_place xs)
    where
      by_test : (b : Bool) → T (b || any p xs) → (T (any p xs) → position p xs ≡ some (place p xs)) → (if b then some zero else option (position p xs) none (λ i. some (suc i))) ≡ some (if b then zero else suc (place p xs))
      by_test true t r = refl
      by_test false t r = rw (r t) refl

  pub place_lt : (xs : List A) → T (any p xs) → place p xs < length xs
  unfolding any place
  place_lt [] t = absurd t
  place_lt (x ∷ xs) t = by_test (p x) t (place_lt xs)
    where
      by_test : (b : Bool) → T (b || any p xs) → (T (any p xs) → place p xs < length xs) → (if b then zero else suc (place p xs)) < suc (length xs)
      by_test true t r = omega arith
      by_test false t r = let q = r t in omega arith

  pub place_left : (xs ys : List A) → T (any p xs) → place p (xs ++ ys) ≡ place p xs
  unfolding any place
  place_left [] ys t = absurd t
  place_left (x ∷ xs) ys t = by_test (p x) t (place_left xs ys)
    where
      by_test : (b : Bool) → T (b || any p xs) → (T (any p xs) → place p (xs ++ ys) ≡ place p xs) → (if b then zero else suc (place p (xs ++ ys))) ≡ (if b then zero else suc (place p xs))
      by_test true t r = refl
      by_test false t r = ap suc (r t)

  pub place_new : (xs : List A) (v : A) → any p xs ≡ false → T (p v) → place p (xs ++ (v ∷ [])) ≡ length xs
  unfolding any place
  place_new [] v e t = let q : p v ≡ true = T_true (p v) t in rw q refl
  place_new (x ∷ xs) v e t = by_test (p x) e (λ q. place_new xs v q t)
    where
      by_test : (b : Bool) → (b || any p xs) ≡ false → (any p xs ≡ false → place p (xs ++ (v ∷ [])) ≡ length xs) → (if b then zero else suc (place p (xs ++ (v ∷ [])))) ≡ suc (length xs)
      by_test true e r = absurd (subst T e tt)
      by_test false e r = ap suc (r e)

  pub any_snoc : (xs : List A) (v : A) → T (any p (xs ++ (v ∷ []))) → T (any p xs) ⊎ T (p v)
  unfolding any
  any_snoc [] v t = ⊎_elim (λ q. inr q) (λ q. absurd q) (T_or (p v) false t)
  any_snoc (x ∷ xs) v t = ⊎_elim (λ q. inl (or_l (p x) _ q)) (λ q. ⊎_elim (λ r. inl (or_r (p x) _ r)) (λ r. inr r) (any_snoc xs v q)) (T_or (p x) _ t)

pub place_holds : {A : Type 0} (f : A → Bool) (xs : List A) (d : A) → T (any f xs) → T (f (get_or xs (place f xs) d))
unfolding any place
place_holds f [] d t = absurd t
place_holds f (x ∷ xs) d t = by_test (f x) refl t (place_holds f xs d)
  where
    by_test : (b : Bool) → f x ≡ b → T (b || any f xs) → (T (any f xs) → T (f (get_or xs (place f xs) d))) → T (f (get_or (x ∷ xs) (if b then zero else suc (place f xs)) d))
    by_test true e t r = T_of e
    by_test false e t r = r t

-- "the first part or least element": nothing before it passes
pub place_first : {A : Type 0} (f : A → Bool) (xs : List A) (d : A) (i : ℕ) → i < place f xs → f (get_or xs i d) ≡ false
unfolding place
place_first f [] d i h = absurd (omega arith)
place_first f (x ∷ xs) d i h = by_test (f x) refl i h (λ j k. place_first f xs d j k)
  where
    by_test : (b : Bool) → f x ≡ b → (i : ℕ) → i < (if b then zero else suc (place f xs)) → ((j : ℕ) → j < place f xs → f (get_or xs j d) ≡ false) → f (get_or (x ∷ xs) i d) ≡ false
    by_test true e i h r = absurd (omega arith)
    by_test false e zero h r = e
    by_test false e (suc i) h r = r i (omega arith)

pub least_place : {A : Type 0} (f : A → Bool) (xs : List A) → T (any f xs) → least f xs ≡ place f xs
unfolding least option
least_place f xs t = rw (position_place f xs t) refl

-- ---- `position` itself: it finds nothing where nothing passes, and otherwise the first that does
module _ {A : Type 0} (p : A → Bool) where
  pub position_none : (xs : List A) → any p xs ≡ false → position p xs ≡ none
  unfolding any position option
  position_none [] e = refl
  position_none (x ∷ xs) e = by_test (p x) e (position_none xs)
    where
      by_test : (b : Bool) → (b || any p xs) ≡ false → (any p xs ≡ false → position p xs ≡ none) → (if b then some zero else option (position p xs) none (λ i. some (suc i))) ≡ none
      by_test true e r = absurd (subst T e tt)
      by_test false e r = rw (r e) refl

  pub position_at : (xs : List A) (d : A) (i : ℕ) → i < length xs → p (get_or xs i d) ≡ true → ((j : ℕ) → j < i → p (get_or xs j d) ≡ false) → position p xs ≡ some i
  unfolding position option
  position_at [] d i l e h = absurd (omega arith)
  position_at (x ∷ xs) d zero l e h = rw e refl
  position_at (x ∷ xs) d (suc i) l e h = rw (h zero (omega arith), position_at xs d i (omega arith) e (λ j k. h (suc j) (omega arith))) refl

  pub none_position : (xs : List A) → position p xs ≡ none → any p xs ≡ false
  none_position xs e = T_false (any p xs) (λ t. none_some (sym e ∙ position_place p xs t))

  pub position_some : (xs : List A) (d : A) → any p xs ≡ true → (i : ℕ) × (position p xs ≡ some i) × (i < length xs) × (p (get_or xs i d) ≡ true) × ((j : ℕ) → j < i → p (get_or xs j d) ≡ false)
  position_some xs d e = (place p xs, position_place p xs (T_of e), place_lt p xs (T_of e), T_true (p (get_or xs (place p xs) d)) (place_holds p xs d (T_of e)), place_first p xs d)

  pub some_position : (xs : List A) (d : A) (i : ℕ) → position p xs ≡ some i → (i < length xs) × (p (get_or xs i d) ≡ true) × ((j : ℕ) → j < i → p (get_or xs j d) ≡ false)
  some_position xs d i e = by_test (any p xs) refl
    where
      by_test : (b : Bool) → any p xs ≡ b → (i < length xs) × (p (get_or xs i d) ≡ true) × ((j : ℕ) → j < i → p (get_or xs j d) ≡ false)
      by_test true q = let (k, f, l, t, h) = position_some xs d q in subst (λ (i : ℕ). (i < length xs) × (p (get_or xs i d) ≡ true) × ((j : ℕ) → j < i → p (get_or xs j d) ≡ false)) (some_eq (sym f ∙ e)) (l, t, h)
      by_test false q = absurd (none_some (sym (position_none xs q) ∙ e))

-- some test fails exactly if not all pass
pub any_not : (l : List Bool) → any not l ≡ not (all (λ b. b) l)
unfolding any all
any_not [] = refl
any_not (true ∷ l) = any_not l
any_not (false ∷ l) = refl
