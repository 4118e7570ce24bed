-- Booleans as facts: what a test that is passed says of its parts, and tests that are decided.
use Rattle.std.specs.Prelude.{ℕ, suc, ◌<◌, ◌≡◌, refl, ◌⊎◌, Bool, true, false, not, ◌&&◌, ◌||◌, T, ltb, eqb}
use Rattle.std.proofs.Common.{sym, subst, inl, inr, arith, eq-eqb, eqb-true, ltb→lt, nltb→le, T_not}
use Rattle.std.proofs.lemmas.Bool.{eqb-false}

-- ---- Bool as a type
pub and_T : (a b : Bool) → T a → T b → T (a && b)
and_T true b p q = q
and_T false b p q = p

pub T_and_l : (a b : Bool) → T (a && b) → T a
T_and_l true b p = tt
T_and_l false b p = p

pub T_and_r : (a b : Bool) → T (a && b) → T b
T_and_r true b p = p
T_and_r false b p = absurd p

pub T_or : (a b : Bool) → T (a || b) → T a ⊎ T b
T_or true b p = inl tt
T_or false b p = inr p

pub or_l : (a b : Bool) → T a → T (a || b)
or_l true b p = tt
or_l false b p = absurd p

pub or_r : (a b : Bool) → T b → T (a || b)
or_r true b p = tt
or_r false b p = p

pub and_both : (a b : Bool) → (a && b) ≡ true → (a ≡ true) × (b ≡ true)
and_both true b p = (refl, p)
and_both false b p = let z : ◌≡◌ {A = ℕ} 0 1 = cc in absurd (omega arith)

pub or_both : (a b : Bool) → (a || b) ≡ false → (a ≡ false) × (b ≡ false)
or_both true b e = let z : ◌≡◌ {A = ℕ} 0 1 = cc in absurd (omega arith)
or_both false b e = (refl, e)

pub or_assoc : (a b c : Bool) → ((a || b) || c) ≡ (a || (b || c))
or_assoc true b c = refl
or_assoc false b c = refl

pub T_true : (a : Bool) → T a → a ≡ true
T_true true p = refl
T_true false p = absurd p

pub T_false : (a : Bool) → (T a → ⊥) → a ≡ false
T_false true p = absurd (p tt)
T_false false p = refl

pub T_of : {a : Bool} → a ≡ true → T a
T_of e = subst T (sym e) tt

-- two tests are equal if each follows from the other
pub T_ext : (a b : Bool) → (T a → T b) → (T b → T a) → a ≡ b
T_ext true b f g = sym (T_true b (f tt))
T_ext false b f g = sym (T_false b g)

pub not_or : (a b : Bool) → not (a || b) ≡ (not a && not b)
not_or true b = refl
not_or false b = refl

pub not_and : (a b : Bool) → not (a && b) ≡ (not a || not b)
not_and true b = refl
not_and false b = refl

-- a test, decided
pub T_dec : (a : Bool) → T a ⊎ T (not a)
T_dec true = inl tt
T_dec false = inr tt

pub neq : (x y : ℕ) → T (not (eqb x y)) → x ≡ y → ⊥
neq x y t e = T_not (eqb x y) t (T_of (eq-eqb x y e))

pub lt_split : (e n : ℕ) → e < suc n → (e < n) ⊎ (e ≡ n)
lt_split e n h = by_cases (T_dec (ltb e n))
  where
    by_cases : T (ltb e n) ⊎ T (not (ltb e n)) → (e < n) ⊎ (e ≡ n)
    by_cases (inl t) = inl (ltb→lt e n t)
    by_cases (inr t) = let q = nltb→le e n t in inr (omega arith)

-- a disjunction that fails, part by part; a doubled negation
pub not_or_l : (a b : Bool) → T (not (a || b)) → T (not a)
not_or_l true b t = t
not_or_l false b t = tt

pub not_or_r : (a b : Bool) → T (not (a || b)) → T (not b)
not_or_r true b t = absurd t
not_or_r false b t = t

pub not_not_T : (b : Bool) → T (not (not b)) → T b
not_not_T true t = tt
not_not_T false t = t

-- numbers that are not unequal are equal
pub not_unequal : (x y : ℕ) → ((x ≡ y → ⊥) → ⊥) → x ≡ y
not_unequal x y h = by_test (eqb x y) refl
  where
    by_test : (b : Bool) → eqb x y ≡ b → x ≡ y
    by_test true e = eqb-true x y e
    by_test false e = absurd (h (eqb-false x y e))
