-- The way of each kind of node, and the search for the first that passes, step by step.
use Prim.Native.Nat.{ℕ, zero, suc, ◌+◌, ◌-◌, ◌<◌, ◌≤◌}
use Rattle.std.specs.Prelude.{◌≡◌, Bool, List, eqb, if◌then◌else◌}
use Rattle.std.proofs.Math.Path.{refl}
use Rattle.std.proofs.Common.{sym, ap, ap₂, ◌∙◌, add-zero, add-one}
use Rattle.std.proofs.Math.Bool.{true, false}
use native.Mathlib.Omega.{arith}
use borrow.Author.Tests.{eq-eqb, ne_eqb}
use Rattle.std.proofs.Math.ListN.{length}
use Rattle.step_prove.specs.Tries.{FlatAt, way_by, first_from}

module _ (n kind many : ℕ) (ms : List ℕ) (j : ℕ) where
  pub way_exists : kind ≡ 1 → record { row = j; base = 0; tries = length ms; choices = length ms } ≡ way_by n kind many ms j
  unfolding way_by
  way_exists e = rw (ne_eqb kind 0 (λ z. omega arith), eq-eqb kind 1 e)

  pub way_and : kind ≡ 2 → record { row = j; base = 0; tries = 1; choices = 1 } ≡ way_by n kind many ms j
  unfolding way_by
  way_and e = rw (ne_eqb kind 0 (λ z. omega arith), ne_eqb kind 1 (λ z. omega arith), eq-eqb kind 2 e)

  pub way_or : 3 ≤ kind → record { row = j; base = 0; tries = many; choices = many } ≡ way_by n kind many ms j
  unfolding way_by
  way_or h = rw (ne_eqb kind 0 (λ z. omega arith), ne_eqb kind 1 (λ z. omega arith), ne_eqb kind 2 (λ z. omega arith))

  pub way_flat : 0 < kind → FlatAt (way_by n kind many ms j) j
  unfolding way_by
  way_flat h = rw (ne_eqb kind 0 (λ z. omega arith)) (by_kind (eqb kind 1) (eqb kind 2))
    where
      by_kind : (b₁ b₂ : Bool) → FlatAt (if b₁ then record { row = j; base = 0; tries = length ms; choices = length ms } else if b₂ then record { row = j; base = 0; tries = 1; choices = 1 } else record { row = j; base = 0; tries = many; choices = many }) j
      by_kind true b₂ = record { row = refl; base = refl }
      by_kind false true = record { row = refl; base = refl }
      by_kind false false = record { row = refl; base = refl }

-- ---- the search
pub first_start : (f : ℕ → Bool) (k : ℕ) → first_from f 0 k ≡ first_from f 0 (k - 0)
first_start f k = let m : k ≡ k - 0 = omega arith in ap (first_from f 0) m

module _ (f : ℕ → Bool) (k i : ℕ) where
  pub first_yes : i < k → f i ≡ true → i ≡ first_from f i (k - i)
  unfolding first_from
  first_yes h e = let m : k - i ≡ suc (k - suc i) = omega arith in rw (m, e)

  pub first_no : i < k → f i ≡ false → first_from f i (k - i) ≡ first_from f (i + 1) (k - (i + 1))
  unfolding first_from
  first_no h e = let m : k - i ≡ suc (k - suc i) = omega arith in rw (m, e, add-one)

  pub first_end : k ≤ i → i ≡ first_from f i (k - i)
  unfolding first_from
  first_end h = let m : k - i ≡ 0 = omega arith in rw m

-- the first by two tests that agree; of one
pub first_same : (f g : ℕ → Bool) (k a : ℕ) → ((i : ℕ) → i < k → f (a + i) ≡ g (a + i)) → first_from f a k ≡ first_from g a k
unfolding first_from
first_same f g zero a h = refl
first_same f g (suc k) a h =
    ap₂ (λ (b : Bool) (r : ℕ). if b then a else r) (ap f (sym (add-zero a)) ∙ h 0 (omega arith) ∙ ap g (add-zero a))
    (first_same f g k (suc a) (λ i l. let e : suc a + i ≡ a + suc i = omega arith in ap f e ∙ h (suc i) (omega arith) ∙ ap g (sym e)))

pub first_only : (f : ℕ → Bool) (b : Bool) (k : ℕ) → k ≡ 1 → f 0 ≡ b → first_from (λ i. b) 0 1 ≡ first_from f 0 k
unfolding first_from
first_only f b k o e = rw (o, e)
