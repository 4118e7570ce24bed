-- Texts of numbers one after another: what is still to be written after some of them. Assumes nothing.
use Prim.Native.Nat.{ℕ, zero, suc, ◌+◌, ◌-◌, ◌*◌, ◌≤◌, ◌<◌}
use Rattle.std.specs.Prelude.{◌≡◌}
use Rattle.std.proofs.Math.Path.{sym, ap, ap₂}
use Rattle.std.proofs.Common.{◌∙◌, zero-mul, suc-mul, zero-add, add-one}
use mathlib.Core.List.{List, [], ◌∷◌, ◌++◌, append-nil}
use native.Mathlib.Omega.{arith}
use Rattle.definitions.specs.Lists.{flat_map, from, below}
use Rattle.laws.specs.Lists.{from_append, below_snoc, flat_append}

from_suc : (i m : ℕ) → i < m → from i (m - i) ≡ i ∷ from (i + 1) (m - (i + 1))
unfolding from
from_suc i m h =
    let e : m - i ≡ suc (m - (i + 1)) = omega arith in
    ap (from i) e ∙ ap (λ (j : ℕ). i ∷ from j (m - (i + 1))) (sym (add-one i))

module _ (F : ℕ → List ℕ) where
  pub flat_first : (m : ℕ) → flat_map F (below m) ≡ flat_map F (from 0 (m - 0))
  unfolding below
  flat_first m = let d : m ≡ m - 0 = omega arith in ap (λ (k : ℕ). flat_map F (from 0 k)) d

  pub flat_next : (i m : ℕ) → i < m → flat_map F (from i (m - i)) ≡ F i ++ flat_map F (from (i + 1) (m - (i + 1)))
  unfolding flat_map
  flat_next i m h = ap (flat_map F) (from_suc i m h)

  pub flat_end : (i m : ℕ) → m ≤ i → flat_map F (from i (m - i)) ≡ []
  unfolding flat_map from
  flat_end i m h = let e : m - i ≡ 0 = omega arith in ap (λ (k : ℕ). flat_map F (from i k)) e

  -- the numbers from a on
  pub flat_more : (a i m : ℕ) → i < m → flat_map F (from (a + i) (m - i)) ≡ F (a + i) ++ flat_map F (from (a + (i + 1)) (m - (i + 1)))
  unfolding flat_map from
  flat_more a i m h =
      let e : m - i ≡ suc (m - (i + 1)) = omega arith in
      let s : suc (a + i) ≡ a + (i + 1) = omega arith in
      ap (λ (k : ℕ). flat_map F (from (a + i) k)) e ∙ ap (λ (j : ℕ). F (a + i) ++ flat_map F (from j (m - (i + 1)))) s

  pub flat_stop : (a i m : ℕ) → m ≤ i → flat_map F (from (a + i) (m - i)) ≡ []
  unfolding flat_map from
  flat_stop a i m h = let e : m - i ≡ 0 = omega arith in ap (λ (k : ℕ). flat_map F (from (a + i) k)) e

  -- runs of m numbers
  pub flat_runs : (j m : ℕ) → flat_map (λ b. flat_map F (from (b * m) m)) (below j) ≡ flat_map F (below (j * m))
  unfolding flat_map below from
  flat_runs zero m = sym (ap (λ (k : ℕ). flat_map F (from zero k)) (zero-mul m))
  flat_runs (suc j) m =
      ap (flat_map (λ b. flat_map F (from (b * m) m))) (below_snoc j)
      ∙ flat_append (λ b. flat_map F (from (b * m) m)) (below j) (j ∷ [])
      ∙ ap₂ ◌++◌ (flat_runs j m) (append-nil (flat_map F (from (j * m) m)) ∙ ap (λ (k : ℕ). flat_map F (from k m)) (sym (zero-add (j * m))))
      ∙ sym (flat_append F (below (j * m)) (from (zero + j * m) m)) ∙ ap (flat_map F) (sym (from_append zero (j * m) m)) ∙ ap (λ (k : ℕ). flat_map F (below k)) (sym (suc-mul j m))
