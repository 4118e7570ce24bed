-- All tuples of elements, one after another, are the places of the rows in order: what is said of tuples one by one is said row by row.
use Rattle.std.specs.Prelude.{ℕ, zero, suc, ◌+◌, ◌*◌, ◌%◌, ◌^◌, ◌<◌, ◌≡◌, refl}
use Rattle.std.proofs.Common.{sym, ap, ap₂, ◌∙◌, arith, add-zero, zero-add, zero-mul, suc-mul, mod-eq_of_lt}
use mathlib.Core.List.{List, [], ◌∷◌, ◌++◌, map, append-nil}
use Rattle.std.proofs.Math.Nat.{pow-zero, pow-succ'}
use Rattle.std.proofs.Math.Arith.{digits_div}
use Rattle.definitions.specs.Lists.{flat_map, from, below}
use Rattle.definitions.specs.Problem.Atoms.{places_of}
use Rattle.definitions.specs.Reply.Lifted.{tuples_over}
use Rattle.laws.specs.Lists.{from_append, below_snoc, below_lt, flat_append, flat_same, map_flat, map_map, map_same}
use Rattle.laws.specs.Rows.{places_shift}

from_shift : (a b m : ℕ) → from (a + b) m ≡ map (λ i. a + i) (from b m)
unfolding from
from_shift a b zero = refl
from_shift a b (suc m) = let e : suc (a + b) ≡ a + suc b = omega arith in ap (λ (l : List ℕ). (a + b) ∷ l) (ap (λ (x : ℕ). from x m) e ∙ from_shift a (suc b) m)

-- j runs of m numbers
below_runs : (j m : ℕ) → below (j * m) ≡ flat_map (λ x. map (λ i. x * m + i) (below m)) (below j)
unfolding below flat_map from
below_runs zero m = ap (from zero) (zero-mul m)
below_runs (suc j) m =
    let e : suc j * m ≡ j * m + m = suc-mul j m in
    ap (from zero) e ∙ from_append zero (j * m) m ∙ ap₂ ◌++◌ (below_runs j m) (ap (λ (x : ℕ). from x m) (zero-add (j * m) ∙ sym (add-zero (j * m))) ∙ from_shift (j * m) zero m ∙ sym (append-nil (map (λ i. j * m + i) (from zero m))))
    ∙ sym (ap (flat_map (λ x. map (λ i. x * m + i) (from zero m))) (below_snoc j) ∙ flat_append (λ x. map (λ i. x * m + i) (from zero m)) (below j) (j ∷ []))

pub tuples_rows : (n k : ℕ) → 0 < n → tuples_over n k ≡ map (places_of n k) (below (n ^ k))
unfolding tuples_over places_of below from
tuples_rows n zero h = sym (ap (λ (m : ℕ). map (places_of n zero) (below m)) (pow-zero n))
tuples_rows n (suc k) h =
    flat_same (λ x. map (λ xs. x ∷ xs) (tuples_over n k)) (λ x. map (λ i. places_of n (suc k) (x * n ^ k + i)) (below (n ^ k))) (below n)
    (λ x m. ap (map (λ xs. x ∷ xs)) (tuples_rows n k h) ∙ map_map (λ xs. x ∷ xs) (places_of n k) (below (n ^ k)) ∙ map_same (λ i. x ∷ places_of n k i) (λ i. places_of n (suc k) (x * n ^ k + i)) (below (n ^ k)) (λ i j. at x i (below_lt n x m) (below_lt (n ^ k) i j)))
    ∙ sym (ap (λ (m : ℕ). map (places_of n (suc k)) (below m)) (pow-succ' n k) ∙ ap (map (places_of n (suc k))) (below_runs n (n ^ k))
    ∙ map_flat (places_of n (suc k)) (λ x. map (λ i. x * n ^ k + i) (below (n ^ k))) (below n)
    ∙ flat_same (λ x. map (places_of n (suc k)) (map (λ i. x * n ^ k + i) (below (n ^ k)))) (λ x. map (λ i. places_of n (suc k) (x * n ^ k + i)) (below (n ^ k))) (below n) (λ x m. map_map (places_of n (suc k)) (λ i. x * n ^ k + i) (below (n ^ k))))
  where
    at : (x i : ℕ) → x < n → i < n ^ k → x ∷ places_of n k i ≡ places_of n (suc k) (x * n ^ k + i)
    at x i l g = let e : x * n ^ k + i ≡ i + x * n ^ k = omega arith in
        sym (ap₂ ◌∷◌ (ap (λ (z : ℕ). z % n) (digits_div x g) ∙ mod-eq_of_lt l) (ap (places_of n k) e ∙ places_shift n k i x h))
