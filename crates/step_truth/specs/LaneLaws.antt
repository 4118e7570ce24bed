-- The rows of a node that differ in its innermost free variable alone: their values are those of the first of them but for that one.
use Prim.Native.Nat.{ℕ, suc, ◌+◌, ◌-◌, ◌*◌, ◌/◌, ◌%◌, ◌^◌, ◌<◌}
use Rattle.std.specs.Prelude.{◌≡◌, Bool, eqb, take, if◌then◌else◌}
use Rattle.std.proofs.Math.Path.{refl, subst, fun_ext}
use Rattle.std.proofs.Common.{sym, ap, ◌∙◌, div-one, eqb-true, ne_eqb, get_or-take}
use Rattle.std.proofs.Math.Bool.{true, false}
use mathlib.Core.List.{List, [], ◌∷◌}
use native.Mathlib.Omega.{arith}
use Rattle.std.proofs.Math.Nat.{pow-succ', pow-zero, div-div-eq-div-mul}
use Rattle.std.proofs.Math.Arith.{digits_div, digits_mod}
use Rattle.std.proofs.Math.ListN.{length, get_or}
use Rattle.definitions.specs.Problem.Tree.{Tree, free}
use Rattle.definitions.specs.Problem.Atoms.{Problem, places_of}
use Rattle.definitions.specs.Problem.Actions.{values_in, with_value}
use Rattle.laws.specs.Lists.{get_or_mem}
use Rattle.laws.specs.Members.{Ascending, ascending_below, ascending_filter}
use Rattle.problem_table.specs.Numbers.{row_values}
use Rattle.problem_table.specs.Of.{IsNode}
use Rattle.problem_table.specs.declared.NodeLine.{NodeLine}

module _ (n q x : ℕ) (h : x < n) where
  -- the places before the last
  over : (k : ℕ) → (q * n + x) / n ^ suc k ≡ q * n / n ^ suc k
  over k =
      let e : q * n + 0 ≡ q * n = omega arith in
      let z : 0 < n = omega arith in
      ap (λ (m : ℕ). (q * n + x) / m) (pow-succ' n k) ∙ sym (div-div-eq-div-mul (q * n + x) n (n ^ k)) ∙ ap (λ (m : ℕ). m / n ^ k) (digits_div q h ∙ sym (digits_div q z) ∙ ap (λ (m : ℕ). m / n) e)
      ∙ div-div-eq-div-mul (q * n) n (n ^ k) ∙ ap (λ (m : ℕ). q * n / m) (sym (pow-succ' n k))

  -- the last place
  last_place : (q * n + x) / n ^ 0 % n ≡ x
  last_place = ap (λ (m : ℕ). (q * n + x) / m % n) (pow-zero n) ∙ ap (λ (m : ℕ). m % n) (div-one (q * n + x)) ∙ digits_mod q h

  lane : (d : ℕ) (ds : List ℕ) → Ascending (d ∷ ds) → (l : ℕ)
      → values_in (d ∷ ds) (places_of n (suc (length ds)) (q * n + x)) l ≡ (if eqb l (get_or (d ∷ ds) (length ds) 0) then x else values_in (d ∷ ds) (places_of n (suc (length ds)) (q * n)) l)
  unfolding values_in places_of Ascending
  lane d [] up l = by_test (eqb l d)
    where
      by_test : (b : Bool) → (if b then (q * n + x) / n ^ 0 % n else 0) ≡ (if b then x else (if b then q * n / n ^ 0 % n else 0))
      by_test true = last_place
      by_test false = refl
  lane d (e ∷ ds) up l = by_test (eqb l d) refl (lane e ds up.1 l)
    where
      f : ℕ
      f = get_or (e ∷ ds) (length ds) 0

      by_test : (b : Bool) → eqb l d ≡ b → values_in (e ∷ ds) (places_of n (suc (length ds)) (q * n + x)) l ≡ (if eqb l (get_or (e ∷ ds) (length ds) 0) then x else values_in (e ∷ ds) (places_of n (suc (length ds)) (q * n)) l)
          → (if b then (q * n + x) / n ^ suc (length ds) % n else values_in (e ∷ ds) (places_of n (suc (length ds)) (q * n + x)) l)
          ≡ (if eqb l (get_or (e ∷ ds) (length ds) 0) then x else (if b then q * n / n ^ suc (length ds) % n else values_in (e ∷ ds) (places_of n (suc (length ds)) (q * n)) l))
      by_test true o ih =
          let m = up.0 f (get_or_mem (e ∷ ds) (length ds) 0 (omega arith)) in
          let s = eqb-true l d o in
          rw (ne_eqb l (get_or (e ∷ ds) (length ds) 0) (λ z. omega arith)) (ap (λ (y : ℕ). y % n) (over (length ds)))
      by_test false o ih = ih

  lane_values : (ls : List ℕ) (k : ℕ) → Ascending ls → length ls ≡ suc k → values_in ls (places_of n (suc k) (q * n + x)) ≡ with_value (values_in ls (places_of n (suc k) (q * n))) (get_or ls k 0) x
  unfolding with_value
  lane_values [] k up e = absurd (omega arith)
  lane_values (d ∷ ds) k up e =
      let z : length ds ≡ k = omega arith in
      subst (λ (j : ℕ). values_in (d ∷ ds) (places_of n (suc j) (q * n + x)) ≡ with_value (values_in (d ∷ ds) (places_of n (suc j) (q * n))) (get_or (d ∷ ds) j 0) x) z (fun_ext (lane d ds up))

free_up : (t : Tree) → Ascending (free t)
unfolding free
free_up t = ascending_filter _ _ (ascending_below 4)

-- of a node's line
pub lane_row : (p : Problem) (w : List ℕ) (v : ℕ) (u : Tree) (y : NodeLine) → IsNode p w v u y → 0 < y.width → (n q x : ℕ) → x < n
    → with_value (row_values n y (q * n)) (get_or y.levels (y.width - 1) 0) x ≡ row_values n y (q * n + x)
unfolding row_values
lane_row p w v u y N o n q x h =
    let k : suc (y.width - 1) ≡ y.width = omega arith in
    let l : length (take y.width y.levels) ≡ suc (y.width - 1) = ap length N.levels ∙ sym N.width ∙ sym k in
    let up : Ascending (take y.width y.levels) = subst Ascending (sym N.levels) (free_up u) in
    let e = lane_values n q x h (take y.width y.levels) (y.width - 1) up l in
    sym (subst (λ (j : ℕ). values_in (take y.width y.levels) (places_of n j (q * n + x)) ≡ with_value (values_in (take y.width y.levels) (places_of n j (q * n))) (get_or y.levels (y.width - 1) 0) x) k
    (subst (λ (f : ℕ). values_in (take y.width y.levels) (places_of n (suc (y.width - 1)) (q * n + x)) ≡ with_value (values_in (take y.width y.levels) (places_of n (suc (y.width - 1)) (q * n))) f x)
    (get_or-take y.width y.levels (y.width - 1) 0 (omega arith)) e))
