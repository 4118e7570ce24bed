-- From one row of a node to the next: its digits, and their values.
use Rattle.std.specs.Prelude.{ℕ, zero, suc, ◌+◌, ◌-◌, ◌*◌, ◌/◌, ◌%◌, ◌^◌, ◌<◌, ◌≤◌, ◌≡◌, refl, Bool, true, false, List, [], ◌∷◌, eqb, ltb, length, get_or, take, drop, set, if◌then◌else◌}
use Rattle.std.proofs.Common.{sym, ap, subst, ◌∙◌, arith, div-add-mod', mod-lt, pow-suc, div-one, add-mul, one-mul, mul-le-mul, get_or-set_same, get_or-set_other, eqb-true, ltb-true, ltb-false, length-set}
use Rattle.std.proofs.Math.Path.{fun_ext}
use Rattle.std.proofs.Math.Nat.{pow-zero, div-div-eq-div-mul, zero-div, zero-mod}
use Rattle.std.proofs.Math.Arith.{digits_div, digits_mod}
use Rattle.std.proofs.lemmas.Bool.{eqb-false}
use Rattle.definitions.specs.Problem.Atoms.{places_of}
use Rattle.definitions.specs.Problem.Actions.{Values, values_in, with_value}
use Rattle.rows.specs.Values.{value_in, Most}
use Rattle.rows.specs.Laws.{set_value, within_zeros, value_zeros, values_next, values_all}
use Rattle.rule_nodes.specs.Tables.{Levels}
use Rattle.step_prove.specs.Tries.{Digits, Rest, Spread, spread_of}
use Rattle.step_prove.specs.NeedLaws.{most_set}

-- ---- the next of a number, by its quotient and rest
module _ (n x : ℕ) (o : 0 < n) where
  pub next_stays : x % n + 1 < n → ((x + 1) / n ≡ x / n) × ((x + 1) % n ≡ x % n + 1)
  next_stays h =
      let d = div-add-mod' x n in
      let e : x + 1 ≡ x / n * n + (x % n + 1) = omega arith in
      (ap (λ (y : ℕ). y / n) e ∙ digits_div (x / n) h, ap (λ (y : ℕ). y % n) e ∙ digits_mod (x / n) h)

  pub next_turns : n ≤ x % n + 1 → ((x + 1) / n ≡ x / n + 1) × ((x + 1) % n ≡ 0)
  next_turns h =
      let d = div-add-mod' x n in
      let l = mod-lt x o in
      let m = add-mul (x / n) 1 n in
      let k = one-mul n in
      let e : x + 1 ≡ (x / n + 1) * n + 0 = omega arith in
      (ap (λ (y : ℕ). y / n) e ∙ digits_div (x / n + 1) o, ap (λ (y : ℕ). y % n) e ∙ digits_mod (x / n + 1) o)

-- ---- the quotients by powers
module _ (n : ℕ) where
  over_suc : (x k : ℕ) → x / n ^ suc k ≡ x / n ^ k / n
  over_suc x k = rw (pow-suc, div-div-eq-div-mul)

  -- from where two numbers agree, they agree
  over_same : (x y k m : ℕ) → x / n ^ k ≡ y / n ^ k → x / n ^ (m + k) ≡ y / n ^ (m + k)
  over_same x y k zero e = let z : 0 + k ≡ k = omega arith in rw z e
  over_same x y k (suc m) e =
      let z : suc m + k ≡ suc (m + k) = omega arith in
      rw (z, over_suc x, over_suc y) (ap (λ (u : ℕ). u / n) (over_same x y k m e))

-- ---- the digits from i on are those of the next row, those before i still the row's, which go up by one
pub record Carried (n w row i : ℕ) (ds : List ℕ) : Type 0 where
  pub carry : (row + 1) / n ^ (w - i) ≡ row / n ^ (w - i) + 1
  pub before : (q : ℕ) → q < i → get_or ds q 0 ≡ row / n ^ (w - suc q) % n
  pub later : (q : ℕ) → i ≤ q → q < w → get_or ds q 0 ≡ (row + 1) / n ^ (w - suc q) % n

pub carry_start : (n w row : ℕ) (ds : List ℕ) → Digits n w row ds → Carried n w row w ds
carry_start n w row ds D =
    let z : w - w ≡ 0 = omega arith in
    record { carry = rw (z, pow-zero, div-one (row + 1), div-one row); before = D; later = λ q a b. absurd (omega arith) }

pub carry_end : (n w row i : ℕ) (ds : List ℕ) → i ≤ 0 → Carried n w row i ds → Digits n w (row + 1) ds
carry_end n w row i ds h C q l = C.later q (omega arith) l

module _ (n w row : ℕ) (o : 0 < n) (ds : List ℕ) where
  at_set : (i x q : ℕ) → i < length ds → q ≡ i → get_or (set ds i x) q 0 ≡ x
  at_set i x q l e = rw e (get_or-set_same ds i x 0 l)

  module _ (i : ℕ) (h : suc i ≤ w) (k : w ≤ length ds) (C : Carried n w row (suc i) ds) where
    pub on : n ≤ get_or ds i 0 + 1 → Carried n w row i (set ds i 0)
    on t =
        let s : w - i ≡ suc (w - suc i) = omega arith in
        let d = C.before i (omega arith) in
        let g = next_turns n (row / n ^ (w - suc i)) o (omega arith) in
        record {
          carry = rw (s, over_suc n (row + 1), over_suc n row) (ap (λ (y : ℕ). y / n) C.carry ∙ g.0);
          before = λ q l. get_or-set_other ds i q 0 0 (λ e. omega arith) ∙ C.before q (omega arith);
          later = λ q a l. by_number q a l (eqb q i) refl (ap (λ (y : ℕ). y % n) C.carry ∙ g.1);
        }
      where
        by_number : (q : ℕ) → i ≤ q → q < w → (b : Bool) → eqb q i ≡ b → (row + 1) / n ^ (w - suc i) % n ≡ 0 → get_or (set ds i 0) q 0 ≡ (row + 1) / n ^ (w - suc q) % n
        by_number q a l true e z = let f = eqb-true q i e in at_set i 0 q (omega arith) f ∙ sym (ap (λ (u : ℕ). (row + 1) / n ^ (w - suc u) % n) f ∙ z)
        by_number q a l false e z = let f = eqb-false q i e in get_or-set_other ds i q 0 0 f ∙ C.later q (omega arith) l

    pub done : get_or ds i 0 + 1 < n → Digits n w (row + 1) (set ds i (get_or ds i 0 + 1))
    done t q l =
        let s : w - i ≡ suc (w - suc i) = omega arith in
        let d = C.before i (omega arith) in
        let g = next_stays n (row / n ^ (w - suc i)) o (omega arith) in
        by_test (eqb q i) refl (ap (λ (y : ℕ). y % n) C.carry ∙ g.1 ∙ ap (λ (y : ℕ). y + 1) (sym d)) (rw (s, over_suc n (row + 1), over_suc n row) (ap (λ (y : ℕ). y / n) C.carry ∙ g.0))
      where
        up : (row + 1) / n ^ (w - i) ≡ row / n ^ (w - i) → q < i → (row + 1) / n ^ (w - suc q) ≡ row / n ^ (w - suc q)
        up e m = let z : (i - suc q) + (w - i) ≡ w - suc q = omega arith in rw z at (over_same n (row + 1) row (w - i) (i - suc q) e)

        other : (q < i → (row + 1) / n ^ (w - suc q) ≡ row / n ^ (w - suc q)) → (b : Bool) → ltb q i ≡ b → ((q ≡ i) → ⊥) → get_or ds q 0 ≡ (row + 1) / n ^ (w - suc q) % n
        other u true e f = let m = ltb-true q i e in C.before q (omega arith) ∙ ap (λ (y : ℕ). y % n) (sym (u m))
        other u false e f = let m = ltb-false q i e in C.later q (omega arith) l

        by_test : (b : Bool) → eqb q i ≡ b → (row + 1) / n ^ (w - suc i) % n ≡ get_or ds i 0 + 1 → (row + 1) / n ^ (w - i) ≡ row / n ^ (w - i) → get_or (set ds i (get_or ds i 0 + 1)) q 0 ≡ (row + 1) / n ^ (w - suc q) % n
        by_test true e z u = let f = eqb-true q i e in at_set i (get_or ds i 0 + 1) q (omega arith) f ∙ sym (ap (λ (u : ℕ). (row + 1) / n ^ (w - suc u) % n) f ∙ z)
        by_test false e z u = let f = eqb-false q i e in get_or-set_other ds i q (get_or ds i 0 + 1) 0 f ∙ other (up u) (ltb q i) refl f

-- by the index that is counted down
module _ (n w row i : ℕ) (ds : List ℕ) (o : 0 < n) (p : 0 < i) (h : i ≤ w) (k : w ≤ length ds) (C : Carried n w row i ds) where
  last : suc (i - 1) ≡ i
  last = omega arith

  pub carry_on : n ≤ get_or ds (i - 1) 0 + 1 → Carried n w row (i - 1) (set ds (i - 1) 0)
  carry_on = on n w row o ds (i - 1) (omega arith) k (subst (λ (q : ℕ). Carried n w row q ds) (sym last) C)

  pub carry_done : get_or ds (i - 1) 0 + 1 < n → Digits n w (row + 1) (set ds (i - 1) (get_or ds (i - 1) 0 + 1))
  carry_done = done n w row o ds (i - 1) (omega arith) k (subst (λ (q : ℕ). Carried n w row q ds) (sym last) C)

-- ---- the values of the digits
pub spread_next : (n w i row : ℕ) (out ls ds : List ℕ) → 0 < i → i ≤ w → w ≤ length ls → get_or ls (i - 1) 0 < length out → Digits n w row ds
    → value_in out ≡ values_in (drop i (take w ls)) (places_of n (w - i) row) → value_in (set out (get_or ls (i - 1) 0) (get_or ds (i - 1) 0)) ≡ values_in (drop (i - 1) (take w ls)) (places_of n (w - (i - 1)) row)
spread_next n w i row out ls ds p h l k D v =
    let s : suc (i - 1) ≡ i = omega arith in
    let d : get_or ds (i - 1) 0 ≡ row / n ^ (w - i) % n = D (i - 1) (omega arith) ∙ ap (λ (q : ℕ). row / n ^ (w - q) % n) s in
    ap (λ (x : ℕ). value_in (set out (get_or ls (i - 1) 0) x)) d ∙ (values_next n w i row (row / n ^ (w - i)) out ls p h l k refl v).0

-- ... past the width nothing has a value
nothing : (n w i row : ℕ) (ls : List ℕ) → w ≤ i → values_in (drop i (take w ls)) (places_of n (w - i) row) ≡ (λ _. 0)
unfolding values_in places_of
nothing n w i row ls h = let e : w - i ≡ 0 = omega arith in rw e (fun_ext (nil (drop i (take w ls))))
  where
    nil : (ls : List ℕ) (l : ℕ) → values_in ls [] l ≡ 0
    nil [] l = refl
    nil (d ∷ ds) l = refl

nothing_set : (d : ℕ) → with_value (λ _. 0) d 0 ≡ (λ _. 0)
unfolding with_value
nothing_set d = fun_ext (λ l. same (eqb l d))
  where
    same : (b : Bool) → ◌≡◌ {A = ℕ} (if b then 0 else 0) 0
    same true = refl
    same false = refl

pub place_next : (n w i row : ℕ) (out ls ds : List ℕ) → w ≤ length ls → get_or ls i 0 < length out → Digits n w row ds → Rest w ds → Spread n w row ls (i + 1) out → Spread n w row ls i (set out (get_or ls i 0) (get_or ds i 0))
place_next n w i row out ls ds k m D z v = by_test (ltb i w) refl
  where
    by_test : (b : Bool) → ltb i w ≡ b → Spread n w row ls i (set out (get_or ls i 0) (get_or ds i 0))
    by_test true e =
        let l = ltb-true i w e in
        let o : i + 1 - 1 ≡ i = omega arith in
        rw o at (spread_next n w (i + 1) row out ls ds (omega arith) (omega arith) k (rw o m) D v)
    by_test false e =
        let l = ltb-false i w e in
        ap (λ (x : ℕ). value_in (set out (get_or ls i 0) x)) (z i l) ∙ set_value out (get_or ls i 0) 0 m ∙ ap (λ (f : Values). with_value f (get_or ls i 0) 0) (v ∙ nothing n w (i + 1) row ls (omega arith)) ∙ nothing_set (get_or ls i 0) ∙ sym (nothing n w i row ls l)

-- all four places, the last first
module _ (n w row : ℕ) (ls ds : List ℕ) (few : w ≤ 4) (four : length ls ≡ 4) (low : Levels ls) (D : Digits n w row ds) (z : Rest w ds) where
  more : (i : ℕ) (out : List ℕ) → length out ≡ 4 → Spread n w row ls (i + 1) out → (length (set out (get_or ls i 0) (get_or ds i 0)) ≡ 4) × Spread n w row ls i (set out (get_or ls i 0) (get_or ds i 0))
  more i out l v = (length-set out (get_or ls i 0) (get_or ds i 0) ∙ l, place_next n w i row out ls ds (omega arith) (omega (arith, low i)) D z v)

  pub spread_all : value_in (spread_of ls ds) ≡ values_in (take w ls) (places_of n w row)
  spread_all =
      let a = more 3 (0 ∷ 0 ∷ 0 ∷ 0 ∷ []) refl (value_zeros ∙ sym (nothing n w 4 row ls few)) in
      let b = more 2 _ a.0 a.1 in
      let c = more 1 _ b.0 b.1 in
      let d = more 0 _ c.0 c.1 in
      values_all n w 0 row _ ls (omega arith) d.1

module _ (ls ds : List ℕ) (m : Most ds 64) where
  abbrev at : ℕ → List ℕ → List ℕ
  at i out = set out (get_or ls i 0) (get_or ds i 0)

  put : (i : ℕ) (out : List ℕ) → Most out 64 → Most (at i out) 64
  put i out k = most_set out (get_or ls i 0) (get_or ds i 0) (m i) k

  zeros : Most (0 ∷ 0 ∷ 0 ∷ 0 ∷ []) 64
  zeros l = omega (arith, within_zeros 1 (omega arith) l)

  pub spread_most : Most (spread_of ls ds) 64
  spread_most = put 0 (at 1 (at 2 (at 3 (0 ∷ 0 ∷ 0 ∷ 0 ∷ [])))) (put 1 (at 2 (at 3 (0 ∷ 0 ∷ 0 ∷ 0 ∷ []))) (put 2 (at 3 (0 ∷ 0 ∷ 0 ∷ 0 ∷ [])) (put 3 (0 ∷ 0 ∷ 0 ∷ 0 ∷ []) zeros)))

-- the places past the width stay 0
pub rest_set : (w i x : ℕ) (ds : List ℕ) → i < w → Rest w ds → Rest w (set ds i x)
rest_set w i x ds h z q l = get_or-set_other ds i q x 0 (λ e. omega arith) ∙ z q l

pub rest_zeros : (w : ℕ) → Rest w (0 ∷ 0 ∷ 0 ∷ 0 ∷ [])
unfolding value_in
rest_zeros w q l = ap (λ (f : Values). f q) value_zeros

-- ---- the first row
pub zero_digits : (n w : ℕ) → Digits n w 0 (0 ∷ 0 ∷ 0 ∷ 0 ∷ [])
zero_digits n w q l = rest_zeros 0 q (omega arith) ∙ sym (ap (λ (x : ℕ). x % n) (zero-div (n ^ (w - suc q))) ∙ zero-mod n)

-- ---- the first atom of the next row of a `forall`
pub row_on : (n j : ℕ) → 0 < n → j ≡ j / n * n → ((j + n) / n ≡ j / n + 1) × (j + n ≡ (j + n) / n * n)
row_on n j o e =
    let a : j + n ≡ (j / n + 1) * n + 0 = omega (arith, add-mul (j / n) 1 n, one-mul n) in
    let b : (j + n) / n ≡ j / n + 1 = ap (λ (x : ℕ). x / n) a ∙ digits_div (j / n + 1) o in
    let c : (j / n + 1) * n + 0 ≡ (j / n + 1) * n = omega arith in
    (b, a ∙ c ∙ ap (λ (q : ℕ). q * n) (sym b))

-- ---- the first action of a row of a `forall`, whose rows have c actions and n atoms each
pub acts_on : (first q c a q' : ℕ) → a ≡ first + q * c → q' ≡ q + 1 → a + c ≡ first + q' * c
acts_on first q c a q' e o = rw o (omega (arith, add-mul q 1 c, one-mul c))

pub acts_low : (q c n j : ℕ) → c ≤ n → j ≡ q * n → q * c ≤ j
acts_low q c n j h e = let o : q ≤ q = omega arith in omega (arith, mul-le-mul o h)

-- ---- the atoms of a `forall` are whole rows: a multiple that another does not reach within one row is at most that one

-- ---- the atoms of a `forall` are whole rows: a multiple that another does not reach within one row is at most that one
pub whole_end : (q m n : ℕ) → m * n < q * n + n → m * n ≤ q * n
whole_end q m n h = by_test (ltb q m) refl
  where
    by_test : (b : Bool) → ltb q m ≡ b → m * n ≤ q * n
    by_test true e = let l = ltb-true q m e in let k : q + 1 ≤ m = omega arith in let o : n ≤ n = omega arith in absurd (omega (arith, mul-le-mul k o, add-mul q 1 n, one-mul n))
    by_test false e = let l = ltb-false q m e in let o : n ≤ n = omega arith in mul-le-mul l o
