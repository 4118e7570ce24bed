-- Equal lists of numbers, equal tuples, and tuples among tuples.
use Rattle.std.specs.Prelude.{ℕ, ◌≡◌, refl, not, T, eqb}
use Rattle.std.proofs.Common.{sym, ap₂, subst, ⊎_elim, eqb→eq, T_not}
use mathlib.Core.List.Memᴰ
use mathlib.Core.List.{List, [], ◌∷◌, ◌++◌, Memᴰ}
use Rattle.std.proofs.Math.Dec.{eqb_refl, not_T}
use Rattle.definitions.specs.Lists.{any, same}
use Rattle.definitions.specs.Sheet.Relations.{Tuple, same_tuple, is_among, are_distinct}
use Rattle.laws.specs.Booleans.{and_T, T_and_l, T_and_r, T_or, or_l, or_r}

pub same_eq : (xs ys : List ℕ) → T (same xs ys) → xs ≡ ys
unfolding same
same_eq [] [] t = refl
same_eq [] (y ∷ ys) t = absurd t
same_eq (x ∷ xs) [] t = absurd t
same_eq (x ∷ xs) (y ∷ ys) t = ap₂ ◌∷◌ (eqb→eq x y (T_and_l (eqb x y) _ t)) (same_eq xs ys (T_and_r (eqb x y) _ t))

pub same_refl : (xs : List ℕ) → T (same xs xs)
unfolding same
same_refl [] = tt
same_refl (x ∷ xs) = and_T (eqb x x) _ (eqb_refl x) (same_refl xs)

pub same_tuple_eq : (t u : Tuple) → T (same_tuple t u) → t ≡ u
unfolding same_tuple
same_tuple_eq t u h = from_this (eqb→eq t.relation u.relation (T_and_l (eqb t.relation u.relation) _ h)) (same_eq t.places u.places (T_and_r (eqb t.relation u.relation) _ h))
  where
    from_this : t.relation ≡ u.relation → t.places ≡ u.places → t ≡ u
    from_this e f = ap₂ (λ (r : ℕ) (xs : List ℕ). record { relation = r; places = xs }) e f

pub same_tuple_refl : (t : Tuple) → T (same_tuple t t)
unfolding same_tuple
same_tuple_refl t = and_T (eqb t.relation t.relation) _ (eqb_refl t.relation) (same_refl t.places)

pub among_mem : (t : Tuple) (ts : List Tuple) → T (is_among t ts) → Memᴰ t ts
unfolding is_among any
among_mem t [] h = absurd h
among_mem t (u ∷ ts) h = ⊎_elim (λ q. Memᴰ.head (same_tuple_eq t u q)) (λ q. Memᴰ.tail (among_mem t ts q)) (T_or (same_tuple t u) _ h)

pub mem_among : (t : Tuple) (ts : List Tuple) → Memᴰ t ts → T (is_among t ts)
unfolding is_among any
mem_among t [] m = absurd (Memᴰ.not-nil m)
mem_among t (u ∷ ts) m = ⊎_elim (λ e. or_l (same_tuple t u) _ (subst (λ (x : Tuple). T (same_tuple t x)) e (same_tuple_refl t))) (λ q. or_r (same_tuple t u) _ (mem_among t ts q)) (Memᴰ.cases_cons m)

pub distinct_snoc : (ts : List Tuple) (x : Tuple) → T (are_distinct ts) → T (not (is_among x ts)) → T (are_distinct (ts ++ (x ∷ [])))
unfolding are_distinct is_among any
distinct_snoc [] x o h = tt
distinct_snoc (t ∷ ts) x o h = and_T (not (is_among t (ts ++ (x ∷ [])))) _
    (not_T (is_among t (ts ++ (x ∷ []))) (λ q. ⊎_elim (λ m. T_not (is_among t ts) (T_and_l (not (is_among t ts)) _ o) (mem_among t ts m))
    (λ m. T_not (is_among x (t ∷ ts)) h (mem_among x (t ∷ ts) (Memᴰ.head (sym (Memᴰ.eq_of_singleton m)))))
    (Memᴰ.append_cases ts (among_mem t (ts ++ (x ∷ [])) q))))
    (distinct_snoc ts x (T_and_r (not (is_among t ts)) _ o) (not_T (is_among x ts) (λ q. T_not (is_among x (t ∷ ts)) h (mem_among x (t ∷ ts) (Memᴰ.tail (among_mem x ts q))))))
