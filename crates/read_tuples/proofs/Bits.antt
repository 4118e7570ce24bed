-- Tuples as bits: no two tuples share one, so a tuple's bit says whether it is among the tuples marked, and marking one more sets its bit.
use Prim.Native.Nat.{ℕ, zero, suc, ◌+◌, ◌-◌, ◌*◌, ◌^◌, ◌≤◌, ◌<◌}
use mathlib.Core.Path.{◌≡◌, refl, sym, ap, ap₂, subst, ◌∙◌, fun_ext}
use mathlib.Core.Bool.{Bool, true, false, cond, ◌||◌, or-false}
use mathlib.Core.List.{List, [], ◌∷◌, ◌++◌}
use native.Mathlib.Decide.{ℕ_discrete, dec_lt}
use native.Mathlib.Omega.{arith}
use lib.Dec.{T, eqb}
use lib.ListN.{length, get_or}
use borrow.Author.Tests.{eq-eqb, ne_eqb}
use Rattle.definitions.specs.Lists.{any}
use Rattle.definitions.specs.Sheet.Relations.{Tuple, same_tuple, is_among}
use Rattle.definitions.specs.Problem.Atoms.{row_of, words_for}
use Rattle.bits.specs.Table.{put}
use Rattle.laws.specs.Booleans.{T_of, T_true}
use Rattle.laws.specs.Tuples.{same_tuple_eq, same_tuple_refl}
use Rattle.read_names.specs.declared.Signature.{Signature}
use Rattle.read_tuples.specs.Marks.{first_word, bit_of, marks, Valid, AllValid}
use Rattle.read_tuples.proofs.Rows.{row_lt, row_same}

-- ---- the words of relations

pub words_hold : (k : ℕ) → k ≤ 64 * words_for k
unfolding words_for
words_hold k = omega arith

module _ (g : Signature) (n lo : ℕ) where
  -- a relation ends before a later one begins
  pub words_apart : (m d : ℕ) → first_word g n lo m + words_for (n ^ get_or g.arity (lo + m) 0) ≤ first_word g n lo (suc m + d)
  unfolding first_word
  words_apart m zero = let z : suc m + 0 ≡ suc m = omega arith in rw z (omega arith)
  words_apart m (suc d) = let z : suc m + suc d ≡ suc (suc m + d) = omega arith in rw z (omega (arith, words_apart m d))

  module _ (m : ℕ) where
    pub row_bound : (t : Tuple) → Valid g n lo m t → row_of n t.places < 64 * words_for (n ^ get_or g.arity (lo + (t.relation - (5 + lo))) 0)
    unfolding Valid
    row_bound t v =
        let z : t.relation - 5 ≡ lo + (t.relation - (5 + lo)) = omega (arith, v.0) in
        let e : n ^ length t.places ≡ n ^ get_or g.arity (lo + (t.relation - (5 + lo))) 0 = ap (λ (x : ℕ). n ^ x) (v.2 ∙ ap (λ (x : ℕ). get_or g.arity x 0) z) in
        omega (arith, row_lt n t.places v.3, e, words_hold (n ^ get_or g.arity (lo + (t.relation - (5 + lo))) 0))

    apart : (t u : Tuple) → Valid g n lo m t → t.relation - (5 + lo) < u.relation - (5 + lo) → bit_of g n lo t < bit_of g n lo u
    unfolding bit_of
    apart t u v h =
        let d : ℕ = u.relation - (5 + lo) - suc (t.relation - (5 + lo)) in
        let z : suc (t.relation - (5 + lo)) + d ≡ u.relation - (5 + lo) = omega arith in
        let w : first_word g n lo (t.relation - (5 + lo)) + words_for (n ^ get_or g.arity (lo + (t.relation - (5 + lo))) 0) ≤ first_word g n lo (u.relation - (5 + lo))
        = subst (λ (x : ℕ). first_word g n lo (t.relation - (5 + lo)) + words_for (n ^ get_or g.arity (lo + (t.relation - (5 + lo))) 0) ≤ first_word g n lo x) z (words_apart (t.relation - (5 + lo)) d) in
        omega (arith, row_bound t v)

    same_relation : (t u : Tuple) → Valid g n lo m t → Valid g n lo m u → bit_of g n lo t ≡ bit_of g n lo u → t.relation - (5 + lo) ≡ u.relation - (5 + lo)
    same_relation t u v w e = from_this (dec_lt (t.relation - (5 + lo)) (u.relation - (5 + lo))) (dec_lt (u.relation - (5 + lo)) (t.relation - (5 + lo)))
      where
        less : (a b : ℕ) → a < b → a ≡ b → ⊥
        less a b h p = omega arith

        from_this : Dec (t.relation - (5 + lo) < u.relation - (5 + lo)) → Dec (u.relation - (5 + lo) < t.relation - (5 + lo)) → t.relation - (5 + lo) ≡ u.relation - (5 + lo)
        from_this (yes h) d = absurd (less (bit_of g n lo t) (bit_of g n lo u) (apart t u v h) e)
        from_this (no h) (yes k) = absurd (less (bit_of g n lo u) (bit_of g n lo t) (apart u t w k) (sym e))
        from_this (no h) (no k) = omega arith

    same_bit : (t u : Tuple) → Valid g n lo m t → Valid g n lo m u → bit_of g n lo t ≡ bit_of g n lo u → (t.relation ≡ u.relation) × (t.places ≡ u.places)
    unfolding Valid bit_of
    same_bit t u v w e =
        let r : t.relation - (5 + lo) ≡ u.relation - (5 + lo) = same_relation t u v w e in
        let s : t.relation ≡ u.relation = omega (arith, v.0, w.0) in
        let x : first_word g n lo (t.relation - (5 + lo)) ≡ first_word g n lo (u.relation - (5 + lo)) = ap (first_word g n lo) r in
        (s, row_same n t.places u.places v.3 w.3 (v.2 ∙ ap (λ (i : ℕ). get_or g.arity (i - 5) 0) s ∙ sym w.2) (omega arith))

-- ---- tuples as bits

module _ (g : Signature) (n lo m : ℕ) where
  bit_test : (t u : Tuple) → Valid g n lo m t → Valid g n lo m u → eqb (bit_of g n lo u) (bit_of g n lo t) ≡ same_tuple t u
  bit_test t u v w = by_test (same_tuple t u) refl
    where
      by_test : (b : Bool) → same_tuple t u ≡ b → eqb (bit_of g n lo u) (bit_of g n lo t) ≡ b
      by_test true p = eq-eqb (bit_of g n lo u) (bit_of g n lo t) (ap (bit_of g n lo) (sym (same_tuple_eq t u (T_of p))))
      by_test false p = ne_eqb (bit_of g n lo u) (bit_of g n lo t) (λ e. clash (same_bit g n lo m t u v w (sym e)))
        where
          clash : (t.relation ≡ u.relation) × (t.places ≡ u.places) → ⊥
          clash h =
              let x : t ≡ u = ap₂ (λ (a : ℕ) (b : List ℕ). record { relation = a; places = b }) h.0 h.1 in
              let q : same_tuple t u ≡ true = T_true (same_tuple t u) (subst (λ (y : Tuple). T (same_tuple t y)) x (same_tuple_refl t)) in
              let z : ◌≡◌ {A = ℕ} 0 1 = cc in
              omega arith

  -- a tuple's bit says whether it is among those marked
  pub marks_among : (t : Tuple) (ts : List Tuple) → Valid g n lo m t → AllValid g n lo m ts → marks (bit_of g n lo) ts (bit_of g n lo t) ≡ is_among t ts
  unfolding marks is_among any AllValid
  marks_among t [] v w = refl
  marks_among t (u ∷ us) v w = rw (bit_test t u v w.0, marks_among t us v w.1)

  pub valid_snoc : (ts : List Tuple) (t : Tuple) → AllValid g n lo m ts → Valid g n lo m t → AllValid g n lo m (ts ++ (t ∷ []))
  unfolding AllValid
  valid_snoc [] t w v = (v, tt)
  valid_snoc (u ∷ us) t w v = (w.0, valid_snoc us t w.1 v)

-- ---- marking one more

or_true : (b : Bool) → (b || true) ≡ true
or_true true = refl
or_true false = refl

any_snoc : (p : Tuple → Bool) (ts : List Tuple) (t : Tuple) → any p (ts ++ (t ∷ [])) ≡ (any p ts || p t)
unfolding any
any_snoc p [] t = or-false (p t)
any_snoc p (u ∷ us) t = by_test (p u) (any_snoc p us t)
  where
    by_test : (b : Bool) → any p (us ++ (t ∷ [])) ≡ (any p us || p t) → (b || any p (us ++ (t ∷ []))) ≡ ((b || any p us) || p t)
    by_test true e = refl
    by_test false e = e

pub marks_put : (place : Tuple → ℕ) (ts : List Tuple) (t : Tuple) → put (marks place ts) (place t) true ≡ marks place (ts ++ (t ∷ []))
unfolding marks put
marks_put place ts t = fun_ext (λ i. by_number i (ℕ_discrete i (place t)))
  where
    by_number : (i : ℕ) → Dec (i ≡ place t) → cond (eqb i (place t)) true (any (λ (u : Tuple). eqb (place u) i) ts) ≡ any (λ (u : Tuple). eqb (place u) i) (ts ++ (t ∷ []))
    by_number i (yes e) = rw (eq-eqb i (place t) e) (sym (any_snoc (λ (u : Tuple). eqb (place u) i) ts t ∙ rw (eq-eqb (place t) i (sym e)) (or_true (any (λ (u : Tuple). eqb (place u) i) ts))))
    by_number i (no h) = rw (ne_eqb i (place t) h) (sym (any_snoc (λ (u : Tuple). eqb (place u) i) ts t ∙ rw (ne_eqb (place t) i (λ e. h (sym e))) (or-false (any (λ (u : Tuple). eqb (place u) i) ts))))

pub none_marked : (place : Tuple → ℕ) → (λ (i : ℕ). false) ≡ marks place []
unfolding marks any
none_marked place = refl
