-- Lists without repeats, and how long they can be.
use Prim.Native.Nat.{ℕ, zero, suc, ◌<◌, ◌≤◌}
use Rattle.std.specs.Prelude.{◌≡◌, refl, ◌⊎◌, Bool, not, T, if◌then◌else◌}
use Rattle.std.proofs.Common.{sym, ap, subst, ◌∙◌, inl, inr, T_not}
use Rattle.std.proofs.Math.Logic.{⊎_elim}
use Rattle.std.proofs.Math.Bool.{true, false}
use mathlib.Core.List.Memᴰ
use mathlib.Core.List.{List, [], ◌∷◌, ◌++◌, map, Memᴰ}
use native.Mathlib.Omega.{arith}
use Rattle.std.proofs.Math.Dec.{not_T}
use Rattle.std.proofs.Math.ListN.{length}
use Rattle.definitions.specs.Lists.{filter, flat_map, from, below}
use Rattle.definitions.specs.Sheet.Relations.{Tuple, is_among, are_distinct}
use Rattle.laws.specs.Booleans.{and_T, T_and_l, T_and_r, T_of}
use Rattle.laws.specs.Lists.{filter_mem, from_mem, map_mem, flat_mem}
use Rattle.laws.specs.Tuples.{among_mem, mem_among}

module _ {A : Type 0} where
  unfoldable pub Once : List A → Type 0
  Once [] = Unit {0}
  Once (x ∷ l) = (Memᴰ x l → ⊥) × Once l

  pub once_filter : (f : A → Bool) (l : List A) → Once l → Once (filter f l)
  unfolding Once filter
  once_filter f [] h = tt
  once_filter f (x ∷ l) h = by_test (f x) (once_filter f l h.1)
    where
      by_test : (b : Bool) → Once (filter f l) → Once (if b then x ∷ filter f l else filter f l)
      by_test true r = (λ m. h.0 (filter_mem f l x m).0, r)
      by_test false r = r

  pub once_append : (l m : List A) → Once l → Once m → ((x : A) → Memᴰ x l → Memᴰ x m → ⊥) → Once (l ++ m)
  unfolding Once
  once_append [] m hl hm d = hm
  once_append (x ∷ l) m hl hm d = (λ i. ⊎_elim (λ q. hl.0 q) (λ q. d x (Memᴰ.head refl) q) (Memᴰ.append_cases l i), once_append l m hl.1 hm (λ y q r. d y (Memᴰ.tail q) r))

pub once_middle : {A : Type 0} (l m : List A) (x : A) → Once (l ++ (x ∷ m)) → Memᴰ x l → ⊥
unfolding Once
once_middle [] m x o i = Memᴰ.not-nil i
once_middle (y ∷ l) m x o i = ⊎_elim (λ e. o.0 (Memᴰ.append_right l (Memᴰ.head (sym e)))) (λ q. once_middle l m x o.1 q) (Memᴰ.cases_cons i)

pub once_map : {A B : Type 0} (f : A → B) (l : List A) → ((x y : A) → Memᴰ x l → Memᴰ y l → f x ≡ f y → x ≡ y) → Once l → Once (map f l)
unfolding Once
once_map f [] inj h = tt
once_map f (x ∷ l) inj h = (λ m. let (y, my, e) = map_mem f l (f x) m in h.0 (Memᴰ.cast (inj x y (Memᴰ.head refl) (Memᴰ.tail my) e) my), once_map f l (λ a b ma mb e. inj a b (Memᴰ.tail ma) (Memᴰ.tail mb) e) h.1)

pub once_from : (n a : ℕ) → Once (from a n)
unfolding Once from
once_from zero a = tt
once_from (suc n) a = (λ m. let q = (from_mem n (suc a) a m).0 in omega arith, once_from n (suc a))

pub once_below : (n : ℕ) → Once (below n)
unfolding below
once_below n = once_from n 0

pub once_flat : {A B : Type 0} (f : A → List B) (tag : B → A) (l : List A) → ((x : A) → Once (f x)) → ((x : A) (y : B) → Memᴰ y (f x) → tag y ≡ x) → Once l → Once (flat_map f l)
unfolding Once flat_map
once_flat f tag [] o d h = tt
once_flat f tag (x ∷ l) o d h = once_append (f x) (flat_map f l) (o x) (once_flat f tag l o d h.1) (λ y q r. let (z, mz, my) = flat_mem f l y r in h.0 (Memᴰ.cast (sym (d x y q) ∙ d z y my) mz))

-- ---- a list without repeats is no longer than one that has all of it
module _ {A : Type 0} where
  cut : (m : List A) (x : A) → Memᴰ x m → (m' : List A) × (length m ≡ suc (length m')) × ((y : A) → Memᴰ y m → (y ≡ x) ⊎ Memᴰ y m')
  cut [] x i = absurd (Memᴰ.not-nil i)
  cut (z ∷ m) x i = by_cases (Memᴰ.cases_cons i) (cut m x)
    where
      by_cases : (x ≡ z) ⊎ Memᴰ x m → (Memᴰ x m → (m' : List A) × (length m ≡ suc (length m')) × ((y : A) → Memᴰ y m → (y ≡ x) ⊎ Memᴰ y m')) → (m' : List A) × (suc (length m) ≡ suc (length m')) × ((y : A) → Memᴰ y (z ∷ m) → (y ≡ x) ⊎ Memᴰ y m')
      by_cases (inl e) r = (m, refl, λ y j. ⊎_elim (λ k. inl (k ∙ sym e)) (λ k. inr k) (Memᴰ.cases_cons j))
      by_cases (inr q) r = let h = r q in (z ∷ h.0, ap suc h.1, λ y j. ⊎_elim (λ k. inr (Memᴰ.head k)) (λ k. ⊎_elim (λ a. inl a) (λ a. inr (Memᴰ.tail a)) (h.2 y k)) (Memᴰ.cases_cons j))

  pub pigeon : (l m : List A) → Once l → ((x : A) → Memᴰ x l → Memᴰ x m) → length l ≤ length m
  unfolding Once
  pigeon [] m o h = omega arith
  pigeon (x ∷ l) m o h =
      let c = cut m x (h x (Memᴰ.head refl)) in
      let r = pigeon l c.0 o.1 (λ y j. ⊎_elim (λ e. absurd (o.0 (Memᴰ.cast (sym e) j))) (λ k. k) (c.2 y (h y (Memᴰ.tail j)))) in
      omega (arith, c.1)

  pub filter_le : (f : A → Bool) (l : List A) → length (filter f l) ≤ length l
  unfolding filter
  filter_le f [] = omega arith
  filter_le f (x ∷ l) = by_test (f x) (filter_le f l)
    where
      by_test : (b : Bool) → length (filter f l) ≤ length l → length (if b then x ∷ filter f l else filter f l) ≤ suc (length l)
      by_test true h = omega arith
      by_test false h = omega arith

-- leaving out some element makes a list shorter
pub filter_lt : {A : Type 0} (f : A → Bool) (l : List A) (x : A) → Memᴰ x l → f x ≡ false → length (filter f l) < length l
unfolding filter
filter_lt f [] x m e = absurd (Memᴰ.not-nil m)
filter_lt {A} f (y ∷ l) x m e = by_test (f y) refl (Memᴰ.cases_cons m) (λ q. filter_lt f l x q e)
  where
    by_test : (b : Bool) → f y ≡ b → (x ≡ y) ⊎ Memᴰ x l → (Memᴰ x l → length (filter f l) < length l) → length (if b then y ∷ filter f l else filter f l) < suc (length l)
    by_test true q (inl i) r = absurd (subst T (sym (ap f i) ∙ e) (T_of q))
    by_test true q (inr i) r = let h = r i in omega arith
    by_test false q i r = let h = filter_le f l in omega arith

-- ---- of tuples it is the same as the definitions' test
pub distinct_once : (ts : List Tuple) → T (are_distinct ts) → Once ts
unfolding are_distinct Once
distinct_once [] o = tt
distinct_once (t ∷ ts) o = (λ m. T_not (is_among t ts) (T_and_l (not (is_among t ts)) _ o) (mem_among t ts m), distinct_once ts (T_and_r (not (is_among t ts)) _ o))

pub once_distinct : (ts : List Tuple) → Once ts → T (are_distinct ts)
unfolding are_distinct Once
once_distinct [] o = tt
once_distinct (t ∷ ts) o = and_T (not (is_among t ts)) _ (not_T (is_among t ts) (λ h. o.0 (among_mem t ts h))) (once_distinct ts o.1)
