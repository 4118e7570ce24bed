-- Lists: what stands in a list of numbers, in a filter, in a map; tests of all or any elements.
use Prim.Native.Nat.{ℕ, zero, suc, ◌+◌, ◌-◌, ◌<◌, ◌≤◌}
use Rattle.std.specs.Prelude.{◌≡◌, ◌⊎◌, Bool, not, ◌||◌, eqb, length, get_or, take, drop, replicate, if◌then◌else◌}
use Rattle.std.proofs.Math.Path.{refl, ap, ap₂, subst}
use Rattle.std.proofs.Common.{sym, ◌∙◌, inl, inr, ⊎_elim, add-zero, zero-add, suc-add, add-one, eqb→eq}
use Rattle.std.proofs.Math.Bool.{true, false}
use Rattle.std.proofs.Math.Option.{Option, none, some}
use mathlib.Core.List.Memᴰ
use mathlib.Core.List.{List, [], ◌∷◌, ◌++◌, map, append_assoc, Memᴰ}
use native.Mathlib.Omega.{arith}
use Rattle.std.proofs.Math.Dec.{T}
use Rattle.definitions.specs.Lists.{all, any, filter, flat_map, map_from, from, below}
use Rattle.laws.specs.Booleans.{and_T, T_and_l, T_and_r, T_or, or_l, or_r, T_of, T_false, T_dec, neq}

-- ---- something or nothing
pub none_some : {A : Type 0} {a : A} → none ≡ some a → ⊥
none_some {A} e = subst (λ (o : Option A). elim o as (λ _. Type 0) [ none ↦ Unit {0} | some a ↦ ⊥ ]) e tt

pub some_eq : {A : Type 0} {a b : A} → some a ≡ some b → a ≡ b
some_eq {A} {a} {b} e = ap (λ (o : Option A). elim o as (λ _. A) [ none ↦ a | some x ↦ x ]) e

-- ---- the numbers below n
pub mem_from : (n a x : ℕ) → a ≤ x → x < a + n → Memᴰ x (from a n)
unfolding from
mem_from zero a x h l = absurd (omega arith)
mem_from (suc n) a x h l = by_cases (T_dec (eqb x a)) (λ q. mem_from n (suc a) x q (omega arith))
  where
    by_cases : T (eqb x a) ⊎ T (not (eqb x a)) → (suc a ≤ x → Memᴰ x (from (suc a) n)) → Memᴰ x (a ∷ from (suc a) n)
    by_cases (inl t) r = Memᴰ.head (eqb→eq x a t)
    by_cases (inr t) r = Memᴰ.tail (r (let k = neq x a t in omega arith))

pub from_mem : (n a x : ℕ) → Memᴰ x (from a n) → (a ≤ x) × (x < a + n)
unfolding from
from_mem zero a x m = absurd (Memᴰ.not-nil m)
from_mem (suc n) a x m = by_cases (Memᴰ.cases_cons m) (from_mem n (suc a) x)
  where
    by_cases : (x ≡ a) ⊎ Memᴰ x (from (suc a) n) → (Memᴰ x (from (suc a) n) → (suc a ≤ x) × (x < suc a + n)) → (a ≤ x) × (x < a + suc n)
    by_cases (inl e) r = (omega arith, omega arith)
    by_cases (inr q) r = let h = r q in (omega (arith, h.0), omega (arith, h.1))

pub mem_below : (n x : ℕ) → x < n → Memᴰ x (below n)
unfolding below
mem_below n x h = mem_from n 0 x (omega arith) (omega arith)

pub below_lt : (n x : ℕ) → Memᴰ x (below n) → x < n
unfolding below
below_lt n x m = let h = (from_mem n 0 x m).1 in omega arith

pub from_append : (a m k : ℕ) → from a (m + k) ≡ from a m ++ from (a + m) k
unfolding from
from_append a zero k = rw (zero-add k, add-zero a)
from_append a (suc m) k =
    let e : a + suc m ≡ suc a + m = omega arith in
    rw (suc-add m k, e) (ap (λ (l : List ℕ). a ∷ l) (from_append (suc a) m k))

pub from_snoc : (a m : ℕ) → from a (suc m) ≡ from a m ++ ((a + m) ∷ [])
unfolding from
from_snoc a zero = rw (add-zero a)
from_snoc a (suc m) = let e : a + suc m ≡ suc a + m = omega arith in rw e (ap (λ (l : List ℕ). a ∷ l) (from_snoc (suc a) m))

pub below_snoc : (m : ℕ) → below (suc m) ≡ below m ++ (m ∷ [])
unfolding below
below_snoc m = from_snoc 0 m ∙ rw (zero-add m)

pub length_from : (a n : ℕ) → length (from a n) ≡ n
unfolding from
length_from a zero = refl
length_from a (suc n) = ap suc (length_from (suc a) n)

pub length_below : (n : ℕ) → length (below n) ≡ n
unfolding below
length_below n = length_from 0 n

get_or_from : (n a i : ℕ) → i < n → get_or (from a n) i 0 ≡ a + i
unfolding from
get_or_from zero a i h = absurd (omega arith)
get_or_from (suc n) a zero h = sym (add-zero a)
get_or_from (suc n) a (suc i) h = let e = get_or_from n (suc a) i (omega arith) in omega arith

pub get_or_below : (n i : ℕ) → i < n → get_or (below n) i 0 ≡ i
unfolding below
get_or_below n i h = get_or_from n 0 i h ∙ zero-add i

module _ {A : Type 0} where
  pub mem_filter : (p : A → Bool) (l : List A) (x : A) → Memᴰ x l → T (p x) → Memᴰ x (filter p l)
  unfolding filter
  mem_filter p [] x m t = absurd (Memᴰ.not-nil m)
  mem_filter p (y ∷ l) x m t = by_test (p y) refl (λ q. mem_filter p l x q t) (Memᴰ.cases_cons m)
    where
      by_test : (b : Bool) → p y ≡ b → (Memᴰ x l → Memᴰ x (filter p l)) → (x ≡ y) ⊎ Memᴰ x l → Memᴰ x ((if b then y ∷ filter p l else filter p l))
      by_test true e r (inl q) = Memᴰ.head q
      by_test true e r (inr q) = Memᴰ.tail (r q)
      by_test false e r (inl q) = absurd (subst T e (subst (λ (z : A). T (p z)) q t))
      by_test false e r (inr q) = r q

  pub filter_mem : (p : A → Bool) (l : List A) (x : A) → Memᴰ x (filter p l) → Memᴰ x l × T (p x)
  unfolding filter
  filter_mem p [] x m = absurd (Memᴰ.not-nil m)
  filter_mem p (y ∷ l) x m = by_test (p y) refl (filter_mem p l x) m
    where
      by_test : (b : Bool) → p y ≡ b → (Memᴰ x (filter p l) → Memᴰ x l × T (p x)) → Memᴰ x ((if b then y ∷ filter p l else filter p l)) → Memᴰ x (y ∷ l) × T (p x)
      by_test true e r m = go2 (Memᴰ.cases_cons m)
        where
          go2 : (x ≡ y) ⊎ Memᴰ x (filter p l) → Memᴰ x (y ∷ l) × T (p x)
          go2 (inl q) = (Memᴰ.head q, subst (λ (z : A). T (p z)) (sym q) (T_of e))
          go2 (inr q) = let h = r q in (Memᴰ.tail h.0, h.1)
      by_test false e r m = let h = r m in (Memᴰ.tail h.0, h.1)

  pub all_at : (p : A → Bool) (l : List A) → T (all p l) → (x : A) → Memᴰ x l → T (p x)
  unfolding all
  all_at p [] t x m = absurd (Memᴰ.not-nil m)
  all_at p (y ∷ l) t x m = from_this (all_at p l (T_and_r (p y) (all p l) t) x) (Memᴰ.cases_cons m)
    where
      from_this : (Memᴰ x l → T (p x)) → (x ≡ y) ⊎ Memᴰ x l → T (p x)
      from_this r (inl q) = subst (λ (z : A). T (p z)) (sym q) (T_and_l (p y) (all p l) t)
      from_this r (inr q) = r q

  pub all_of : (p : A → Bool) (l : List A) → ((x : A) → Memᴰ x l → T (p x)) → T (all p l)
  unfolding all
  all_of p [] h = tt
  all_of p (y ∷ l) h = and_T (p y) (all p l) (h y (Memᴰ.head refl)) (all_of p l (λ x m. h x (Memᴰ.tail m)))

  pub any_of : (p : A → Bool) (l : List A) (x : A) → Memᴰ x l → T (p x) → T (any p l)
  unfolding any
  any_of p [] x m t = absurd (Memᴰ.not-nil m)
  any_of p (y ∷ l) x m t = from_this (λ q. any_of p l x q t) (Memᴰ.cases_cons m)
    where
      from_this : (Memᴰ x l → T (any p l)) → (x ≡ y) ⊎ Memᴰ x l → T (p y || any p l)
      from_this r (inl q) = or_l (p y) (any p l) (subst (λ (z : A). T (p z)) q t)
      from_this r (inr q) = or_r (p y) (any p l) (r q)

  pub any_at : (p : A → Bool) (l : List A) → T (any p l) → (x : A) × Memᴰ x l × T (p x)
  unfolding any
  any_at p [] t = absurd t
  any_at p (y ∷ l) t = from_this (any_at p l) (T_or (p y) (any p l) t)
    where
      from_this : (T (any p l) → (x : A) × Memᴰ x l × T (p x)) → T (p y) ⊎ T (any p l) → (x : A) × Memᴰ x (y ∷ l) × T (p x)
      from_this r (inl q) = (y, Memᴰ.head refl, q)
      from_this r (inr q) = let h = r q in (h.0, Memᴰ.tail h.1, h.2)

  -- tests that agree on a list
  pub filter_same : (f g : A → Bool) (l : List A) → ((x : A) → Memᴰ x l → f x ≡ g x) → filter f l ≡ filter g l
  unfolding filter
  filter_same f g [] h = refl
  filter_same f g (x ∷ l) h = ap₂ (λ (b : Bool) (m : List A). if b then x ∷ m else m) (h x (Memᴰ.head refl)) (filter_same f g l (λ y m. h y (Memᴰ.tail m)))

  pub any_none : (p : A → Bool) (l : List A) → ((x : A) → Memᴰ x l → p x ≡ false) → any p l ≡ false
  unfolding any
  any_none p [] h = refl
  any_none p (x ∷ l) h = rw (h x (Memᴰ.head refl)) (any_none p l (λ y m. h y (Memᴰ.tail m)))

  pub none_any : (p : A → Bool) (l : List A) → any p l ≡ false → (x : A) → Memᴰ x l → p x ≡ false
  none_any p l e x m = T_false (p x) (λ t. subst T e (any_of p l x m t))

-- ---- members of a map, of a part
pub mem_map : {A B : Type 0} (f : A → B) (l : List A) (x : A) → Memᴰ x l → Memᴰ (f x) (map f l)
mem_map f [] x m = absurd (Memᴰ.not-nil m)
mem_map f (z ∷ l) x m = ⊎_elim (λ e. Memᴰ.head (ap f e)) (λ q. Memᴰ.tail (mem_map f l x q)) (Memᴰ.cases_cons m)

pub map_mem : {A B : Type 0} (f : A → B) (l : List A) (y : B) → Memᴰ y (map f l) → (x : A) × Memᴰ x l × (y ≡ f x)
map_mem f [] y m = absurd (Memᴰ.not-nil m)
map_mem {A} f (z ∷ l) y m = from_this (map_mem f l y) (Memᴰ.cases_cons m)
  where
    from_this : (Memᴰ y (map f l) → (x : A) × Memᴰ x l × (y ≡ f x)) → (y ≡ f z) ⊎ Memᴰ y (map f l) → (x : A) × Memᴰ x (z ∷ l) × (y ≡ f x)
    from_this r (inl e) = (z, Memᴰ.head refl, e)
    from_this r (inr q) = let h = r q in (h.0, Memᴰ.tail h.1, h.2)

pub get_d_map : {A B : Type 0} (f : A → B) (l : List A) (i : ℕ) (d : A) (e : B) → i < length l → get_or (map f l) i e ≡ f (get_or l i d)
get_d_map f [] i d e h = absurd (omega arith)
get_d_map f (x ∷ l) zero d e h = refl
get_d_map f (x ∷ l) (suc i) d e h = get_d_map f l i d e (omega arith)

pub take_mem : {A : Type 0} (k : ℕ) (l : List A) (x : A) → Memᴰ x (take k l) → Memᴰ x l
take_mem zero [] x m = m
take_mem zero (y ∷ l) x m = absurd (Memᴰ.not-nil m)
take_mem (suc k) [] x m = m
take_mem (suc k) (y ∷ l) x m = ⊎_elim (λ e. Memᴰ.head e) (λ q. Memᴰ.tail (take_mem k l x q)) (Memᴰ.cases_cons m)

pub drop_mem : {A : Type 0} (k : ℕ) (l : List A) (x : A) → Memᴰ x (drop k l) → Memᴰ x l
drop_mem zero [] x m = m
drop_mem zero (y ∷ l) x m = m
drop_mem (suc k) [] x m = m
drop_mem (suc k) (y ∷ l) x m = Memᴰ.tail (drop_mem k l x m)

pub snoc_cases : {A : Type 0} (l : List A) (x y : A) → Memᴰ y (l ++ (x ∷ [])) → Memᴰ y l ⊎ (y ≡ x)
snoc_cases l x y m = ⊎_elim (λ q. inl q) (λ q. inr (Memᴰ.eq_of_singleton q)) (Memᴰ.append_cases l m)

pub get_or_mem : {A : Type 0} (l : List A) (i : ℕ) (d : A) → i < length l → Memᴰ (get_or l i d) l
get_or_mem [] i d h = absurd (omega arith)
get_or_mem (x ∷ l) zero d h = Memᴰ.head refl
get_or_mem (x ∷ l) (suc i) d h = Memᴰ.tail (get_or_mem l i d (omega arith))

pub mem_get_or : {A : Type 0} (l : List A) (x d : A) → Memᴰ x l → (i : ℕ) × (i < length l) × (get_or l i d ≡ x)
mem_get_or [] x d m = absurd (Memᴰ.not-nil m)
mem_get_or {A} (y ∷ l) x d m = by_cases (Memᴰ.cases_cons m) (mem_get_or l x d)
  where
    by_cases : (x ≡ y) ⊎ Memᴰ x l → (Memᴰ x l → (i : ℕ) × (i < length l) × (get_or l i d ≡ x)) → (i : ℕ) × (i < suc (length l)) × (get_or (y ∷ l) i d ≡ x)
    by_cases (inl e) r = (zero, omega arith, sym e)
    by_cases (inr q) r = let (i, h, e) = r q in (suc i, omega arith, e)

pub mem_flat : {A B : Type 0} (f : A → List B) (l : List A) (x : A) (y : B) → Memᴰ x l → Memᴰ y (f x) → Memᴰ y (flat_map f l)
unfolding flat_map
mem_flat f [] x y m q = absurd (Memᴰ.not-nil m)
mem_flat {A} f (z ∷ l) x y m q = ⊎_elim (λ e. Memᴰ.append_left (flat_map f l) (subst (λ (w : A). Memᴰ y (f w)) e q)) (λ k. Memᴰ.append_right (f z) (mem_flat f l x y k q)) (Memᴰ.cases_cons m)

pub flat_mem : {A B : Type 0} (f : A → List B) (l : List A) (y : B) → Memᴰ y (flat_map f l) → (x : A) × Memᴰ x l × Memᴰ y (f x)
unfolding flat_map
flat_mem f [] y m = absurd (Memᴰ.not-nil m)
flat_mem {A} {B} f (z ∷ l) y m = from_this (flat_mem f l y) (Memᴰ.append_cases (f z) m)
  where
    from_this : (Memᴰ y (flat_map f l) → (x : A) × Memᴰ x l × Memᴰ y (f x)) → Memᴰ y (f z) ⊎ Memᴰ y (flat_map f l) → (x : A) × Memᴰ x (z ∷ l) × Memᴰ y (f x)
    from_this r (inl q) = (z, Memᴰ.head refl, q)
    from_this r (inr q) = let h = r q in (h.0, Memᴰ.tail h.1, h.2)

pub flat_append : {A B : Type 0} (f : A → List B) (l m : List A) → flat_map f (l ++ m) ≡ flat_map f l ++ flat_map f m
unfolding flat_map
flat_append f [] m = refl
flat_append {A} {B} f (x ∷ l) m = ap (λ (k : List B). f x ++ k) (flat_append f l m) ∙ sym (append_assoc (f x) (flat_map f l) (flat_map f m))

pub map_flat : {A B C : Type 0} (g : B → C) (f : A → List B) (l : List A) → map g (flat_map f l) ≡ flat_map (λ x. map g (f x)) l
unfolding flat_map
map_flat g f [] = refl
map_flat {A} {B} {C} g f (x ∷ l) = map_append g (f x) (flat_map f l) ∙ ap (λ (m : List C). map g (f x) ++ m) (map_flat g f l)
  where
    map_append : (g : B → C) (a b : List B) → map g (a ++ b) ≡ map g a ++ map g b
    map_append g [] b = refl
    map_append g (y ∷ a) b = ap (◌∷◌ (g y)) (map_append g a b)

pub flat_same : {A B : Type 0} (f g : A → List B) (l : List A) → ((x : A) → Memᴰ x l → f x ≡ g x) → flat_map f l ≡ flat_map g l
unfolding flat_map
flat_same f g [] h = refl
flat_same f g (x ∷ l) h = ap₂ ◌++◌ (h x (Memᴰ.head refl)) (flat_same f g l (λ y m. h y (Memᴰ.tail m)))

pub flat_flat : {A B C : Type 0} (g : B → List C) (f : A → List B) (l : List A) → flat_map g (flat_map f l) ≡ flat_map (λ x. flat_map g (f x)) l
unfolding flat_map
flat_flat g f [] = refl
flat_flat {A} {B} {C} g f (x ∷ l) = flat_append g (f x) (flat_map f l) ∙ ap (λ (m : List C). flat_map g (f x) ++ m) (flat_flat g f l)

pub flat_map_lem : {A B C : Type 0} (g : B → List C) (f : A → B) (l : List A) → flat_map g (map f l) ≡ flat_map (λ x. g (f x)) l
unfolding flat_map
flat_map_lem g f [] = refl
flat_map_lem {A} {B} {C} g f (x ∷ l) = ap (λ (m : List C). g (f x) ++ m) (flat_map_lem g f l)

pub map_map : {A B C : Type 0} (g : B → C) (f : A → B) (l : List A) → map g (map f l) ≡ map (λ x. g (f x)) l
map_map g f [] = refl
map_map g f (x ∷ l) = ap (◌∷◌ (g (f x))) (map_map g f l)

-- ---- elements with their numbers
module _ {A B : Type 0} (f : ℕ → A → B) where
  pub length_map_from : (r : ℕ) (l : List A) → length (map_from f r l) ≡ length l
  unfolding map_from
  length_map_from r [] = refl
  length_map_from r (x ∷ l) = ap suc (length_map_from (suc r) l)

  pub get_or_map_from : (r j : ℕ) (l : List A) (d : A) (e : B) → j < length l → get_or (map_from f r l) j e ≡ f (r + j) (get_or l j d)
  unfolding map_from
  get_or_map_from r j [] d e h = absurd (omega arith)
  get_or_map_from r zero (x ∷ l) d e h = ap (λ (i : ℕ). f i x) (sym (add-zero r))
  get_or_map_from r (suc j) (x ∷ l) d e h = let w : suc r + j ≡ r + suc j = omega arith in get_or_map_from (suc r) j l d e (omega arith) ∙ ap (λ (i : ℕ). f i (get_or l j d)) w

-- every numbered element passes the test
module _ {A : Type 0} (f : ℕ → A → Bool) where
  pub each_at : (r : ℕ) (l : List A) (d : A) → T (all (λ b. b) (map_from f r l)) → (j : ℕ) → j < length l → T (f (r + j) (get_or l j d))
  unfolding all map_from
  each_at r [] d t j h = absurd (omega arith)
  each_at r (x ∷ l) d t zero h = subst (λ (i : ℕ). T (f i x)) (sym (add-zero r)) (T_and_l (f r x) _ t)
  each_at r (x ∷ l) d t (suc j) h = let e : suc r + j ≡ r + suc j = omega arith in subst (λ (i : ℕ). T (f i (get_or l j d))) e (each_at (suc r) l d (T_and_r (f r x) _ t) j (omega arith))

  pub each_of : (r : ℕ) (l : List A) (d : A) → ((j : ℕ) → j < length l → T (f (r + j) (get_or l j d))) → T (all (λ b. b) (map_from f r l))
  unfolding all map_from
  each_of r [] d h = tt
  each_of r (x ∷ l) d h = and_T (f r x) _ (subst (λ (i : ℕ). T (f i x)) (add-zero r) (h 0 (omega arith))) (each_of (suc r) l d (λ j k. let e : r + suc j ≡ suc r + j = omega arith in subst (λ (i : ℕ). T (f i (get_or l j d))) e (h (suc j) (omega arith))))

-- ---- some of a run of numbers passes, gone through from the front
module _ (g : ℕ → Bool) (k i : ℕ) where
  pub any_yes : i < k → g i ≡ true → any g (from i (k - i)) ≡ true
  unfolding any from
  any_yes h e = let m : k - i ≡ suc (k - suc i) = omega arith in rw (m, e)

  pub any_no : i < k → g i ≡ false → any g (from i (k - i)) ≡ any g (from (i + 1) (k - (i + 1)))
  unfolding any from
  any_no h e = let m : k - i ≡ suc (k - suc i) = omega arith in rw (m, e, add-one)

  pub any_end : k ≤ i → any g (from i (k - i)) ≡ false
  unfolding any from
  any_end h = let m : k - i ≡ 0 = omega arith in rw m

pub any_start : (g : ℕ → Bool) (k : ℕ) → any g (below k) ≡ any g (from 0 (k - 0))
unfolding below
any_start g k = let m : k ≡ k - 0 = omega arith in ap (λ (x : ℕ). any g (from 0 x)) m

-- ---- a table of zeros
pub zeros_at : (k j : ℕ) → ◌≡◌ {A = ℕ} (get_or (replicate k 0) j 0) 0
zeros_at zero j = refl
zeros_at (suc k) zero = refl
zeros_at (suc k) (suc j) = zeros_at k j

pub map_same : {A B : Type 0} (f g : A → B) (l : List A) → ((x : A) → Memᴰ x l → f x ≡ g x) → map f l ≡ map g l
map_same f g [] h = refl
map_same f g (x ∷ l) h = ap₂ ◌∷◌ (h x (Memᴰ.head refl)) (map_same f g l (λ y m. h y (Memᴰ.tail m)))

pub mem_map_from : {A B : Type 0} (f : ℕ → A → B) (i j : ℕ) (l : List A) (d : A) → j < length l → Memᴰ (f (i + j) (get_or l j d)) (map_from f i l)
unfolding map_from
mem_map_from f i j [] d h = absurd (omega arith)
mem_map_from f i zero (x ∷ l) d h = let e : i + zero ≡ i = omega arith in Memᴰ.head (ap (λ (k : ℕ). f k x) e)
mem_map_from f i (suc j) (x ∷ l) d h = let e : suc i + j ≡ i + suc j = omega arith in Memᴰ.tail (subst (λ (k : ℕ). Memᴰ (f k (get_or l j d)) (map_from f (suc i) l)) e (mem_map_from f (suc i) j l d (omega arith)))

pub map_from_mem : {A B : Type 0} (f : ℕ → A → B) (i : ℕ) (l : List A) (d : A) (y : B) → Memᴰ y (map_from f i l) → (j : ℕ) × (j < length l) × (y ≡ f (i + j) (get_or l j d))
unfolding map_from
map_from_mem f i [] d y m = absurd (Memᴰ.not-nil m)
map_from_mem f i (x ∷ l) d y m = from_this (map_from_mem f (suc i) l d y) (Memᴰ.cases_cons m)
  where
    from_this : (Memᴰ y (map_from f (suc i) l) → (j : ℕ) × (j < length l) × (y ≡ f (suc i + j) (get_or l j d))) → (y ≡ f i x) ⊎ Memᴰ y (map_from f (suc i) l) → (j : ℕ) × (j < suc (length l)) × (y ≡ f (i + j) (get_or (x ∷ l) j d))
    from_this r (inl e) = let z : i + zero ≡ i = omega arith in (zero, omega arith, e ∙ ap (λ (k : ℕ). f k x) (sym z))
    from_this r (inr q) = let (j, h, e) = r q in let z : suc i + j ≡ i + suc j = omega arith in (suc j, omega arith, e ∙ ap (λ (k : ℕ). f k (get_or l j d)) z)
