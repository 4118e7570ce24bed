-- Ranges: ascending lists of elements. An element and its rank, the elements up to one, the one before it and the greatest; and that
-- the numbers below n are a range.
use Prim.Native.Nat.{ℕ, zero, suc, ◌+◌, ◌-◌, ◌<◌, ◌≤◌}
use Rattle.std.specs.Prelude.{◌≡◌, ◌⊎◌, ◌↔◌, Bool, ◌&&◌, T, eqb, leb, length, get_or, if◌then◌else◌}
use Rattle.std.proofs.Math.Path.{refl}
use Rattle.std.proofs.Common.{sym, ap, ap₂, subst, ◌∙◌, inl, inr, ⊎_elim, add-one, eqb→eq, ltb→lt, lt→ltb, leb→le, le→leb}
use Rattle.std.proofs.Math.Bool.{true, false}
use Rattle.std.proofs.Math.Option.{Option, none, some}
use mathlib.Core.List.Memᴰ
use mathlib.Core.List.{List, [], ◌∷◌, map, Memᴰ}
use native.Mathlib.Omega.{arith}
use Rattle.std.proofs.Math.Dec.{ltb, eqb_refl}
use borrow.Author.Tests.{eq-eqb, lt-ltb, ltb-true, ltb-false}
use Rattle.definitions.specs.Lists.{all, any, filter, option, from, below, last, is_in, rank, up_to, before, greatest}
use Rattle.definitions.specs.Sheet.Sheets.{Member, is_member, has_member}
use Rattle.definitions.specs.Problem.Truth.{Case, members_of}
use Rattle.definitions.specs.Problem.Built.{least}
use Rattle.laws.specs.Booleans.{T_and_l, T_and_r, and_T, T_of, T_true, T_ext}
use Rattle.laws.specs.Lists.{none_some, some_eq, below_lt, mem_below, get_or_below, from_mem, mem_filter, filter_mem, all_at, all_of, any_at, any_of, get_or_mem, mem_get_or, map_mem, length_below}
use Rattle.laws.specs.Positions.{place, position_place, place_lt, place_holds, least_place}
use Rattle.laws.specs.Repeats.{Once}

-- ---- ascending lists
unfoldable pub Ascending : List ℕ → Type 0
Ascending [] = Unit {0}
Ascending (x ∷ l) = ((y : ℕ) → Memᴰ y l → x < y) × Ascending l

-- a range among n elements: ascending, none from n on, and not empty
pub record IsRange (n : ℕ) (ms : List ℕ) : Type 0 where
  pub ascends : Ascending ms
  pub small : (m : ℕ) → Memᴰ m ms → m < n
  pub some_member : 0 < length ms

pub ascending_from : (n a : ℕ) → Ascending (from a n)
unfolding Ascending from
ascending_from zero a = tt
ascending_from (suc n) a = (λ y m. let h = (from_mem n (suc a) y m).0 in omega arith, ascending_from n (suc a))

pub ascending_below : (n : ℕ) → Ascending (below n)
unfolding below
ascending_below n = ascending_from n 0

pub ascending_filter : (f : ℕ → Bool) (l : List ℕ) → Ascending l → Ascending (filter f l)
unfolding Ascending filter
ascending_filter f [] a = tt
ascending_filter f (x ∷ l) a = by_test (f x) (ascending_filter f l a.1)
  where
    by_test : (b : Bool) → Ascending (filter f l) → Ascending (if b then x ∷ filter f l else filter f l)
    by_test true r = (λ y m. a.0 y (filter_mem f l y m).0, r)
    by_test false r = r

pub ascending_map : (g : ℕ → ℕ) (l : List ℕ) → Ascending l → ((x y : ℕ) → Memᴰ x l → Memᴰ y l → x < y → g x < g y) → Ascending (map g l)
unfolding Ascending
ascending_map g [] a h = tt
ascending_map g (x ∷ l) a h = (
  (λ y m. let (z, i, e) = map_mem g l y m in subst (λ (w : ℕ). g x < w) (sym e) (h x z (Memᴰ.head refl) (Memᴰ.tail i) (a.0 z i))),
  ascending_map g l a.1 (λ y z i j. h y z (Memᴰ.tail i) (Memᴰ.tail j)),
)

-- two with the same members are the same
pub ascending_same : (l m : List ℕ) → Ascending l → Ascending m → ((x : ℕ) → Memᴰ x l → Memᴰ x m) → ((x : ℕ) → Memᴰ x m → Memᴰ x l) → l ≡ m
unfolding Ascending
ascending_same [] [] a b f g = refl
ascending_same [] (y ∷ m) a b f g = absurd (Memᴰ.not-nil (g y (Memᴰ.head refl)))
ascending_same (x ∷ l) [] a b f g = absurd (Memᴰ.not-nil (f x (Memᴰ.head refl)))
ascending_same (x ∷ l) (y ∷ m) a b f g = ap₂ ◌∷◌ same (ascending_same l m a.1 b.1 down up)
  where
    least : (x y : ℕ) (m : List ℕ) → ((z : ℕ) → Memᴰ z m → y < z) → Memᴰ x (y ∷ m) → y ≤ x
    least x y m b i = ⊎_elim (λ e. omega arith) (λ j. let h = b x j in omega arith) (Memᴰ.cases_cons i)

    same : x ≡ y
    same = let h = least x y m b.0 (f x (Memᴰ.head refl)) in let k = least y x l a.0 (g y (Memᴰ.head refl)) in omega arith

    down : (z : ℕ) → Memᴰ z l → Memᴰ z m
    down z i = ⊎_elim (λ e. let h = a.0 z i in let q = same in absurd (omega arith)) (λ j. j) (Memᴰ.cases_cons (f z (Memᴰ.tail i)))

    up : (z : ℕ) → Memᴰ z m → Memᴰ z l
    up z i = ⊎_elim (λ e. let h = b.0 z i in let q = same in absurd (omega arith)) (λ j. j) (Memᴰ.cases_cons (g z (Memᴰ.tail i)))

pub ascending_once : (l : List ℕ) → Ascending l → Once l
unfolding Ascending Once
ascending_once [] a = tt
ascending_once (x ∷ l) a = (λ m. let h = a.0 x m in omega arith, ascending_once l a.1)

-- the numbers below n are a range
pub below_range : (n : ℕ) → 0 < n → IsRange n (below n)
below_range n h = record { ascends = ascending_below n; small = below_lt n; some_member = let e = length_below n in omega arith }

-- ---- a site's `member` lines: each is of one of the types and of an element
pub record MembersFit (types n : ℕ) (members : List Member) : Type 0 where
  pub typed : (m : Member) → Memᴰ m members → m.type < types
  pub small : (m : Member) → Memᴰ m members → m.element < n

pub no_members : (types n : ℕ) → MembersFit types n []
no_members types n = record { typed = λ m i. absurd (Memᴰ.not-nil i); small = λ m i. absurd (Memᴰ.not-nil i) }

-- a type that has a member is that of some element
pub has_member_lem : (types n : ℕ) (members : List Member) (k : ℕ) → MembersFit types n members → T (has_member members k) → (x : ℕ) × (x < n) × T (is_member members k x)
unfolding has_member is_member
has_member_lem types n members k F t =
    let (m, i, e) = any_at (λ (m : Member). eqb m.type k) members t in
    (m.element, F.small m i, any_of (λ (u : Member). eqb u.type k && eqb u.element m.element) members m i (and_T (eqb m.type k) _ e (eqb_refl m.element)))

pub all_range : (c : Case) (x : ℕ) → Memᴰ x (members_of c zero) ↔ (x < c.site.size)
unfolding members_of
all_range c x = (below_lt c.site.size x, mem_below c.site.size x)

-- the range of a type that is declared
pub members_are : (c : Case) (k : ℕ) → k < length c.question.types → members_of c (suc k) ≡ filter (is_member c.site.members k) (below c.site.size)
unfolding members_of
members_are c k h = rw (lt-ltb k (length c.question.types) h)

pub range_means : (c : Case) (k x : ℕ) → k < length c.question.types → Memᴰ x (members_of c (suc k)) ↔ ((x < c.site.size) × T (is_member c.site.members k x))
range_means c k x h = rw (members_are c k h) (
  (λ m. let (i, t) = filter_mem (is_member c.site.members k) (below c.site.size) x m in (below_lt c.site.size x i, t)),
  (λ q. mem_filter (is_member c.site.members k) (below c.site.size) x (mem_below c.site.size x q.0) q.1),
)

-- what a variable of any sort ranges over is a range
some_in : (l : List ℕ) (x : ℕ) → Memᴰ x l → 0 < length l
some_in [] x m = absurd (Memᴰ.not-nil m)
some_in (y ∷ l) x m = omega arith

filter_range : (n : ℕ) (f : ℕ → Bool) (x : ℕ) → x < n → T (f x) → IsRange n (filter f (below n))
filter_range n f x h t = record {
  ascends = ascending_filter f (below n) (ascending_below n);
  small = λ m i. below_lt n m (filter_mem f (below n) m i).0;
  some_member = some_in (filter f (below n)) x (mem_filter f (below n) x (mem_below n x h) t);
}

pub members_range : (c : Case) (s : ℕ) → 0 < c.site.size → MembersFit (length c.question.types) c.site.size c.site.members → ((k : ℕ) → k < length c.question.types → T (has_member c.site.members k)) → IsRange c.site.size (members_of c s)
unfolding members_of
members_range c zero h F each = below_range c.site.size h
members_range c (suc k) h F each = by_test (ltb k (length c.question.types)) refl
  where
    by_test : (b : Bool) → ltb k (length c.question.types) ≡ b → IsRange c.site.size (if b then filter (is_member c.site.members k) (below c.site.size) else below c.site.size)
    by_test true e = let (x, l, t) = has_member_lem (length c.question.types) c.site.size c.site.members k F (each k (ltb-true k (length c.question.types) e)) in filter_range c.site.size (is_member c.site.members k) x l t
    by_test false e = below_range c.site.size h

-- ---- the test of membership
pub in_mem : (z : ℕ) (ms : List ℕ) → T (is_in z ms) → Memᴰ z ms
unfolding is_in
in_mem z ms t = let (x, m, e) = any_at (eqb z) ms t in Memᴰ.cast (eqb→eq z x e) m

pub mem_in : (z : ℕ) (ms : List ℕ) → Memᴰ z ms → T (is_in z ms)
unfolding is_in
mem_in z ms m = any_of (eqb z) ms z m (T_of (eq-eqb z z refl))

-- ---- an element and its rank
rank_place : (ms : List ℕ) (z : ℕ) → Memᴰ z ms → rank ms z ≡ place (eqb z) ms
unfolding rank option is_in
rank_place ms z m = rw (position_place (eqb z) ms (mem_in z ms m)) refl

pub rank_lt : (ms : List ℕ) (z : ℕ) → Memᴰ z ms → rank ms z < length ms
unfolding is_in
rank_lt ms z m = subst (λ (i : ℕ). i < length ms) (sym (rank_place ms z m)) (place_lt (eqb z) ms (mem_in z ms m))

pub select_rank : (ms : List ℕ) (z : ℕ) → Memᴰ z ms → get_or ms (rank ms z) 0 ≡ z
unfolding is_in
select_rank ms z m = ap (λ (i : ℕ). get_or ms i 0) (rank_place ms z m) ∙ sym (eqb→eq z _ (place_holds (eqb z) ms 0 (mem_in z ms m)))

once_get_or : (ms : List ℕ) (i j : ℕ) → Once ms → i < length ms → j < length ms → get_or ms i 0 ≡ get_or ms j 0 → i ≡ j
unfolding Once
once_get_or [] i j o h k e = absurd (omega arith)
once_get_or (x ∷ ms) zero zero o h k e = refl
once_get_or (x ∷ ms) zero (suc j) o h k e = absurd (o.0 (Memᴰ.cast e (get_or_mem ms j 0 (omega arith))))
once_get_or (x ∷ ms) (suc i) zero o h k e = absurd (o.0 (Memᴰ.cast (sym e) (get_or_mem ms i 0 (omega arith))))
once_get_or (x ∷ ms) (suc i) (suc j) o h k e = ap suc (once_get_or ms i j o.1 (omega arith) (omega arith) e)

pub rank_select : (ms : List ℕ) (i : ℕ) → Once ms → i < length ms → rank ms (get_or ms i 0) ≡ i
rank_select ms i o h =
    let m = get_or_mem ms i 0 h in
    once_get_or ms (rank ms (get_or ms i 0)) i o (rank_lt ms (get_or ms i 0) m) h (select_rank ms (get_or ms i 0) m)

-- the first element that passes a test
pub least_in : (f : ℕ → Bool) (ms : List ℕ) → T (any f ms) → Memᴰ (get_or ms (least f ms) 0) ms × T (f (get_or ms (least f ms) 0))
least_in f ms t =
    let e = least_place f ms t in
    (subst (λ (i : ℕ). Memᴰ (get_or ms i 0) ms) (sym e) (get_or_mem ms (place f ms) 0 (place_lt f ms t)), subst (λ (i : ℕ). T (f (get_or ms i 0))) (sym e) (place_holds f ms 0 t))

-- ---- the last of an ascending list is its greatest
last_none : (l : List ℕ) → last l ≡ none → (x : ℕ) → Memᴰ x l → ⊥
unfolding last
last_none [] e x m = Memᴰ.not-nil m
last_none (y ∷ l) e x m = none_some (sym e)

last_some : (l : List ℕ) (y : ℕ) → Ascending l → last l ≡ some y → Memᴰ y l × ((x : ℕ) → Memᴰ x l → x ≤ y)
unfolding last Ascending option
last_some [] y a e = absurd (none_some e)
last_some (x ∷ l) y a e = by_option (last l) refl (some_eq e) (λ z q. last_some l z a.1 q)
  where
    by_option : (o : Option ℕ) → last l ≡ o → option o x (λ z. z) ≡ y → ((z : ℕ) → last l ≡ some z → Memᴰ z l × ((w : ℕ) → Memᴰ w l → w ≤ z)) → Memᴰ y (x ∷ l) × ((w : ℕ) → Memᴰ w (x ∷ l) → w ≤ y)
    by_option none q k r = (Memᴰ.head (sym k), λ w m. ⊎_elim (λ i. omega arith) (λ i. absurd (last_none l q w i)) (Memᴰ.cases_cons m))
    by_option (some z) q k r =
        let (m, h) = r z q in
        (Memᴰ.cast (sym k) (Memᴰ.tail m), λ w i. ⊎_elim (λ j. let b = a.0 z m in omega arith) (λ j. let b = h w j in omega arith) (Memᴰ.cases_cons i))

last_is : (l : List ℕ) → 0 < length l → (y : ℕ) × (last l ≡ some y)
unfolding last
last_is [] h = absurd (omega arith)
last_is (x ∷ l) h = (option (last l) x (λ y. y), refl)

pub greatest_is : (n : ℕ) (ms : List ℕ) → IsRange n ms → Memᴰ (greatest ms) ms × ((m : ℕ) → Memᴰ m ms → m ≤ greatest ms)
unfolding greatest option
greatest_is n ms r = let (y, e) = last_is ms r.some_member in rw e (last_some ms y r.ascends e)

-- ---- the element before one
pub before_none : (ms : List ℕ) (z : ℕ) → before ms z ≡ none → (m : ℕ) → Memᴰ m ms → m < z → ⊥
unfolding before
before_none ms z e m i l = last_none (filter (λ m. ltb m z) ms) e m (mem_filter (λ m. ltb m z) ms m i (lt→ltb m z l))

pub before_some : (ms : List ℕ) (z y : ℕ) → Ascending ms → before ms z ≡ some y → Memᴰ y ms × (y < z) × ((m : ℕ) → Memᴰ m ms → m < z → m ≤ y)
unfolding before
before_some ms z y a e =
    let (m, h) = last_some (filter (λ m. ltb m z) ms) y (ascending_filter (λ m. ltb m z) ms a) e in
    let (i, l) = filter_mem (λ m. ltb m z) ms y m in
    (i, ltb→lt y z l, λ x k b. h x (mem_filter (λ m. ltb m z) ms x k (lt→ltb x z b)))

-- ---- all elements up to one
pub up_at : (f : ℕ → Bool) (ms : List ℕ) (z : ℕ) → T (all f (up_to ms z)) → (m : ℕ) → Memᴰ m ms → m ≤ z → T (f m)
unfolding up_to
up_at f ms z t m i h = all_at f (filter (λ m. leb m z) ms) t m (mem_filter (λ m. leb m z) ms m i (le→leb m z h))

pub up_of : (f : ℕ → Bool) (ms : List ℕ) (z : ℕ) → ((m : ℕ) → Memᴰ m ms → m ≤ z → T (f m)) → T (all f (up_to ms z))
unfolding up_to
up_of f ms z h = all_of f (filter (λ m. leb m z) ms) (λ m i. let (k, l) = filter_mem (λ m. leb m z) ms m i in h m k (leb→le m z l))

-- true up to z is true at z, and true up to the element before it
abbrev pub up_before : (ℕ → Bool) → List ℕ → ℕ → Bool
up_before f ms z = option (before ms z) true (λ y. all f (up_to ms y))

le_cases : (m z : ℕ) → m ≤ z → (m < z) ⊎ (m ≡ z)
le_cases m z h = by_test (eqb m z) refl
  where
    by_test : (b : Bool) → eqb m z ≡ b → (m < z) ⊎ (m ≡ z)
    by_test true e = inr (eqb→eq m z (T_of e))
    by_test false e = inl (let k = ne m z e in omega arith)
      where
        ne : (m z : ℕ) → eqb m z ≡ false → m ≡ z → ⊥
        ne m z e q = subst T (sym (eq-eqb m z q) ∙ e) tt

pub up_step : (f : ℕ → Bool) (ms : List ℕ) (z : ℕ) → Ascending ms → Memᴰ z ms → all f (up_to ms z) ≡ (f z && up_before f ms z)
unfolding option
up_step f ms z a i = T_ext (all f (up_to ms z)) (f z && up_before f ms z)
    (λ t. and_T (f z) _ (up_at f ms z t z i (omega arith)) (down (before ms z) refl t))
    (λ t. up_of f ms z (λ m k h. ⊎_elim (λ l. under (before ms z) refl (T_and_r (f z) _ t) m k l) (λ e. subst (λ (x : ℕ). T (f x)) (sym e) (T_and_l (f z) _ t)) (le_cases m z h)))
  where
    down : (o : Option ℕ) → before ms z ≡ o → T (all f (up_to ms z)) → T (option o true (λ y. all f (up_to ms y)))
    down none e t = tt
    down (some y) e t = let (k, l, h) = before_some ms z y a e in up_of f ms y (λ m j b. up_at f ms z t m j (omega arith))

    under : (o : Option ℕ) → before ms z ≡ o → T (option o true (λ y. all f (up_to ms y))) → (m : ℕ) → Memᴰ m ms → m < z → T (f m)
    under none e t m k l = absurd (before_none ms z e m k l)
    under (some y) e t m k l = let (j, b, h) = before_some ms z y a e in up_at f ms y t m k (h m k l)

-- up to the greatest are all
filter_all : (p : ℕ → Bool) (l : List ℕ) → ((x : ℕ) → Memᴰ x l → p x ≡ true) → filter p l ≡ l
unfolding filter
filter_all p [] h = refl
filter_all p (x ∷ l) h = rw (h x (Memᴰ.head refl)) (ap (◌∷◌ x) (filter_all p l (λ y m. h y (Memᴰ.tail m))))

pub up_all : (n : ℕ) (ms : List ℕ) → IsRange n ms → up_to ms (greatest ms) ≡ ms
unfolding up_to
up_all n ms r = filter_all (λ m. leb m (greatest ms)) ms (λ m i. T_true (leb m (greatest ms)) (le→leb m (greatest ms) ((greatest_is n ms r).1 m i)))

-- ---- the range of all elements
pub rank_below : (n z : ℕ) → z < n → rank (below n) z ≡ z
rank_below n z h =
    let e = get_or_below n z h in
    let k : z < length (below n) = omega (arith, length_below n) in
    ap (rank (below n)) (sym e) ∙ rank_select (below n) z (ascending_once (below n) (ascending_below n)) k

pub before_least : (n : ℕ) → before (below n) 0 ≡ none
before_least n = none_before (before (below n) 0) refl
  where
    none_before : (o : Option ℕ) → before (below n) 0 ≡ o → o ≡ none
    none_before none e = refl
    none_before (some y) e = let b = (before_some (below n) 0 y (ascending_below n) e).1 in absurd (omega arith)

pub before_below : (n z : ℕ) → z < n → before (below n) (suc z) ≡ some z
before_below n z h = some_before (before (below n) (suc z)) refl
  where
    some_before : (o : Option ℕ) → before (below n) (suc z) ≡ o → o ≡ some z
    some_before none e = absurd (before_none (below n) (suc z) e z (mem_below n z h) (omega arith))
    some_before (some y) e =
        let (m, l, top) = before_some (below n) (suc z) y (ascending_below n) e in
        let k = top z (mem_below n z h) (omega arith) in
        let q : y ≡ z = omega arith in
        ap some q

pub greatest_below : (n : ℕ) → 0 < n → greatest (below n) ≡ n - 1
greatest_below n h =
    let (m, top) = greatest_is n (below n) (below_range n h) in
    let l = below_lt n (greatest (below n)) m in
    let k = top (n - 1) (mem_below n (n - 1) (omega arith)) in
    omega arith

-- ---- the members of an ascending list by their places
pub ascending_lt : (ms : List ℕ) → Ascending ms → (i k : ℕ) → i < k → k < length ms → get_or ms i 0 < get_or ms k 0
unfolding Ascending
ascending_lt [] a i k h l = absurd (omega arith)
ascending_lt (x ∷ ms) a i zero h l = absurd (omega arith)
ascending_lt (x ∷ ms) a zero (suc k) h l = a.0 (get_or ms k 0) (get_or_mem ms k 0 (omega arith))
ascending_lt (x ∷ ms) a (suc i) (suc k) h l = ascending_lt ms a.1 i k (omega arith) (omega arith)

ascending_le : (ms : List ℕ) → Ascending ms → (i k : ℕ) → i ≤ k → k < length ms → get_or ms i 0 ≤ get_or ms k 0
ascending_le ms a i k h l = by_test (ltb i k) refl
  where
    by_test : (b : Bool) → ltb i k ≡ b → get_or ms i 0 ≤ get_or ms k 0
    by_test true e = omega (arith, ascending_lt ms a i k (ltb-true i k e) l)
    by_test false e =
        let q = ltb-false i k e in
        let s : i ≡ k = omega arith in
        let g : get_or ms i 0 ≡ get_or ms k 0 = ap (λ (x : ℕ). get_or ms x 0) s in
        omega arith

place_le : (ms : List ℕ) → Ascending ms → (i : ℕ) → i < length ms → i ≤ get_or ms i 0
place_le ms a zero h = omega arith
place_le ms a (suc i) h = omega (arith, place_le ms a i (omega arith), ascending_lt ms a i (suc i) (omega arith) h)

-- a range has at most all elements
pub range_few : (n : ℕ) (ms : List ℕ) → IsRange n ms → length ms ≤ n
range_few n ms r =
    let h = r.some_member in
    let l : length ms - 1 < length ms = omega arith in
    omega (arith, place_le ms r.ascends (length ms - 1) l, r.small (get_or ms (length ms - 1) 0) (get_or_mem ms (length ms - 1) 0 l))

-- how far the first i members reach: the number after the last of them, and 0 where i is 0
unfoldable pub reached : List ℕ → ℕ → ℕ
reached ms zero = zero
reached ms (suc i) = suc (get_or ms i 0)

pub reached_none : (ms : List ℕ) → reached ms 0 ≡ 0
unfolding reached
reached_none ms = refl

pub reached_next : (ms : List ℕ) (i : ℕ) → reached ms (i + 1) ≡ get_or ms i 0 + 1
unfolding reached
reached_next ms i = rw (add-one, add-one) refl

-- at most to n
pub reached_most : (n : ℕ) (ms : List ℕ) → IsRange n ms → (i : ℕ) → i ≤ length ms → reached ms i ≤ n
unfolding reached
reached_most n ms r zero h = omega arith
reached_most n ms r (suc i) h = omega (arith, r.small (get_or ms i 0) (get_or_mem ms i 0 (omega arith)))

module _ (ms : List ℕ) (a : Ascending ms) where
  pub reached_le : (i : ℕ) → i < length ms → reached ms i ≤ get_or ms i 0
  unfolding reached
  reached_le zero h = omega arith
  reached_le (suc i) h = omega (arith, ascending_lt ms a i (suc i) (omega arith) h)

  -- a member past the first i is none of them
  past : (i k : ℕ) → i ≤ length ms → reached ms i ≤ get_or ms k 0 → i ≤ k
  unfolding reached
  past zero k l r = omega arith
  past (suc i) k l r = by_test (ltb i k) refl
    where
      by_test : (b : Bool) → ltb i k ≡ b → suc i ≤ k
      by_test true e = let q = ltb-true i k e in omega arith
      by_test false e = let q = ltb-false i k e in absurd (omega (arith, ascending_le ms a k i q (omega arith)))

  -- no element between neighbours is a member, nor one past the last
  not_in : (z : ℕ) → (Memᴰ z ms → ⊥) → is_in z ms ≡ false
  not_in z f = by_test (is_in z ms) refl
    where
      by_test : (b : Bool) → is_in z ms ≡ b → b ≡ false
      by_test true e = absurd (f (in_mem z ms (T_of e)))
      by_test false e = refl

  pub between : (i z : ℕ) → i < length ms → reached ms i ≤ z → z < get_or ms i 0 → is_in z ms ≡ false
  between i z h l u = not_in z (λ m.
      let (k, q, e) = mem_get_or ms z 0 m in
      omega (arith, ascending_le ms a i k (past i k (omega arith) (omega arith)) q))

  pub behind : (z : ℕ) → reached ms (length ms) ≤ z → is_in z ms ≡ false
  behind z l = not_in z (λ m.
      let (k, q, e) = mem_get_or ms z 0 m in
      omega (arith, past (length ms) k (omega arith) (omega arith)))

  -- the element before a member is its neighbour; the first has none before it
  pub before_first : (i : ℕ) → i ≡ 0 → before ms (get_or ms i 0) ≡ none
  before_first i z = none_there (before ms (get_or ms i 0)) refl
    where
      none_there : (o : Option ℕ) → before ms (get_or ms i 0) ≡ o → o ≡ none
      none_there none e = refl
      none_there (some y) e =
          let (m, l, top) = before_some ms (get_or ms i 0) y a e in
          let (k, q, g) = mem_get_or ms y 0 m in
          absurd (omega (arith, ascending_le ms a i k (omega arith) q))

  pub before_next : (i : ℕ) → 0 < i → i < length ms → before ms (get_or ms i 0) ≡ some (get_or ms (i - 1) 0)
  before_next i p h = some_there (before ms (get_or ms i 0)) refl
    where
      less : get_or ms (i - 1) 0 < get_or ms i 0
      less = ascending_lt ms a (i - 1) i (omega arith) h

      up_to_lem : (k : ℕ) → k < length ms → get_or ms k 0 < get_or ms i 0 → (b : Bool) → ltb k i ≡ b → get_or ms k 0 ≤ get_or ms (i - 1) 0
      up_to_lem k q u true e = let t = ltb-true k i e in ascending_le ms a k (i - 1) (omega arith) (omega arith)
      up_to_lem k q u false e = absurd (omega (arith, ascending_le ms a i k (ltb-false k i e) q))

      some_there : (o : Option ℕ) → before ms (get_or ms i 0) ≡ o → o ≡ some (get_or ms (i - 1) 0)
      some_there none e = absurd (before_none ms (get_or ms i 0) e (get_or ms (i - 1) 0) (get_or_mem ms (i - 1) 0 (omega arith)) less)
      some_there (some y) e =
          let (m, l, top) = before_some ms (get_or ms i 0) y a e in
          let (k, q, g) = mem_get_or ms y 0 m in
          let low = top (get_or ms (i - 1) 0) (get_or_mem ms (i - 1) 0 (omega arith)) less in
          let high = up_to_lem k q (omega arith) (ltb k i) refl in
          let s : y ≡ get_or ms (i - 1) 0 = omega arith in
          ap some s
