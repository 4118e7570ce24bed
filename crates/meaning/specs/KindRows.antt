-- The declared kinds tested on bits: a function kind is broken if some first place has two seconds, which are n bits in a row; an
-- injective one also if some second has two firsts, which are bits n apart; and either by a bit whose first or second place is not of
-- its sort.
use Prim.Native.Nat.{ℕ, zero, suc, ◌+◌, ◌*◌, ◌<◌}
use Rattle.std.specs.Prelude.{◌≡◌, true, false, ◌||◌, ltb, if◌then◌else◌}
use Rattle.std.proofs.Math.Path.{refl, sym, ap, ap₂}
use Rattle.std.proofs.Common.{subst, ◌∙◌, ⊎_elim, add-zero, zero-add, eqb→eq, ltb→lt, nltb→le, lt→ltb}
use Rattle.std.proofs.Math.Bool.{Bool, not, ◌&&◌, not-not, and-false}
use Rattle.std.proofs.Math.Option.{Option, none, some}
use mathlib.Core.List.{List, [], ◌∷◌, Memᴰ}
use native.Mathlib.Omega.{arith}
use Rattle.std.proofs.Math.Nat.{mul-one}
use Rattle.std.proofs.Math.Arith.{digits_lt, digits_div, digits_mod}
use Rattle.std.proofs.Math.Dec.{T, eqb, eqb_refl}
use Rattle.std.proofs.Math.ListN.{length, get_or}
use Rattle.bits.specs.Table.{num, count}
use Rattle.definitions.specs.Lists.{listed, any, filter, option, position, map_from, from, below, is_in}
use Rattle.definitions.specs.Sheet.Relations.{Kind, Relation, Tuple, is_among, is_chosen, is_function, is_injective}
use Rattle.definitions.specs.Sheet.Sheets.{first_chosen}
use Rattle.definitions.specs.Problem.Truth.{Case, two, first, second, is_inside, is_of_kind, each_chosen, first_of_other_kind}
use Rattle.definitions.specs.Problem.Atoms.{Problem, problem_of, problem_with, relation_at, places_of}
use Rattle.definitions.specs.Problem.Built.{is_picked, chosen_numbers}
use Rattle.laws.specs.Booleans.{T_and_l, T_and_r, T_of, T_true, T_false, T_ext, T_dec, and_T, lt_split, not_or}
use Rattle.laws.specs.Lists.{mem_below, below_lt, any_of, any_at, any_none}
use Rattle.laws.specs.Tuples.{among_mem, mem_among}
use Rattle.laws.specs.Members.{mem_in}
use Rattle.laws.specs.Rows.{Below, below_cons, pair_places, square}
use Rattle.laws.specs.Numbers.{no_relation, inj_fun}
use Rattle.meaning.specs.Means.{Good}
use Rattle.meaning.specs.Sound.{tup, Inside, tuple_at}
use Rattle.laws.specs.Reader.{Accepted}
use Rattle.meaning.specs.Kinds.{two_at, two_of}
use Rattle.meaning.specs.Grounded.{good, chosen_at, chosen_index, chosen_is, count_relations}

-- ---- two of n
unfoldable pub has_two : (ℕ → Bool) → ℕ → Bool
has_two f n = ltb 1 (count f 0 n)

-- some x has two y, of n each, where f holds at x times a plus y times b
unfoldable pub is_crowded : (ℕ → Bool) → (n a b : ℕ) → Bool
is_crowded f n a b = any (λ x. has_two (λ y. f (x * a + y * b)) n) (below n)

-- f holds of some pair whose first place is not among xs or whose second is not among ys
unfoldable pub is_stray : (ℕ → Bool) → ℕ → (xs ys : List ℕ) → Bool
is_stray f n xs ys = any (λ x. any (λ y. f (x * n + y) && not (is_in x xs && is_in y ys)) (below n)) (below n)

-- the tuples whose rows f says break a kind, whose places have the elements xs and ys
unfoldable pub breaks : Kind → (xs ys : List ℕ) → ℕ → (ℕ → Bool) → Bool
breaks k xs ys n f = (is_function k && is_crowded f n n 1) || (is_injective k && is_crowded f n 1 n) || (is_function k && is_stray f n xs ys)

-- where these are all elements, no pair strays
pub none_stray : (f : ℕ → Bool) (n : ℕ) → is_stray f n (below n) (below n) ≡ false
unfolding is_stray
none_stray f n = any_none (λ x. any (λ y. f (x * n + y) && not (is_in x (below n) && is_in y (below n))) (below n)) (below n)
    (λ x mx. any_none (λ y. f (x * n + y) && not (is_in x (below n) && is_in y (below n))) (below n)
    (λ y my. rw (T_true (is_in x (below n)) (mem_in x (below n) mx), T_true (is_in y (below n)) (mem_in y (below n) my)) (and-false (f (x * n + y)))))

-- ---- counts
abbrev Some : (ℕ → Bool) → ℕ → Type 0
Some f n = (y : ℕ) × (y < n) × T (f y)

abbrev Two : (ℕ → Bool) → ℕ → Type 0
Two f n = (y : ℕ) × (z : ℕ) × (y < z) × (z < n) × T (f y) × T (f z)

some_count : (f : ℕ → Bool) (n : ℕ) → 0 < count f 0 n → Some f n
unfolding count
some_count f zero h = absurd (omega arith)
some_count f (suc n) h = by_test (f (0 + n)) refl h (some_count f n)
  where
    by_test : (b : Bool) → f (0 + n) ≡ b → 0 < count f 0 n + num b → (0 < count f 0 n → Some f n) → Some f (suc n)
    by_test true e h r = (n, omega arith, T_of (ap f (sym (zero-add n)) ∙ e))
    by_test false e h r = let q = r (omega arith) in (q.0, omega (arith, q.1), q.2)

count_more : (f : ℕ → Bool) (n y : ℕ) → y < n → T (f y) → 0 < count f 0 n
unfolding count
count_more f zero y h t = absurd (omega arith)
count_more f (suc n) y h t = ⊎_elim (λ l. let r = count_more f n y l t in omega arith) (λ e. let i : f (0 + n) ≡ true = ap f (zero-add n ∙ sym e) ∙ T_true (f y) t in rw i (omega arith)) (lt_split y n h)

two_count : (f : ℕ → Bool) (n : ℕ) → 1 < count f 0 n → Two f n
unfolding count
two_count f zero h = absurd (omega arith)
two_count f (suc n) h = by_test (f (0 + n)) refl h (two_count f n)
  where
    by_test : (b : Bool) → f (0 + n) ≡ b → 1 < count f 0 n + num b → (1 < count f 0 n → Two f n) → Two f (suc n)
    by_test true e h r = let q = some_count f n (omega arith) in (q.0, n, q.1, omega arith, q.2, T_of (ap f (sym (zero-add n)) ∙ e))
    by_test false e h r = let q = r (omega arith) in (q.0, q.1, q.2, omega (arith, q.3), q.4, q.5)

count_two : (f : ℕ → Bool) (n y z : ℕ) → y < z → z < n → T (f y) → T (f z) → 1 < count f 0 n
unfolding count
count_two f zero y z k h t u = absurd (omega arith)
count_two f (suc n) y z k h t u = ⊎_elim (λ l. let r = count_two f n y z k l t u in omega arith)
    (λ e. let i : f (0 + n) ≡ true = ap f (zero-add n ∙ sym e) ∙ T_true (f z) u in let r = count_more f n y (omega arith) t in rw i (omega arith)) (lt_split z n h)

has_two_lem : (f : ℕ → Bool) (n y z : ℕ) → (y ≡ z → ⊥) → y < n → z < n → T (f y) → T (f z) → T (has_two f n)
unfolding has_two
has_two_lem f n y z d h k t u = lt→ltb 1 (count f 0 n) (⊎_elim (λ q. count_two f n y z (ltb→lt y z q) k t u) (λ q. let l = nltb→le y z q in count_two f n z y (omega arith) h u t) (T_dec (ltb y z)))

two_has : (f : ℕ → Bool) (n : ℕ) → T (has_two f n) → Two f n
unfolding has_two
two_has f n t = two_count f n (ltb→lt 1 (count f 0 n) t)

-- ---- two picks that agree in one place and differ in the other
module _ (p : Problem) (F : List Tuple) (r a b : ℕ) (A B : Tuple → ℕ) (cell : ℕ → ℕ → List ℕ)
    (at-A : (x y : ℕ) → A (tup r (cell x y)) ≡ x) (at-B : (x y : ℕ) → B (tup r (cell x y)) ≡ y)
    (form : (t : Tuple) → Memᴰ t F → t.relation ≡ r → (t ≡ tup r (cell (A t) (B t))) × (A t < p.size) × (B t < p.size))
    (picked : (x y : ℕ) → x < p.size → y < p.size → is_picked p F r (x * a + y * b) ≡ is_among (tup r (cell x y)) F) where
  pick_at : (t : Tuple) → Memᴰ t F → t.relation ≡ r → T (is_picked p F r (A t * a + B t * b))
  pick_at t m e = let q = form t m e in subst T (sym (picked (A t) (B t) q.1 q.2)) (mem_among _ F (subst (λ (u : Tuple). Memᴰ u F) q.0 m))

  to_crowd : T (two r A B F) → T (is_crowded (is_picked p F r) p.size a b)
  unfolding is_crowded
  to_crowd h =
      let (t, u, mt, mu, et, eu, ea, d) = two_at r A B F h in
      let q = form t mt et in
      any_of (λ x. has_two (λ y. is_picked p F r (x * a + y * b)) p.size) (below p.size) (A t) (mem_below p.size (A t) q.1)
      (has_two_lem (λ y. is_picked p F r (A t * a + y * b)) p.size (B t) (B u) d
      q.2 (form u mu eu).2 (pick_at t mt et) (subst (λ (x : ℕ). T (is_picked p F r (x * a + B u * b))) (sym ea) (pick_at u mu eu)))

  from_crowd : T (is_crowded (is_picked p F r) p.size a b) → T (two r A B F)
  unfolding is_crowded
  from_crowd h =
      let (x, mx, k) = any_at (λ x. has_two (λ y. is_picked p F r (x * a + y * b)) p.size) (below p.size) h in
      let (y, z, l, n, ty, tz) = two_has (λ y. is_picked p F r (x * a + y * b)) p.size k in
      let lx = below_lt p.size x mx in
      two_of r A B F (tup r (cell x y)) (tup r (cell x z)) (among_mem (tup r (cell x y)) F (subst T (picked x y lx (omega arith)) ty)) (among_mem (tup r (cell x z)) F (subst T (picked x z lx n) tz))
      refl refl (at-A x y ∙ sym (at-A x z)) (λ e. let q : y ≡ z = sym (at-B x y) ∙ e ∙ at-B x z in omega arith)

  two_crowd : two r A B F ≡ is_crowded (is_picked p F r) p.size a b
  two_crowd = T_ext (two r A B F) (is_crowded (is_picked p F r) p.size a b) to_crowd from_crowd

-- ---- of a relation of pairs
module _ (p : Problem) (G : Good p) (F : List Tuple) (inside : (t : Tuple) → Memᴰ t F → Inside p G t) (r : ℕ) (l : r < length p.relations) where
  abbrev k : Relation
  k = relation_at p r

  abbrev xs : List ℕ
  xs = p.range (relation_at p r).firsts

  abbrev ys : List ℕ
  ys = p.range (relation_at p r).seconds

  module _ (f : T (is_function (relation_at p r).kind)) where
    pair_row : (x y : ℕ) → x < p.size → y < p.size → tuple_at p r (x * p.size + y) ≡ tup r (x ∷ y ∷ [])
    pair_row x y hx hy =
        let q = pair_places p.size (x * p.size + y) G.element (rw (square p.size) (digits_lt hx hy)) in
        ap (tup r) (ap (λ (k : ℕ). places_of p.size k (x * p.size + y)) (G.pairs r l f) ∙ q.0 ∙ ap₂ (λ (a b : ℕ). a ∷ b ∷ []) (digits_div x hy) (digits_mod x hy))

    pair_form : (t : Tuple) → Memᴰ t F → t.relation ≡ r → (t ≡ tup r (first t ∷ second t ∷ [])) × (first t < p.size) × (second t < p.size)
    unfolding first second
    pair_form t m e =
        let i = inside t m in
        by_list t.places (i.long ∙ ap (λ (x : ℕ). (relation_at p x).arity) e ∙ G.pairs r l f) i.small e
      where
        by_list : (xs : List ℕ) → length xs ≡ 2 → Below p.size xs → t.relation ≡ r → (tup t.relation xs ≡ tup r (get_or xs 0 0 ∷ get_or xs 1 0 ∷ [])) × (get_or xs 0 0 < p.size) × (get_or xs 1 0 < p.size)
        by_list [] k b e = absurd (omega arith)
        by_list (x ∷ []) k b e = absurd (omega arith)
        by_list (x ∷ y ∷ []) k b e = let c = below_cons p.size x (y ∷ []) b in (ap (λ (z : ℕ). tup z (x ∷ y ∷ [])) e, c.0, (below_cons p.size y [] c.1).0)
        by_list (x ∷ y ∷ z ∷ xs) k b e = absurd (omega arith)

    fun_crowd : two r first second F ≡ is_crowded (is_picked p F r) p.size p.size 1
    unfolding first second is_picked
    fun_crowd = two_crowd p F r p.size 1 first second (λ x y. x ∷ y ∷ []) (λ x y. refl) (λ x y. refl) pair_form
        (λ x y hx hy. ap (λ (t : Tuple). is_among t F) (ap (λ (i : ℕ). tuple_at p r (x * p.size + i)) (mul-one y) ∙ pair_row x y hx hy))

    inj_crowd : two r second first F ≡ is_crowded (is_picked p F r) p.size 1 p.size
    unfolding first second is_picked
    inj_crowd = two_crowd p F r 1 p.size second first (λ y x. x ∷ y ∷ []) (λ y x. refl) (λ y x. refl)
        (λ t m e. let q = pair_form t m e in (q.0, q.2, q.1))
        (λ y x hy hx. let i : y * 1 + x * p.size ≡ x * p.size + y = omega (arith, mul-one y) in ap (λ (t : Tuple). is_among t F) (ap (tuple_at p r) i ∙ pair_row x y hx hy))

    -- a pick outside its types
    stray : any (λ (t : Tuple). eqb t.relation r && not (is_inside p.source k t)) F ≡ is_stray (is_picked p F r) p.size xs ys
    unfolding is_stray is_picked is_inside first second
    stray = T_ext _ _
        (λ h.
        let (t, m, q) = any_at (λ (t : Tuple). eqb t.relation r && not (is_inside p.source k t)) F h in
        let (e, lx, ly) = pair_form t m (eqb→eq t.relation r (T_and_l (eqb t.relation r) _ q)) in
        any_of outer (below p.size) (first t) (mem_below p.size (first t) lx) (any_of (inner (first t)) (below p.size) (second t) (mem_below p.size (second t) ly)
        (and_T (is_picked p F r (first t * p.size + second t)) _
        (mem_among _ F (subst (λ (u : Tuple). Memᴰ u F) (e ∙ sym (pair_row (first t) (second t) lx ly)) m))
        (subst (λ (R : ℕ → List ℕ). T (not (is_in (first t) (R k.firsts) && is_in (second t) (R k.seconds)))) (sym G.ranges) (T_and_r (eqb t.relation r) _ q)))))
        (λ h.
        let (x, mx, hx) = any_at outer (below p.size) h in
        let (y, my, q) = any_at (inner x) (below p.size) hx in
        any_of (λ (t : Tuple). eqb t.relation r && not (is_inside p.source k t)) F (tup r (x ∷ y ∷ []))
        (subst (λ (u : Tuple). Memᴰ u F) (pair_row x y (below_lt p.size x mx) (below_lt p.size y my)) (among_mem (tuple_at p r (x * p.size + y)) F (T_and_l (is_picked p F r (x * p.size + y)) _ q)))
        (and_T (eqb r r) _ (eqb_refl r) (subst (λ (R : ℕ → List ℕ). T (not (is_in x (R k.firsts) && is_in y (R k.seconds)))) G.ranges (T_and_r (is_picked p F r (x * p.size + y)) _ q))))
      where
        inner : ℕ → ℕ → Bool
        inner x y = is_picked p F r (x * p.size + y) && not (is_in x xs && is_in y ys)

        outer : ℕ → Bool
        outer x = any (inner x) (below p.size)

  -- what `is_of_kind` tests, by rows
  pub of_kind : is_of_kind p.source F r (relation_at p r) ≡ not (breaks (relation_at p r).kind (p.range (relation_at p r).firsts) (p.range (relation_at p r).seconds) p.size (is_picked p F r))
  unfolding is_of_kind breaks
  of_kind = ap₂ ◌&&◌ (ap₂ (λ (x y : Bool). not x && not y)
      (when_test (is_function k.kind) (λ t. fun_crowd t)) (when_test (is_injective k.kind) (λ t. inj_crowd (inj_fun k.kind t))))
      (ap not (when_test (is_function k.kind) (λ t. stray t)))
      ∙ ap (λ (x : Bool). x && not (is_function k.kind && is_stray (is_picked p F r) p.size xs ys)) (sym (not_or crowd₁ crowd₂)) ∙ sym (not_or (crowd₁ || crowd₂) (is_function k.kind && is_stray (is_picked p F r) p.size xs ys))
    where
      crowd₁ : Bool
      crowd₁ = is_function k.kind && is_crowded (is_picked p F r) p.size p.size 1

      crowd₂ : Bool
      crowd₂ = is_injective k.kind && is_crowded (is_picked p F r) p.size 1 p.size

      when_test : (b : Bool) {x y : Bool} → (T b → x ≡ y) → (b && x) ≡ (b && y)
      when_test true e = e tt
      when_test false e = refl

-- ---- the first `choose` of which picks are not
filter_none : (f : ℕ → Bool) (b a k : ℕ) → ((i : ℕ) → i < b → f (a + i) ≡ false) → filter f (from a (b + k)) ≡ filter f (from (a + b) k)
unfolding filter from
filter_none f zero a k h = ap₂ (λ (x y : ℕ). filter f (from x y)) (sym (add-zero a)) (zero-add k)
filter_none f (suc b) a k h =
    let n : suc b + k ≡ suc (b + k) = omega arith in
    let m : suc a + b ≡ a + suc b = omega arith in
    let e : f a ≡ false = ap f (sym (add-zero a)) ∙ h 0 (omega arith) in
    ap (λ (x : ℕ). filter f (from a x)) n ∙ rw e (filter_none f b (suc a) k (λ i l. let q : suc a + i ≡ a + suc i = omega arith in ap f q ∙ h (suc i) (omega arith)) ∙ ap (λ (x : ℕ). filter f (from x k)) m)

filter_nothing : (f : ℕ → Bool) (a k : ℕ) → ((i : ℕ) → i < k → f (a + i) ≡ false) → filter f (from a k) ≡ []
unfolding filter from
filter_nothing f a zero h = refl
filter_nothing f a (suc k) h =
    let e : f a ≡ false = ap f (sym (add-zero a)) ∙ h 0 (omega arith) in
    rw e (filter_nothing f (suc a) k (λ i l. let q : suc a + i ≡ a + suc i = omega arith in ap f q ∙ h (suc i) (omega arith)))

-- the first b pass, the k after them do not
filter_front : (f : ℕ → Bool) (a b k : ℕ) → ((i : ℕ) → i < b → f (a + i) ≡ true) → ((i : ℕ) → i < k → f (a + (b + i)) ≡ false) → filter f (from a (b + k)) ≡ from a b
unfolding filter from
filter_front f a zero k h g = let e : zero + k ≡ k = omega arith in ap (λ (x : ℕ). filter f (from a x)) e ∙ filter_nothing f a k (λ i l. let q : a + i ≡ a + (zero + i) = omega arith in ap f q ∙ g i l)
filter_front f a (suc b) k h g =
    let n : suc b + k ≡ suc (b + k) = omega arith in
    let e : f a ≡ true = ap f (sym (add-zero a)) ∙ h 0 (omega arith) in
    ap (λ (x : ℕ). filter f (from a x)) n ∙ rw e (ap (λ (l : List ℕ). a ∷ l) (filter_front f (suc a) b k (λ i l. let q : suc a + i ≡ a + suc i = omega arith in ap f q ∙ h (suc i) (omega arith)) (λ i l. let q : suc a + (b + i) ≡ a + (suc b + i) = omega arith in ap f q ∙ g i l)))

module _ (c : Case) (A : Accepted c) where
  -- their numbers follow those of the fixed ones
  pub numbers_are : chosen_numbers (problem_of c) ≡ from (first_chosen c.question) (length c.question.chosen)
  unfolding chosen_numbers below
  numbers_are =
      let f : ℕ → Bool = λ r. is_chosen (relation_at (problem_of c) r).kind in
      let n = count_relations c A in
      let e : length (problem_of c).relations ≡ first_chosen c.question + (length c.question.chosen + length (listed c.question.every)) = omega arith in
      ap (λ (k : ℕ). filter f (from 0 k)) e
      ∙ filter_none f (first_chosen c.question) 0 (length c.question.chosen + length (listed c.question.every)) (λ i h. ap f (zero-add i) ∙ T_false (f i) (λ t.
      let q = chosen_index c A i (let k = count_relations c A in omega arith) t in omega (arith, q.1)))
      ∙ ap (λ (a : ℕ). filter f (from a (length c.question.chosen + length (listed c.question.every)))) (zero-add (first_chosen c.question))
      ∙ filter_front f (first_chosen c.question) (length c.question.chosen) (length (listed c.question.every)) (λ i h. T_true (f (first_chosen c.question + i)) (chosen_is c A i h).1) (λ i h. T_false (f (first_chosen c.question + (length c.question.chosen + i))) (λ t.
      let q = chosen_index c A (first_chosen c.question + (length c.question.chosen + i)) (omega arith) t in omega (arith, q.1, q.2)))

  position_not : (F : List Tuple) (f : ℕ → Bool) (ks : List Relation) (a : ℕ) → ((j : ℕ) → j < length ks → not (is_of_kind c F (a + j) (get_or ks j no_relation)) ≡ f (a + j)) → position not (map_from (is_of_kind c F) a ks) ≡ position f (from a (length ks))
  unfolding position map_from from option
  position_not F f [] a h = refl
  position_not F f (k ∷ ks) a h = ap₂ (λ (b : Bool) (o : Option ℕ). if b then some zero else option o none (λ i. some (suc i)))
      (ap (λ (x : ℕ). not (is_of_kind c F x k)) (sym (add-zero a)) ∙ h 0 (omega arith) ∙ ap f (add-zero a))
      (position_not F f ks (suc a) (λ j i. let e : suc a + j ≡ a + suc j = omega arith in ap (λ (x : ℕ). not (is_of_kind c F x (get_or ks j no_relation))) e ∙ h (suc j) (omega arith) ∙ ap f (sym e)))

  abbrev p₀ : Problem
  p₀ = problem_of c

  -- whether a relation's picks break its kind
  abbrev pub is_broken : List Tuple → ℕ → Bool
  is_broken F r = breaks (relation_at p₀ r).kind (p₀.range (relation_at p₀ r).firsts) (p₀.range (relation_at p₀ r).seconds) p₀.size (is_picked p₀ F r)

  source_is : p₀.source ≡ c
  unfolding problem_of problem_with
  source_is = refl

  pub first_broken : (F : List Tuple) → ((t : Tuple) → Memᴰ t F → Inside (problem_of c) (good c A) t) → first_of_other_kind c F ≡ position (is_broken F) (chosen_numbers (problem_of c))
  unfolding first_of_other_kind each_chosen
  first_broken F inside = position_not F (is_broken F) c.question.chosen (first_chosen c.question)
      (λ j h. ap₂ (λ (d : Case) (k : Relation). not (is_of_kind d F (first_chosen c.question + j) k)) (sym source_is) (sym (chosen_at c A j h))
      ∙ ap not (of_kind (problem_of c) (good c A) F inside (first_chosen c.question + j) (chosen_is c A j h).0) ∙ not-not _)
      ∙ ap (position (is_broken F)) (sym numbers_are)
