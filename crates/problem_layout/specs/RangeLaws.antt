-- Laws of the ranges: how many elements a sort has and the greatest of them, and the ranges of all sorts in a table.
use Rattle.std.specs.Prelude.{◌≡◌, Bool, true, false, take, drop, set, replicate, if◌then◌else◌}
use Rattle.std.proofs.Math.Path.{refl, ap, ap₂}
use Rattle.std.proofs.Common.{sym, ◌∙◌, add-zero, length-append, length-set, take-append-drop}
use Rattle.std.proofs.Math.Option.{Option, some}
use mathlib.Core.List.{List, [], ◌∷◌, ◌++◌, map, append-nil, append_assoc}
use Prim.Native.Nat.{ℕ, zero, suc, ◌+◌, ◌-◌, ◌*◌, ◌≤◌, ◌<◌}
use Rattle.std.proofs.Math.Numerals.{add-one}
use Rattle.std.proofs.Math.Decide.{dec_lt}
use native.Mathlib.Omega.{arith}
use Rattle.std.proofs.Math.ListN.{length, get_or}
use Rattle.std.proofs.lemmas.List.Edits.{sets-eq}
use Rattle.definitions.specs.Lists.{filter, option, from, below, last, greatest}
use Rattle.bits.specs.Table.{bit}
use Rattle.laws.specs.Lists.{below_snoc, below_lt, length_below, get_or_mem, filter_mem}
use Rattle.laws.specs.Members.{greatest_below}
use Rattle.laws.specs.Repeats.{filter_le}
use Rattle.rows.specs.Values.{Most}
use Rattle.problem_layout.specs.Laid.{range_by, RangesAre, RangesFit}
use Rattle.problem_layout.specs.LaidLaws.{entry_le, most_set, most_zeros}
use Rattle.problem_layout.specs.Filled.{splice, with_ranges}
use Rattle.problem_layout.specs.SpliceLaws.{ZeroFrom, length_splice, read_in, read_before, read_after, splice_next}

-- ---- the numbers below x that pass a test, and those below x + 1
filter_append : (p : ℕ → Bool) (l m : List ℕ) → filter p (l ++ m) ≡ filter p l ++ filter p m
unfolding filter
filter_append p [] m = refl
filter_append p (x ∷ l) m = by_test (p x) (filter_append p l m)
  where
    by_test : (b : Bool) → filter p (l ++ m) ≡ filter p l ++ filter p m → (if b then x ∷ filter p (l ++ m) else filter p (l ++ m)) ≡ (if b then x ∷ filter p l else filter p l) ++ filter p m
    by_test true e = ap (λ (y : List ℕ). x ∷ y) e
    by_test false e = e

last_snoc : (l : List ℕ) (x : ℕ) → last (l ++ (x ∷ [])) ≡ some x
unfolding last option
last_snoc [] x = refl
last_snoc (y ∷ l) x = ap (λ (o : Option ℕ). some (option o y (λ z. z))) (last_snoc l x)

greatest_snoc : (l : List ℕ) (x : ℕ) → greatest (l ++ (x ∷ [])) ≡ x
unfolding greatest option
greatest_snoc l x = ap (λ (o : Option ℕ). option o zero (λ z. z)) (last_snoc l x)

module _ (p : ℕ → Bool) where
  abbrev pub passing : ℕ → List ℕ
  passing x = filter p (below x)

  one_more : (x : ℕ) → passing (x + 1) ≡ passing x ++ filter p (x ∷ [])
  one_more x = ap passing (add-one x) ∙ ap (filter p) (below_snoc x) ∙ filter_append p (below x) (x ∷ [])

  pub passes : (x : ℕ) → p x ≡ true → passing (x + 1) ≡ passing x ++ (x ∷ [])
  unfolding filter
  passes x e = one_more x ∙ ap (λ (b : Bool). passing x ++ (if b then x ∷ [] else [])) e

  pub fails : (x : ℕ) → p x ≡ false → passing (x + 1) ≡ passing x
  unfolding filter
  fails x e = one_more x ∙ ap (λ (b : Bool). passing x ++ (if b then x ∷ [] else [])) e ∙ append-nil (passing x)

  pub none_passes : passing 0 ≡ []
  unfolding filter below from
  none_passes = refl

  -- counted up to x
  pub record Counted (n x count top : ℕ) : Type 0 where
    pub count_is : count ≡ length (passing x)
    pub top_is : top ≡ greatest (passing x)
    pub few : count ≤ x
    pub low : top < n

  pub count_none : (n : ℕ) → 0 < n → Counted n 0 0 0
  unfolding greatest option last
  count_none n h = record { count_is = ap length (sym none_passes); top_is = ap greatest (sym none_passes); few = omega arith; low = h }

  module _ (n x count top c y : ℕ) (k : Counted n x count top) where
    pub count_yes : x < n → p x ≡ true → c ≡ count + 1 → y ≡ x → Counted n (x + 1) c y
    count_yes h e q r = record {
      count_is = q ∙ ap (λ (z : ℕ). z + 1) k.count_is ∙ sym (length-append (passing x) (x ∷ [])) ∙ ap length (sym (passes x e));
      top_is = r ∙ sym (greatest_snoc (passing x) x) ∙ ap greatest (sym (passes x e));
      few = omega (arith, k.few);
      low = omega arith;
    }

    pub count_no : p x ≡ false → c ≡ count → y ≡ top → Counted n (x + 1) c y
    count_no e q r = record {
      count_is = q ∙ k.count_is ∙ ap length (sym (fails x e));
      top_is = r ∙ k.top_is ∙ ap greatest (sym (fails x e));
      few = omega (arith, k.few);
      low = omega (arith, k.low);
    }

-- ---- the range of a sort
pub range_few : (n : ℕ) (w : List ℕ) (s : ℕ) → length (range_by n w s) ≤ n
unfolding range_by
range_few n w zero = omega (arith, length_below n)
range_few n w (suc k) = omega (arith, length_below n, filter_le (λ x. bit w (64 * k + x)) (below n))

range_at_lem : (n : ℕ) (w : List ℕ) (s i : ℕ) → i < length (range_by n w s) → get_or (range_by n w s) i 0 < n
unfolding range_by
range_at_lem n w zero i h = below_lt n _ (get_or_mem (below n) i 0 h)
range_at_lem n w (suc k) i h = below_lt n _ (filter_mem (λ x. bit w (64 * k + x)) (below n) _ (get_or_mem (range_by n w (suc k)) i 0 h)).0

-- ---- the ranges counted so far
pub record CountedTo (n : ℕ) (w : List ℕ) (k : ℕ) (count top : List ℕ) : Type 0 where
  pub count_at_lem : (s : ℕ) → s ≤ k → get_or count s 0 ≡ length (range_by n w s)
  pub top_at : (s : ℕ) → s ≤ k → get_or top s 0 ≡ greatest (range_by n w s)
  pub count_most : Most count 64
  pub top_most : Most top (n - 1)

at_zero : (a : List ℕ) (f : ℕ → ℕ) → get_or a 0 0 ≡ f 0 → (s : ℕ) → s ≤ 0 → get_or a s 0 ≡ f s
at_zero a f e s h = let z : s ≡ 0 = omega arith in rw z e

module _ (n : ℕ) (w : List ℕ) (some : 0 < n) (small : n ≤ 64) where
  pub counted_first : CountedTo n w 0 (set (replicate 9 0) 0 n) (set (replicate 9 0) 0 (n - 1))
  unfolding range_by
  counted_first = record {
    count_at_lem = at_zero (set (replicate 9 0) 0 n) (λ s. length (range_by n w s)) (sym (length_below n));
    top_at = at_zero (set (replicate 9 0) 0 (n - 1)) (λ s. greatest (range_by n w s)) (sym (greatest_below n some));
    count_most = most_set (replicate 9 0) 0 n 64 64 small (omega arith) (most_zeros 9 64);
    top_most = most_set (replicate 9 0) 0 (n - 1) (n - 1) (n - 1) (omega arith) (omega arith) (most_zeros 9 (n - 1));
  }

  pub counted_next : (k : ℕ) (count top : List ℕ) (c x : ℕ) → k < 8 → length count ≡ 9 → length top ≡ 9
      → c ≡ length (range_by n w (suc k)) → x ≡ greatest (range_by n w (suc k)) → c ≤ n → x < n
      → CountedTo n w k count top → CountedTo n w (k + 1) (set count (k + 1) c) (set top (k + 1) x)
  counted_next k count top c x h l m e f a b r = record {
    count_at_lem = entry_le count (λ s. length (range_by n w s)) k c (omega arith) e r.count_at_lem;
    top_at = entry_le top (λ s. greatest (range_by n w s)) k x (omega arith) f r.top_at;
    count_most = most_set count (k + 1) c 64 64 (omega arith) (omega arith) r.count_most;
    top_most = most_set top (k + 1) x (n - 1) (n - 1) (omega arith) (omega arith) r.top_most;
  }

  pub counted_all : (k types : ℕ) (count top : List ℕ) → k ≡ types → CountedTo n w k count top → RangesFit n (record { count = count; top = top }) × RangesAre n w types (record { count = count; top = top })
  unfolding range_by
  counted_all k types count top e r = (
    record { whole = r.count_at_lem 0 (omega arith) ∙ length_below n; count = r.count_most; top = λ s. omega (arith, r.top_most s) },
    record { count = λ s h. r.count_at_lem s (omega arith); top = λ s h. r.top_at s (omega arith) },
  )

-- ---- a number written right after a piece
set_splice : (d : List ℕ) (a x : ℕ) → a < length d → set d a x ≡ splice a (x ∷ []) d
unfolding splice
set_splice d a x h = sets-eq (x ∷ []) d a (omega arith) ∙ append_assoc (take a d) (x ∷ []) (drop (a + 1) d)

pub splice_set : (at : ℕ) (s d z : List ℕ) (i x : ℕ) → at + length s < length d → i ≡ length s → z ≡ splice at s d → set z (at + i) x ≡ splice at (s ++ (x ∷ [])) d
splice_set at s d z i x h e q =
    ap₂ (λ (y : List ℕ) (j : ℕ). set y (at + j) x) q e
    ∙ set_splice (splice at s d) (at + length s) x (omega (arith, length_splice at s d (omega arith)))
    ∙ splice_next at s d (omega arith) (x ∷ []) (omega arith)

pub splice_none : (at : ℕ) (s d : List ℕ) → s ≡ [] → d ≡ splice at s d
unfolding splice
splice_none at s d e = let z : at + 0 ≡ at = add-zero at in rw (e, z, take-append-drop at d) refl

-- those of the numbers below x that pass stand in a table from a place on, i of them
pub record Written (p : ℕ → Bool) (at : ℕ) (d z : List ℕ) (i x : ℕ) : Type 0 where
  pub many : i ≡ length (passing p x)
  pub few : i ≤ x
  pub is : z ≡ splice at (passing p x) d
  pub same : length z ≡ length d

module _ (p : ℕ → Bool) (at : ℕ) (d : List ℕ) where
  pub write_none : Written p at d d 0 0
  write_none = record { many = ap length (sym (none_passes p)); few = omega arith; is = splice_none at (passing p 0) d (none_passes p); same = refl }

  module _ (z : List ℕ) (i x : ℕ) (y : List ℕ) (j : ℕ) (k : Written p at d z i x) where
    pub write_yes : p x ≡ true → at + x < length d → y ≡ set z (at + i) x → j ≡ i + 1 → Written p at d y j (x + 1)
    write_yes e h q r = record {
      many = r ∙ ap (λ (c : ℕ). c + 1) k.many ∙ sym (length-append (passing p x) (x ∷ [])) ∙ ap length (sym (passes p x e));
      few = omega (arith, k.few);
      is = q ∙ splice_set at (passing p x) d z i x (omega (arith, k.many, k.few)) k.many k.is ∙ ap (λ (s : List ℕ). splice at s d) (sym (passes p x e));
      same = ap length q ∙ length-set z (at + i) x ∙ k.same;
    }

    pub write_no : p x ≡ false → y ≡ z → j ≡ i → Written p at d y j (x + 1)
    write_no e q r = record {
      many = r ∙ k.many ∙ ap length (sym (fails p x e));
      few = omega (arith, k.few);
      is = q ∙ k.is ∙ ap (λ (s : List ℕ). splice at s d) (sym (fails p x e));
      same = ap length q ∙ k.same;
    }

-- every number of a list, and of a piece in it, is below n
low_splice : (n at : ℕ) (s d : List ℕ) → at + length s ≤ length d → ((j : ℕ) → j < length s → get_or s j 0 < n) → (i : ℕ) → get_or d i 0 < n → get_or (splice at s d) i 0 < n
low_splice n at s d room h i q = from_this (dec_lt i at) (dec_lt i (at + length s))
  where
    from_this : Dec (i < at) → Dec (i < at + length s) → get_or (splice at s d) i 0 < n
    from_this (yes b) c = rw (read_before at s d room i b) q
    from_this (no b) (yes c) =
        let e : i ≡ at + (i - at) = omega arith in
        rw e (rw (read_in at s d room (i - at) (omega arith)) (h (i - at) (omega arith)))
    from_this (no b) (no c) = rw (read_after at s d room i (omega arith)) q

-- ---- the ranges of sorts 0 to k from a place on
module _ (at n : ℕ) (w : List ℕ) (small : n ≤ 64) where
  pub ranges_first : (d : List ℕ) → splice at (below n) d ≡ with_ranges at n w 0 d
  unfolding with_ranges range_by
  ranges_first d = refl

  pub ranges_next : (k : ℕ) (y z d : List ℕ) → y ≡ with_ranges at n w k d → z ≡ splice (at + 64 * (k + 1)) (range_by n w (suc k)) y → z ≡ with_ranges at n w (k + 1) d
  unfolding with_ranges
  ranges_next k y z d e q = q ∙ rw (e, add-one k) refl

  pub length_ranges : (k : ℕ) (d : List ℕ) → at + 64 * k + 64 ≤ length d → length (with_ranges at n w k d) ≡ length d
  unfolding with_ranges
  length_ranges zero d h = length_splice at (range_by n w 0) d (omega (arith, range_few n w 0))
  length_ranges (suc k) d h =
      let e = length_ranges k d (omega arith) in
      length_splice (at + 64 * suc k) (range_by n w (suc k)) (with_ranges at n w k d) (omega (arith, range_few n w (suc k))) ∙ e

  room : (k : ℕ) (d : List ℕ) → at + 64 * suc k + 64 ≤ length d → at + 64 * suc k + length (range_by n w (suc k)) ≤ length (with_ranges at n w k d)
  room k d h = omega (arith, range_few n w (suc k), length_ranges k d (omega arith))

  pub before_ranges : (k : ℕ) (d : List ℕ) → at + 64 * k + 64 ≤ length d → (i : ℕ) → i < at → get_or (with_ranges at n w k d) i 0 ≡ get_or d i 0
  unfolding with_ranges
  before_ranges zero d h i l = read_before at (range_by n w 0) d (omega (arith, range_few n w 0)) i l
  before_ranges (suc k) d h i l = read_before (at + 64 * suc k) (range_by n w (suc k)) (with_ranges at n w k d) (room k d h) i (omega arith) ∙ before_ranges k d (omega arith) i l

  pub in_ranges : (k : ℕ) (d : List ℕ) → at + 64 * k + 64 ≤ length d → (s i : ℕ) → s ≤ k → i < length (range_by n w s) → get_or (with_ranges at n w k d) (at + 64 * s + i) 0 ≡ get_or (range_by n w s) i 0
  unfolding with_ranges
  in_ranges zero d h s i l q =
      let z : s ≡ 0 = omega arith in
      let e : at + 64 * 0 + i ≡ at + i = omega arith in
      rw (z, e) (read_in at (range_by n w 0) d (omega (arith, range_few n w 0)) i (rw z at q))
  in_ranges (suc k) d h s i l q = from_this (dec_lt s (suc k)) (λ b. in_ranges k d (omega arith) s i b q)
    where
      from_this : Dec (s < suc k) → (s ≤ k → get_or (with_ranges at n w k d) (at + 64 * s + i) 0 ≡ get_or (range_by n w s) i 0)
          → get_or (splice (at + 64 * suc k) (range_by n w (suc k)) (with_ranges at n w k d)) (at + 64 * s + i) 0 ≡ get_or (range_by n w s) i 0
      from_this (yes b) r = read_before (at + 64 * suc k) (range_by n w (suc k)) (with_ranges at n w k d) (room k d h) (at + 64 * s + i) (omega (arith, range_few n w s)) ∙ r (omega arith)
      from_this (no b) r = let z : s ≡ suc k = omega arith in rw z (read_in (at + 64 * suc k) (range_by n w (suc k)) (with_ranges at n w k d) (room k d h) i (rw z at q))

  -- in place of zeros: every number from there on is an element
  pub ranges_low : (k : ℕ) (d : List ℕ) → at + 64 * k + 64 ≤ length d → 0 < n → ZeroFrom at d → (i : ℕ) → at ≤ i → get_or (with_ranges at n w k d) i 0 < n
  unfolding with_ranges
  ranges_low zero d h o z i l = low_splice n at (range_by n w 0) d (omega (arith, range_few n w 0)) (range_at_lem n w 0) i (omega (arith, z i l))
  ranges_low (suc k) d h o z i l = low_splice n (at + 64 * suc k) (range_by n w (suc k)) (with_ranges at n w k d) (room k d h) (range_at_lem n w (suc k)) i (ranges_low k d (omega arith) o z i l)

-- a list by its places
module _ (f : ℕ → ℕ) where
  each_place : (xs : List ℕ) (a : ℕ) → ((i : ℕ) → i < length xs → f (a + i) ≡ get_or xs i 0) → map f (from a (length xs)) ≡ xs
  unfolding from
  each_place [] a h = refl
  each_place (x ∷ xs) a h =
      let z : a + 0 ≡ a = omega arith in
      ap₂ {C = List ℕ} ◌∷◌ (rw z at (h 0 (omega arith))) (each_place xs (suc a) (λ i l. let e : suc a + i ≡ a + suc i = omega arith in rw e (h (suc i) (omega arith))))

  pub map_places : (xs : List ℕ) → ((i : ℕ) → i < length xs → f i ≡ get_or xs i 0) → map f (below (length xs)) ≡ xs
  unfolding below
  map_places xs h = each_place xs 0 (λ i l. let e : 0 + i ≡ i = omega arith in rw e (h i l))
