-- The rows that set actions set: rows of tuples, none twice. Of a function kind they are the pairs of its two ranges, of any other
-- `choose` all rows.
use Rattle.std.specs.Prelude.{ℕ, zero, suc, ◌+◌, ◌*◌, ◌/◌, ◌%◌, ◌^◌, ◌<◌, ◌≤◌, ◌≡◌, Bool, ◌&&◌, ltb, get_or, if◌then◌else◌}
use Rattle.std.proofs.Math.Path.{refl, ap}
use Rattle.std.proofs.Common.{sym, ap₂, subst, ◌∙◌, mul-zero, suc-mul, mul-le-mul_right, mod-lt, le-div_iff_mul-le, div-lt_iff_lt-mul, div-add-mod', div-mul-le_self, ltb-true, ltb-false}
use Rattle.std.proofs.Math.Bool.{true, false}
use mathlib.Core.List.Memᴰ
use mathlib.Core.List.{List, [], map, Memᴰ}
use native.Mathlib.Omega.{arith}
use Rattle.std.proofs.Math.Arith.{digits_lt, digits_div, digits_mod}
use Rattle.std.proofs.Math.Dec.{T}
use Rattle.std.proofs.Math.ListN.{length, length-map}
use Rattle.definitions.specs.Lists.{filter, below, is_in, rank}
use Rattle.definitions.specs.Sheet.Relations.{Kind, static, plain, Fun, PFun, Inj, PInj, universal, is_chosen, is_function, Relation}
use Rattle.definitions.specs.Problem.Atoms.{tuples_of}
use Rattle.definitions.specs.Problem.Actions.{is_settable, set_rows, sets_of}
use Rattle.laws.specs.Booleans.{T_and_l, T_and_r, T_of, and_T}
use Rattle.laws.specs.Lists.{below_lt, mem_below, length_below, get_or_below, filter_mem, mem_filter, get_or_mem, get_d_map, map_mem, mem_map}
use Rattle.laws.specs.Repeats.{Once, filter_le}
use Rattle.laws.specs.Rows.{square}
use Rattle.laws.specs.Members.{Ascending, IsRange, ascending_below, ascending_filter, ascending_map, ascending_once, ascending_same, ascending_lt, in_mem, mem_in, rank_lt, select_rank}

pub fun_chosen : (k : Kind) → T (is_function k) → T (is_chosen k)
unfolding is_function is_chosen
fun_chosen static f = f
fun_chosen plain f = absurd f
fun_chosen Fun f = tt
fun_chosen PFun f = tt
fun_chosen Inj f = tt
fun_chosen PInj f = tt
fun_chosen universal f = elim f [ ]

-- ---- two places of a number
pub row_below : (i a c : ℕ) → i < a * c → (i / c < a) × (i % c < c)
row_below i a zero h = let z = mul-zero a in absurd (omega arith)
row_below i a (suc c) h = let q : 0 < suc c = omega arith in ((div-lt_iff_lt-mul q).1 h, mod-lt i q)

-- a greater first place outweighs the second
first_rises : (n x y u v : ℕ) → x < y → u < n → x * n + u < y * n + v
first_rises n x y u v h l =
    let e : suc x * n ≡ x * n + n = suc-mul x n in
    let g : suc x * n ≤ y * n = mul-le-mul_right n (omega arith) in
    omega arith

-- a greater number whose first place is not greater has the same and a greater second
second_rises : (i j m : ℕ) → 0 < m → i < j → j / m ≤ i / m → (i / m ≡ j / m) × (i % m < j % m)
second_rises i j m z h l =
    let g : i / m ≤ j / m = (le-div_iff_mul-le z).1 (omega (arith, div-mul-le_self i m)) in
    let e : i / m ≡ j / m = omega arith in
    let a = div-add-mod' i m in
    let b = div-add-mod' j m in
    let q : i / m * m ≡ j / m * m = ap (λ (d : ℕ). d * m) e in
    (e, omega arith)

-- ---- the rows
module _ (n : ℕ) (R : ℕ → List ℕ) (k : Relation) where
  abbrev Typed : ℕ → Type 0
  Typed row = Memᴰ (row / n) (R k.firsts) × Memᴰ (row % n) (R k.seconds)

  -- a tuple of a function kind may be set where both places are of their sorts, and any other tuple
  settable_typed : (row : ℕ) → T (is_settable n R k row) → T (is_function k.kind) → Typed row
  unfolding is_settable
  settable_typed row s f = by_test (is_function k.kind) f s
    where
      by_test : (b : Bool) → T b → T (if b then is_in (row / n) (R k.firsts) && is_in (row % n) (R k.seconds) else true) → Typed row
      by_test true t s = (in_mem (row / n) (R k.firsts) (T_and_l (is_in (row / n) (R k.firsts)) _ s), in_mem (row % n) (R k.seconds) (T_and_r (is_in (row / n) (R k.firsts)) _ s))
      by_test false t s = absurd t

  typed_settable : (row : ℕ) → (T (is_function k.kind) → Typed row) → T (is_settable n R k row)
  unfolding is_settable
  typed_settable row h = by_test (is_function k.kind) h
    where
      by_test : (b : Bool) → (T b → Typed row) → T (if b then is_in (row / n) (R k.firsts) && is_in (row % n) (R k.seconds) else true)
      by_test true h = and_T (is_in (row / n) (R k.firsts)) _ (mem_in (row / n) (R k.firsts) (h tt).0) (mem_in (row % n) (R k.seconds) (h tt).1)
      by_test false h = tt

  pub set_row_lem : (row : ℕ) → Memᴰ row (set_rows n R k) → T (is_chosen k.kind) × (row < tuples_of n k) × (T (is_function k.kind) → Typed row)
  unfolding set_rows
  set_row_lem row m = by_test (is_chosen k.kind) m
    where
      by_test : (b : Bool) → Memᴰ row (if b then filter (is_settable n R k) (below (tuples_of n k)) else []) → T b × (row < tuples_of n k) × (T (is_function k.kind) → Typed row)
      by_test true m = let (i, s) = filter_mem (is_settable n R k) (below (tuples_of n k)) row m in (tt, below_lt (tuples_of n k) row i, settable_typed row s)
      by_test false m = absurd (Memᴰ.not-nil m)

  pub row_set : (row : ℕ) → T (is_chosen k.kind) → row < tuples_of n k → (T (is_function k.kind) → Typed row) → Memᴰ row (set_rows n R k)
  unfolding set_rows
  row_set row t h s = by_test (is_chosen k.kind) t
    where
      by_test : (b : Bool) → T b → Memᴰ row (if b then filter (is_settable n R k) (below (tuples_of n k)) else [])
      by_test true t = mem_filter (is_settable n R k) (below (tuples_of n k)) row (mem_below (tuples_of n k) row h) (typed_settable row s)
      by_test false t = absurd t

  rows_ascend : Ascending (set_rows n R k)
  unfolding set_rows Ascending
  rows_ascend = by_test (is_chosen k.kind)
    where
      by_test : (b : Bool) → Ascending (if b then filter (is_settable n R k) (below (tuples_of n k)) else [])
      by_test true = ascending_filter (is_settable n R k) (below (tuples_of n k)) (ascending_below (tuples_of n k))
      by_test false = tt

  pub once_sets : Once (set_rows n R k)
  once_sets = ascending_once (set_rows n R k) rows_ascend

  pub sets_le : sets_of n R k ≤ tuples_of n k
  unfolding sets_of set_rows
  sets_le = by_test (is_chosen k.kind)
    where
      by_test : (b : Bool) → length (if b then filter (is_settable n R k) (below (tuples_of n k)) else []) ≤ tuples_of n k
      by_test true = omega (arith, length_below (tuples_of n k), filter_le (is_settable n R k) (below (tuples_of n k)))
      by_test false = omega arith

  -- of a relation that is not chosen there are none
  pub no_rows : is_chosen k.kind ≡ false → set_rows n R k ≡ []
  unfolding set_rows
  no_rows e = rw e refl

  all_rows : T (is_chosen k.kind) → ((row : ℕ) → row < tuples_of n k → T (is_function k.kind) → Typed row) → set_rows n R k ≡ below (tuples_of n k)
  all_rows t h = ascending_same (set_rows n R k) (below (tuples_of n k)) rows_ascend (ascending_below (tuples_of n k))
      (λ row m. mem_below (tuples_of n k) row (set_row_lem row m).1)
      (λ row m. let l = below_lt (tuples_of n k) row m in row_set row t l (h row l))

  -- of one that is of no function kind there are all
  pub plain_rows : T (is_chosen k.kind) → is_function k.kind ≡ false → set_rows n R k ≡ below (tuples_of n k)
  plain_rows t e = all_rows t (λ row l f. absurd (subst T e f))

  -- all rows being there, a row is its own place
  module _ (e : set_rows n R k ≡ below (tuples_of n k)) where
    pub all_count : sets_of n R k ≡ tuples_of n k
    unfolding sets_of
    all_count = ap length e ∙ length_below (tuples_of n k)

    pub all_row : (i : ℕ) → i < tuples_of n k → get_or (set_rows n R k) i 0 ≡ i
    all_row i h = ap (λ (l : List ℕ). get_or l i 0) e ∙ get_or_below (tuples_of n k) i h

  module _ (f : T (is_function k.kind)) (two : k.arity ≡ 2) where
    chosen : T (is_chosen k.kind)
    chosen = fun_chosen k.kind f

    all_pairs : tuples_of n k ≡ n * n
    unfolding tuples_of
    all_pairs = ap (λ (a : ℕ). n ^ a) two ∙ square n

    -- and of a function kind without types, too
    pub free_rows : R k.firsts ≡ below n → R k.seconds ≡ below n → set_rows n R k ≡ below (tuples_of n k)
    free_rows a b = all_rows chosen (λ row l _. let (x, y) = row_below row n n (subst (λ (m : ℕ). row < m) all_pairs l) in
        (subst (λ (ms : List ℕ). Memᴰ (row / n) ms) (sym a) (mem_below n (row / n) x), subst (λ (ms : List ℕ). Memᴰ (row % n) ms) (sym b) (mem_below n (row % n) y)))

    -- with types there is one for each member of the first type and each of the second, in this order
    module _ (A : IsRange n (R k.firsts)) (B : IsRange n (R k.seconds)) where
      abbrev xs : List ℕ
      xs = R k.firsts

      abbrev ys : List ℕ
      ys = R k.seconds

      abbrev pair_at : ℕ → ℕ
      pair_at i = get_or xs (i / length ys) 0 * n + get_or ys (i % length ys) 0

      pair_is : (i : ℕ) → i < length xs * length ys → Memᴰ (get_or xs (i / length ys) 0) xs × Memᴰ (get_or ys (i % length ys) 0) ys
      pair_is i h = let (a, b) = row_below i (length xs) (length ys) h in (get_or_mem xs (i / length ys) 0 a, get_or_mem ys (i % length ys) 0 b)

      pair_rises : (i j : ℕ) → i < j → j < length xs * length ys → pair_at i < pair_at j
      pair_rises i j h l = by_test (ltb (i / length ys) (j / length ys)) refl
        where
          m : ℕ
          m = length ys

          by_test : (b : Bool) → ltb (i / m) (j / m) ≡ b → pair_at i < pair_at j
          by_test true e =
              let a = ascending_lt xs A.ascends (i / m) (j / m) (ltb-true (i / m) (j / m) e) (row_below j (length xs) m l).0 in
              let s = B.small _ (pair_is i (omega arith)).1 in
              first_rises n (get_or xs (i / m) 0) (get_or xs (j / m) 0) (get_or ys (i % m) 0) (get_or ys (j % m) 0) a s
          by_test false e =
              let (q, r) = second_rises i j m B.some_member h (ltb-false (i / m) (j / m) e) in
              let b = ascending_lt ys B.ascends (i % m) (j % m) r (row_below j (length xs) m l).1 in
              let g : get_or xs (i / m) 0 * n ≡ get_or xs (j / m) 0 * n = ap (λ (d : ℕ). get_or xs d 0 * n) q in
              omega arith

      grid : set_rows n R k ≡ map pair_at (below (length xs * length ys))
      grid = ascending_same (set_rows n R k) (map pair_at (below (length xs * length ys))) rows_ascend
          (ascending_map pair_at (below (length xs * length ys)) (ascending_below (length xs * length ys)) (λ i j mi mj h. pair_rises i j h (below_lt (length xs * length ys) j mj)))
          there back
        where
          there : (row : ℕ) → Memᴰ row (set_rows n R k) → Memᴰ row (map pair_at (below (length xs * length ys)))
          there row m =
              let (x, y) = (set_row_lem row m).2 f in
              let i = rank xs (row / n) * length ys + rank ys (row % n) in
              let ly = rank_lt ys (row % n) y in
              let e : pair_at i ≡ row = ap₂ (λ (a b : ℕ). get_or xs a 0 * n + get_or ys b 0) (digits_div (rank xs (row / n)) ly) (digits_mod (rank xs (row / n)) ly)
              ∙ ap₂ (λ (a b : ℕ). a * n + b) (select_rank xs (row / n) x) (select_rank ys (row % n) y) ∙ div-add-mod' row n in
              subst (λ (z : ℕ). Memᴰ z (map pair_at (below (length xs * length ys)))) e
              (mem_map pair_at (below (length xs * length ys)) i (mem_below (length xs * length ys) i (digits_lt (rank_lt xs (row / n) x) ly)))

          back : (row : ℕ) → Memᴰ row (map pair_at (below (length xs * length ys))) → Memᴰ row (set_rows n R k)
          back row m =
              let (i, mi, e) = map_mem pair_at (below (length xs * length ys)) row m in
              let (x, y) = pair_is i (below_lt (length xs * length ys) i mi) in
              let lx = A.small _ x in
              let ly = B.small _ y in
              subst (λ (z : ℕ). Memᴰ z (set_rows n R k)) (sym e)
              (row_set (pair_at i) chosen (subst (λ (z : ℕ). pair_at i < z) (sym all_pairs) (digits_lt lx ly))
              (λ _. (subst (λ (z : ℕ). Memᴰ z xs) (sym (digits_div _ ly)) x, subst (λ (z : ℕ). Memᴰ z ys) (sym (digits_mod _ ly)) y)))

      pub pair_count : sets_of n R k ≡ length (R k.firsts) * length (R k.seconds)
      unfolding sets_of
      pair_count = ap length grid ∙ length-map (below (length xs * length ys)) pair_at ∙ length_below (length xs * length ys)

      pub pair_row : (i : ℕ) → i < length (R k.firsts) * length (R k.seconds) → get_or (set_rows n R k) i 0 ≡ get_or (R k.firsts) (i / length (R k.seconds)) 0 * n + get_or (R k.seconds) (i % length (R k.seconds)) 0
      pair_row i h = ap (λ (l : List ℕ). get_or l i 0) grid ∙ get_d_map pair_at (below (length xs * length ys)) i 0 0 (omega (arith, length_below (length xs * length ys))) ∙ ap pair_at (get_or_below (length xs * length ys) i h)

  -- how many set actions any relation has
  pub sets_all : ((s : ℕ) → IsRange n (R s)) → (T (is_function k.kind) → k.arity ≡ 2)
      → sets_of n R k ≡ (if is_function k.kind then length (R k.firsts) * length (R k.seconds) else if is_chosen k.kind then tuples_of n k else zero)
  unfolding sets_of
  sets_all ranged two = by_test (is_function k.kind) refl (is_chosen k.kind) refl
    where
      by_test : (b : Bool) → is_function k.kind ≡ b → (d : Bool) → is_chosen k.kind ≡ d → sets_of n R k ≡ (if b then length (R k.firsts) * length (R k.seconds) else if d then tuples_of n k else zero)
      by_test true e d q = pair_count (T_of e) (two (T_of e)) (ranged k.firsts) (ranged k.seconds)
      by_test false e true q = all_count (plain_rows (T_of q) e)
      by_test false e false q = ap length (no_rows q)
