-- The cells of a problem, all tuples of its `choose` relations, and the numbers of sets of them: every set of cells is that of one number.
use Rattle.std.specs.Prelude.{ℕ, zero, suc, ◌+◌, ◌*◌, ◌/◌, ◌%◌, ◌^◌, ◌<◌, ◌≡◌, refl, Bool, true, false, eqb, length, if◌then◌else◌}
use Rattle.std.proofs.Common.{sym, ap₂, ◌∙◌, ⊎_elim, arith, mul_assoc, mod-lt, div-add-mod', mod-eq_of_lt, div-lt_iff_lt-mul, pow_pos, eqb-true}
use Rattle.std.proofs.Math.Path.{ap, subst}
use mathlib.Core.List.Memᴰ
use mathlib.Core.List.{List, [], ◌∷◌, Memᴰ}
use Rattle.std.proofs.Math.Nat.{pow-zero, pow-succ', mod-add-div', add-mul-div_right, add-mul-mod_self_right}
use Rattle.std.proofs.Math.Arith.{digits_lt, digits_div}
use Rattle.std.proofs.lemmas.Bool.{eqb-false}
use Rattle.definitions.specs.Lists.{filter, below}
use Rattle.definitions.specs.Sheet.Relations.{Tuple, is_among, is_chosen}
use Rattle.definitions.specs.Problem.Atoms.{Problem, relation_at, row_of, tuples_of}
use Rattle.definitions.specs.Problem.Built.{chosen_numbers}
use Rattle.definitions.specs.Reply.Finding.{cells_of, cells, numbered}
use Rattle.laws.specs.Booleans.{T_true, T_false, T_ext, not_unequal}
use Rattle.laws.specs.Lists.{below_lt, filter_mem, flat_mem, map_mem, mem_below, mem_filter, mem_flat, mem_map}
use Rattle.laws.specs.Tuples.{among_mem, mem_among}
use Rattle.laws.specs.Repeats.{Once, once_below, once_filter, once_flat, once_map}
use Rattle.laws.specs.Rows.{length_places, places_below}
use Rattle.meaning.specs.Means.{Good}
use Rattle.meaning.specs.Sound.{tuple_at, Inside, same_row}
use Rattle.meaning.specs.Pairs.{tuple_back, tuple_row}

-- ---- a tuple is a cell exactly if it is a tuple of a `choose` over the elements, and none is one twice
module _ (p : Problem) (G : Good p) where
  pub cell_inside : (t : Tuple) → Memᴰ t (cells p) → Inside p G t
  unfolding cells cells_of chosen_numbers
  cell_inside t m =
      let (r, mr, mt) = flat_mem (cells_of p) (chosen_numbers p) t m in
      let (row, mrow, e) = map_mem (tuple_at p r) (below (tuples_of p.size (relation_at p r))) t mt in
      let (known, chosen) = filter_mem (λ r. is_chosen (relation_at p r).kind) (below (length p.relations)) r mr in
      subst (Inside p G) (sym e) (record {
        known = below_lt (length p.relations) r known;
        chosen = chosen;
        long = length_places p.size (relation_at p r).arity row;
        small = places_below p.size (relation_at p r).arity row G.element;
      })

  pub inside_cell : (t : Tuple) → Inside p G t → Memᴰ t (cells p)
  unfolding cells cells_of chosen_numbers
  inside_cell t i = subst (λ (u : Tuple). Memᴰ u (cells p)) (tuple_back p G t i)
      (mem_flat (cells_of p) (chosen_numbers p) t.relation _
      (mem_filter (λ r. is_chosen (relation_at p r).kind) (below (length p.relations)) t.relation (mem_below (length p.relations) t.relation i.known) i.chosen)
      (mem_map (tuple_at p t.relation) (below (tuples_of p.size (relation_at p t.relation))) (row_of p.size t.places) (mem_below _ (row_of p.size t.places) (tuple_row p G t i))))

  pub cells_once : Once (cells p)
  unfolding cells cells_of chosen_numbers
  cells_once = once_flat (cells_of p) (λ (t : Tuple). t.relation) (chosen_numbers p)
      (λ r. once_map (tuple_at p r) (below (tuples_of p.size (relation_at p r)))
      (λ x y mx my e. (same_row p G r y r x (below_lt _ y my) (below_lt _ x mx) e).1)
      (once_below (tuples_of p.size (relation_at p r))))
      (λ r t m. let (row, mrow, e) = map_mem (tuple_at p r) (below (tuples_of p.size (relation_at p r))) t m in ap (λ (u : Tuple). u.relation) e)
      (once_filter (λ r. is_chosen (relation_at p r).kind) (below (length p.relations)) (once_below (length p.relations)))

-- ---- numbers of sets: the first cell's digit is the most significant
unfoldable pub number_of : (Tuple → Bool) → List Tuple → ℕ
number_of f [] = zero
number_of f (t ∷ ts) = (if f t then 1 else zero) * 2 ^ length ts + number_of f ts

one_digit : (b : Bool) → (if b then 1 else zero) < 2
one_digit true = omega arith
one_digit false = omega arith

pub number_lt : (f : Tuple → Bool) (ts : List Tuple) → number_of f ts < 2 ^ length ts
unfolding number_of
number_lt f [] = rw pow-zero (omega arith)
number_lt f (t ∷ ts) = rw pow-succ' (digits_lt (one_digit (f t)) (number_lt f ts))

-- digits above the first cell's tell nothing
pub numbered_high : (ts : List Tuple) (h m : ℕ) → numbered ts (m + h * 2 ^ length ts) ≡ numbered ts m
unfolding numbered
numbered_high [] h m = refl
numbered_high (t ∷ ts) h m =
    let e : h * 2 ^ suc (length ts) ≡ h * 2 * 2 ^ length ts = ap (λ (x : ℕ). h * x) (pow-succ' 2 (length ts)) ∙ sym (mul_assoc h 2 (2 ^ length ts)) in
    let d : (m + h * 2 * 2 ^ length ts) / 2 ^ length ts % 2 ≡ m / 2 ^ length ts % 2 = ap (λ (x : ℕ). x % 2) (add-mul-div_right m (h * 2) (pow_pos (length ts))) ∙ add-mul-mod_self_right (m / 2 ^ length ts) h 2 in
    rw (e, d, numbered_high ts (h * 2) m) refl

-- the picks of a set's number are the set
pub numbered_number : (f : Tuple → Bool) (ts : List Tuple) → numbered ts (number_of f ts) ≡ filter f ts
unfolding numbered number_of filter
numbered_number f [] = refl
numbered_number f (t ∷ ts) = by_test (f t) (numbered_number f ts)
  where
    rest : (b : ℕ) → numbered ts (number_of f ts) ≡ filter f ts → numbered ts (b * 2 ^ length ts + number_of f ts) ≡ filter f ts
    rest b r = ap (numbered ts) (let e : b * 2 ^ length ts + number_of f ts ≡ number_of f ts + b * 2 ^ length ts = omega arith in e) ∙ numbered_high ts b (number_of f ts) ∙ r

    by_test : (b : Bool) → numbered ts (number_of f ts) ≡ filter f ts → (if eqb (((if b then 1 else zero) * 2 ^ length ts + number_of f ts) / 2 ^ length ts % 2) 1 then t ∷ numbered ts ((if b then 1 else zero) * 2 ^ length ts + number_of f ts) else numbered ts ((if b then 1 else zero) * 2 ^ length ts + number_of f ts))
        ≡ (if b then t ∷ filter f ts else filter f ts)
    by_test true r = rw (digits_div 1 (number_lt f ts)) (ap (λ (l : List Tuple). t ∷ l) (rest 1 r))
    by_test false r = rw (digits_div 0 (number_lt f ts)) (rest 0 r)

-- the picks of a number are cells, each once
pub numbered_mem : (ts : List Tuple) (m : ℕ) (t : Tuple) → Memᴰ t (numbered ts m) → Memᴰ t ts
unfolding numbered
numbered_mem [] m t i = i
numbered_mem (u ∷ ts) m t i = by_test (eqb (m / 2 ^ length ts % 2) 1) i (numbered_mem ts m t)
  where
    by_test : (b : Bool) → Memᴰ t (if b then u ∷ numbered ts m else numbered ts m) → (Memᴰ t (numbered ts m) → Memᴰ t ts) → Memᴰ t (u ∷ ts)
    by_test true i r = ⊎_elim (λ e. Memᴰ.head e) (λ q. Memᴰ.tail (r q)) (Memᴰ.cases_cons i)
    by_test false i r = Memᴰ.tail (r i)

pub numbered_once : (ts : List Tuple) (m : ℕ) → Once ts → Once (numbered ts m)
unfolding numbered Once
numbered_once [] m o = tt
numbered_once (u ∷ ts) m o = by_test (eqb (m / 2 ^ length ts % 2) 1) (numbered_once ts m o.1)
  where
    by_test : (b : Bool) → Once (numbered ts m) → Once (if b then u ∷ numbered ts m else numbered ts m)
    by_test true r = (λ i. o.0 (numbered_mem ts m u i), r)
    by_test false r = r

-- and the number of these picks is the number itself, so that no two numbers have the same
same_number : (f g : Tuple → Bool) (ts : List Tuple) → ((t : Tuple) → Memᴰ t ts → f t ≡ g t) → number_of f ts ≡ number_of g ts
unfolding number_of
same_number f g [] h = refl
same_number f g (t ∷ ts) h = ap₂ (λ (b : Bool) (x : ℕ). (if b then 1 else zero) * 2 ^ length ts + x) (h t (Memᴰ.head refl)) (same_number f g ts (λ u m. h u (Memᴰ.tail m)))

low : (b : Bool) (x : ℕ) → x < 2 → eqb x 1 ≡ b → (if b then 1 else zero) ≡ x
low true x l e = sym (eqb-true x 1 e)
low false x l e = let n = eqb-false x 1 e in not_unequal 0 x (λ d. n (omega arith))

abbrev pub is_in : List Tuple → Tuple → Bool
is_in F t = is_among t F

pub number_numbered : (ts : List Tuple) (m : ℕ) → Once ts → m < 2 ^ length ts → number_of (is_in (numbered ts m)) ts ≡ m
unfolding number_of numbered Once
number_numbered [] m o l = let e = rw pow-zero at l in omega arith
number_numbered (t ∷ ts) m o l = by_test (eqb (m / 2 ^ length ts % 2) 1) refl
    (numbered_low (number_numbered ts (m % 2 ^ length ts) o.1 (mod-lt m (pow_pos (length ts)))))
  where
    k : ℕ
    k = 2 ^ length ts

    numbered_low : number_of (is_in (numbered ts (m % k))) ts ≡ m % k → number_of (is_in (numbered ts m)) ts ≡ m % k
    numbered_low r = ap (λ (x : ℕ). number_of (is_in (numbered ts x)) ts) (sym (mod-add-div' m k)) ∙ ap (λ (l : List Tuple). number_of (is_in l) ts) (numbered_high ts (m / k) (m % k)) ∙ r

    -- the other cells are among the picks exactly if they are among those that follow t
    after : (b : Bool) (u : Tuple) → Memᴰ u ts → is_in (if b then t ∷ numbered ts m else numbered ts m) u ≡ is_in (numbered ts m) u
    after true u i = T_ext _ _ (λ h. mem_among u (numbered ts m) (⊎_elim (λ e. absurd (o.0 (subst (λ (x : Tuple). Memᴰ x ts) e i))) (λ q. q) (Memᴰ.cases_cons (among_mem u (t ∷ numbered ts m) h))))
        (λ h. mem_among u (t ∷ numbered ts m) (Memᴰ.tail (among_mem u (numbered ts m) h)))
    after false u i = refl

    own : (b : Bool) → is_in (if b then t ∷ numbered ts m else numbered ts m) t ≡ b
    own true = T_true _ (mem_among t (t ∷ numbered ts m) (Memᴰ.head refl))
    own false = T_false _ (λ h. o.0 (numbered_mem ts m t (among_mem t (numbered ts m) h)))

    by_test : (b : Bool) → eqb (m / k % 2) 1 ≡ b → number_of (is_in (numbered ts m)) ts ≡ m % k
        → (if is_in (if b then t ∷ numbered ts m else numbered ts m) t then 1 else zero) * k + number_of (is_in (if b then t ∷ numbered ts m else numbered ts m)) ts ≡ m
    by_test b e r =
        let q : m / k < 2 = (div-lt_iff_lt-mul (pow_pos (length ts))).1 (rw pow-succ' at l) in
        let d : (if b then 1 else zero) ≡ m / k = low b (m / k) q (ap (λ (x : ℕ). eqb x 1) (sym (mod-eq_of_lt q)) ∙ e) in
        ap₂ (λ (x y : ℕ). x * k + y) (ap (λ (x : Bool). if x then 1 else zero) (own b) ∙ d) (same_number _ _ ts (after b) ∙ r) ∙ div-add-mod' m k

pub numbers_apart : (ts : List Tuple) → Once ts → (m k : ℕ) → m < 2 ^ length ts → k < 2 ^ length ts → ((t : Tuple) → is_among t (numbered ts m) ≡ is_among t (numbered ts k)) → m ≡ k
numbers_apart ts o m k lm lk h = sym (number_numbered ts m o lm) ∙ same_number _ _ ts (λ t i. h t) ∙ number_numbered ts k o lk
