-- The values of the `every` relation: how many, which tuples each has, and what holds with each beside picks.
use Prim.Native.Nat.{ℕ, zero, ◌^◌, ◌<◌, ◌≤◌}
use Rattle.std.specs.Prelude.{◌≡◌, Bool, true, false, not, length}
use Rattle.std.proofs.Math.Path.{refl, sym, ap, ap₂}
use Rattle.std.proofs.Common.{subst, ◌∙◌, ⊎_elim, T_not}
use Rattle.std.proofs.Math.Option.{Option, none, some}
use mathlib.Core.List.Memᴰ
use mathlib.Core.List.{List, [], ◌∷◌, ◌++◌, map, append-nil, Memᴰ}
use native.Mathlib.Omega.{arith}
use Rattle.std.proofs.Math.Nat.{one-le-pow}
use Rattle.std.proofs.Math.Dec.{T, not_T}
use Rattle.definitions.specs.Lists.{option, is_some, filter, below}
use Rattle.definitions.specs.Sheet.Relations.{Relation, Tuple, is_chosen, is_universal}
use Rattle.definitions.specs.Sheet.Sheets.{first_chosen, every_number}
use Rattle.definitions.specs.Problem.Truth.{holds, every_tuples, values, digit, every_value}
use Rattle.definitions.specs.Problem.Atoms.{Problem, relation_at, places_of, tuples_of}
use Rattle.laws.specs.Booleans.{T_of}
use Rattle.laws.specs.Lists.{below_lt, filter_mem, map_mem, mem_below, mem_filter, mem_map}
use Rattle.laws.specs.Numbers.{chosen_early}
use Rattle.meaning.specs.Means.{Good}
use Rattle.meaning.specs.Valid.{every_there}
use Rattle.laws.specs.Digits.{digit_zero}
use Rattle.meaning.specs.Holding.{tup, tuple_at, holds_split, holds_base, holds_pick, holds_empty, same_row}

module _ (p : Problem) (G : Good p) where
  -- the relation's number
  abbrev pub E : ℕ
  E = every_number p.source.question

  abbrev pub HasEvery : Type 0
  HasEvery = T (is_some p.source.question.every)

  -- ---- without an `every` line: no tuples, one value, which is empty
  module _ (n : T (not (is_some p.source.question.every))) where
    no_line : p.source.question.every ≡ none
    unfolding is_some
    no_line = by_option p.source.question.every n
      where
        by_option : (o : Option Relation) → T (not (is_some o)) → o ≡ none
        by_option none t = refl
        by_option (some k) t = absurd t

    pub no_tuples : every_tuples p.source ≡ 0
    unfolding every_tuples option
    no_tuples = rw no_line refl

    pub one_value : values p.source ≡ 1
    unfolding values
    one_value = rw no_tuples refl

  -- ---- with one
  by_every : {A : Type 0} → HasEvery → ((k : Relation) → p.source.question.every ≡ some k → A) → A
  unfolding is_some
  by_every {A} t f = by_option p.source.question.every refl t
    where
      by_option : (o : Option Relation) → p.source.question.every ≡ o → T (is_some o) → A
      by_option none e t = absurd t
      by_option (some k) e t = f k e

  pub tuples_are : HasEvery → tuples_of p.size (relation_at p E) ≡ every_tuples p.source
  unfolding tuples_of every_tuples option
  tuples_are t = by_every t (λ k e. let (l, i, u) = G.every_is k e in ap (λ (x : Relation). p.size ^ x.arity) i ∙ ap (λ (n : ℕ). n ^ k.arity) (sym G.sized) ∙ sym (ap (λ (o : Option Relation). option o zero (λ (x : Relation). p.source.site.size ^ x.arity)) e))

  pub some_tuple : HasEvery → 0 < every_tuples p.source
  unfolding tuples_of
  some_tuple t = let a = tuples_are t in let b = one-le-pow (relation_at p E).arity p.size G.element in omega arith

  value_form : HasEvery → (k : ℕ) → every_value p.source k ≡ map (tuple_at p E) (filter (digit k) (below (every_tuples p.source)))
  unfolding every_value option
  value_form t k = by_every t (λ x e. let (l, i, u) = G.every_is x e in
      ap (λ (o : Option Relation). option o [] (λ (y : Relation). map (λ row. tup E (places_of p.source.site.size y.arity row)) (filter (digit k) (below (every_tuples p.source))))) e
      ∙ ap₂ (λ (n a : ℕ). map (λ row. tup E (places_of n a row)) (filter (digit k) (below (every_tuples p.source)))) G.sized (ap (λ (y : Relation). y.arity) (sym i)))

  -- a value has the tuples whose digits are 1
  pub value_mem : (k : ℕ) (t : Tuple) → Memᴰ t (every_value p.source k) → HasEvery × ((row : ℕ) × (row < every_tuples p.source) × T (digit k row) × (t ≡ tuple_at p E row))
  unfolding is_some every_value option
  value_mem k t m = (there p.source.question.every m, from_this (there p.source.question.every m))
    where
      there : (o : Option Relation) → Memᴰ t (option o [] (λ (e : Relation). map (λ row. tup E (places_of p.source.site.size e.arity row)) (filter (digit k) (below (every_tuples p.source))))) → T (is_some o)
      there none m = absurd (Memᴰ.not-nil m)
      there (some e) m = tt

      from_this : HasEvery → (row : ℕ) × (row < every_tuples p.source) × T (digit k row) × (t ≡ tuple_at p E row)
      from_this h =
          let (row, mr, e) = map_mem (tuple_at p E) (filter (digit k) (below (every_tuples p.source))) t (subst (λ (l : List Tuple). Memᴰ t l) (value_form h k) m) in
          let q = filter_mem (digit k) (below (every_tuples p.source)) row mr in
          (row, below_lt (every_tuples p.source) row q.0, q.1, e)

  pub mem_value : HasEvery → (k row : ℕ) → row < every_tuples p.source → T (digit k row) → Memᴰ (tuple_at p E row) (every_value p.source k)
  mem_value h k row l d = subst (λ (l : List Tuple). Memᴰ (tuple_at p E row) l) (sym (value_form h k))
      (mem_map (tuple_at p E) (filter (digit k) (below (every_tuples p.source))) row (mem_filter (digit k) (below (every_tuples p.source)) row (mem_below (every_tuples p.source) row l) d))

  -- the first value is empty
  pub value_zero : every_value p.source 0 ≡ []
  value_zero = by_list (every_value p.source 0) (λ t m. let (h, v) = value_mem 0 t m in let (row, l, d, e) = v in subst T (digit_zero row) d)
    where
      by_list : (l : List Tuple) → ((t : Tuple) → Memᴰ t l → ⊥) → l ≡ []
      by_list [] n = refl
      by_list (t ∷ l) n = absurd (n t (Memᴰ.head refl))

  pub with_zero : (P : List Tuple) → P ++ every_value p.source 0 ≡ P
  with_zero P = ap (λ (l : List Tuple). P ++ l) value_zero ∙ append-nil P

  -- ---- what holds with a value beside picks, which are of chosen relations
  abbrev pub Chosen : List Tuple → Type 0
  Chosen P = (t : Tuple) → Memᴰ t P → T (is_chosen (relation_at p t.relation).kind)

  pub every_high : first_chosen p.source.question ≤ E
  unfolding every_number
  every_high = omega arith

  module _ (P : List Tuple) (K : Chosen P) where
    -- of the `every` relation the tuples of the value
    pub in_value : HasEvery → (k row : ℕ) → row < every_tuples p.source → T (holds p.source (P ++ every_value p.source k) E (places_of p.size (relation_at p E).arity row)) → T (digit k row)
    in_value h k row l t = ⊎_elim
        (λ q. absurd (holds_empty p.source E _ every_high q))
        (λ q. ⊎_elim
        (λ m. absurd (chosen_early (relation_at p E).kind (K _ m) (every_there p G h).1))
        (λ m. let (h', v) = value_mem k _ m in
        let (row', l', d, e) = v in
        let a = tuples_are h in
        let s = same_row p G E row' E row (omega arith) (omega arith) e in
        subst (λ (x : ℕ). T (digit k x)) (sym s.1) d)
        (Memᴰ.append_cases P q.1))
        (holds_split p.source (P ++ every_value p.source k) E _ t)

    pub value_in : HasEvery → (k row : ℕ) → row < every_tuples p.source → T (digit k row) → T (holds p.source (P ++ every_value p.source k) E (places_of p.size (relation_at p E).arity row))
    value_in h k row l d = holds_pick p.source (P ++ every_value p.source k) E _ every_high (Memᴰ.append_right P (mem_value h k row l d))

    -- of any other relation the same with each value
    other_holds : (k j r : ℕ) (xs : List ℕ) → (HasEvery → r ≡ E → ⊥) → T (holds p.source (P ++ every_value p.source k) r xs) → T (holds p.source (P ++ every_value p.source j) r xs)
    other_holds k j r xs n t = ⊎_elim
        (λ q. holds_base p.source (P ++ every_value p.source j) r xs q)
        (λ q. ⊎_elim
        (λ m. holds_pick p.source (P ++ every_value p.source j) r xs q.0 (Memᴰ.append_left (every_value p.source j) m))
        (λ m. let (h, v) = value_mem k _ m in let (row, l, d, e) = v in absurd (n h (ap (λ (t : Tuple). t.relation) e)))
        (Memᴰ.append_cases P q.1))
        (holds_split p.source (P ++ every_value p.source k) r xs t)

    -- a tuple that holds with one value holds with another, if its digit says so
    pub tuple_moves : HasEvery → (k j r row : ℕ) → r < length p.relations → row < tuples_of p.size (relation_at p r) → (r ≡ E → T (digit k row) → T (digit j row))
        → T (holds p.source (P ++ every_value p.source k) r (places_of p.size (relation_at p r).arity row)) → T (holds p.source (P ++ every_value p.source j) r (places_of p.size (relation_at p r).arity row))
    tuple_moves h k j r row l b f t = by_test (is_universal (relation_at p r).kind) refl
      where
        by_test : (u : Bool) → is_universal (relation_at p r).kind ≡ u → T (holds p.source (P ++ every_value p.source j) r (places_of p.size (relation_at p r).arity row))
        by_test true e =
            let q = (G.every_one r l (T_of e)).0 in
            let a = tuples_are h in
            let s : row < every_tuples p.source = subst (λ (x : ℕ). row < x) a (subst (λ (x : ℕ). row < tuples_of p.size (relation_at p x)) q b) in
            subst (λ (x : ℕ). T (holds p.source (P ++ every_value p.source j) x (places_of p.size (relation_at p x).arity row))) (sym q)
            (value_in h j row s (f q (in_value h k row s (subst (λ (x : ℕ). T (holds p.source (P ++ every_value p.source k) x (places_of p.size (relation_at p x).arity row))) q t))))
        by_test false e = other_holds k j r _ (λ g i. subst T (ap (λ (x : ℕ). is_universal (relation_at p x).kind) (sym i) ∙ e) (every_there p G g).1) t

    pub not_moves : HasEvery → (k j r row : ℕ) → r < length p.relations → row < tuples_of p.size (relation_at p r) → (r ≡ E → T (digit j row) → T (digit k row))
        → T (not (holds p.source (P ++ every_value p.source k) r (places_of p.size (relation_at p r).arity row))) → T (not (holds p.source (P ++ every_value p.source j) r (places_of p.size (relation_at p r).arity row)))
    not_moves h k j r row l b f t = not_T (holds p.source (P ++ every_value p.source j) r (places_of p.size (relation_at p r).arity row))
        (λ q. T_not (holds p.source (P ++ every_value p.source k) r (places_of p.size (relation_at p r).arity row)) t (tuple_moves h j k r row l b f q))
