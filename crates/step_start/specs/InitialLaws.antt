-- What the table says is written is the definitions' initial state.
use Rattle.std.specs.Prelude.{◌≡◌, Bool, ◌≢◌, ◌⊎◌, length, get_or, drop, if◌then◌else◌}
use Rattle.std.proofs.Math.Path.{refl, sym, ap, ap₂}
use Rattle.std.proofs.Common.{subst, ◌∙◌, inl, inr, ⊎_elim, div-one, mod-eq_of_lt, pow-suc, one-mul}
use Rattle.std.proofs.Math.Bool.{true, false, not}
use Rattle.std.proofs.Math.Option.{some}
use mathlib.Core.List.{List, [], ◌∷◌, ◌++◌}
use Prim.Native.Nat.{ℕ, zero, suc, ◌+◌, ◌-◌, ◌*◌, ◌/◌, ◌%◌, ◌^◌, ◌≤◌, ◌<◌}
use Rattle.std.proofs.Math.Nat.{pow-zero}
use Rattle.std.proofs.Math.Decide.{dec_lt}
use native.Mathlib.Omega.{arith}
use Rattle.std.proofs.Math.Dec.{T, ltb}
use Rattle.definitions.specs.Lists.{option, is_some}
use Rattle.definitions.specs.Sheet.Sheets.{every_number}
use Rattle.definitions.specs.Sheet.Relations.{Kind, static, plain, Fun, PFun, Inj, PInj, universal, is_chosen, is_function, is_injective, is_universal, Relation, built_in, built_in_holds}
use Rattle.definitions.specs.Problem.Atoms.{Problem, places_of, item_at, relation_at, tuples_of, Atom, guess, proof, goal, tuple, not_tuple, free_domain, free_range, holds_node, marked, first_tuples, atom_blocks, atoms, relation_start, node_start, last_start, tuple_start, atom_number, tuple_holds, is_initial, initial, words_for}
use Rattle.definitions.specs.Reply.Outcome.{state_length, written}
use Rattle.bits.specs.Table.{bit, put, paste, Words}
use Rattle.bits.proofs.Laws.{paste_zero}
use Rattle.meaning.specs.Grounded.{first_chosen_lem, built_in_literal}
use Rattle.meaning.specs.Holding.{holds_empty}
use Rattle.laws.specs.Blocks.{item_none}
use Rattle.laws.specs.Booleans.{T_of, T_true, T_false}
use Rattle.laws.specs.Numbers.{no_relation, IsAtom, inj_fun, fun_early, first_width, last_width_lem, relation_width, last_width, relation_first, relation_next, relation_le, node_first, node_atoms_lem, node_le, last_next, last_le, early_start, late_start, three_atoms, atom_at, atom_is, atom_number_lem, atom_some}
use Rattle.laws.specs.Rows.{pair_places}
use Rattle.laws.specs.Words.{words_for_lem, state_words_lem}
use Rattle.problem_table.specs.Lines.{size_in, relations_in, relation_line, Fits}
use Rattle.problem_table.specs.Of.{kind_number, Is}
use Rattle.problem_table.specs.OfLaws.{every_kind}
use Rattle.step_start.specs.Rows.{atoms_in, holds_at, rows_in, free_in, relation_put, words_in, first_in, relations_put, RelationRoom, Room}
use Rattle.step_start.specs.RowLaws.{is_pair, is_one, is_fact, is_unpicked, tuples_chosen, tuples_both}
use Rattle.step_start.specs.Parts.{lt_or_le, cut, over, cut_more, cut_clear, cut_skip, cut_three, cut_first, cut_all, words_over, whole_over}
use Rattle.step_start.specs.Initial.{fact_word, FactsIn, Begins, Begun}

-- ---- a relation's free atoms
free_width : (n : ℕ) (d : Kind) → (if is_function d then n else zero) + (if is_injective d then n else zero) ≡ free_in n (kind_number d)
unfolding is_function is_injective free_in kind_number
free_width n static = omega arith
free_width n plain = omega arith
free_width n Fun = omega arith
free_width n PFun = omega arith
free_width n Inj = omega arith
free_width n PInj = omega arith
free_width n universal = omega arith

width_is : (n : ℕ) (k : Relation) → is_universal k.kind ≡ false → relation_width n k ≡ tuples_of n k + tuples_of n k + free_in n (kind_number k.kind)
unfolding relation_width
width_is n k u = let e = free_width n k.kind in let f = first_width n k u in omega arith

-- one of an `every` line has none before the nodes
universal_width : (n t : ℕ) (d : Kind) → T (is_universal d)
    → ((if is_universal d then zero else t) + ((if is_universal d then zero else t) + ((if is_function d then n else zero) + (if is_injective d then n else zero))) ≡ 0) × (0 ≡ free_in n (kind_number d)) × (kind_number d ≢ 0)
unfolding is_universal is_function is_injective free_in kind_number
universal_width n t static u = absurd u
universal_width n t plain u = absurd u
universal_width n t Fun u = absurd u
universal_width n t PFun u = absurd u
universal_width n t Inj u = absurd u
universal_width n t PInj u = absurd u
universal_width n t universal u = (omega arith, refl, λ z. omega arith)

no_width : (n : ℕ) (k : Relation) → T (is_universal k.kind) → (relation_width n k ≡ 0) × (0 ≡ free_in n (kind_number k.kind)) × (kind_number k.kind ≢ 0)
unfolding relation_width first_tuples
no_width n k u = universal_width n (tuples_of n k) k.kind u

-- each is of a first place or of a second
free_cases : (n i : ℕ) (d : Kind) → i < free_in n (kind_number d) → (T (is_function d) × (i < n)) ⊎ (T (is_injective d) × (n ≤ i) × (i < n + n))
unfolding is_function is_injective free_in kind_number
free_cases n i static h = absurd (omega arith)
free_cases n i plain h = absurd (omega arith)
free_cases n i Fun h = inl (tt, h)
free_cases n i PFun h = inl (tt, h)
free_cases n i Inj h = ⊎_elim (λ l. inl (tt, l)) (λ l. inr (tt, l, omega arith)) (lt_or_le i n)
free_cases n i PInj h = ⊎_elim (λ l. inl (tt, l)) (λ l. inr (tt, l, omega arith)) (lt_or_le i n)
free_cases n i universal h = absurd (omega arith)

free_first : (n : ℕ) (d : Kind) → T (is_function d) → n ≤ free_in n (kind_number d)
unfolding is_function free_in kind_number
free_first n static t = absurd t
free_first n plain t = absurd t
free_first n Fun t = omega arith
free_first n PFun t = omega arith
free_first n Inj t = omega arith
free_first n PInj t = omega arith
free_first n universal t = absurd t

free_second : (n : ℕ) (d : Kind) → T (is_injective d) → 2 * n ≤ free_in n (kind_number d)
unfolding is_injective free_in kind_number
free_second n static t = absurd t
free_second n plain t = absurd t
free_second n Fun t = absurd t
free_second n PFun t = absurd t
free_second n Inj t = omega arith
free_second n PInj t = omega arith
free_second n universal t = absurd t

-- ---- the initial state, atom by atom
module _ (p : Problem) where
  atom_initial : (i : ℕ) (a : Atom) → item_at (atom_blocks p) i ≡ some a → initial p i ≡ is_initial p a
  unfolding initial option
  atom_initial i a e = rw e refl

  module _ (r : ℕ) (l : r < length p.relations) where
    tuple_initial : (row : ℕ) → row < tuples_of p.size (relation_at p r) → initial p (tuple_start p r + row) ≡ tuple_holds p r row
    unfolding IsAtom atom_number is_initial
    tuple_initial row h = atom_initial (tuple_start p r + row) (tuple r row) (atom_at p (tuple r row) (l, h))

    not_initial : (row : ℕ) → row < tuples_of p.size (relation_at p r) → initial p (tuple_start p r + tuples_of p.size (relation_at p r) + row) ≡ not (tuple_holds p r row)
    unfolding IsAtom atom_number is_initial
    not_initial row h = atom_initial (tuple_start p r + tuples_of p.size (relation_at p r) + row) (not_tuple r row) (atom_at p (not_tuple r row) (l, h))

    domain_initial : T (is_function (relation_at p r).kind) → (x : ℕ) → x < p.size → initial p (relation_start p r + 2 * tuples_of p.size (relation_at p r) + x) ≡ true
    unfolding IsAtom atom_number is_initial
    domain_initial f x h = atom_initial (relation_start p r + 2 * tuples_of p.size (relation_at p r) + x) (free_domain r x) (atom_at p (free_domain r x) (l, f, h))

    range_initial : T (is_injective (relation_at p r).kind) → (y : ℕ) → y < p.size → initial p (relation_start p r + 2 * tuples_of p.size (relation_at p r) + p.size + y) ≡ true
    unfolding IsAtom atom_number is_initial
    range_initial f y h = atom_initial (relation_start p r + 2 * tuples_of p.size (relation_at p r) + p.size + y) (free_range r y) (atom_at p (free_range r y) (l, f, h))

  phases_initial : (initial p 0 ≡ true) × (initial p 1 ≡ false) × (initial p 2 ≡ false)
  unfolding IsAtom atom_number is_initial
  phases_initial = (atom_initial 0 guess (atom_at p guess tt), atom_initial 1 proof (atom_at p proof tt), atom_initial 2 goal (atom_at p goal tt))

  -- nothing beyond the atoms
  pub ends_initial : (i : ℕ) → atoms p ≤ i → initial p i ≡ false
  unfolding initial option atoms
  ends_initial i h = rw (item_none (atom_blocks p) i h) refl

  relation_ends : (r : ℕ) → r < length p.relations → is_universal (relation_at p r).kind ≡ false
      → relation_start p (suc r) ≡ relation_start p r + tuples_of p.size (relation_at p r) + tuples_of p.size (relation_at p r) + free_in p.size (kind_number (relation_at p r).kind)
  relation_ends r l u = let a = relation_next p r l in let b = width_is p.size (relation_at p r) u in omega arith

  -- the atoms of a relation that is not of an `every` line come before those of the nodes
  early : (r j i : ℕ) → r < length p.relations → is_universal (relation_at p r).kind ≡ false
      → j < tuples_of p.size (relation_at p r) + tuples_of p.size (relation_at p r) + free_in p.size (kind_number (relation_at p r).kind) → i ≡ relation_start p r + j → node_start p 0 ≤ i → ⊥
  early r j i l u h e q = let a = relation_ends r l u in let b = relation_le p (suc r) (omega arith) in omega arith

  low : (k : ℕ) → k < 3 → node_start p 0 ≤ k → ⊥
  low k l q = let a = relation_first p in let b = relation_le p 0 (omega arith) in omega arith

  past_nodes : (r : ℕ) → node_start p 0 ≤ last_start p r
  unfolding last_start
  past_nodes r = let a = node_atoms_lem p in omega arith

  -- behind them only the not-tuples of an `every` line hold
  module _ (alone : (r : ℕ) → r < length p.relations → T (is_universal (relation_at p r).kind) → r ≡ every_number p.source.question) where
    unlisted : (r row : ℕ) → r < length p.relations → T (is_universal (relation_at p r).kind) → tuple_holds p r row ≡ false
    unfolding tuple_holds every_number
    unlisted r row l u = let e = alone r l u in T_false _ (λ t. holds_empty p.source r _ (omega arith) t)

    quiet : (a : Atom) → IsAtom p a → node_start p 0 ≤ atom_number p a
        → ((r row : ℕ) → r < length p.relations → T (is_universal (relation_at p r).kind) → row < tuples_of p.size (relation_at p r) → atom_number p a ≡ tuple_start p r + tuples_of p.size (relation_at p r) + row → ⊥)
        → is_initial p a ≡ false
    unfolding IsAtom atom_number is_initial
    quiet guess v q n = absurd (low 0 (omega arith) q)
    quiet proof v q n = refl
    quiet goal v q n = refl
    quiet (tuple r row) v q n = by_kind (is_universal (relation_at p r).kind) refl
      where
        by_kind : (b : Bool) → is_universal (relation_at p r).kind ≡ b → tuple_holds p r row ≡ false
        by_kind true e = unlisted r row v.0 (T_of e)
        by_kind false e = absurd (early r row (tuple_start p r + row) v.0 e (omega (arith, v.1)) (omega (arith, early_start p r e)) q)
    quiet (not_tuple r row) v q n = by_kind (is_universal (relation_at p r).kind) refl
      where
        by_kind : (b : Bool) → is_universal (relation_at p r).kind ≡ b → not (tuple_holds p r row) ≡ false
        by_kind true e = absurd (n r row v.0 (T_of e) v.1 refl)
        by_kind false e = absurd (early r (tuples_of p.size (relation_at p r) + row) (tuple_start p r + tuples_of p.size (relation_at p r) + row) v.0 e (omega (arith, v.1)) (omega (arith, early_start p r e)) q)
    quiet (free_domain r x) v q n =
        absurd (early r (2 * tuples_of p.size (relation_at p r) + x) (relation_start p r + 2 * tuples_of p.size (relation_at p r) + x) v.0 (fun_early _ v.1) (omega (arith, v.2, free_first p.size (relation_at p r).kind v.1)) (omega arith) q)
    quiet (free_range r y) v q n =
        absurd (early r (2 * tuples_of p.size (relation_at p r) + p.size + y) (relation_start p r + 2 * tuples_of p.size (relation_at p r) + p.size + y) v.0 (fun_early _ (inj_fun _ v.1)) (omega (arith, v.2, free_second p.size (relation_at p r).kind v.1)) (omega arith) q)
    quiet (holds_node v row) d q n = refl
    quiet (marked r row) v q n = refl

    late_initial : (i : ℕ) → node_start p 0 ≤ i
        → ((r row : ℕ) → r < length p.relations → T (is_universal (relation_at p r).kind) → row < tuples_of p.size (relation_at p r) → i ≡ tuple_start p r + tuples_of p.size (relation_at p r) + row → ⊥)
        → initial p i ≡ false
    late_initial i h n = from_this (dec_lt i (atoms p))
      where
        from_this : Dec (i < atoms p) → initial p i ≡ false
        from_this (yes l) =
            let (a, e) = atom_some p i l in
            let z = atom_number_lem p i a e in
            atom_initial i a e ∙ quiet a (atom_is p i a e) (subst (λ (k : ℕ). node_start p 0 ≤ k) (sym z) h) (λ r row l u k q. n r row l u k (sym z ∙ q))
        from_this (no l) = ends_initial i (omega arith)

  free_initial : (r : ℕ) → r < length p.relations → (i : ℕ) → i < free_in p.size (kind_number (relation_at p r).kind)
      → true ≡ initial p (relation_start p r + tuples_of p.size (relation_at p r) + tuples_of p.size (relation_at p r) + i)
  free_initial r l i h = ⊎_elim
      (λ q. let e : relation_start p r + 2 * t + i ≡ relation_start p r + t + t + i = omega arith in sym (ap (initial p) (sym e) ∙ domain_initial r l q.0 i q.1))
      (λ q. let e : relation_start p r + 2 * t + p.size + (i - p.size) ≡ relation_start p r + t + t + i = omega (arith, q.1) in
      sym (ap (initial p) (sym e) ∙ range_initial r l q.0 (i - p.size) (omega (arith, q.1, q.2))))
      (free_cases p.size i (relation_at p r).kind h)
    where
      t : ℕ
      t = tuples_of p.size (relation_at p r)

-- ---- what the table says of a tuple
places_one : (n row : ℕ) → row < n ^ 1 → places_of n 1 row ≡ row ∷ []
unfolding places_of
places_one n row h =
    let e : n ^ 1 ≡ n = pow-suc n 0 ∙ ap (λ (x : ℕ). x * n) (pow-zero n) ∙ one-mul n in
    let l : row < n = omega arith in
    ap (λ (x : ℕ). x ∷ []) (ap (λ (x : ℕ). row / x % n) (pow-zero n) ∙ ap (λ (x : ℕ). x % n) (div-one row) ∙ mod-eq_of_lt l)

pub pair_arity : (r : ℕ) → r < 3 → (get_or built_in r no_relation).arity ≡ 2
unfolding built_in
pair_arity zero h = refl
pair_arity (suc zero) h = refl
pair_arity (suc (suc zero)) h = refl
pair_arity (suc (suc (suc r))) h = absurd (omega arith)

pub one_arity : (r : ℕ) → 3 ≤ r → r < 5 → (get_or built_in r no_relation).arity ≡ 1
unfolding built_in
one_arity zero h l = absurd (omega arith)
one_arity (suc zero) h l = absurd (omega arith)
one_arity (suc (suc zero)) h l = absurd (omega arith)
one_arity (suc (suc (suc zero))) h l = refl
one_arity (suc (suc (suc (suc zero)))) h l = refl
one_arity (suc (suc (suc (suc (suc r))))) h l = absurd (omega arith)

module _ (p : Problem) (w f : List ℕ) (fits : Fits w) (is : Is p w) (F : FactsIn p f) where
  some_element : 0 < p.size
  some_element = omega (arith, fits.some, is.size)

  -- a built-in relation, by its places
  built_of : (r row : ℕ) (xs : List ℕ) → r < 5 → places_of p.size (relation_at p r).arity row ≡ xs → built_in_holds p.size r (get_or xs 0 0) (get_or xs 1 0) ≡ tuple_holds p r row
  unfolding tuple_holds
  built_of r row xs l e = rw (e, built_in_literal p.source [] r xs l, F.sized) refl

  pair_holds : (r row : ℕ) → r < 3 → row < tuples_of p.size (relation_at p r) → built_in_holds p.size r (row / p.size) (row % p.size) ≡ tuple_holds p r row
  unfolding tuples_of
  pair_holds r row l h =
      let a : (relation_at p r).arity ≡ 2 = ap (λ (k : Relation). k.arity) (F.built r (omega arith)) ∙ pair_arity r l in
      built_of r row (row / p.size ∷ row % p.size ∷ []) (omega arith)
      (ap (λ (k : ℕ). places_of p.size k row) a ∙ (pair_places p.size row some_element (subst (λ (k : ℕ). row < p.size ^ k) a h)).0)

  one_holds : (r row : ℕ) → 3 ≤ r → r < 5 → row < tuples_of p.size (relation_at p r) → built_in_holds p.size r row 0 ≡ tuple_holds p r row
  unfolding tuples_of
  one_holds r row g l h =
      let a : (relation_at p r).arity ≡ 1 = ap (λ (k : Relation). k.arity) (F.built r l) ∙ one_arity r g l in
      built_of r row (row ∷ []) l (ap (λ (k : ℕ). places_of p.size k row) a ∙ places_one p.size row (subst (λ (k : ℕ). row < p.size ^ k) a h))

  unpicked : (r row k : ℕ) → r < length p.relations → row < tuples_of p.size (relation_at p r) → 5 ≤ r → k ≢ 0 → T (is_chosen (relation_at p r).kind)
      → holds_at f (size_in w) r k (fact_word p r) row ≡ tuple_holds p r row
  unpicked r row k l h g z t = sym (is_unpicked f (size_in w) r k (fact_word p r) row g z) ∙ sym (F.unpicked r row l h t)

  -- a tuple of a `rel` or of a `choose`, by the kind
  listed_holds : (r row : ℕ) → 5 ≤ r → r < length p.relations → row < tuples_of p.size (relation_at p r) → (d : Kind) → (relation_at p r).kind ≡ d
      → holds_at f (size_in w) r (kind_number d) (fact_word p r) row ≡ tuple_holds p r row
  unfolding kind_number is_chosen is_universal
  listed_holds r row g l h static e = sym (is_fact f (size_in w) r 0 (fact_word p r) row g refl) ∙ F.fact r row g l h e
  listed_holds r row g l h plain e = unpicked r row 1 l h g (λ z. omega arith) (subst (λ (d : Kind). T (is_chosen d)) (sym e) tt)
  listed_holds r row g l h Fun e = unpicked r row 2 l h g (λ z. omega arith) (subst (λ (d : Kind). T (is_chosen d)) (sym e) tt)
  listed_holds r row g l h PFun e = unpicked r row 3 l h g (λ z. omega arith) (subst (λ (d : Kind). T (is_chosen d)) (sym e) tt)
  listed_holds r row g l h Inj e = unpicked r row 4 l h g (λ z. omega arith) (subst (λ (d : Kind). T (is_chosen d)) (sym e) tt)
  listed_holds r row g l h PInj e = unpicked r row 5 l h g (λ z. omega arith) (subst (λ (d : Kind). T (is_chosen d)) (sym e) tt)
  listed_holds r row g l h universal e =
      sym (is_unpicked f (size_in w) r 6 (fact_word p r) row g (λ z. omega arith)) ∙ sym (unlisted p (λ r l u. (is.every.alone r l u).0) r row l (subst (λ (d : Kind). T (is_universal d)) (sym e) tt))

  pub tuple_is : (r row : ℕ) → r < length p.relations → row < tuples_of p.size (relation_at p r) → holds_at f (size_in w) r (relation_line w r).kind (fact_word p r) row ≡ tuple_holds p r row
  tuple_is r row l h = ap (λ (k : ℕ). holds_at f (size_in w) r k (fact_word p r) row) (is.relation r l).kind ∙ ⊎_elim (λ q. low q) (λ q. listed_holds r row q l h (relation_at p r).kind refl) (lt_or_le r 5)
    where
      low : r < 5 → holds_at f (size_in w) r (kind_number (relation_at p r).kind) (fact_word p r) row ≡ tuple_holds p r row
      low q = ⊎_elim
          (λ z. sym (is_pair f (size_in w) r (kind_number (relation_at p r).kind) (fact_word p r) row z) ∙ ap (λ (n : ℕ). built_in_holds n r (row / n) (row % n)) is.size ∙ pair_holds r row z h)
          (λ z. sym (is_one f (size_in w) r (kind_number (relation_at p r).kind) (fact_word p r) row z q) ∙ ap (λ (n : ℕ). built_in_holds n r row 0) is.size ∙ one_holds r row z q h)
          (lt_or_le r 3)

  -- ---- a relation's lines
  rows_is : (r : ℕ) → r < length p.relations → rows_in (relation_line w r) ≡ tuples_of p.size (relation_at p r)
  unfolding rows_in
  rows_is r l = omega (arith, (is.relation r l).tuples, (is.relation r l).nots)

  free_is : (r : ℕ) → r < length p.relations → free_in (size_in w) (relation_line w r).kind ≡ free_in p.size (kind_number (relation_at p r).kind)
  free_is r l = ap₂ free_in is.size (is.relation r l).kind

  relation_room : (len r : ℕ) → r < length p.relations → atoms p ≤ 64 * len → RelationRoom w len r
  unfolding last_width
  relation_room len r l h = by_kind (is_universal (relation_at p r).kind) refl
    where
      by_kind : (b : Bool) → is_universal (relation_at p r).kind ≡ b → RelationRoom w len r
      by_kind false u =
          let a = relation_ends p r l u in
          let b = relation_le p (suc r) (omega arith) in
          let c = node_le p 0 (omega arith) in
          let d = early_start p r u in
          record { tuples = omega (arith, rows_is r l, (is.relation r l).nots); free = omega (arith, free_is r l, (is.relation r l).free) }
      by_kind true u =
          let a = last_next p r l in
          let b = last_le p (suc r) (omega arith) in
          let c = last_width_lem p.size (relation_at p r) u in
          let d = late_start p r u in
          let z = (no_width p.size (relation_at p r) (T_of u)).1 in
          record { tuples = omega (arith, rows_is r l, (is.relation r l).nots); free = omega (arith, free_is r l, (is.relation r l).free) }

  room_is : (len : ℕ) → atoms p ≤ 64 * len → Room w len
  room_is len h r l = relation_room len r (omega (arith, is.relations)) h

  first_is : (r : ℕ) → r ≤ length p.relations → first_in w r ≡ fact_word p r
  unfolding first_in fact_word words_in
  first_is zero l = refl
  first_is (suc r) l = ap₂ (λ (x y : ℕ). x + (if ltb r 5 then 0 else words_for y)) (first_is r (omega arith)) (rows_is r (omega arith))

  module _ (old : ℕ → Bool) (m : ℕ) (room : atoms p ≤ m) where
    relation_is : (r : ℕ) → r < length p.relations → is_universal (relation_at p r).kind ≡ false
        → relation_put f w r (fact_word p r) (over old m (cut (initial p) (relation_start p r))) ≡ over old m (cut (initial p) (relation_start p (suc r)))
    unfolding relation_put
    relation_is r l u =
        let a = relation_ends p r l u in
        let b = relation_le p (suc r) (omega arith) in
        let c = node_le p 0 (omega arith) in
        let e = early_start p r u in
        let clear : (i : ℕ) → relation_start p r ≤ i → i < relation_start p (suc r) → over old m (cut (initial p) (relation_start p r)) i ≡ false =
        λ i h k. cut_clear old m (initial p) (relation_start p r) i h (omega arith) in
        rw (
          rows_is r l,
          free_is r l,
          a,
          tuples_both f (size_in w) r (relation_line w r) (fact_word p r) (tuples_of p.size (relation_at p r)) (over old m (cut (initial p) (relation_start p r)))
              (λ i h. clear ((relation_line w r).tuples + i) (omega (arith, (is.relation r l).tuples)) (omega (arith, (is.relation r l).tuples))),
        )
        (cut_three old m (initial p) (relation_start p r) (tuples_of p.size (relation_at p r)) (free_in p.size (kind_number (relation_at p r).kind))
        (relation_line w r).tuples (relation_line w r).nots (relation_line w r).free (holds_at f (size_in w) r (relation_line w r).kind (fact_word p r)) _
        ((is.relation r l).tuples ∙ e) (omega (arith, (is.relation r l).nots)) (omega (arith, (is.relation r l).free)) (omega arith)
        (λ i h. tuple_is r i l h ∙ sym (tuple_initial p r l i h) ∙ ap (λ (x : ℕ). initial p (x + i)) e)
        (λ i h. ap not (tuple_is r i l h) ∙ sym (not_initial p r l i h) ∙ ap (λ (x : ℕ). initial p (x + tuples_of p.size (relation_at p r) + i)) e)
        (free_initial p r l))

    relations_are : (r : ℕ) → r ≤ length p.relations → ((j : ℕ) → j < r → is_universal (relation_at p j).kind ≡ false) → relations_put f w r (over old m (cut (initial p) 3)) ≡ over old m (cut (initial p) (relation_start p r))
    unfolding relations_put
    relations_are zero l n = ap (λ (k : ℕ). over old m (cut (initial p) k)) (sym (relation_first p))
    relations_are (suc r) l n =
        ap₂ (λ (k : ℕ) (s : ℕ → Bool). relation_put f w r k s) (first_is r (omega arith)) (relations_are r (omega arith) (λ j h. n j (omega arith))) ∙ relation_is r (omega arith) (n r (omega arith))

    -- the relation of an `every` line, which is the last: its not-tuples
    module _ (r : ℕ) (last : suc r ≡ length p.relations) (u : T (is_universal (relation_at p r).kind)) where
      abbrev c : ℕ
      c = tuples_of p.size (relation_at p r)

      abbrev nots : ℕ
      nots = (relation_line w r).nots

      here : r < length p.relations
      here = omega arith

      nots_is : nots ≡ tuple_start p r + c
      nots_is = (is.relation r here).nots

      behind : (node_start p 0 ≡ relation_start p r) × (node_start p 0 ≤ nots) × (nots + c ≤ m)
      unfolding last_width
      behind =
          let a = relation_next p r here in
          let b = (no_width p.size (relation_at p r) u).0 in
          let d = node_first p in
          let e = late_start p r (T_true _ u) in
          let f = last_next p r here in
          let g = last_le p (suc r) (omega arith) in
          let h = last_width_lem p.size (relation_at p r) (T_true _ u) in
          let i = past_nodes p r in
          let k : relation_start p (length p.relations) ≡ relation_start p (suc r) = ap (relation_start p) (sym last) in
          (omega arith, omega (arith, nots_is), omega (arith, nots_is))

      only : (i : ℕ) → node_start p 0 ≤ i → (nots ≤ i → i < nots + c → ⊥) → initial p i ≡ false
      only i h n = late_initial p (λ r l v. (is.every.alone r l v).0) i h (λ r' row l v k e. n (at r' row l v k e).0 (at r' row l v k e).1)
        where
          at : (r' row : ℕ) → r' < length p.relations → T (is_universal (relation_at p r').kind) → row < tuples_of p.size (relation_at p r') → i ≡ tuple_start p r' + tuples_of p.size (relation_at p r') + row → (nots ≤ i) × (i < nots + c)
          at r' row l v k e =
              let z : r' ≡ r = (is.every.alone r' l v).0 ∙ sym (is.every.alone r here u).0 in
              let y : tuple_start p r' + tuples_of p.size (relation_at p r') ≡ nots = ap (λ (x : ℕ). tuple_start p x + tuples_of p.size (relation_at p x)) z ∙ sym nots_is in
              let x : tuples_of p.size (relation_at p r') ≡ c = ap (λ (x : ℕ). tuples_of p.size (relation_at p x)) z in
              (omega arith, omega arith)

      high : 5 ≤ r
      unfolding every_number
      high = let a = first_chosen_lem p.source.question in omega (arith, (is.every.alone r here u).0)

      every_put : (first : ℕ) (s : ℕ → Bool) → relation_put f w r first s ≡ paste s nots (λ i. true) 0 c
      unfolding relation_put
      every_put first s =
          let z = no_width p.size (relation_at p r) u in
          let q : (relation_line w r).kind ≢ 0 = λ e. z.2 (sym (is.relation r here).kind ∙ e) in
          rw (rows_is r here, free_is r here, sym z.1)
          (sym (paste_zero _ _ _ 0) ∙ sym (tuples_chosen f (size_in w) r (relation_line w r) first c s high q refl))

      holds_not : (i : ℕ) → i < c → true ≡ initial p (nots + i)
      holds_not i h = sym (ap (λ (x : ℕ). initial p (x + i)) nots_is ∙ not_initial p r here i h ∙ ap not (unlisted p (λ r l v. (is.every.alone r l v).0) r i here u))

      every_is : relation_put f w r (fact_word p r) (over old m (cut (initial p) (relation_start p r))) ≡ over old m (initial p)
      every_is =
          let (a, b, d) = behind in
          every_put (fact_word p r) (over old m (cut (initial p) (relation_start p r)))
          ∙ ap (λ (s : ℕ → Bool). paste (over old m s) nots (λ i. true) 0 c) (cut_skip old m (initial p) (relation_start p r) nots (omega arith) (λ i h k. only i (omega arith) (λ q _. omega arith)))
          ∙ cut_more old m (initial p) nots c (λ i. true) d holds_not
          ∙ ap (over old m) (cut_all old m (initial p) (nots + c) (λ i h. only i (omega arith) (λ _ q. omega arith)))

    before_last : (E r : ℕ) → suc E ≡ length p.relations → E ≡ every_number p.source.question → r < E → is_universal (relation_at p r).kind ≡ false
    before_last E r q e l = T_false _ (λ u. let z = (is.every.alone r (omega arith) u).0 in omega arith)

    with_last : (E : ℕ) → suc E ≡ length p.relations → E ≡ every_number p.source.question → T (is_universal (relation_at p E).kind) → relations_put f w (length p.relations) (over old m (cut (initial p) 3)) ≡ over old m (initial p)
    unfolding relations_put
    with_last E q e u = ap (λ (r : ℕ). relations_put f w r (over old m (cut (initial p) 3))) (sym q)
        ∙ ap₂ (λ (k : ℕ) (s : ℕ → Bool). relation_put f w E k s) (first_is E (omega arith)) (relations_are E (omega arith) (λ r l. before_last E r q e l)) ∙ every_is E q u

    -- the whole: guess, then the relations, over words that are clear
    all_are : relations_put f w (relations_in w) (put (over old m (λ i. false)) 0 true) ≡ over old m (initial p)
    all_are =
        let (a, b, c) = phases_initial p in
        ap₂ (λ (r : ℕ) (s : ℕ → Bool). relations_put f w r s) is.relations (cut_first old m (initial p) (omega (arith, three_atoms p)) a b c)
        ∙ by_some (is_some p.source.question.every) refl
      where
        none_at : is_some p.source.question.every ≡ false → (r : ℕ) → r < length p.relations → is_universal (relation_at p r).kind ≡ false
        none_at e r l = T_false _ (λ u. subst T e (is.every.alone r l u).1)

        by_some : (b : Bool) → is_some p.source.question.every ≡ b → relations_put f w (length p.relations) (over old m (cut (initial p) 3)) ≡ over old m (initial p)
        by_some true e = with_last (every_number p.source.question) (is.every.last (T_of e)) refl (every_kind p w is (T_of e))
        by_some false e =
            let z = node_first p in
            relations_are (length p.relations) (omega arith) (λ r l. none_at e r l)
            ∙ ap (over old m) (cut_all old m (initial p) (relation_start p (length p.relations)) (λ i h. late_initial p (λ r l u. (is.every.alone r l u).0) i (omega arith) (λ r row l u k q. subst T (none_at e r l) u)))

-- ---- the same as words
state_room : (p : Problem) → atoms p ≤ 64 * state_length p
unfolding state_length
state_room p = (words_for_lem (atoms p)).0

begins : (p : Problem) (old new : List ℕ) → Words old → Words new → state_length p ≤ length old → length new ≡ length old
    → bit new ≡ paste (bit old) 0 (initial p) 0 (64 * state_length p) → Begins p old new
unfolding written
begins p old new wo wn room len e = record {
  its_words = words_over (initial p) (state_length p) old new wo wn room len e ∙ ap (λ (t : List ℕ). t ++ drop (length t) old) (sym (state_words_lem p (initial p)));
  its_bits = e;
  exact = λ q. whole_over (initial p) (state_length p) old new wo wn room len e q (λ i h. ends_initial p i (omega (arith, state_room p)));
}

-- the words that are needed become 0, guess is set, and then the relations' atoms
pub begun : (w f old new : List ℕ) (m : ℕ) {b₁ b₂ : ℕ → Bool} → Fits w → Words old → Words new → length new ≡ length old → m ≡ words_for (atoms_in w) → m ≤ length old
    → b₁ ≡ paste (bit old) 0 (λ i. false) 0 (64 * m) → (0 / 64 < length old → b₂ ≡ put b₁ 0 true) → (Room w (length old) → bit new ≡ relations_put f w (relations_in w) b₂) → Begun w f old new
unfolding Begun state_length
begun w f old new m fits wo wn len em room e₁ e₂ e₃ p is ea F =
    let n : m ≡ words_for (atoms p) = em ∙ ap words_for ea in
    let h : atoms p ≤ 64 * m = subst (λ (k : ℕ). atoms p ≤ 64 * k) (sym n) (words_for_lem (atoms p)).0 in
    let t = three_atoms p in
    let e = e₃ (room_is p w f fits is F (length old) (omega arith)) ∙ ap (relations_put f w (relations_in w)) (e₂ (omega arith) ∙ ap (λ (b : ℕ → Bool). put b 0 true) e₁) ∙ all_are p w f fits is F (bit old) (64 * m) h in
    begins p old new wo wn (subst (λ (k : ℕ). k ≤ length old) n room) len (e ∙ ap (λ (k : ℕ). paste (bit old) 0 (initial p) 0 (64 * k)) n)
