-- Which digit of a number is a cell's: cells are counted through the `choose` relations, the last one's is the lowest.
use Prim.Native.Nat.{ℕ, zero, suc, ◌+◌, ◌-◌, ◌/◌, ◌%◌, ◌^◌, ◌<◌, ◌≤◌}
use Rattle.std.specs.Prelude.{◌≡◌, Bool, T, eqb, get_or, if◌then◌else◌}
use Rattle.std.proofs.Math.Path.{refl, sym, ap}
use Rattle.std.proofs.Common.{subst, ◌∙◌, ⊎_elim, zero-add, get_or-append-add}
use Rattle.std.proofs.Math.Bool.{true, false}
use mathlib.Core.List.Memᴰ
use mathlib.Core.List.{List, [], ◌∷◌, ◌++◌, Memᴰ}
use native.Mathlib.Omega.{arith}
use borrow.Author.Tests.{eqb-true, eqb-false, ltb-true, ltb-false}
use Rattle.std.proofs.Math.Dec.{ltb}
use Rattle.std.proofs.Math.ListN.{length, length-append, length-map, get_or-append}
use Rattle.definitions.specs.Lists.{filter, flat_map, from, below}
use Rattle.definitions.specs.Sheet.Relations.{Tuple, is_among, is_chosen}
use Rattle.definitions.specs.Problem.Atoms.{Problem, relation_at, tuples_of}
use Rattle.definitions.specs.Problem.Built.{chosen_numbers, is_picked}
use Rattle.definitions.specs.Reply.Finding.{cells_of, cells, numbered}
use Rattle.bits.specs.Table.{digit}
use Rattle.laws.specs.Booleans.{T_true, T_false, T_ext}
use Rattle.laws.specs.Lists.{get_or_below, get_d_map, get_or_mem, length_below}
use Rattle.laws.specs.Tuples.{among_mem, mem_among}
use Rattle.laws.specs.Repeats.{Once}
use Rattle.meaning.specs.Means.{Good}
use Rattle.meaning.specs.Sound.{tuple_at}
use Rattle.meaning.specs.Cells.{cells_once, numbered_mem}

-- cell i of a list without repeats is picked exactly if its digit is set
pub numbered_at : (ts : List Tuple) (x i : ℕ) (d : Tuple) → Once ts → i < length ts → is_among (get_or ts i d) (numbered ts x) ≡ digit x (length ts - 1 - i)
unfolding numbered digit Once
numbered_at [] x i d o h = absurd (omega arith)
numbered_at (t ∷ ts) x zero d o h = by_test (eqb (x / 2 ^ length ts % 2) 1) refl
  where
    by_test : (b : Bool) → eqb (x / 2 ^ length ts % 2) 1 ≡ b → is_among t (if b then t ∷ numbered ts x else numbered ts x) ≡ digit x (suc (length ts) - 1 - 0)
    by_test true e = T_true _ (mem_among t (t ∷ numbered ts x) (Memᴰ.head refl)) ∙ sym e ∙ ap (digit x) (let s : length ts ≡ suc (length ts) - 1 - 0 = omega arith in s)
    by_test false e = T_false _ (λ m. o.0 (numbered_mem ts x t (among_mem t (numbered ts x) m))) ∙ sym e ∙ ap (digit x) (let s : length ts ≡ suc (length ts) - 1 - 0 = omega arith in s)
numbered_at (t ∷ ts) x (suc i) d o h = by_test (eqb (x / 2 ^ length ts % 2) 1) ∙ numbered_at ts x i d o.1 (omega arith) ∙ ap (digit x) (let s : length ts - 1 - i ≡ suc (length ts) - 1 - suc i = omega arith in s)
  where
    other : get_or ts i d ≡ t → ⊥
    other e = o.0 (subst (λ (u : Tuple). Memᴰ u ts) e (get_or_mem ts i d (omega arith)))

    by_test : (b : Bool) → is_among (get_or ts i d) (if b then t ∷ numbered ts x else numbered ts x) ≡ is_among (get_or ts i d) (numbered ts x)
    by_test true = T_ext _ _ (λ m. mem_among _ (numbered ts x) (⊎_elim (λ e. absurd (other e)) (λ q. q) (Memᴰ.cases_cons (among_mem _ (t ∷ numbered ts x) m)))) (λ m. mem_among _ (t ∷ numbered ts x) (Memᴰ.tail (among_mem _ (numbered ts x) m)))
    by_test false = refl

module _ (p : Problem) where
  -- how many cells a relation has, and how many the relations before r have
  unfoldable pub cell_count : ℕ → ℕ
  cell_count r = if is_chosen (relation_at p r).kind then tuples_of p.size (relation_at p r) else zero

  unfoldable pub cell_start : ℕ → ℕ
  cell_start zero = zero
  cell_start (suc r) = cell_start r + cell_count r

  -- the cells of k relations from a on
  cells_over : ℕ → ℕ → List Tuple
  cells_over a k = flat_map (cells_of p) (filter (λ r. is_chosen (relation_at p r).kind) (from a k))

  length_cells : (r : ℕ) → length (cells_of p r) ≡ tuples_of p.size (relation_at p r)
  unfolding cells_of
  length_cells r = length-map (below (tuples_of p.size (relation_at p r))) (tuple_at p r) ∙ length_below (tuples_of p.size (relation_at p r))

  first_at : (d : Tuple) (a row : ℕ) → row < tuples_of p.size (relation_at p a) → get_or (cells_of p a) row d ≡ tuple_at p a row
  unfolding cells_of
  first_at d a row h = get_d_map (tuple_at p a) (below (tuples_of p.size (relation_at p a))) row 0 d (subst (λ (x : ℕ). row < x) (sym (length_below (tuples_of p.size (relation_at p a)))) h) ∙ ap (tuple_at p a) (get_or_below (tuples_of p.size (relation_at p a)) row h)

  over_first : (a k : ℕ) → cells_over a (suc k) ≡ (if is_chosen (relation_at p a).kind then cells_of p a ++ cells_over (suc a) k else cells_over (suc a) k)
  unfolding cells_over flat_map filter from
  over_first a k = by_test (is_chosen (relation_at p a).kind)
    where
      by_test : (b : Bool) → flat_map (cells_of p) (if b then a ∷ filter (λ r. is_chosen (relation_at p r).kind) (from (suc a) k) else filter (λ r. is_chosen (relation_at p r).kind) (from (suc a) k))
          ≡ (if b then cells_of p a ++ flat_map (cells_of p) (filter (λ r. is_chosen (relation_at p r).kind) (from (suc a) k)) else flat_map (cells_of p) (filter (λ r. is_chosen (relation_at p r).kind) (from (suc a) k)))
      by_test true = refl
      by_test false = refl

  -- the cell of relation r and a row stands at its relation's start and the row
  at_over : (d : Tuple) (r row : ℕ) → T (is_chosen (relation_at p r).kind) → row < tuples_of p.size (relation_at p r) → (k a : ℕ) → a ≤ r → r < a + k
      → (i : ℕ) × (cell_start a + i ≡ cell_start r + row) × (i < length (cells_over a k)) × (get_or (cells_over a k) i d ≡ tuple_at p r row)
  unfolding cell_start cell_count
  at_over d r row c h zero a le lt = absurd (omega arith)
  at_over d r row c h (suc k) a le lt = by_order (eqb a r) refl (λ n. at_over d r row c h k (suc a) (after n) (omega arith))
    where
      after : (a ≡ r → ⊥) → suc a ≤ r
      after n = by_less (ltb a r) refl
        where
          by_less : (b : Bool) → ltb a r ≡ b → suc a ≤ r
          by_less true e = ltb-true a r e
          by_less false e = let q = ltb-false a r e in absurd (n (omega arith))

      Here : List Tuple → Type 0
      Here l = (i : ℕ) × (cell_start a + i ≡ cell_start r + row) × (i < length l) × (get_or l i d ≡ tuple_at p r row)

      own : (b : Bool) → is_chosen (relation_at p a).kind ≡ b → T b → a ≡ r → Here (if b then cells_of p a ++ cells_over (suc a) k else cells_over (suc a) k)
      own false q t e = absurd t
      own true q t e =
          let l : row < length (cells_of p a) = subst (λ (x : ℕ). row < x) (sym (length_cells a)) (subst (λ (x : ℕ). row < tuples_of p.size (relation_at p x)) (sym e) h) in
          let m = length-append (cells_of p a) (cells_over (suc a) k) in
          (row, ap (λ (x : ℕ). cell_start x + row) e, omega arith, get_or-append (cells_of p a) (cells_over (suc a) k) d row l ∙ first_at d a row (subst (λ (x : ℕ). row < tuples_of p.size (relation_at p x)) (sym e) h) ∙ ap (λ (x : ℕ). tuple_at p x row) e)

      later : (b : Bool) → is_chosen (relation_at p a).kind ≡ b → ((i : ℕ) × (cell_start a + (if b then tuples_of p.size (relation_at p a) else zero) + i ≡ cell_start r + row) × (i < length (cells_over (suc a) k)) × (get_or (cells_over (suc a) k) i d ≡ tuple_at p r row))
          → Here (if b then cells_of p a ++ cells_over (suc a) k else cells_over (suc a) k)
      later false q (i, s, l, g) = (i, omega arith, l, g)
      later true q (i, s, l, g) =
          let n = length_cells a in
          let m = length-append (cells_of p a) (cells_over (suc a) k) in
          (length (cells_of p a) + i, omega arith, omega arith, get_or-append-add (cells_of p a) (cells_over (suc a) k) i d ∙ g)

      by_order : (b : Bool) → eqb a r ≡ b → ((a ≡ r → ⊥) → (i : ℕ) × (cell_start a + (if is_chosen (relation_at p a).kind then tuples_of p.size (relation_at p a) else zero) + i ≡ cell_start r + row) × (i < length (cells_over (suc a) k)) × (get_or (cells_over (suc a) k) i d ≡ tuple_at p r row))
          → Here (cells_over a (suc k))
      by_order true e f = let q = eqb-true a r e in subst Here (sym (over_first a k)) (own (is_chosen (relation_at p a).kind) refl (subst (λ (x : ℕ). T (is_chosen (relation_at p x).kind)) (sym q) c) q)
      by_order false e f = subst Here (sym (over_first a k)) (later (is_chosen (relation_at p a).kind) refl (f (eqb-false a r e)))

  -- all cells are counted
  length_over : (k a : ℕ) → length (cells_over a k) + cell_start a ≡ cell_start (a + k)
  unfolding cell_start cell_count cells_over flat_map filter from
  length_over zero a = let e : a + 0 ≡ a = omega arith in rw e (zero-add (cell_start a))
  length_over (suc k) a =
      let e : a + suc k ≡ suc a + k = omega arith in
      ap (λ (l : List Tuple). length l + cell_start a) (over_first a k) ∙ by_test (is_chosen (relation_at p a).kind) ∙ length_over k (suc a) ∙ ap cell_start (sym e)
    where
      by_test : (b : Bool) → length (if b then cells_of p a ++ cells_over (suc a) k else cells_over (suc a) k) + cell_start a ≡ length (cells_over (suc a) k) + (cell_start a + (if b then tuples_of p.size (relation_at p a) else zero))
      by_test true = let m = length-append (cells_of p a) (cells_over (suc a) k) in let n = length_cells a in omega arith
      by_test false = omega arith

  pub cell_count_lem : cell_start (length p.relations) ≡ length (cells p)
  unfolding cells chosen_numbers below cells_over cell_start
  cell_count_lem = let e = length_over (length p.relations) 0 in let z : 0 + length p.relations ≡ length p.relations = omega arith in sym (ap cell_start z) ∙ sym e ∙ (let q : length (cells p) + 0 ≡ length (cells p) = omega arith in q)

  -- so a cell is picked by a number exactly if its digit is set
  pub cell_digit : Good p → (x r row : ℕ) → r < length p.relations → T (is_chosen (relation_at p r).kind) → row < tuples_of p.size (relation_at p r)
      → (cell_start r + row < length (cells p)) × (is_picked p (numbered (cells p) x) r row ≡ digit x (length (cells p) - 1 - (cell_start r + row)))
  unfolding is_picked cells chosen_numbers below cells_over cell_start
  cell_digit G x r row l c h =
      let d = tuple_at p 0 0 in
      let (i, s, small, at) = at_over d r row c h (length p.relations) 0 (omega arith) (omega arith) in
      let e : i ≡ cell_start r + row = sym (zero-add i) ∙ s in
      (subst (λ (k : ℕ). k < length (cells p)) e small, ap (λ (t : Tuple). is_among t (numbered (cells p) x)) (sym at) ∙ numbered_at (cells p) x i d (cells_once p G) small ∙ ap (λ (k : ℕ). digit x (length (cells p) - 1 - k)) e)
