-- What the words say of a case: those of sixty-four lanes the picks that may and that must be, those of a number its picks.
use Prim.Native.Nat.{ℕ, zero, suc, ◌+◌, ◌-◌, ◌*◌, ◌/◌, ◌<◌, ◌≤◌}
use Rattle.std.specs.Prelude.{◌≡◌, Bool, not, ◌&&◌, length, get_or, take, if◌then◌else◌}
use Rattle.std.proofs.Math.Path.{refl, sym, ap, ap₂, fun_ext}
use Rattle.std.proofs.Common.{subst, ◌∙◌, arith, ltb-true}
use Rattle.std.proofs.Math.Bool.{true, false}
use mathlib.Core.List.{List, [], ◌∷◌, ◌++◌, append-nil, append_assoc}
use Rattle.std.proofs.Math.Dec.{T, ltb}
use Rattle.definitions.specs.Lists.{filter, flat_map, from, below}
use Rattle.definitions.specs.Sheet.Relations.{Tuple, is_chosen}
use Rattle.definitions.specs.Problem.Atoms.{Problem, relation_at, tuples_of, words_for}
use Rattle.definitions.specs.Problem.Built.{chosen_numbers, is_picked}
use Rattle.definitions.specs.Reply.Outcome.{relation_words, picks_length, pick_words}
use Rattle.definitions.specs.Reply.Finding.{cells, numbered}
use Rattle.bits.specs.Table.{digit, words}
use Rattle.laws.specs.Booleans.{T_of}
use Rattle.laws.specs.Lists.{below_snoc}
use Rattle.meaning.specs.Means.{Good}
use Rattle.meaning.specs.Lent.{words_of}
use Rattle.problem_table.specs.Lines.{relations_in, relation_line}
use Rattle.problem_table.specs.Of.{Is}
use Rattle.step_picks.specs.Words.{word_start, words_in, PicksAre}
use Rattle.step_picks.specs.WordLaws.{is_open_lem, tuples_are}
use Rattle.step_picks.specs.CopyLaws.{picks_in_lem}
use Rattle.step_picks.specs.Picked.{front_picks}
use Rattle.problem_relations.specs.Bare.{bare, length_same}
use Rattle.eval_valuations.specs.Laws.{agree_true, agree_false}
use Rattle.eval_table.specs.Worded.{WordsAre}
use Rattle.eval_search.specs.Cells.{cell_count, cell_start, cell_count_lem, cell_digit}
use Rattle.eval_search.specs.Counts.{cells_in, cells_to, words_to, row_picked, digits_to, words_all, words_are as words-by-cells}
use Rattle.eval_search.specs.Filled.{CellsIn}

-- the words of the relations of a list
flat_snoc : {A B : Type 0} (f : A → Bool) (g : A → List B) (xs : List A) (v : A) → flat_map g (filter f (xs ++ (v ∷ []))) ≡ flat_map g (filter f xs) ++ (if f v then g v else [])
unfolding flat_map filter
flat_snoc {A} {B} f g [] v = by_test (f v)
  where
    by_test : (b : Bool) → flat_map g (if b then v ∷ [] else []) ≡ [] ++ (if b then g v else [])
    by_test true = append-nil (g v)
    by_test false = refl
flat_snoc {A} {B} f g (x ∷ xs) v = by_test (f x) (flat_snoc f g xs v)
  where
    by_test : (b : Bool) → flat_map g (filter f (xs ++ (v ∷ []))) ≡ flat_map g (filter f xs) ++ (if f v then g v else [])
        → flat_map g (if b then x ∷ filter f (xs ++ (v ∷ [])) else filter f (xs ++ (v ∷ []))) ≡ flat_map g (if b then x ∷ filter f xs else filter f xs) ++ (if f v then g v else [])
    by_test true e = ap (λ (l : List B). g x ++ l) e ∙ sym (append_assoc (g x) (flat_map g (filter f xs)) (if f v then g v else []))
    by_test false e = e

module _ (p : Problem) (w : List ℕ) (is : Is (bare p) w) where
  abbrev chosen : ℕ → Bool
  chosen r = is_chosen (relation_at p r).kind

  many : relations_in w ≡ length p.relations
  unfolding bare
  many = is.relations

  -- a line's cells are the relation's
  line_cells : (r : ℕ) → r < length p.relations → cells_in (relation_line w r) ≡ cell_count p r
  unfolding cells_in cell_count bare relation_at tuples_of
  line_cells r l = ap₂ (λ (b : Bool) (x : ℕ). if b then x else zero) (is_open_lem (bare p) w is r l (relation_line w r) refl) (tuples_are (bare p) w is r l (relation_line w r) refl _ refl)

  line_words_lem : (r : ℕ) → r < length p.relations → words_in (relation_line w r) ≡ (if chosen r then relation_words p r else zero)
  unfolding relation_words words_for cell_count
  line_words_lem r l = words-by-cells (relation_line w r) ∙ ap words_for (line_cells r l) ∙ by_test (chosen r)
    where
      by_test : (b : Bool) → ((if b then tuples_of p.size (relation_at p r) else zero) + 63) / 64 ≡ (if b then (tuples_of p.size (relation_at p r) + 63) / 64 else zero)
      by_test true = refl
      by_test false = refl

  cells_to_lem : (r : ℕ) → r ≤ length p.relations → cells_to w r ≡ cell_start p r
  unfolding cells_to cell_start
  cells_to_lem zero l = refl
  cells_to_lem (suc r) l = ap₂ ◌+◌ (cells_to_lem r (omega arith)) (line_cells r (omega arith))

  words_to_lem : (r : ℕ) → r ≤ length p.relations → words_to w r ≡ word_start p r
  unfolding words_to word_start
  words_to_lem zero l = refl
  words_to_lem (suc r) l = ap₂ ◌+◌ (words_to_lem r (omega arith)) (line_words_lem r (omega arith))

  pub all_cells : cells_to w (relations_in w) ≡ length (cells p)
  all_cells = cells_to_lem (relations_in w) (let e = many in omega arith) ∙ ap (cell_start p) many ∙ cell_count_lem p

  pub all_words : words_to w (relations_in w) ≡ picks_length p
  all_words = words_all w ∙ picks_in_lem (bare p) w is ∙ length_same p

  module _ (G : Good p) (count : ℕ) (e : count ≡ length (cells p)) where
    -- a cell's digit, by the table
    digit_at : (x r row : ℕ) → r < length p.relations → T (chosen r) → row < tuples_of p.size (relation_at p r) → digit x (count - 1 - (cells_to w r + row)) ≡ is_picked p (numbered (cells p) x) r row
    digit_at x r row l c h = ap₂ (λ (a b : ℕ). digit x (a - 1 - (b + row))) e (cells_to_lem r (omega arith)) ∙ sym (cell_digit p G x r row l c h).1

    own_cells : (r : ℕ) → r < length p.relations → T (chosen r) → cells_in (relation_line w r) ≡ tuples_of p.size (relation_at p r)
    unfolding cell_count
    own_cells r l c = line_cells r l ∙ by_test (chosen r) c
      where
        by_test : (b : Bool) → T b → (if b then tuples_of p.size (relation_at p r) else zero) ≡ tuples_of p.size (relation_at p r)
        by_test true t = refl
        by_test false t = absurd t

    -- ---- the words of lanes
    pub words_are : (pos neg : List ℕ) (x y : ℕ → ℕ) → CellsIn w count x true (relations_in w) pos → CellsIn w count y false (relations_in w) neg → (j : ℕ) → j < 64
        → WordsAre p pos neg j (numbered (cells p) (x j)) (numbered (cells p) (y j))
    words_are pos neg x y f g j l r row k c h =
        let q = many in
        let o : row < cells_in (relation_line w r) = subst (λ (n : ℕ). row < n) (sym (own_cells r k c)) h in
        let at = words_to_lem r (omega arith) in (
          ap (λ (n : ℕ). digit (get_or pos (64 * n + row) 0) j) (sym at) ∙ f.cell r row j (omega arith) o l ∙ agree_true _ ∙ digit_at (x j) r row k c h,
          ap (λ (n : ℕ). digit (get_or neg (64 * n + row) 0) j) (sym at) ∙ g.cell r row j (omega arith) o l ∙ agree_false _ ∙ ap not (digit_at (y j) r row k c h),
        )

    -- ---- the words of a number
    module _ (m : ℕ) where
      abbrev picks : List Tuple
      picks = numbered (cells p) m

      abbrev own : ℕ → List ℕ
      own r = words (λ row. ltb row (tuples_of p.size (relation_at p r)) && is_picked p picks r row) (relation_words p r)

      row_is : (r : ℕ) → r < length p.relations → T (chosen r) → (row : ℕ) → row_picked count m (cells_to w r) (relation_line w r) row ≡ (ltb row (tuples_of p.size (relation_at p r)) && is_picked p picks r row)
      unfolding row_picked
      row_is r l c row = ap (λ (n : ℕ). ltb row n && digit m (count - 1 - (cells_to w r + row))) (own_cells r l c) ∙ by_test (ltb row (tuples_of p.size (relation_at p r))) refl
        where
          by_test : (b : Bool) → ltb row (tuples_of p.size (relation_at p r)) ≡ b → (b && digit m (count - 1 - (cells_to w r + row))) ≡ (b && is_picked p picks r row)
          by_test true q = digit_at m r row l c (ltb-true row (tuples_of p.size (relation_at p r)) q)
          by_test false q = refl

      line_is : (r : ℕ) → r < length p.relations → words (row_picked count m (cells_to w r) (relation_line w r)) (words_in (relation_line w r)) ≡ (if chosen r then own r else [])
      unfolding words
      line_is r l = ap (words (row_picked count m (cells_to w r) (relation_line w r))) (line_words_lem r l) ∙ by_test (chosen r) refl
        where
          by_test : (b : Bool) → chosen r ≡ b → words (row_picked count m (cells_to w r) (relation_line w r)) (if b then relation_words p r else zero) ≡ (if b then own r else [])
          by_test true q = ap (λ (f : ℕ → Bool). words f (relation_words p r)) (fun_ext (row_is r l (T_of q)))
          by_test false q = refl

      digits_to_lem : (r : ℕ) → r ≤ length p.relations → digits_to w count m r ≡ flat_map own (filter chosen (below r))
      unfolding digits_to flat_map filter below from
      digits_to_lem zero l = refl
      digits_to_lem (suc r) l = ap₂ ◌++◌ (digits_to_lem r (omega arith)) (line_is r (omega arith)) ∙ sym (flat_snoc chosen own (below r) r) ∙ ap (λ (l : List ℕ). flat_map own (filter chosen l)) (sym (below_snoc r))

      pub digits_are : digits_to w count m (relations_in w) ≡ pick_words p picks
      unfolding chosen_numbers
      digits_are = ap (digits_to w count m) many ∙ digits_to_lem (length p.relations) (omega arith) ∙ sym (words_of p picks)

      pub front_is : (t : List ℕ) → take (words_to w (relations_in w)) t ≡ digits_to w count m (relations_in w) → take (picks_length p) t ≡ pick_words p picks
      front_is t q = ap (λ (n : ℕ). take n t) (sym all_words) ∙ q ∙ digits_are

      pub picked : (t : List ℕ) → take (words_to w (relations_in w)) t ≡ digits_to w count m (relations_in w) → PicksAre p t picks
      picked t q = front_picks p picks t (front_is t q)
