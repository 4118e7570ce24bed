-- Words of all ones hold all tuples of the `choose` relations.
use Prim.Native.Nat.{ℕ, zero, suc, ◌+◌, ◌-◌, ◌*◌, ◌/◌, ◌%◌, ◌<◌, ◌≤◌}
use Rattle.std.specs.Prelude.{◌≡◌, Bool, true, false, T, get_or, replicate, if◌then◌else◌}
use Rattle.std.proofs.Math.Path.{refl, sym, ap, subst}
use Rattle.std.proofs.Common.{◌∙◌, add-zero, mod-lt}
use mathlib.Core.List.{List, [], ◌∷◌, ◌++◌, map}
use native.Mathlib.Omega.{arith}
use Rattle.std.proofs.Math.ListN.{length}
use Rattle.definitions.specs.Lists.{filter, from, below, sum}
use Rattle.definitions.specs.Sheet.Relations.{is_among, is_chosen}
use Rattle.definitions.specs.Problem.Truth.{Case, are_picks}
use Rattle.definitions.specs.Problem.Atoms.{Problem, problem_of, relation_at, tuples_of}
use Rattle.definitions.specs.Problem.Built.{chosen_numbers, is_picked}
use Rattle.definitions.specs.Reply.Outcome.{relation_words, picks_length}
use Rattle.definitions.specs.Reply.Finding.{cells, cells_of}
use Rattle.bits.specs.Table.{bit, digit}
use Rattle.laws.specs.Booleans.{T_true}
use Rattle.laws.specs.Lists.{below_snoc, mem_below, mem_filter, mem_flat, mem_map}
use Rattle.laws.specs.Reader.{Accepted}
use Rattle.laws.specs.Repeats.{once_distinct}
use Rattle.laws.specs.Tuples.{mem_among}
use Rattle.laws.specs.Words.{words_for_lem}
use Rattle.meaning.specs.Cells.{cell_inside, cells_once}
use Rattle.meaning.specs.Grounded.{good}
use Rattle.meaning.specs.Picks.{inside_picks}
use Rattle.meaning.specs.Sound.{tuple_at}
use Rattle.step_picks.specs.Words.{word_start, PicksAre}
use Rattle.eval_valuations.specs.Words.{full, spread_of}
use Rattle.eval_valuations.specs.Laws.{spread_digit}

-- all tuples are picks
pub all_picks : (c : Case) → Accepted c → are_picks c (cells (problem_of c)) ≡ true
all_picks c A = T_true (are_picks c (cells (problem_of c))) (inside_picks c A (cells (problem_of c)) (cell_inside (problem_of c) (good c A)) (once_distinct (cells (problem_of c)) (cells_once (problem_of c) (good c A))))

full_at : (k j : ℕ) → j < k → get_or (replicate k full) j 0 ≡ full
full_at zero j h = absurd (omega arith)
full_at (suc k) zero h = refl
full_at (suc k) (suc j) h = full_at k j (omega arith)

full_bit : (k i : ℕ) → i < 64 * k → bit (replicate k full) i ≡ true
unfolding bit spread_of
full_bit k i h = let l : i % 64 < 64 = mod-lt i (omega arith) in ap (λ (x : ℕ). digit x (i % 64)) (full_at k (i / 64) (omega arith)) ∙ spread_digit true (i % 64) l

sum_snoc : (c : ℕ → Bool) (f : ℕ → ℕ) (xs : List ℕ) (v : ℕ) → sum (map f (filter c (xs ++ (v ∷ [])))) ≡ sum (map f (filter c xs)) + (if c v then f v else zero)
unfolding sum filter
sum_snoc c f [] v = by_test (c v)
  where
    by_test : (b : Bool) → sum (map f (if b then v ∷ [] else [])) ≡ 0 + (if b then f v else zero)
    by_test true = omega arith
    by_test false = refl
sum_snoc c f (x ∷ xs) v = by_test (c x) (sum_snoc c f xs v)
  where
    by_test : (b : Bool) → sum (map f (filter c (xs ++ (v ∷ [])))) ≡ sum (map f (filter c xs)) + (if c v then f v else zero)
        → sum (map f (if b then x ∷ filter c (xs ++ (v ∷ [])) else filter c (xs ++ (v ∷ [])))) ≡ sum (map f (if b then x ∷ filter c xs else filter c xs)) + (if c v then f v else zero)
    by_test true e = omega arith
    by_test false e = e

module _ (p : Problem) where
  start_is : (r : ℕ) → sum (map (relation_words p) (filter (λ r. is_chosen (relation_at p r).kind) (below r))) ≡ word_start p r
  unfolding word_start sum filter below from
  start_is zero = refl
  start_is (suc r) = ap (λ (l : List ℕ). sum (map (relation_words p) (filter (λ r. is_chosen (relation_at p r).kind) l))) (below_snoc r) ∙ sum_snoc (λ r. is_chosen (relation_at p r).kind) (relation_words p) (below r) r ∙ ap (λ (x : ℕ). x + (if is_chosen (relation_at p r).kind then relation_words p r else zero)) (start_is r)

  all_start : picks_length p ≡ word_start p (length p.relations)
  unfolding picks_length chosen_numbers
  all_start = start_is (length p.relations)

  start_grows : (r j : ℕ) → word_start p r ≤ word_start p (r + j)
  unfolding word_start
  start_grows r zero = rw (add-zero r) (omega arith)
  start_grows r (suc j) = let e : r + suc j ≡ suc (r + j) = omega arith in rw e (omega (arith, start_grows r j))

  own_words : (r : ℕ) → T (is_chosen (relation_at p r).kind) → word_start p (suc r) ≡ word_start p r + relation_words p r
  unfolding word_start
  own_words r t = rw (T_true (is_chosen (relation_at p r).kind) t) refl

  pub full_picks : (k : ℕ) → picks_length p ≤ k → PicksAre p (replicate k full) (cells p)
  unfolding is_picked cells cells_of chosen_numbers relation_words
  full_picks k h r row l t m =
      let a = own_words r t in
      let e : suc r + (length p.relations - suc r) ≡ length p.relations = omega arith in
      let g = subst (λ (x : ℕ). word_start p (suc r) ≤ word_start p x) e (start_grows (suc r) (length p.relations - suc r)) in
      let b = all_start in
      let w = (words_for_lem (tuples_of p.size (relation_at p r))).0 in
      full_bit k (64 * word_start p r + row) (omega arith)
      ∙ sym (T_true (is_among (tuple_at p r row) (cells p)) (mem_among (tuple_at p r row) (cells p)
      (mem_flat (cells_of p) (chosen_numbers p) r (tuple_at p r row) (mem_filter (λ r. is_chosen (relation_at p r).kind) (below (length p.relations)) r (mem_below (length p.relations) r l) t)
      (mem_map (tuple_at p r) (below (tuples_of p.size (relation_at p r))) row (mem_below (tuples_of p.size (relation_at p r)) row m)))))
