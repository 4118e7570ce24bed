-- The tests of kinds, step by step, and that by the table they are those of the problem.
use Prim.Native.Nat.{ℕ, zero, suc, ◌+◌, ◌-◌, ◌*◌, ◌<◌, ◌≤◌}
use Rattle.std.specs.Prelude.{◌≡◌, Bool, not, ◌&&◌, ◌||◌, T, eqb, length, if◌then◌else◌}
use Rattle.std.proofs.Math.Path.{refl, ap, fun_ext}
use Rattle.std.proofs.Common.{sym, ap₂, subst, ◌∙◌, add-one, add_assoc, add-zero, zero-add}
use Rattle.std.proofs.Math.Bool.{true, false}
use Rattle.std.proofs.Math.Option.{Option, none, some}
use mathlib.Core.List.{List, [], ◌∷◌, map}
use native.Mathlib.Omega.{arith}
use Rattle.std.proofs.Math.Dec.{ltb}
use Rattle.std.proofs.Math.ListN.{get_or}
use borrow.Author.Tests.{lt-ltb, le-ltb}
use Rattle.bits.specs.Table.{bit, num, count}
use Rattle.definitions.specs.Lists.{any, filter, option, position, from, below, is_in}
use Rattle.definitions.specs.Sheet.Relations.{Kind, static, plain, Fun, PFun, Inj, PInj, universal, is_chosen, is_function, is_injective}
use Rattle.definitions.specs.Problem.Atoms.{Problem, relation_at}
use Rattle.definitions.specs.Problem.Built.{chosen_numbers}
use Rattle.laws.specs.Booleans.{T_of}
use Rattle.problem_table.specs.OfLaws.{both_whole}
use Rattle.problem_table.specs.Lines.{is_placeless, ranges_place, size_in, relations_in, relation_line, members_in, PlacesFit, Fits}
use Rattle.problem_table.specs.Numbers.{is_whole}
use Rattle.problem_table.specs.Of.{Is, kind_number}
use Rattle.problem_table.specs.declared.RelationLine.{RelationLine}
use Rattle.meaning.specs.KindRows.{has_two, is_crowded, is_stray, breaks, none_stray}
use Rattle.step_picks.specs.Words.{word_start, is_open, words_in, rows_in}
use Rattle.step_picks.specs.WordLaws.{kind_open, is_kind, word_next}
use Rattle.step_picks.specs.Tests.{crowds_by, breaks_by, firsts_in, seconds_in, are_inside, chosen_by, broken_at, broken_from, told}
use Rattle.std.specs.Prelude.{Some, None}

-- ---- counts
pub num_le : (b : Bool) → num b ≤ 1
num_le true = omega arith
num_le false = omega arith

pub count_none : (f : ℕ → Bool) → 0 ≡ count f 0 0
unfolding count
count_none f = refl

pub count_next : (f : ℕ → Bool) (i s b : ℕ) → s ≡ count f 0 i → b ≡ num (f i) → s + b ≡ count f 0 (i + 1)
unfolding count
count_next f i s b e q = rw (add-one, e, q) (ap (λ (x : ℕ). count f 0 i + num (f x)) (sym (zero-add i)))

pub count_le : (f : ℕ → Bool) (i : ℕ) → count f 0 i ≤ i
unfolding count
count_le f zero = omega arith
count_le f (suc i) = by_test (f (0 + i)) (count_le f i)
  where
    by_test : (b : Bool) → count f 0 i ≤ i → count f 0 i + num b ≤ suc i
    by_test true h = omega arith
    by_test false h = omega arith

-- ---- two in a row
row_of : (words : List ℕ) (start x a b : ℕ) → ◌≡◌ {A = ℕ → Bool} (λ y. bit words (start + x * a + y * b)) (λ y. bit words (start + (x * a + y * b)))
row_of words start x a b = fun_ext (λ y. ap (bit words) (add_assoc start (x * a) (y * b)))

module _ (words : List ℕ) (start n a b : ℕ) where
  abbrev pub row_two : ℕ → Bool
  row_two x = has_two (λ y. bit words (start + (x * a + y * b))) n

  pub crowd_start : is_crowded (λ i. bit words (start + i)) n a b ≡ any row_two (from 0 (n - 0))
  unfolding is_crowded below
  crowd_start = let m : n ≡ n - 0 = omega arith in ap (λ (k : ℕ). any row_two (from 0 k)) m

  pub row_two_lem : (x r : ℕ) (t : Bool) → r ≡ count (λ y. bit words (start + x * a + y * b)) 0 n → ltb 1 r ≡ t → row_two x ≡ t
  unfolding has_two
  row_two_lem x r t e q = ap (λ (f : ℕ → Bool). ltb 1 (count f 0 n)) (sym (row_of words start x a b)) ∙ ap (ltb 1) (sym e) ∙ q

-- ---- kinds
module _ (kind n : ℕ) (f : ℕ → Bool) where
  pub crowds_none : kind < 2 → false ≡ crowds_by kind n f
  unfolding crowds_by
  crowds_none h = rw (lt-ltb kind 2 h)

  pub crowds_past : 5 < kind → false ≡ crowds_by kind n f
  unfolding crowds_by
  crowds_past h = rw (le-ltb kind 2 (omega arith), lt-ltb 5 kind h)

  module _ (h : 2 ≤ kind) (k : kind ≤ 5) where
    pub crowds_first : is_crowded f n n 1 ≡ true → true ≡ crowds_by kind n f
    unfolding crowds_by
    crowds_first e = rw (le-ltb kind 2 h, le-ltb 5 kind k, e)

    pub crowds_fun : kind < 4 → is_crowded f n n 1 ≡ false → false ≡ crowds_by kind n f
    unfolding crowds_by
    crowds_fun l e = rw (le-ltb kind 2 h, le-ltb 5 kind k, le-ltb 3 kind (omega arith), e)

    pub crowds_second : (b : Bool) → 4 ≤ kind → is_crowded f n n 1 ≡ false → b ≡ is_crowded f n 1 n → b ≡ crowds_by kind n f
    unfolding crowds_by
    crowds_second b l e q = rw (le-ltb kind 2 h, le-ltb 5 kind k, lt-ltb 3 kind (omega arith), e) q

-- ---- pairs outside the types
module _ (w : List ℕ) (at k x : ℕ) where
  abbrev pub is_here : ℕ → Bool
  is_here i = eqb x (get_or w (at + i) 0)

  pub among_start : is_in x (members_in w at k) ≡ any is_here (from 0 (k - 0))
  unfolding is_in members_in below any
  among_start = let m : k ≡ k - 0 = omega arith in any_map (from 0 k) ∙ ap (λ (j : ℕ). any is_here (from 0 j)) m
    where
      any_map : (l : List ℕ) → any (eqb x) (map (λ i. get_or w (at + i) 0) l) ≡ any is_here l
      any_map [] = refl
      any_map (i ∷ l) = ap (λ (b : Bool). is_here i || b) (any_map l)

pub inside_yes : (a b r : Bool) → a ≡ true → r ≡ b → r ≡ (a && b)
inside_yes a b r e q = rw e q

pub inside_no : (a b : Bool) → a ≡ false → false ≡ (a && b)
inside_no a b e = rw e

pub stray_yes : (a b r : Bool) → a ≡ true → r ≡ b → not r ≡ (a && not b)
stray_yes a b r e q = rw (e, q)

module _ (words : List ℕ) (start : ℕ) (w : List ℕ) (line : RelationLine) where
  abbrev pub strays_at : (x y : ℕ) → Bool
  strays_at x y = bit words (start + y) && not (are_inside w line x y)

module _ (words : List ℕ) (start n : ℕ) (w : List ℕ) (line : RelationLine) where
  abbrev pub row_strays : ℕ → Bool
  row_strays x = any (λ y. bit words (start + (x * n + y)) && not (are_inside w line x y)) (below n)

  pub strays_start : is_stray (λ i. bit words (start + i)) n (firsts_in w line) (seconds_in w line) ≡ any row_strays (from 0 (n - 0))
  unfolding is_stray below
  strays_start = let m : n ≡ n - 0 = omega arith in ap (λ (k : ℕ). any row_strays (from 0 k)) m

  pub row_strays_lem : (x : ℕ) (t b : Bool) → t ≡ any (strays_at words (start + x * n) w line x) (below n) → t ≡ b → row_strays x ≡ b
  row_strays_lem x t b e q = ap (λ (f : ℕ → Bool). any f (below n)) (fun_ext (λ y. ap (λ (i : ℕ). bit words i && not (are_inside w line x y)) (sym (add_assoc start (x * n) y)))) ∙ sym e ∙ q

-- ---- all that breaks a kind
module _ (kind : ℕ) (xs ys : List ℕ) (n : ℕ) (f : ℕ → Bool) where
  pub breaks_crowd : crowds_by kind n f ≡ true → true ≡ breaks_by kind xs ys n f
  unfolding breaks_by
  breaks_crowd e = rw e

  pub breaks_stray : (b : Bool) → crowds_by kind n f ≡ false → b ≡ (not (is_placeless kind) && is_stray f n xs ys) → b ≡ breaks_by kind xs ys n f
  unfolding breaks_by
  breaks_stray b e q = rw e q

-- where every tuple may be set, no pair strays; where not, the kind is a function kind
pub whole_none : (w : List ℕ) (line : RelationLine) (f : ℕ → Bool) (n : ℕ) → PlacesFit w line → n ≡ size_in w → is_whole line ≡ true → false ≡ (not (is_placeless line.kind) && is_stray f n (firsts_in w line) (seconds_in w line))
whole_none w line f n fits e h = by_kind (is_placeless line.kind) refl
  where
    by_kind : (b : Bool) → is_placeless line.kind ≡ b → false ≡ (not b && is_stray f n (firsts_in w line) (seconds_in w line))
    by_kind true q = refl
    by_kind false q =
        let (a, b) = both_whole line q h in
        sym (ap₂ (is_stray f n) (fits.firsts.whole a ∙ ap below (sym e)) (fits.seconds.whole b ∙ ap below (sym e)) ∙ none_stray f n)

pub typed_some : (line : RelationLine) (a b : Bool) → is_whole line ≡ false → a ≡ b → a ≡ (not (is_placeless line.kind) && b)
typed_some line a b e q = by_kind (is_placeless line.kind) e
  where
    by_kind : (t : Bool) → (t || (eqb line.firsts ranges_place && eqb line.seconds ranges_place)) ≡ false → a ≡ (not t && b)
    by_kind true h = absurd (T_of (sym h))
    by_kind false h = q

breaks_is : (k : Kind) (xs ys us vs : List ℕ) (n : ℕ) (f : ℕ → Bool) → (T (is_function k) → us ≡ xs) → (T (is_function k) → vs ≡ ys) → breaks_by (kind_number k) us vs n f ≡ breaks k xs ys n f
unfolding breaks_by crowds_by breaks kind_number is_function is_injective
breaks_is static xs ys us vs n f a b = refl
breaks_is plain xs ys us vs n f a b = refl
breaks_is Fun xs ys us vs n f a b = rw (a tt, b tt) refl
breaks_is PFun xs ys us vs n f a b = rw (a tt, b tt) refl
breaks_is Inj xs ys us vs n f a b = rw (a tt, b tt) refl
breaks_is PInj xs ys us vs n f a b = rw (a tt, b tt) refl
breaks_is universal xs ys us vs n f a b = refl

chosen_is : (k : Kind) → chosen_by (kind_number k) ≡ (if is_chosen k then 1 else zero)
unfolding chosen_by
chosen_is k = ap (λ (b : Bool). if b then 1 else zero) (kind_open k)

pub chosen_le : (kind : ℕ) → chosen_by kind ≤ 1
unfolding chosen_by
chosen_le kind = by_test (is_open kind)
  where
    by_test : (b : Bool) → (if b then 1 else zero) ≤ 1
    by_test true = omega arith
    by_test false = omega arith

pub chosen_none : (kind : ℕ) → is_open kind ≡ false → 0 ≡ chosen_by kind
unfolding chosen_by
chosen_none kind e = rw e

pub chosen_one : (kind : ℕ) → is_open kind ≡ true → 1 ≡ chosen_by kind
unfolding chosen_by
chosen_one kind e = rw e

-- ---- relation by relation
module _ (p : Problem) (f : ℕ → ℕ → Bool) where
  pub broken_start : (k : ℕ) → broken_from p f 0 k 0 ≡ broken_from p f 0 (k - 0) 0
  broken_start k = let m : k ≡ k - 0 = omega arith in ap (λ (x : ℕ). broken_from p f 0 x 0) m

  pub broken_yes : (r k i : ℕ) → r < k → broken_at p f r ≡ true → broken_from p f r (k - r) i ≡ some i
  unfolding broken_from
  broken_yes r k i h b = let m : k - r ≡ suc (k - suc r) = omega arith in rw (m, b)

  pub broken_no : (r k i kind : ℕ) → r < k → kind ≡ kind_number (relation_at p r).kind → broken_at p f r ≡ false → broken_from p f r (k - r) i ≡ broken_from p f (r + 1) (k - (r + 1)) (i + chosen_by kind)
  unfolding broken_from
  broken_no r k i kind h e b =
      let m : k - r ≡ suc (k - suc r) = omega arith in
      rw (m, b, add-one) (ap (λ (x : ℕ). broken_from p f (suc r) (k - suc r) (i + x)) (sym (ap chosen_by e ∙ chosen_is (relation_at p r).kind)))

  pub broken_end : (r k i : ℕ) → k ≤ r → broken_from p f r (k - r) i ≡ none
  unfolding broken_from
  broken_end r k i h = let m : k - r ≡ 0 = omega arith in rw m

  -- the first of all
  static_kept : (k : Kind) (xs ys : List ℕ) (n : ℕ) (g : ℕ → Bool) → is_chosen k ≡ false → breaks k xs ys n g ≡ false
  unfolding breaks is_chosen is_function is_injective
  static_kept static xs ys n g e = refl
  static_kept plain xs ys n g e = absurd (T_of (sym e))
  static_kept Fun xs ys n g e = absurd (T_of (sym e))
  static_kept PFun xs ys n g e = absurd (T_of (sym e))
  static_kept Inj xs ys n g e = absurd (T_of (sym e))
  static_kept PInj xs ys n g e = absurd (T_of (sym e))
  static_kept universal xs ys n g e = refl

  broken_position : (k r i : ℕ) → broken_from p f r k i ≡ option (position (broken_at p f) (filter (λ r. is_chosen (relation_at p r).kind) (from r k))) none (λ j. some (i + j))
  unfolding broken_from position filter from option
  broken_position zero r i = refl
  broken_position (suc k) r i = by_test (is_chosen (relation_at p r).kind) refl (broken_at p f r) refl (λ i. broken_position k (suc r) i)
    where
      by_test : (b : Bool) → is_chosen (relation_at p r).kind ≡ b → (t : Bool) → broken_at p f r ≡ t
          → ((i : ℕ) → broken_from p f (suc r) k i ≡ option (position (broken_at p f) (filter (λ r. is_chosen (relation_at p r).kind) (from (suc r) k))) none (λ j. some (i + j)))
          → (if t then some i else broken_from p f (suc r) k (i + (if b then 1 else zero))) ≡ option (position (broken_at p f) (if b then r ∷ filter (λ r. is_chosen (relation_at p r).kind) (from (suc r) k) else filter (λ r. is_chosen (relation_at p r).kind) (from (suc r) k))) none (λ j. some (i + j))
      by_test true e true q ih = rw q (ap some (sym (add-zero i)))
      by_test true e false q ih = rw q (ih (i + 1) ∙ shift (position (broken_at p f) (filter (λ r. is_chosen (relation_at p r).kind) (from (suc r) k))))
        where
          shift : (o : Option ℕ) → option o none (λ j. some (i + 1 + j)) ≡ option (option o none (λ j. some (suc j))) none (λ j. some (i + j))
          shift none = refl
          shift (some j) = let n : i + 1 + j ≡ i + suc j = omega arith in ap some n
      by_test false e true q ih = absurd (T_of (sym (static_kept (relation_at p r).kind _ _ p.size (f r) e) ∙ q))
      by_test false e false q ih = ih (i + 0) ∙ ap (λ (x : ℕ). option (position (broken_at p f) (filter (λ r. is_chosen (relation_at p r).kind) (from (suc r) k))) none (λ j. some (x + j))) (add-zero i)

  plain_option : (o : Option ℕ) → option o none (λ j. some (0 + j)) ≡ o
  unfolding option
  plain_option none = refl
  plain_option (some j) = ap some (zero-add j)

  pub broken_all : broken_from p f 0 (length p.relations) 0 ≡ position (broken_at p f) (chosen_numbers p)
  unfolding chosen_numbers below
  broken_all = broken_position (length p.relations) 0 0 ∙ plain_option (position (broken_at p f) (filter (λ r. is_chosen (relation_at p r).kind) (from 0 (length p.relations))))

-- ---- answers
pub told_kept : told None ≡ none
unfolding told
told_kept = refl

pub told_broken : (i : ℕ) → told (Some i) ≡ some i
unfolding told
told_broken i = refl

-- ---- by the table
pub line_places : (w : List ℕ) → Fits w → (r : ℕ) (x : RelationLine) → x ≡ relation_line w r → r < 18 → PlacesFit w x
line_places w fits r x e h = subst (PlacesFit w) (sym e) (fits.places r h)

module _ (p : Problem) (w : List ℕ) (is : Is p w) (words : List ℕ) where
  pub kinds_start : (0 ≡ word_start p 0) × (broken_from p (rows_in p words) 0 (length p.relations) 0 ≡ broken_from p (rows_in p words) 0 (length p.relations - 0) 0)
  unfolding word_start
  kinds_start = (refl, broken_start p (rows_in p words) (length p.relations))

  module _ (r word i : ℕ) (x : RelationLine) (e : x ≡ relation_line w r) (l : r < relations_in w) (q : word ≡ word_start p r) (t : Bool) (h : t ≡ breaks_by x.kind (firsts_in w x) (seconds_in w x) (size_in w) (λ i. bit words (64 * word + i))) where
    there : r < length p.relations
    there = omega (arith, is.relations)

    rows_same : ◌≡◌ {A = ℕ → Bool} (λ i. bit words (64 * word + i)) (rows_in p words r)
    rows_same = fun_ext (λ i. ap (λ (m : ℕ). bit words (64 * m + i)) q)

    places_are : T (is_function (relation_at p r).kind) → (firsts_in w x ≡ p.range (relation_at p r).firsts) × (seconds_in w x ≡ p.range (relation_at p r).seconds)
    places_are f = (ap (firsts_in w) e ∙ (is.relation r there).firsts f, ap (seconds_in w) e ∙ (is.relation r there).seconds f)

    same_test : broken_at p (rows_in p words) r ≡ t
    same_test =
        sym (breaks_is (relation_at p r).kind _ _ (firsts_in w x) (seconds_in w x) p.size (rows_in p words r) (λ f. (places_are f).0) (λ f. (places_are f).1))
        ∙ ap₂ (λ (k : ℕ) (g : ℕ → Bool). breaks_by k (firsts_in w x) (seconds_in w x) p.size g) (sym (is_kind p w is r there x e)) (sym rows_same)
        ∙ ap (λ (n : ℕ). breaks_by x.kind (firsts_in w x) (seconds_in w x) n (λ i. bit words (64 * word + i))) (sym is.size) ∙ sym h

    pub kinds_yes : t ≡ true → broken_from p (rows_in p words) r (length p.relations - r) i ≡ some i
    kinds_yes b = broken_yes p (rows_in p words) r (length p.relations) i there (same_test ∙ b)

    pub kinds_no : t ≡ false → broken_from p (rows_in p words) r (length p.relations - r) i ≡ broken_from p (rows_in p words) (r + 1) (length p.relations - (r + 1)) (i + chosen_by x.kind)
    kinds_no b = broken_no p (rows_in p words) r (length p.relations) i x.kind there (is_kind p w is r there x e) (same_test ∙ b)

    pub kinds_word : word + words_in x ≡ word_start p (r + 1)
    kinds_word = word_next p w is r there x e word q
