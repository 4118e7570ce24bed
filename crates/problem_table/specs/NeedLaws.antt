-- Laws of tests of lists of bits.
use Rattle.std.specs.Prelude.{◌≡◌, Bool, ◌&&◌, eqb, length, take, if◌then◌else◌}
use Rattle.std.proofs.Math.Path.{refl, ap, subst}
use Rattle.std.proofs.Common.{sym, ◌∙◌, mul-le-mul}
use Rattle.std.proofs.Math.Bool.{true, false}
use Rattle.std.proofs.Math.Option.{Option, none, some}
use mathlib.Core.List.{List, [], ◌∷◌, map}
use Prim.Native.Nat.{ℕ, zero, suc, ◌+◌, ◌-◌, ◌*◌, ◌/◌, ◌%◌, ◌^◌, ◌≤◌, ◌<◌}
use native.Mathlib.Omega.{arith}
use borrow.Author.Tests.{lt-ltb, le-ltb, ltb-true, ne_eqb}
use Rattle.std.proofs.Math.Dec.{ltb}
use Rattle.std.proofs.Math.ListN.{get_or}
use Rattle.std.proofs.lemmas.List.{length-map}
use Rattle.definitions.specs.Lists.{all, option, filter, from, below, last, before}
use Rattle.definitions.specs.Problem.Atoms.{places_of}
use Rattle.definitions.specs.Problem.Actions.{Values, values_in, with_value}
use Rattle.laws.specs.Lists.{length_below, get_or_below}
use Rattle.laws.specs.Members.{before_least, before_below}
use Rattle.laws.specs.SetRows.{row_below}
use Rattle.rows.specs.Values.{value_in, Most, Within}
use Rattle.rows.specs.Laws.{value_zeros}
use Rattle.problem_table.specs.Lines.{relation_place, node_place, part_place, ranges_place, size_in, relations_in, relation_line, last_line, has_every, every_in, node_line, part_line, part_number, part_at, members_in, range_in, table_length, NodeFits, RangeFits, PlacesFit, Fits}
use Rattle.problem_table.specs.Numbers.{is_whole, set_row, pair_row, free_numbers, set_needs, row_values, under_at, and_needs, or_needs, exists_needs, own_before, forall_needs, goal_needs, finish_in, next_mark, need_numbers, ActFits}
use Rattle.problem_table.specs.declared.RelationLine.{RelationLine}
use Rattle.problem_table.specs.declared.NodeLine.{NodeLine}
use Rattle.problem_table.specs.declared.PartLine.{PartLine}
use Rattle.problem_table.specs.declared.TupleAct.{TupleAct}
use Rattle.problem_table.specs.declared.RowAct.{RowAct}
use Rattle.problem_table.specs.declared.ChoiceAct.{ChoiceAct}
use Rattle.problem_table.specs.declared.Act.{Act}
use Rattle.problem_table.specs.declared.Act.TheVariants.{Set, Begin, And, Or, Exists, Forall, Goal, RoundEnd, MarkIn, MarkOut, Nothing}

module _ {A : Type 0} (s : A → Bool) where
  pub all_no : (x : A) (xs : List A) → s x ≡ false → false ≡ all s (x ∷ xs)
  unfolding all
  all_no x xs e = rw e refl

  pub all_yes : (x : A) (xs : List A) (b : Bool) → s x ≡ true → b ≡ all s xs → b ≡ all s (x ∷ xs)
  unfolding all
  all_yes x xs b e q = rw e q

  pub all_one : (x : A) → s x ≡ all s (x ∷ [])
  unfolding all
  all_one x = by_test (s x)
    where
      by_test : (b : Bool) → b ≡ (b && true)
      by_test true = refl
      by_test false = refl

  pub all_nil : true ≡ all s []
  unfolding all
  all_nil = refl

-- ---- a part's number
pub value_times : (e w : ℕ) → e ≤ 64 → w ≤ 2 ^ 32 → e * w ≤ 64 * 2 ^ 32
value_times e w a b = mul-le-mul a b

pub number_is : (q : PartLine) (env : List ℕ)
    → q.start + (get_or env 0 0 * get_or q.weights 0 0 + (get_or env 1 0 * get_or q.weights 1 0 + (get_or env 2 0 * get_or q.weights 2 0 + get_or env 3 0 * get_or q.weights 3 0))) ≡ part_number (value_in env) q
unfolding part_number value_in
number_is q env = refl

pub part_is : (t : List ℕ) (e : Values) (i k : ℕ) (q : PartLine) → q ≡ part_line t i → k ≡ part_number e q → k ≡ part_at t e i
unfolding part_at
part_is t e i k q a b = b ∙ ap (part_number e) a

-- ---- free atoms
module _ (s : ℕ → Bool) (n kind free row : ℕ) where
  pub free_none : kind < 2 → true ≡ all s (free_numbers n kind free row)
  unfolding free_numbers all
  free_none h = rw (lt-ltb kind 2 h) refl

  pub free_no : 2 ≤ kind → s (free + row / n) ≡ false → false ≡ all s (free_numbers n kind free row)
  unfolding free_numbers all
  free_no h e = rw (le-ltb kind 2 h, e) refl

  pub free_domain : 2 ≤ kind → kind < 4 → s (free + row / n) ≡ true → true ≡ all s (free_numbers n kind free row)
  unfolding free_numbers all
  free_domain h k e = rw (le-ltb kind 2 h, lt-ltb kind 4 k, e) refl

  pub free_both : (b : Bool) → 4 ≤ kind → s (free + row / n) ≡ true → b ≡ s (free + n + row % n) → b ≡ all s (free_numbers n kind free row)
  unfolding free_numbers
  free_both b h e q = rw (le-ltb kind 2 (omega arith), le-ltb kind 4 h) (all_yes s (free + row / n) ((free + n + row % n) ∷ []) b e (q ∙ all_one s (free + n + row % n)))

-- ---- parts, one by one
module _ (s : ℕ → Bool) (f : ℕ → ℕ) where
  -- what is left of a list of parts after k
  pub parts_next : (k many first : ℕ) (b : Bool) → k < many → s (f (first + k)) ≡ b
      → all s (map f (from (first + k) (many - k))) ≡ (b && all s (map f (from (first + (k + 1)) (many - (k + 1)))))
  unfolding all from
  parts_next k many first b h e =
      let m : many - k ≡ suc (many - (k + 1)) = omega arith in
      let d : first + (k + 1) ≡ suc (first + k) = omega arith in
      rw (m, d, e)

  pub parts_none : (k many first : ℕ) → many ≤ k → all s (map f (from (first + k) (many - k))) ≡ true
  unfolding all from
  parts_none k many first h = let m : many - k ≡ 0 = omega arith in rw m

  pub parts_start : (many first : ℕ) → all s (map f (from first many)) ≡ all s (map f (from (first + 0) (many - 0)))
  parts_start many first =
      let m : many - 0 ≡ many = omega arith in
      let d : first + 0 ≡ first = omega arith in
      rw (m, d)

-- ---- a range of the table: its length and its members
pub members_length : (t : List ℕ) (a k : ℕ) → length (members_in t a k) ≡ k
unfolding members_in
members_length t a k = length-map (below k) (λ i. get_or t (a + i) 0) ∙ length_below k

pub get_d_map : (f : ℕ → ℕ) (xs : List ℕ) (i : ℕ) → i < length xs → get_or (map f xs) i 0 ≡ f (get_or xs i 0)
get_d_map f [] i h = absurd (omega arith)
get_d_map f (x ∷ xs) zero h = refl
get_d_map f (x ∷ xs) (suc i) h = get_d_map f xs i (omega arith)

pub member_at : (t : List ℕ) (a k i : ℕ) → i < k → get_or (members_in t a k) i 0 ≡ get_or t (a + i) 0
unfolding members_in
member_at t a k i h =
    let l : i < length (below k) = omega (arith, length_below k) in
    get_d_map (λ j. get_or t (a + j) 0) (below k) i l ∙ ap (λ (j : ℕ). get_or t (a + j) 0) (get_or_below k i h)

-- ---- the element before one, sought in the table
in_whole : (t : List ℕ) (range count z : ℕ) → z < size_in t → members_in t range count ≡ below (size_in t) → z ≡ option (before (members_in t range count) z) 0 suc
unfolding option
in_whole t range count zero h e = rw (e, before_least (size_in t)) refl
in_whole t range count (suc z) h e = rw (e, before_below (size_in t) z (omega arith)) refl

pub before_whole : (t : List ℕ) (range count z r : ℕ) → r ≡ z → z < size_in t → members_in t range count ≡ below (size_in t) → r ≡ option (before (members_in t range count) z) 0 suc
before_whole t range count z r e h q = e ∙ in_whole t range count z h q

one_turn : (y found : ℕ) (b : Bool) (l : List ℕ) → option (last (if b then y ∷ l else l)) found suc ≡ option (last l) (if b then suc y else found) suc
unfolding last option
one_turn y found true l = from_last (last l)
  where
    from_last : (o : Option ℕ) → suc (option o y (λ x. x)) ≡ option o (suc y) suc
    from_last none = refl
    from_last (some x) = refl
one_turn y found false l = refl

pub latest_low : (found y z r : ℕ) → r ≡ (if ltb y z then suc y else found) → found ≤ z → r ≤ z
latest_low found y z r e h = by_test (ltb y z) refl e
  where
    by_test : (b : Bool) → ltb y z ≡ b → r ≡ (if b then suc y else found) → r ≤ z
    by_test true t e = omega (arith, ltb-true y z t)
    by_test false t e = omega arith

-- the search from member i on, where so much was found before
unfoldable pub before_from : List ℕ → (range count z i found : ℕ) → ℕ
before_from t range count z i found = option (last (filter (λ m. ltb m z) (map (λ i. get_or t (range + i) 0) (from i (count - i))))) found suc

module _ (t : List ℕ) (range count z : ℕ) where
  pub before_start : option (before (members_in t range count) z) 0 suc ≡ before_from t range count z 0 0
  unfolding before before_from members_in below
  before_start = let e : count - 0 ≡ count = omega arith in rw e refl

  pub before_turn : (i found r : ℕ) → i < count → r ≡ (if ltb (get_or t (range + i) 0) z then suc (get_or t (range + i) 0) else found) → before_from t range count z i found ≡ before_from t range count z (i + 1) r
  unfolding before_from from filter last option
  before_turn i found r h e =
      let left : count - i ≡ suc (count - (i + 1)) = omega arith in
      let next : i + 1 ≡ suc i = omega arith in
      rw (left, next, e) (one_turn (get_or t (range + i) 0) found (ltb (get_or t (range + i) 0) z) (filter (λ m. ltb m z) (map (λ i. get_or t (range + i) 0) (from (suc i) (count - suc i)))))

  pub before_end : (i found : ℕ) → count ≤ i → before_from t range count z i found ≡ found
  unfolding before_from from filter last option
  before_end i found h = let m : count - i ≡ 0 = omega arith in rw m refl

-- ---- the row that a set action sets
module _ (k : RelationLine) where
  pub whole_plain : k.kind < 2 → true ≡ is_whole k
  whole_plain h = rw (lt-ltb k.kind 2 h) refl

  pub whole_late : 5 < k.kind → true ≡ is_whole k
  whole_late h = rw (le-ltb k.kind 2 (omega arith), lt-ltb 5 k.kind h) refl

  pub whole_pair : (b : Bool) → 2 ≤ k.kind → k.kind ≤ 5 → k.firsts ≡ ranges_place → b ≡ eqb k.seconds ranges_place → b ≡ is_whole k
  whole_pair b h u e q = rw (le-ltb k.kind 2 h, le-ltb 5 k.kind u, e) q

  pub whole_not : 2 ≤ k.kind → k.kind ≤ 5 → (k.firsts ≡ ranges_place → ⊥) → false ≡ is_whole k
  whole_not h u e = rw (le-ltb k.kind 2 h, le-ltb 5 k.kind u, ne_eqb k.firsts ranges_place e) refl

module _ (t : List ℕ) (k : RelationLine) (off : ℕ) where
  pub row_whole : is_whole k ≡ true → off ≡ set_row t k off
  unfolding set_row
  row_whole e = rw e refl

  -- where the two places of the offset are members of their ranges
  module _ (fits : PlacesFit t k) (h : off < k.first_count * k.second_count) where
    pub pair_inside : (0 < k.second_count) × (k.firsts + off / k.second_count < table_length) × (k.seconds + off % k.second_count < table_length)
    pair_inside =
        let (a, b) = row_below off k.first_count k.second_count h in
        (omega arith, omega (arith, fits.firsts.inside), omega (arith, fits.seconds.inside))

    pub pair_small : (get_or t (k.firsts + off / k.second_count) 0 < size_in t) × (get_or t (k.seconds + off % k.second_count) 0 < size_in t)
    pair_small = let (a, b) = row_below off k.first_count k.second_count h in (fits.firsts.member (off / k.second_count) a, fits.seconds.member (off % k.second_count) b)

    pub pair_le : size_in t ≤ 64 → get_or t (k.firsts + off / k.second_count) 0 * size_in t ≤ 64 * 64
    pair_le s = mul-le-mul {n₂ = 64} (omega (arith, pair_small.0)) s

  pub row_pair : is_whole k ≡ false → get_or t (k.firsts + off / k.second_count) 0 * size_in t + get_or t (k.seconds + off % k.second_count) 0 ≡ set_row t k off
  unfolding set_row pair_row
  row_pair e = rw e refl

-- ---- set
module _ (s : ℕ → Bool) (n : ℕ) (k : RelationLine) (row : ℕ) where
  pub set_no : s 0 ≡ false → false ≡ all s (set_needs n k row)
  unfolding set_needs
  set_no e = all_no s 0 _ e

  pub set_not : s 0 ≡ true → s (k.nots + row) ≡ false → false ≡ all s (set_needs n k row)
  unfolding set_needs
  set_not e q = all_yes s 0 _ false e (all_no s (k.nots + row) _ q)

  pub set_free : (b : Bool) → s 0 ≡ true → s (k.nots + row) ≡ true → b ≡ all s (free_numbers n k.kind k.free row) → b ≡ all s (set_needs n k row)
  unfolding set_needs
  set_free b e q f = all_yes s 0 _ b e (all_yes s (k.nots + row) _ b q f)

-- ---- the last relation
module _ (t : List ℕ) where
  pub last_none : (k : RelationLine) → relations_in t ≡ 0 → k ≡ relation_line t 0 → k ≡ last_line t
  last_none k e q = q ∙ rw e refl

  pub every_none : relations_in t ≡ 0 → false ≡ has_every t
  unfolding has_every
  every_none e = rw e refl

  pub every_kind : 0 < relations_in t → (k : RelationLine) → k ≡ last_line t → eqb k.kind 6 ≡ has_every t
  unfolding has_every
  every_kind h k e = rw (lt-ltb 0 (relations_in t) h, e) refl

  pub every_count : has_every t ≡ true → (k : RelationLine) (c : ℕ) → k ≡ last_line t → c ≡ k.nots - k.tuples → c ≡ every_in t
  unfolding every_in
  every_count h k c e q = rw h (q ∙ ap (λ (x : RelationLine). x.nots - x.tuples) e)

  pub every_zero : has_every t ≡ false → 0 ≡ every_in t
  unfolding every_in
  every_zero h = rw h refl

  pub finish_round : has_every t ≡ true → RoundEnd ≡ finish_in t
  unfolding finish_in
  finish_round h = rw h refl

  pub finish_goal : has_every t ≡ false → Goal ≡ finish_in t
  unfolding finish_in
  finish_goal h = rw h refl

-- ---- a mark
pub next_inside : (k : RelationLine) (row : ℕ) → k.tuples + row + 1 < k.nots → k.free + row + 1 ≡ next_mark k row
unfolding next_mark
next_inside k row h = rw (lt-ltb (k.tuples + row + 1) k.nots h) refl

pub next_past : (k : RelationLine) (row : ℕ) → k.nots ≤ k.tuples + row + 1 → 2 ≡ next_mark k row
unfolding next_mark
next_past k row h = rw (le-ltb (k.tuples + row + 1) k.nots h) refl

-- ---- goal
pub goal_all : (s : ℕ → Bool) (t : List ℕ) (b : Bool) → b ≡ s (part_at t (value_in (0 ∷ 0 ∷ 0 ∷ 0 ∷ [])) 64) → b ≡ all s (goal_needs t)
unfolding goal_needs
goal_all s t b q = q ∙ ap (λ (f : Values). s (part_at t f 64)) value_zeros ∙ all_one s (part_at t (λ _. 0) 64)

-- ---- nodes: the values of the row are in env
module _ (s : ℕ → Bool) (n : ℕ) (t : List ℕ) (v : NodeLine) (row : ℕ) (env : List ℕ) (e : value_in env ≡ row_values n v row) where
  pub and_parts : (b : Bool) → s 1 ≡ true → b ≡ all s (map (part_at t (value_in env)) (from v.first v.many)) → b ≡ all s (and_needs n t v row)
  unfolding and_needs
  and_parts b q a = all_yes s 1 _ b q (a ∙ ap (λ (f : Values). all s (map (part_at t f) (from v.first v.many))) e)

  pub or_part : (i : ℕ) (b : Bool) → s 1 ≡ true → b ≡ s (part_at t (value_in env) (v.first + i)) → b ≡ all s (or_needs n t v row i)
  unfolding or_needs
  or_part i b q a = all_yes s 1 _ b q (a ∙ ap (λ (f : Values). s (part_at t f (v.first + i))) e ∙ all_one s (part_at t (row_values n v row) (v.first + i)))

-- the part under a quantifier, where the values have its own level too
pub under_with : (n : ℕ) (t : List ℕ) (v : NodeLine) (row x : ℕ) (env : List ℕ) → value_in env ≡ with_value (values_in (take v.width v.levels) (places_of n v.width row)) v.level x
    → part_at t (value_in env) v.first ≡ under_at n t v row x
unfolding under_at row_values
under_with n t v row x env e = ap (λ (f : Values). part_at t f v.first) e

module _ (s : ℕ → Bool) (n : ℕ) (t : List ℕ) (v : NodeLine) (row : ℕ) where
  pub and_no : s 1 ≡ false → false ≡ all s (and_needs n t v row)
  unfolding and_needs
  and_no q = all_no s 1 _ q

  pub or_no : (i : ℕ) → s 1 ≡ false → false ≡ all s (or_needs n t v row i)
  unfolding or_needs
  or_no i q = all_no s 1 _ q

  pub exists_no : (x : ℕ) → s 1 ≡ false → false ≡ all s (exists_needs n t v row x)
  unfolding exists_needs
  exists_no x e = all_no s 1 _ e

  pub exists_under : (x : ℕ) (b : Bool) → s 1 ≡ true → b ≡ s (under_at n t v row x) → b ≡ all s (exists_needs n t v row x)
  unfolding exists_needs
  exists_under x b e q = all_yes s 1 _ b e (q ∙ all_one s (under_at n t v row x))

  pub forall_no : (z : ℕ) → s 1 ≡ false → false ≡ all s (forall_needs n t v row z)
  unfolding forall_needs
  forall_no z e = all_no s 1 _ e

  pub forall_not : (z : ℕ) → s 1 ≡ true → s (under_at n t v row z) ≡ false → false ≡ all s (forall_needs n t v row z)
  unfolding forall_needs
  forall_not z e q = all_yes s 1 _ false e (all_no s (under_at n t v row z) _ q)

  -- by the element before z and 1, and 0 where there is none
  pub forall_first : (z y : ℕ) → y ≡ option (before (range_in t v) z) 0 suc → y ≡ 0 → s 1 ≡ true → s (under_at n t v row z) ≡ true → true ≡ all s (forall_needs n t v row z)
  unfolding forall_needs own_before option
  forall_first z y b o e q = all_yes s 1 _ true e (all_yes s (under_at n t v row z) _ true q (none_own (before (range_in t v) z) (sym b ∙ o)))
    where
      none_own : (x : Option ℕ) → option x 0 suc ≡ 0 → true ≡ all s (option x [] (λ y. (v.atoms + (row * n + y)) ∷ []))
      none_own none h = all_nil s
      none_own (some x) h = absurd (omega arith)

  pub forall_next : (z y : ℕ) (b : Bool) → y ≡ option (before (range_in t v) z) 0 suc → 0 < y → s 1 ≡ true → s (under_at n t v row z) ≡ true → b ≡ s (v.atoms + (row * n + (y - 1))) → b ≡ all s (forall_needs n t v row z)
  unfolding forall_needs own_before option
  forall_next z y b k h e q f = all_yes s 1 _ b e (all_yes s (under_at n t v row z) _ b q (one_own (before (range_in t v) z) (sym k)))
    where
      one_own : (x : Option ℕ) → option x 0 suc ≡ y → b ≡ all s (option x [] (λ y. (v.atoms + (row * n + y)) ∷ []))
      one_own none i = absurd (omega arith)
      one_own (some x) i = let d : y - 1 ≡ x = omega arith in rw d at f ∙ all_one s (v.atoms + (row * n + x))

-- ---- by the action
module _ (s : ℕ → Bool) (t : List ℕ) (a : Act) (b : Bool) where
  pub need_set : (x : TupleAct) (k : RelationLine) → a ≡ Set x → k ≡ relation_line t x.relation → b ≡ all s (set_needs (size_in t) k x.row) → b ≡ all s (need_numbers t a)
  unfolding need_numbers
  need_set x k e l q = rw e (q ∙ ap (λ (y : RelationLine). all s (set_needs (size_in t) y x.row)) l)

  pub need_begin : a ≡ Begin → b ≡ s 0 → b ≡ all s (need_numbers t a)
  unfolding need_numbers
  need_begin e q = rw e (q ∙ all_one s 0)

  pub need_and : (x : RowAct) (v : NodeLine) → a ≡ And x → v ≡ node_line t x.node → b ≡ all s (and_needs (size_in t) t v x.row) → b ≡ all s (need_numbers t a)
  unfolding need_numbers
  need_and x v e l q = rw e (q ∙ ap (λ (y : NodeLine). all s (and_needs (size_in t) t y x.row)) l)

  pub need_or : (x : ChoiceAct) (v : NodeLine) → a ≡ Or x → v ≡ node_line t x.node → b ≡ all s (or_needs (size_in t) t v x.row x.choice) → b ≡ all s (need_numbers t a)
  unfolding need_numbers
  need_or x v e l q = rw e (q ∙ ap (λ (y : NodeLine). all s (or_needs (size_in t) t y x.row x.choice)) l)

  pub need_exists : (x : ChoiceAct) (v : NodeLine) → a ≡ Exists x → v ≡ node_line t x.node → b ≡ all s (exists_needs (size_in t) t v x.row x.choice) → b ≡ all s (need_numbers t a)
  unfolding need_numbers
  need_exists x v e l q = rw e (q ∙ ap (λ (y : NodeLine). all s (exists_needs (size_in t) t y x.row x.choice)) l)

  pub need_forall : (x : ChoiceAct) (v : NodeLine) → a ≡ Forall x → v ≡ node_line t x.node → b ≡ all s (forall_needs (size_in t) t v x.row x.choice) → b ≡ all s (need_numbers t a)
  unfolding need_numbers
  need_forall x v e l q = rw e (q ∙ ap (λ (y : NodeLine). all s (forall_needs (size_in t) t y x.row x.choice)) l)

  pub need_goal : a ≡ Goal → b ≡ all s (goal_needs t) → b ≡ all s (need_numbers t a)
  unfolding need_numbers
  need_goal e q = rw e q

  pub need_round : a ≡ RoundEnd → b ≡ all s (goal_needs t) → b ≡ all s (need_numbers t a)
  unfolding need_numbers
  need_round e q = rw e q

  pub need_in : (x : TupleAct) (k : RelationLine) → a ≡ MarkIn x → k ≡ relation_line t x.relation → b ≡ all s ((k.free + x.row) ∷ (k.nots + x.row) ∷ []) → b ≡ all s (need_numbers t a)
  unfolding need_numbers
  need_in x k e l q = rw (e, ← l) q

  pub need_out : (x : TupleAct) (k : RelationLine) → a ≡ MarkOut x → k ≡ relation_line t x.relation → b ≡ all s ((k.free + x.row) ∷ (k.tuples + x.row) ∷ []) → b ≡ all s (need_numbers t a)
  unfolding need_numbers
  need_out x k e l q = rw (e, ← l) q

pub need_nothing : (s : ℕ → Bool) (t : List ℕ) (a : Act) → a ≡ Nothing → true ≡ all s (need_numbers t a)
unfolding need_numbers
need_nothing s t a e = rw e (all_nil s)

pub fits_of : (t : List ℕ) (a b : Act) → a ≡ b → ActFits t a → ActFits t b
fits_of t a b e f = subst (λ (x : Act). ActFits t x) e f

-- ---- what a table that fits says of its lines
module _ (t : List ℕ) (fits : Fits t) where
  entries : (a b c d : ℕ) → Most (get_or t a 0 ∷ get_or t b 0 ∷ get_or t c 0 ∷ get_or t d 0 ∷ []) (2 ^ 32)
  entries a b c d zero = fits.entry a
  entries a b c d (suc zero) = fits.entry b
  entries a b c d (suc (suc zero)) = fits.entry c
  entries a b c d (suc (suc (suc zero))) = fits.entry d
  entries a b c d (suc (suc (suc (suc i)))) = omega arith

  pub part_small : (i : ℕ) (q : PartLine) → q ≡ part_line t i → (q.start ≤ 2 ^ 32) × Most q.weights (2 ^ 32)
  unfolding part_line
  part_small i q e = rw e (fits.entry (part_place i), entries (part_place i + 1) (part_place i + 2) (part_place i + 3) (part_place i + 4))

  pub relation_small : (r : ℕ) (k : RelationLine) → k ≡ relation_line t r → (k.tuples ≤ 2 ^ 32) × (k.nots ≤ 2 ^ 32) × (k.free ≤ 2 ^ 32)
  unfolding relation_line
  relation_small r k e = rw e (fits.entry (relation_place r + 1), fits.entry (relation_place r + 2), fits.entry (relation_place r + 3))

  pub atoms_small : (v : ℕ) (x : NodeLine) → x ≡ node_line t v → x.atoms ≤ 2 ^ 32
  unfolding node_line
  atoms_small v x e = rw e (fits.entry (node_place v + 1))

  pub node_small : (v : ℕ) (x : NodeLine) → x ≡ node_line t v → v < 64 → NodeFits x × (x.atoms ≤ 2 ^ 32) × RangeFits t x
  unfolding node_line
  node_small v x e h = (subst NodeFits (sym e) (fits.node v h), rw e (fits.entry (node_place v + 1)), subst (RangeFits t) (sym e) (fits.range v h))

-- the row of a set action is in range where its offset is
pub set_row_small : (t : List ℕ) → Fits t → (k : RelationLine) → PlacesFit t k → (off : ℕ) → off ≤ 2 ^ 32 → (is_whole k ≡ false → off < k.first_count * k.second_count) → set_row t k off ≤ 2 ^ 32
set_row_small t fits k p off h q = by_test (is_whole k) refl
  where
    by_test : (b : Bool) → is_whole k ≡ b → set_row t k off ≤ 2 ^ 32
    by_test true e = let z = row_whole t k off e in omega arith
    by_test false e =
        let z = row_pair t k off e in
        omega (arith, pair_le t k off p (q e) fits.size, (pair_small t k off p (q e)).1, fits.size)

pub within_most : (n : ℕ) (env : List ℕ) → n ≤ 64 → Within n env → Most env 64
within_most n env h w l = omega (arith, w l)

pub row_values_lem : (n : ℕ) (v : NodeLine) (row : ℕ) → values_in (take v.width v.levels) (places_of n v.width row) ≡ row_values n v row
unfolding row_values
row_values_lem n v row = refl
