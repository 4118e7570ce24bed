-- Setting the picks, step by step.
use Prim.Native.Nat.{ℕ, zero, suc, ◌+◌, ◌-◌, ◌*◌, ◌<◌, ◌≤◌}
use Rattle.std.specs.Prelude.{◌≡◌, Bool, true, false, length, if◌then◌else◌}
use Rattle.std.proofs.Math.Path.{refl, sym, ap, subst, fun_ext}
use Rattle.std.proofs.Common.{◌∙◌, add-one}
use mathlib.Core.List.{List, Memᴰ}
use native.Mathlib.Omega.{arith}
use Rattle.bits.specs.Table.{bit}
use Rattle.definitions.specs.Lists.{rank}
use Rattle.definitions.specs.Sheet.Relations.{is_chosen, Relation}
use Rattle.definitions.specs.Problem.Atoms.{Problem, relation_at}
use Rattle.definitions.specs.Problem.Actions.{set, set_rows as settableRows, sets_of, set_start, action_number}
use Rattle.laws.specs.Booleans.{T_of}
use Rattle.laws.specs.Lists.{get_or_mem}
use Rattle.laws.specs.Members.{rank_select}
use Rattle.laws.specs.SetRows.{set_row_lem, once_sets, all_count}
use Rattle.laws.specs.Numbers.{IsAction}
use Rattle.problem_table.specs.Lines.{relation_line, PlacesFit}
use Rattle.problem_table.specs.Numbers.{is_whole, set_row as row_in}
use Rattle.problem_table.specs.NeedLaws.{row_whole}
use Rattle.problem_table.specs.Of.{Is, said}
use Rattle.problem_table.specs.OfLaws.{whole_rows, typed_sets, set_row_is}
use Rattle.problem_table.specs.declared.Act.TheVariants.{Set}
use Rattle.problem_table.specs.declared.RelationLine.{RelationLine}
use Rattle.step_picks.specs.Words.{word_start, is_open, rows_in}
use Rattle.step_picks.specs.WordLaws.{is_open_lem, tuples_are}
use Rattle.step_prove.specs.Following.{Out, one}
use Rattle.step_build.specs.Setting.{row_at, set_count, set_row, set_rows, set_relation, set_relations}

-- ---- rows
module _ (p : Problem) (r : ℕ) where
  pub row_yes : (b : Bool) (o : Out) (j : ℕ) → b ≡ true → set_row p r b o j ≡ one p o (set r j)
  unfolding set_row
  row_yes b o j e = rw e

  pub row_no : (b : Bool) (o : Out) (j : ℕ) → b ≡ false → set_row p r b o j ≡ o
  unfolding set_row
  row_no b o j e = rw e

  module _ (f : ℕ → Bool) where
    pub rows_start : (o : Out) (k : ℕ) → set_rows p r f o 0 k ≡ set_rows p r f o 0 (k - 0)
    rows_start o k = let m : k ≡ k - 0 = omega arith in ap (set_rows p r f o 0) m

    pub rows_next : (b : Bool) (o o' : Out) (j k row : ℕ) → j < k → row ≡ row_at p r j → b ≡ f row → set_row p r b o row ≡ o' → set_rows p r f o j (k - j) ≡ set_rows p r f o' (j + 1) (k - (j + 1))
    unfolding set_rows
    rows_next b o o' j k row h a q e =
        let m : k - j ≡ suc (k - suc j) = omega arith in
        rw (m, add-one) (ap (λ (x : Out). set_rows p r f x (suc j) (k - suc j)) (ap (λ (x : ℕ). set_row p r (f x) o x) (sym a) ∙ ap (λ (t : Bool). set_row p r t o row) (sym q) ∙ e))

    pub rows_end : (o : Out) (j k : ℕ) → k ≤ j → set_rows p r f o j (k - j) ≡ o
    unfolding set_rows
    rows_end o j k h = let m : k - j ≡ 0 = omega arith in rw m

    -- offsets whose rows are not picked
    rows_over : (n : ℕ) (o : Out) (j k : ℕ) → j + n ≤ k → ((i : ℕ) → j ≤ i → i < j + n → f (row_at p r i) ≡ false) → set_rows p r f o j (k - j) ≡ set_rows p r f o (j + n) (k - (j + n))
    rows_over zero o j k h none = let m : j ≡ j + 0 = omega arith in ap (λ (i : ℕ). set_rows p r f o i (k - i)) m
    rows_over (suc n) o j k h none =
        let m : j + 1 + n ≡ j + suc n = omega arith in
        rows_next false o o j k (row_at p r j) (omega arith) refl (sym (none j (omega arith) (omega arith))) (row_no false o (row_at p r j) refl)
        ∙ rows_over n o (j + 1) k (omega arith) (λ i l u. none i (omega arith) (omega arith)) ∙ ap (λ (i : ℕ). set_rows p r f o i (k - i)) m

    pub rows_skip : (o : Out) (j i k : ℕ) → j ≤ i → i ≤ k → ((m : ℕ) → j ≤ m → m < i → f (row_at p r m) ≡ false) → set_rows p r f o j (k - j) ≡ set_rows p r f o i (k - i)
    rows_skip o j i k l h none =
        let e : j + (i - j) ≡ i = omega arith in
        rows_over (i - j) o j k (omega arith) (λ m a b. none m a (omega arith)) ∙ ap (λ (x : ℕ). set_rows p r f o x (k - x)) e

-- how many set actions there are by the line
module _ (x : RelationLine) (whole : Bool) (q : whole ≡ is_whole x) where
  pub count_whole : (k : ℕ) → whole ≡ true → k ≡ x.nots - x.tuples → k ≡ set_count x
  unfolding set_count
  count_whole k t e = rw (sym q ∙ t) e

  pub count_typed : whole ≡ false → x.first_count * x.second_count ≡ set_count x
  unfolding set_count
  count_typed t = rw (sym q ∙ t)

  pub row_whole_at : (w : List ℕ) (off : ℕ) → whole ≡ true → off ≡ row_in w x off
  row_whole_at w off t = row_whole w x off (sym q ∙ t)

-- the action of a row
pub set_said : (r row : ℕ) → Set (record { relation = r; row = row }) ≡ said (set r row)
unfolding said
set_said r row = refl

module _ (p : Problem) (w : List ℕ) (is : Is p w) (r : ℕ) (l : r < length p.relations) where
  -- the actions of a relation, one for each offset
  module _ (off row : ℕ) (h : off < sets_of p.size p.range (relation_at p r)) (a : row ≡ row_at p r off) where
    abbrev rows : List ℕ
    rows = settableRows p.size p.range (relation_at p r)

    pub set_number_lem : (x : RelationLine) → x ≡ relation_line w r → x.sets + off ≡ action_number p (set r row)
    unfolding action_number sets_of
    set_number_lem x e =
        ap (λ (y : ℕ). y + off) (ap (λ (y : RelationLine). y.sets) e ∙ is.sets r (omega arith))
        ∙ ap (λ (y : ℕ). set_start p r + y) (sym (ap (rank rows) a ∙ rank_select rows off (once_sets p.size p.range (relation_at p r)) h))

    pub set_is : IsAction p (set r row)
    unfolding IsAction sets_of
    set_is = let m = subst (λ (x : ℕ). Memᴰ x rows) (sym a) (get_or_mem rows off 0 h) in (l, (set_row_lem p.size p.range (relation_at p r) row m).0, m)

    -- a row of the table is one of these
    pub row_is : (x : RelationLine) → x ≡ relation_line w r → PlacesFit w x → (z : ℕ) → z ≡ row_in w x off → z ≡ row_at p r off
    row_is x e fits z q = q ∙ ap (λ (y : RelationLine). row_in w y off) e ∙ set_row_is p w is r l (subst (PlacesFit w) e fits) off h

  -- offsets passed over where each action sets the row of its own number
  module _ (x : RelationLine) (e : x ≡ relation_line w r) (fits : PlacesFit w x) (whole : Bool) (q : whole ≡ is_whole x) (picks : List ℕ) (start : ℕ) where
    pub passed_over : (o : Out) (off next count : ℕ) → count ≡ sets_of p.size p.range (relation_at p r) → off ≤ next → next ≤ count
        → ((i : ℕ) → off ≤ i → i < next → (whole ≡ true) × (bit picks (start + i) ≡ false))
        → set_rows p r (λ row. bit picks (start + row)) o off (count - off) ≡ set_rows p r (λ row. bit picks (start + row)) o next (count - next)
    passed_over o off next count n a b none =
        rows_skip p r (λ row. bit picks (start + row)) o off next count a b (λ i l u.
        let g = none i l u in
        let at = row_is i (row_at p r i) (omega arith) refl x e fits i (row_whole_at x whole q w i g.0) in
        ap (λ (y : ℕ). bit picks (start + y)) (sym at) ∙ g.1)

  -- how many there are
  pub count_is : (x : RelationLine) → x ≡ relation_line w r → PlacesFit w x → is_chosen (relation_at p r).kind ≡ true → set_count x ≡ sets_of p.size p.range (relation_at p r)
  unfolding set_count
  count_is x e fits t = by_test (is_whole x) refl
    where
      k : Relation
      k = relation_at p r

      by_test : (b : Bool) → is_whole x ≡ b → (if b then x.nots - x.tuples else x.first_count * x.second_count) ≡ sets_of p.size p.range (relation_at p r)
      by_test true q = tuples_are p w is r l x e (x.nots - x.tuples) refl
          ∙ sym (all_count p.size p.range k (whole_rows p w is r l (subst (PlacesFit w) e fits) (T_of t) (ap is_whole (sym e) ∙ q)))
      by_test false q = ap (λ (y : RelationLine). y.first_count * y.second_count) e ∙ sym (typed_sets p w is r l (ap is_whole (sym e) ∙ q))

  -- a relation by its line
  module _ (x : RelationLine) (e : x ≡ relation_line w r) (f : ℕ → Bool) where
    pub relation_yes : (o o' : Out) (k : ℕ) → is_open x.kind ≡ true → PlacesFit w x → k ≡ set_count x → (k ≡ sets_of p.size p.range (relation_at p r) → set_rows p r f o 0 k ≡ o') → set_relation p f o r ≡ o'
    unfolding set_relation
    relation_yes o o' k h fits q g =
        let t = sym (is_open_lem p w is r l x e) ∙ h in
        let n = q ∙ count_is x e fits t in
        rw t (ap (set_rows p r f o 0) (sym n) ∙ g n)

    pub relation_no : (o : Out) → is_open x.kind ≡ false → set_relation p f o r ≡ o
    unfolding set_relation
    relation_no o h = rw (sym (is_open_lem p w is r l x e) ∙ h)

-- ---- relations
module _ (p : Problem) (f : ℕ → ℕ → Bool) where
  pub relations_start : (o : Out) (k : ℕ) → set_relations p f o 0 k ≡ set_relations p f o 0 (k - 0)
  relations_start o k = let m : k ≡ k - 0 = omega arith in ap (set_relations p f o 0) m

  pub relations_next : (g : ℕ → Bool) (o o' : Out) (r k : ℕ) → r < k → g ≡ f r → set_relation p g o r ≡ o' → set_relations p f o r (k - r) ≡ set_relations p f o' (r + 1) (k - (r + 1))
  unfolding set_relations
  relations_next g o o' r k h q e =
      let m : k - r ≡ suc (k - suc r) = omega arith in
      rw (m, add-one) (ap (λ (x : Out). set_relations p f x (suc r) (k - suc r)) (ap (λ (g : ℕ → Bool). set_relation p g o r) (sym q) ∙ e))

  pub relations_end : (o : Out) (r k : ℕ) → k ≤ r → set_relations p f o r (k - r) ≡ o
  unfolding set_relations
  relations_end o r k h = let m : k - r ≡ 0 = omega arith in rw m

pub word_first : (p : Problem) → 0 ≡ word_start p 0
unfolding word_start
word_first p = refl

pub rows_at : (p : Problem) (words : List ℕ) (r word : ℕ) → word ≡ word_start p r → ◌≡◌ {A = ℕ → Bool} (λ i. bit words (64 * word + i)) (rows_in p words r)
rows_at p words r word q = fun_ext (λ i. ap (λ (m : ℕ). bit words (64 * m + i)) q)
