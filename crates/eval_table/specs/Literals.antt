-- A literal by its bit among the facts or the picks, by its digit of the `every` relation's value, or by its row.
use Rattle.std.specs.Prelude.{◌≡◌, Bool, true, false, ◌||◌, length, get_or, if◌then◌else◌}
use Rattle.std.proofs.Math.Path.{refl, sym, ap, ap₂, subst, subst₂}
use Rattle.std.proofs.Common.{◌∙◌, arith, zero-add, mul-one, ltb-true, ltb-false}
use Rattle.std.proofs.Math.Bool.{or-false}
use mathlib.Core.List.{List, [], ◌∷◌, ◌++◌}
use Prim.Native.Nat.{ℕ, zero, suc, ◌+◌, ◌*◌, ◌/◌, ◌%◌, ◌^◌, ◌≤◌, ◌<◌}
use Rattle.std.proofs.Math.Nat.{pow-zero, add-sub_cancel_left}
use Rattle.std.proofs.Math.Dec.{T, ltb}
use Rattle.definitions.specs.Sheet.Relations.{Kind, static, plain, Fun, PFun, Inj, PInj, universal, Relation, Tuple, same_tuple, is_among, is_chosen, is_universal, built_in_holds}
use Rattle.definitions.specs.Sheet.Sheets.{every_number}
use Rattle.definitions.specs.Problem.Truth.{Case, holds, are_picks, every_tuples, is_odd, digit, every_value}
use Rattle.definitions.specs.Problem.Atoms.{Problem, problem_of, problem_with, relation_at, tuples_of, row_of, places_of, tuple_holds, words_for}
use Rattle.definitions.specs.Problem.Built.{is_picked}
use Rattle.definitions.specs.Reply.Outcome.{relation_words}
use Rattle.laws.specs.Booleans.{T_of, T_false, T_ext}
use Rattle.laws.specs.Tuples.{among_mem}
use Rattle.laws.specs.Numbers.{chosen_early}
use Rattle.laws.specs.Rows.{Below, row_lt, places_row, pair_places}
use Rattle.bits.specs.Table.{bit}
use Rattle.bits.specs.Table.{digit as bitDigit}
use Rattle.laws.specs.Reader.{Accepted}
use Rattle.meaning.specs.Grounded.{good, static_low, built_in_literal, rel_literal, choose_literal}
use Rattle.meaning.specs.Changes.{any_append}
use Rattle.meaning.specs.Valid.{every_there}
use Rattle.meaning.specs.Values.{Chosen, tuples_are, value_mem, in_value, value_in}
use Rattle.meaning.specs.Picks.{picks_inside}
use Rattle.rule_nodes.specs.declared.Nodes.{Nodes}
use Rattle.problem_table.specs.Of.{kind_number}
use Rattle.problem_layout.specs.declared.Relations.{Relations}
use Rattle.problem_layout.specs.Laid.{Inputs}
use Rattle.step_start.specs.Initial.{fact_word, FactsIn}
use Rattle.step_start.specs.InitialLaws.{pair_arity, one_arity}
use Rattle.step_picks.specs.Words.{word_start, PicksAre}
use Rattle.eval_rule.specs.Lines.{literal_at}
use Rattle.eval_rule.specs.Laws.{is_pair, is_one, is_fact, is_pick, is_value}
use Rattle.eval_table.specs.Lined.{fact_words, choose_words, fact_sum, choose_sum, source_of, bit_of}
use Rattle.eval_table.specs.Numbers.{bit_low, bit_fact, bit_every, bit_choose, source_low, source_fact, source_every, source_choose}

words_chosen : (k : Kind) (w : ℕ) → choose_words (kind_number k) w ≡ (if is_chosen k then w else zero)
unfolding kind_number is_chosen choose_words
words_chosen static w = refl
words_chosen plain w = refl
words_chosen Fun w = refl
words_chosen PFun w = refl
words_chosen Inj w = refl
words_chosen PInj w = refl
words_chosen universal w = refl

-- the number of a kind tells whether it is static, of a `choose` or of an `every` line
pub data Sort (k : Kind) (number : ℕ) : Type 0 where
  is_static_lem : k ≡ static → number ≡ 0 → Sort k number
  is_chosen_lem : T (is_chosen k) → (number ≡ 0 → ⊥) → (number ≡ 6 → ⊥) → Sort k number
  is_universal_lem : T (is_universal k) → number ≡ 6 → Sort k number

sort_of_lem : (k : Kind) → Sort k (kind_number k)
unfolding kind_number is_chosen is_universal
sort_of_lem static = is_static_lem refl refl
sort_of_lem plain = is_chosen_lem tt (λ e. omega arith) (λ e. omega arith)
sort_of_lem Fun = is_chosen_lem tt (λ e. omega arith) (λ e. omega arith)
sort_of_lem PFun = is_chosen_lem tt (λ e. omega arith) (λ e. omega arith)
sort_of_lem Inj = is_chosen_lem tt (λ e. omega arith) (λ e. omega arith)
sort_of_lem PInj = is_chosen_lem tt (λ e. omega arith) (λ e. omega arith)
sort_of_lem universal = is_universal_lem tt refl

one_place : (n : ℕ) (xs : List ℕ) → length xs ≡ 1 → (row_of n xs ≡ get_or xs 0 0) × (get_or xs 1 0 ≡ 0)
unfolding row_of
one_place n [] h = absurd (omega arith)
one_place n (x ∷ []) h = (let e = pow-zero n in let m = mul-one x in ap (λ (z : ℕ). x * z + 0) e ∙ omega arith, refl)
one_place n (x ∷ y ∷ xs) h = absurd (omega arith)

two_places : (n : ℕ) (xs : List ℕ) → 0 < n → Below n xs → length xs ≡ 2 → xs ≡ row_of n xs / n ∷ row_of n xs % n ∷ []
two_places n xs s b e = sym (places_row n xs s b) ∙ ap (λ (k : ℕ). places_of n k (row_of n xs)) e ∙ (pair_places n (row_of n xs) s (subst (λ (k : ℕ). row_of n xs < n ^ k) e (row_lt n xs b))).0

module _ (c : Case) (A : Accepted c) (F : List Tuple) (n value : ℕ) (ws : List ℕ) (types : ℕ) (g : Relations) (t : Nodes)
    (inputs : Inputs (problem_of c) n ws types g t) (facts : List ℕ) (fi : FactsIn (problem_of c) facts) (picks : List ℕ) where
  abbrev p : Problem
  p = problem_of c

  size_is : n ≡ c.site.size
  unfolding problem_of problem_with
  size_is = inputs.size

  some : 0 < n
  some = omega (arith, (good c A).element, inputs.size)

  fact_sum_lem : (r : ℕ) → r ≤ g.count → fact_sum n g r ≡ fact_word p r
  unfolding fact_sum fact_words fact_word tuples_of
  fact_sum_lem zero h = refl
  fact_sum_lem (suc r) h =
      ap₂ (λ (a b : ℕ). a + b) (fact_sum_lem r (omega arith))
      (ap₂ (λ (m k : ℕ). if ltb r 5 then zero else words_for (m ^ k)) inputs.size (inputs.arity r (omega arith)))

  choose_sum_lem : (r : ℕ) → r ≤ g.count → choose_sum n g r ≡ word_start p r
  unfolding choose_sum word_start tuples_of relation_words
  choose_sum_lem zero h = refl
  choose_sum_lem (suc r) h =
      ap₂ (λ (a b : ℕ). a + b) (choose_sum_lem r (omega arith))
      (ap₂ choose_words (inputs.kind r (omega arith)) (ap₂ (λ (m k : ℕ). words_for (m ^ k)) inputs.size (inputs.arity r (omega arith)))
      ∙ words_chosen (relation_at p r).kind (words_for (p.size ^ (relation_at p r).arity)))

  module _ (r : ℕ) (xs : List ℕ) (l : r < g.count) (long : length xs ≡ (relation_at p r).arity) (b : Below n xs) where
    abbrev row : ℕ
    row = row_of n xs

    inside : r < length p.relations
    inside = omega (arith, inputs.count)

    pub row_small : row < tuples_of p.size (relation_at p r)
    unfolding tuples_of
    row_small = subst (λ (m : ℕ). row < m ^ (relation_at p r).arity) inputs.size (subst (λ (k : ℕ). row < n ^ k) long (row_lt n xs b))

    places_are : places_of p.size (relation_at p r).arity row ≡ xs
    places_are = ap₂ (λ (m k : ℕ). places_of m k row) (sym inputs.size) (sym long) ∙ places_row n xs some b

    low : r < 5 → holds c F r xs ≡ built_in_holds n r (get_or xs 0 0) (get_or xs 1 0)
    low h = built_in_literal c F r xs h ∙ ap (λ (m : ℕ). built_in_holds m r (get_or xs 0 0) (get_or xs 1 0)) (sym size_is)

    built_in : r < 5 → literal_at facts picks n r row ≡ holds c F r xs
    built_in h = by_test (ltb r 3) refl
      where
        by_test : (t : Bool) → ltb r 3 ≡ t → literal_at facts picks n r row ≡ holds c F r xs
        by_test true e =
            let q : r < 3 = ltb-true r 3 e in
            sym (is_pair facts picks n r row q)
            ∙ ap (λ (ys : List ℕ). built_in_holds n r (get_or ys 0 0) (get_or ys 1 0)) (sym (two_places n xs some b (long ∙ ap (λ (k : Relation). k.arity) (fi.built r h) ∙ pair_arity r q)))
            ∙ sym (low h)
        by_test false e =
            let q : 3 ≤ r = ltb-false r 3 e in
            let o = one_place n xs (long ∙ ap (λ (k : Relation). k.arity) (fi.built r h) ∙ one_arity r q h) in
            sym (is_one facts picks n r row q h) ∙ ap₂ (built_in_holds n r) o.0 (sym o.1) ∙ sym (low h)

    of_fact : 5 ≤ r → (relation_at p r).kind ≡ static → literal_at facts picks n 5 (64 * fact_sum n g r + row) ≡ holds c F r xs
    unfolding tuple_holds problem_of problem_with
    of_fact h e =
        let low = static_low c A r inside e in
        sym (is_fact facts picks n 5 (64 * fact_sum n g r + row) refl)
        ∙ ap (λ (k : ℕ). bit facts (64 * k + row)) (fact_sum_lem r (omega arith))
        ∙ fi.fact r row h inside row_small e
        ∙ ap (holds c [] r) places_are
        ∙ rel_literal c [] r xs h low
        ∙ sym (rel_literal c F r xs h low)

    -- a chosen one is its pick, whatever the picks
    chosen_picked : T (is_chosen (relation_at p r).kind) → (P : List Tuple) → is_picked p P r row ≡ holds c P r xs
    unfolding is_picked problem_of problem_with
    chosen_picked k P = ap (λ (ys : List ℕ). is_among (record { relation = r; places = ys }) P) places_are ∙ sym (choose_literal c P r xs ((good c A).high_chosen r k))

    abbrev source : ℕ
    source = source_of value r (get_or g.kind r 0)

    abbrev kind : ℕ
    kind = get_or g.kind r 0

    -- what stands among the built-in ones and the facts, by its truth; what is chosen, by its place among the picks; what is of the `every`
    -- relation, by its place in the value
    pub data Stands : Type 0 where
      fixed_literal : source < 6 → literal_at facts picks n source (bit_of n g r + row) ≡ holds c F r xs → Stands
      chosen_literal : source ≡ 6 → T (is_chosen (relation_at p r).kind) → bit_of n g r + row ≡ 64 * word_start p r + row → ((P : List Tuple) → is_picked p P r row ≡ holds c P r xs) → Stands
      every_literal : source ≡ 7 + value → T (is_universal (relation_at p r).kind) → bit_of n g r + row ≡ row → Stands

    pub stands : Stands
    stands = by_test (ltb r 5) refl
      where
        by_sort : 5 ≤ r → Sort (relation_at p r).kind kind → Stands
        by_sort h (is_static_lem s z) =
            let e : 5 ≡ source = source_fact value r kind h z in
            let b : 64 * fact_sum n g r ≡ bit_of n g r = bit_fact r kind (fact_sum n g r) (choose_sum n g r) h z in
            fixed_literal (omega arith) (ap₂ (λ (x y : ℕ). literal_at facts picks n x (y + row)) (sym e) (sym b) ∙ of_fact h s)
        by_sort h (is_chosen_lem k z u) =
            let b : 64 * choose_sum n g r ≡ bit_of n g r = bit_choose r kind (fact_sum n g r) (choose_sum n g r) h z u in
            chosen_literal (sym (source_choose value r kind h z u)) k (ap (λ (y : ℕ). y + row) (sym b) ∙ ap (λ (x : ℕ). 64 * x + row) (choose_sum_lem r (omega arith))) (chosen_picked k)
        by_sort h (is_universal_lem k u) =
            every_literal (sym (source_every value r kind h u)) k (ap (λ (y : ℕ). y + row) (sym (bit_every r kind (fact_sum n g r) (choose_sum n g r) h u)) ∙ zero-add row)

        by_test : (t : Bool) → ltb r 5 ≡ t → Stands
        by_test true e =
            let h : r < 5 = ltb-true r 5 e in
            let s : r ≡ source = source_low value r kind h in
            let b : 0 ≡ bit_of n g r = bit_low r kind (fact_sum n g r) (choose_sum n g r) h in
            fixed_literal (omega arith) (ap₂ (λ (x y : ℕ). literal_at facts picks n x (y + row)) (sym s) (sym b) ∙ ap (literal_at facts picks n r) (zero-add row) ∙ built_in h)
        by_test false e = by_sort (ltb-false r 5 e) (subst (Sort (relation_at p r).kind) (sym (inputs.kind r l)) (sort_of_lem (relation_at p r).kind))

-- ---- the tuples are picks, and beside them a value of the `every` relation
module _ (c : Case) (A : Accepted c) (P : List Tuple) (pk : are_picks c P ≡ true) (n value : ℕ) (ws : List ℕ) (types : ℕ) (g : Relations) (t : Nodes)
    (inputs : Inputs (problem_of c) n ws types g t) (facts : List ℕ) (fi : FactsIn (problem_of c) facts) (picks : List ℕ) (pa : PicksAre (problem_of c) picks P)
    (r : ℕ) (xs : List ℕ) (l : r < g.count) (long : length xs ≡ (relation_at (problem_of c) r).arity) (b : Below n xs) where
  abbrev q : Problem
  q = problem_of c

  abbrev F : List Tuple
  F = P ++ every_value c value

  abbrev at : ℕ
  at = row_of n xs

  known : r < length q.relations
  known = inside c A F n value ws types g t inputs facts fi picks r xs l long b

  row_there : at < tuples_of q.size (relation_at q r)
  row_there = row_small c A F n value ws types g t inputs facts fi picks r xs l long b

  row_places : places_of q.size (relation_at q r).arity at ≡ xs
  row_places = places_are c A F n value ws types g t inputs facts fi picks r xs l long b

  all_chosen : Chosen q (good c A) P
  all_chosen u m = (picks_inside c A P (T_of pk) u m).chosen

  -- a tuple of a `choose` is none of the value
  not_in_value : T (is_chosen (relation_at q r).kind) → (ys : List ℕ) → is_among (record { relation = r; places = ys }) (every_value c value) ≡ false
  unfolding problem_of problem_with
  not_in_value k ys = T_false _ (λ h.
      let (e, v) = value_mem q (good c A) value _ (among_mem _ (every_value c value) h) in
      let (row, l, d, i) = v in
      chosen_early (relation_at q r).kind k (subst (λ (x : ℕ). T (is_universal (relation_at q x).kind)) (sym (ap (λ (u : Tuple). u.relation) i)) (every_there q (good c A) e).1))

  picked_beside : T (is_chosen (relation_at q r).kind) → is_picked q P r at ≡ is_picked q F r at
  unfolding is_picked is_among
  picked_beside k = sym (any_append (same_tuple (record { relation = r; places = places_of q.size (relation_at q r).arity at })) P (every_value c value)
      ∙ ap (λ (x : Bool). is_among (record { relation = r; places = places_of q.size (relation_at q r).arity at }) P || x) (not_in_value k _) ∙ or-false _)

  -- a tuple of the `every` relation is in where its digit is 1
  by_digit : T (is_universal (relation_at q r).kind) → digit value at ≡ holds c F r xs
  unfolding problem_of problem_with
  by_digit u =
      let (e, s) = (good c A).every_one r known u in
      let m : at < every_tuples c = subst (λ (x : ℕ). at < x) (tuples_are q (good c A) s) (subst (λ (x : ℕ). at < tuples_of q.size (relation_at q x)) e row_there) in
      let here : places_of q.size (relation_at q (every_number c.question)).arity at ≡ xs = ap (λ (x : ℕ). places_of q.size (relation_at q x).arity at) (sym e) ∙ row_places in
      T_ext (digit value at) (holds c F r xs)
      (λ d. subst₂ (λ (x : ℕ) (ys : List ℕ). T (holds c F x ys)) (sym e) here (value_in q (good c A) P all_chosen s value at m d))
      (λ h. in_value q (good c A) P all_chosen s value at m (subst₂ (λ (x : ℕ) (ys : List ℕ). T (holds c F x ys)) e (sym here) h))

  same_digit : bitDigit value at ≡ digit value at
  unfolding bitDigit digit is_odd
  same_digit = refl

  pub literal_is : literal_at facts picks n (source_of value r (get_or g.kind r 0)) (bit_of n g r + at) ≡ holds c F r xs
  literal_is = by_place (stands c A F n value ws types g t inputs facts fi picks r xs l long b)
    where
      by_place : Stands c A F n value ws types g t inputs facts fi picks r xs l long b → literal_at facts picks n (source_of value r (get_or g.kind r 0)) (bit_of n g r + at) ≡ holds c F r xs
      by_place (fixed_literal s e) = e
      by_place (chosen_literal s k o e) = ap₂ (literal_at facts picks n) s o ∙ sym (is_pick facts picks n 6 (64 * word_start q r + at) refl) ∙ pa r at known k row_there ∙ picked_beside k ∙ e F
      by_place (every_literal s u o) = ap₂ (literal_at facts picks n) s o ∙ sym (is_value facts picks n (7 + value) at (omega arith)) ∙ ap (λ (x : ℕ). bitDigit x at) (add-sub_cancel_left 7 value) ∙ same_digit ∙ by_digit u
