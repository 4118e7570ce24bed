-- Finding picks: every set of picks has a number, so that the least number that meets the rule is found exactly if some picks meet it;
-- and what the call then answers and leaves.
use Rattle.std.specs.Prelude.{ℕ, zero, ◌^◌, ◌<◌, ◌≤◌, ◌≡◌, ◌↔◌, Bool, true, T}
use Rattle.std.proofs.Math.Path.{refl, ap, subst}
use Rattle.std.proofs.Common.{sym, ◌∙◌, ⊎_elim, ltb-true, ltb-false}
use Rattle.std.proofs.Math.Bool.{false}
use Rattle.std.proofs.Math.Option.{Option, none, some}
use mathlib.Core.List.Memᴰ
use mathlib.Core.List.{List, [], ◌++◌}
use native.Mathlib.Omega.{arith}
use Rattle.std.proofs.Math.Dec.{ltb}
use Rattle.std.proofs.Math.ListN.{length}
use Rattle.definitions.specs.Limits.{CaseLimits, cell_limit}
use Rattle.definitions.specs.Lists.{all, filter, below}
use Rattle.definitions.specs.Refusal.{Result, refused, accepted, ◌>>=◌, refuse_if, given, ready_numbers, find_numbers}
use Rattle.definitions.specs.Sheet.Relations.{Relation, Tuple, is_among}
use Rattle.definitions.specs.Problem.Truth.{Case, is_pick, are_picks, are_of_kinds, values, every_value, rule_holds, rule_is_true}
use Rattle.definitions.specs.Problem.Tree.{tree_of}
use Rattle.definitions.specs.Problem.Atoms.{Problem, problem_of}
use Rattle.definitions.specs.Sheet.Sheets.{Label}
use Rattle.definitions.specs.Reply.Outcome.{without_every, read_filed, ground, Ready, asked, nothing, room_for, picks_length, pick_words, written}
use Rattle.definitions.specs.Reply.Demand.{are_same_picks}
use Rattle.definitions.specs.Reply.Finding.{cells, numbered, meets, least_number, least_picks, found_words, found_from, find, Found}
use Rattle.laws.specs.Booleans.{T_of, T_true, T_ext, and_T, T_and_l, T_and_r, and_both}
use Rattle.laws.specs.Lists.{all_at, all_of, none_some, filter_mem, get_or_below, length_below, mem_below, mem_filter, none_any}
use Rattle.laws.specs.Positions.{none_position, some_position}
use Rattle.laws.specs.Results.{accepted_eq, bind_parts, refused_accepted, refused_number}
use Rattle.laws.specs.Tuples.{among_mem, mem_among}
use Rattle.laws.specs.Repeats.{once_distinct}
use Rattle.laws.specs.Reader.{Accepted}
use Rattle.meaning.specs.Meaning.{tree_means}
use Rattle.meaning.specs.Grounded.{good}
use Rattle.laws.specs.Valued.{by_holds}
use Rattle.meaning.specs.Grows.{Among, may_hold_lem, fewer_kinds}
use Rattle.meaning.specs.Picks.{pick_fits, fits_pick, fits_inside, inside_fits, picks_inside, inside_picks}
use Rattle.meaning.specs.Lent
use Rattle.meaning.specs.Cells.{cell_inside, inside_cell, cells_once, number_of, number_lt, numbered_number, numbered_mem, numbered_once, numbers_apart}
use Rattle.laws.specs.Asked
use Rattle.laws.specs.Refusals.{In, words_refuse}
use Rattle.demands.specs.Between.{same_picks}
use Rattle.demands.specs.Answered.{same_among}
use Rattle.demands.specs.Buffers.{written_length, has_room}

-- picks of the declared kinds that make the rule true
abbrev pub Solves : Case → List Tuple → Type 0
Solves c picks = (are_picks c picks ≡ true) × (are_of_kinds c picks ≡ true) × (rule_is_true c picks ≡ true)

module _ (c : Case) (A : Accepted c) where
  abbrev p : Problem
  p = problem_of c

  -- ---- cells and numbers
  -- the cells are the tuples that may be picked
  pub cells_are : (t : Tuple) → (is_among t (cells p) ≡ true) ↔ (is_pick c t ≡ true)
  cells_are t = (
    (λ h. T_true (is_pick c t) (fits_pick c t (inside_fits c A t (cell_inside p (good c A) t (among_mem t (cells p) (T_of h)))))),
    (λ h. T_true (is_among t (cells p)) (mem_among t (cells p) (inside_cell p (good c A) t (fits_inside c A t (pick_fits c t (T_of h)))))),
  )

  pub numbered_picks : (m : ℕ) → are_picks c (numbered (cells p) m) ≡ true
  numbered_picks m = T_true (are_picks c (numbered (cells p) m))
      (inside_picks c A (numbered (cells p) m) (λ t i. cell_inside p (good c A) t (numbered_mem (cells p) m t i)) (once_distinct (numbered (cells p) m) (numbered_once (cells p) m (cells_once p (good c A)))))

  -- every set of picks is that of a number, and of one only
  pub has_number : (P : List Tuple) → are_picks c P ≡ true → (m : ℕ) × (m < 2 ^ length (cells p)) × (are_same_picks (numbered (cells p) m) P ≡ true)
  has_number P h =
      let f : (Tuple → Bool) = λ t. is_among t P in
      let e : numbered (cells p) (number_of f (cells p)) ≡ filter f (cells p) = numbered_number f (cells p) in (
        number_of f (cells p),
        number_lt f (cells p),
        ap (λ (l : List Tuple). are_same_picks l P) e
            ∙ same_picks (filter f (cells p)) P (λ t i. among_mem t P (filter_mem f (cells p) t i).1) (λ t i. mem_filter f (cells p) t (inside_cell p (good c A) t (picks_inside c A P (T_of h) t i)) (mem_among t P i)),
      )

  pub one_number_lem : (m k : ℕ) → m < 2 ^ length (cells p) → k < 2 ^ length (cells p) → are_same_picks (numbered (cells p) m) (numbered (cells p) k) ≡ true → m ≡ k
  one_number_lem m k lm lk h = numbers_apart (cells p) (cells_once p (good c A)) m k lm lk (same_among (numbered (cells p) m) (numbered (cells p) k) h)

  -- ---- the same picks meet the rule alike
  holds_same : (P Q : List Tuple) → Among P Q → Among Q P → T (rule_holds c P) → T (rule_holds c Q)
  holds_same P Q f g h = subst T (tree_means c Q A) (subst T (by_holds c Q _ (tree_of c.question)) (may_hold_lem c Q P Q g f _ (tree_of c.question) (subst T (sym (tree_means c P A)) h)))

  beside : (P Q W : List Tuple) → Among P Q → Among (P ++ W) (Q ++ W)
  beside P Q W f t i = ⊎_elim (λ m. Memᴰ.append_left W (f t m)) (λ m. Memᴰ.append_right Q m) (Memᴰ.append_cases P i)

  rule_same : (P Q : List Tuple) → Among P Q → Among Q P → T (rule_is_true c P) → T (rule_is_true c Q)
  unfolding rule_is_true
  rule_same P Q f g h = all_of (λ k. rule_holds c (Q ++ every_value c k)) (below (values c)) (λ k m.
      let W = every_value c k in holds_same (P ++ W) (Q ++ W) (beside P Q W f) (beside Q P W g) (all_at (λ k. rule_holds c (P ++ every_value c k)) (below (values c)) h k m))

  same_parts : (P Q : List Tuple) → are_same_picks P Q ≡ true → Among P Q × Among Q P
  unfolding are_same_picks
  same_parts P Q e = ((λ t i. among_mem t Q (all_at (λ u. is_among u Q) P (T_and_l (all (λ u. is_among u Q) P) _ (T_of e)) t i)), (λ t i. among_mem t P (all_at (λ u. is_among u P) Q (T_and_r (all (λ u. is_among u Q) P) _ (T_of e)) t i)))

  meets_if : (P Q : List Tuple) → Among P Q → Among Q P → T (meets c P) → T (meets c Q)
  unfolding meets
  meets_if P Q f g h = and_T (are_of_kinds c Q) _ (fewer_kinds c Q P g (T_and_l (are_of_kinds c P) _ h)) (rule_same P Q f g (T_and_r (are_of_kinds c P) _ h))

  pub same_meets : (P Q : List Tuple) → are_same_picks P Q ≡ true → meets c P ≡ meets c Q
  same_meets P Q e = let (f, g) = same_parts P Q e in T_ext (meets c P) (meets c Q) (meets_if P Q f g) (meets_if Q P g f)

  pub same_solve : (P Q : List Tuple) → are_same_picks P Q ≡ true → are_of_kinds c Q ≡ true → rule_is_true c Q ≡ true → (are_of_kinds c P ≡ true) × (rule_is_true c P ≡ true)
  unfolding meets
  same_solve P Q e k r = and_both (are_of_kinds c P) (rule_is_true c P) (same_meets P Q e ∙ T_true (meets c Q) (and_T (are_of_kinds c Q) _ (T_of k) (T_of r)))

  -- ---- the least number
  pub record IsLeast (m : ℕ) : Type 0 where
    pub below_all : m < 2 ^ length (cells p)
    pub solves : Solves c (numbered (cells p) m)
    pub no_less : (k : ℕ) → k < m → Solves c (numbered (cells p) k) → ⊥

  abbrev test : ℕ → Bool
  test m = meets c (numbered (cells p) m)

  abbrev numbers : List ℕ
  numbers = below (2 ^ length (cells p))

  least_some : (m : ℕ) → least_number c (cells p) ≡ some m → IsLeast m
  unfolding least_number meets
  least_some m e =
      let (l, h, least) = some_position test numbers 0 m e in
      let l' : m < 2 ^ length (cells p) = subst (λ (x : ℕ). m < x) (length_below (2 ^ length (cells p))) l in
      let (k, r) = and_both (are_of_kinds c (numbered (cells p) m)) _ (ap test (sym (get_or_below (2 ^ length (cells p)) m l')) ∙ h) in
      record {
        below_all = l';
        solves = (numbered_picks m, k, r);
        no_less = λ j lt s.
            let (a, b, d) = s in
            let f = ap test (sym (get_or_below (2 ^ length (cells p)) j (omega arith))) ∙ least j lt in
            T_of (sym f ∙ T_true (test j) (and_T (are_of_kinds c (numbered (cells p) j)) _ (T_of b) (T_of d)));
      }

  least_none : least_number c (cells p) ≡ none → (P : List Tuple) → Solves c P → ⊥
  unfolding least_number meets
  least_none e P s =
      let (a, b, d) = s in
      let (m, l, same) = has_number P a in
      let f : test m ≡ false = none_any test numbers (none_position test numbers e) m (mem_below (2 ^ length (cells p)) m l) in
      T_of (sym f ∙ same_meets (numbered (cells p) m) P same ∙ T_true (meets c P) (and_T (are_of_kinds c P) _ (T_of b) (T_of d)))

  least_solves : (m : ℕ) → IsLeast m → (P : List Tuple) × Solves c P
  least_solves m h = (numbered (cells p) m, h.solves)

  -- two least numbers are one
  pub least_once : (m k : ℕ) → IsLeast m → IsLeast k → m ≡ k
  least_once m k h g = by_order (ltb m k) refl (ltb k m) refl
    where
      by_order : (a : Bool) → ltb m k ≡ a → (b : Bool) → ltb k m ≡ b → m ≡ k
      by_order true e b f = absurd (g.no_less m (ltb-true m k e) h.solves)
      by_order false e true f = absurd (h.no_less k (ltb-true k m f) g.solves)
      by_order false e false f = let x = ltb-false m k e in let y = ltb-false k m f in omega arith

  -- ---- the call on this case
  module _ (L : CaseLimits) (question site old : List ℕ) (labels : List Label) (is_filed : read_filed L question site ≡ accepted (record { case = c; labels = labels })) (grounds : ground L c ≡ accepted p) where
    abbrev found : Found
    found = find L question site old

    abbrev left : ℕ → Found
    left k = record { answer = refused k zero; picks = old }

    abbrev Plain : Type 0
    Plain = c.question.every ≡ none

    -- the five ways it can end
    pub data Ends : Type 0 where
      universal : (k : Relation) → c.question.every ≡ some k → found ≡ left 23 → Ends
      short : Plain → length old < picks_length p → found ≡ record { answer = refused 12 (picks_length p); picks = old } → Ends
      many : Plain → picks_length p ≤ length old → cell_limit < length (cells p) → found ≡ left 20 → Ends
      nothing_found : Plain → picks_length p ≤ length old → length (cells p) ≤ cell_limit → ((P : List Tuple) → Solves c P → ⊥) → found ≡ left 21 → Ends
      least_found : Plain → picks_length p ≤ length old → length (cells p) ≤ cell_limit → (m : ℕ) → IsLeast m → found ≡ record { answer = accepted zero; picks = written (pick_words p (numbered (cells p) m)) old } → Ends

    pub ends : Ends
    unfolding find found_words least_picks found_from asked nothing room_for refuse_if given ◌>>=◌
    ends = by_every c.question.every refl
      where
        by_least : Plain → ltb (length old) (picks_length p) ≡ false → ltb cell_limit (length (cells p)) ≡ false → (o : Option ℕ) → least_number c (cells p) ≡ o → Ends
        by_least n a b none e = nothing_found n (ltb-false (length old) (picks_length p) a) (ltb-false cell_limit (length (cells p)) b) (least_none e) (rw (is_filed, grounds, Asked.every_passes c n, a, b, e) refl)
        by_least n a b (some m) e = least_found n (ltb-false (length old) (picks_length p) a) (ltb-false cell_limit (length (cells p)) b) m (least_some m e) (rw (is_filed, grounds, Asked.every_passes c n, a, b, e) refl)

        by_cells : Plain → ltb (length old) (picks_length p) ≡ false → (b : Bool) → ltb cell_limit (length (cells p)) ≡ b → Ends
        by_cells n a true b = many n (ltb-false (length old) (picks_length p) a) (ltb-true cell_limit (length (cells p)) b) (rw (is_filed, grounds, Asked.every_passes c n, a, b) refl)
        by_cells n a false b = by_least n a b (least_number c (cells p)) refl

        by_room : Plain → (b : Bool) → ltb (length old) (picks_length p) ≡ b → Ends
        by_room n true a = short n (ltb-true (length old) (picks_length p) a) (rw (is_filed, grounds, Asked.every_passes c n, a) refl)
        by_room n false a = by_cells n a (ltb cell_limit (length (cells p))) refl

        by_every : (o : Option Relation) → c.question.every ≡ o → Ends
        by_every none e = by_room e (ltb (length old) (picks_length p)) refl
        by_every (some k) e = universal k e (rw (is_filed, grounds, Asked.every_fails c k e) refl)

    -- an end says the answer, which is one only
    answer_of : {x : Found} → found ≡ x → found.answer ≡ x.answer
    answer_of e = ap (λ (f : Found). f.answer) e

    never : (j k at place : ℕ) → (j ≡ k → ⊥) → {x : Found} → found ≡ x → x.answer ≡ refused j at → found.answer ≡ refused k place → ⊥
    never j k at place n e f g = n (refused_number j k at place (sym f ∙ sym (answer_of e) ∙ g))

    not_both : (j at k : ℕ) {x : Found} → found ≡ x → x.answer ≡ refused j at → found.answer ≡ accepted k → ⊥
    not_both j at k e f g = refused_accepted (sym f ∙ sym (answer_of e) ∙ g)

    not_refused : (k place : ℕ) {x : Found} → found ≡ x → x.answer ≡ accepted zero → found.answer ≡ refused k place → ⊥
    not_refused k place e f g = refused_accepted (sym g ∙ answer_of e ∙ f)

    abbrev Searched : Type 0
    Searched = Plain × (picks_length p ≤ length old) × (length (cells p) ≤ cell_limit)

    pub finds_least : (k : ℕ) → found.answer ≡ accepted k → (k ≡ zero) × (m : ℕ) × IsLeast m × (found.picks ≡ written (pick_words p (numbered (cells p) m)) old)
    finds_least k = by_end ends
      where
        by_end : Ends → found.answer ≡ accepted k → (k ≡ zero) × (m : ℕ) × IsLeast m × (found.picks ≡ written (pick_words p (numbered (cells p) m)) old)
        by_end (universal k' f e) a = absurd (not_both 23 zero k e refl a)
        by_end (short u h e) a = absurd (not_both 12 (picks_length p) k e refl a)
        by_end (many u h l e) a = absurd (not_both 20 zero k e refl a)
        by_end (nothing_found u h l n e) a = absurd (not_both 21 zero k e refl a)
        by_end (least_found u h l m i e) a = (accepted_eq k zero (sym a ∙ answer_of e), m, i, ap (λ (f : Found). f.picks) e)

    pub finds : (found.answer ≡ accepted zero) ↔ (Searched × ((P : List Tuple) × Solves c P))
    finds = (λ a. by_end ends a, λ h. from_end ends h.0 h.1)
      where
        by_end : Ends → found.answer ≡ accepted zero → Searched × ((P : List Tuple) × Solves c P)
        by_end (universal k f e) a = absurd (not_both 23 zero zero e refl a)
        by_end (short u h e) a = absurd (not_both 12 (picks_length p) zero e refl a)
        by_end (many u h l e) a = absurd (not_both 20 zero zero e refl a)
        by_end (nothing_found u h l n e) a = absurd (not_both 21 zero zero e refl a)
        by_end (least_found u h l m i e) a = ((u, h, l), least_solves m i)

        from_end : Ends → Searched → (P : List Tuple) × Solves c P → found.answer ≡ accepted zero
        from_end (universal k f e) q s = absurd (none_some (sym q.0 ∙ f))
        from_end (short u h e) q s = let r = q.1 in absurd (omega arith)
        from_end (many u h l e) q s = let r = q.2 in absurd (omega arith)
        from_end (nothing_found u h l n e) q s = absurd (n s.0 s.1)
        from_end (least_found u h l m i e) q s = answer_of e

    pub finds_none : (found.answer ≡ refused 21 zero) ↔ (Searched × ((P : List Tuple) → Solves c P → ⊥))
    finds_none = (λ a. by_end ends a, λ h. from_end ends h.0 h.1)
      where
        by_end : Ends → found.answer ≡ refused 21 zero → Searched × ((P : List Tuple) → Solves c P → ⊥)
        by_end (universal k f e) a = absurd (never 23 21 zero zero (λ n. omega arith) e refl a)
        by_end (short u h e) a = absurd (never 12 21 (picks_length p) zero (λ n. omega arith) e refl a)
        by_end (many u h l e) a = absurd (never 20 21 zero zero (λ n. omega arith) e refl a)
        by_end (nothing_found u h l n e) a = ((u, h, l), n)
        by_end (least_found u h l m i e) a = absurd (not_refused 21 zero e refl a)

        from_end : Ends → Searched → ((P : List Tuple) → Solves c P → ⊥) → found.answer ≡ refused 21 zero
        from_end (universal k f e) q s = absurd (none_some (sym q.0 ∙ f))
        from_end (short u h e) q s = let r = q.1 in absurd (omega arith)
        from_end (many u h l e) q s = let r = q.2 in absurd (omega arith)
        from_end (nothing_found u h l n e) q s = answer_of e
        from_end (least_found u h l m i e) q s = absurd (s (numbered (cells p) m) i.solves)

    pub finds_many : (found.answer ≡ refused 20 zero) ↔ (Plain × (picks_length p ≤ length old) × (cell_limit < length (cells p)))
    finds_many = (λ a. by_end ends a, λ h. from_end ends h.0 h.1 h.2)
      where
        by_end : Ends → found.answer ≡ refused 20 zero → Plain × (picks_length p ≤ length old) × (cell_limit < length (cells p))
        by_end (universal k f e) a = absurd (never 23 20 zero zero (λ n. omega arith) e refl a)
        by_end (short u h e) a = absurd (never 12 20 (picks_length p) zero (λ n. omega arith) e refl a)
        by_end (many u h l e) a = (u, h, l)
        by_end (nothing_found u h l n e) a = absurd (never 21 20 zero zero (λ n. omega arith) e refl a)
        by_end (least_found u h l m i e) a = absurd (not_refused 20 zero e refl a)

        from_end : Ends → Plain → picks_length p ≤ length old → cell_limit < length (cells p) → found.answer ≡ refused 20 zero
        from_end (universal k f e) v q s = absurd (none_some (sym v ∙ f))
        from_end (short u h e) v q s = absurd (omega arith)
        from_end (many u h l e) v q s = answer_of e
        from_end (nothing_found u h l n e) v q s = absurd (omega arith)
        from_end (least_found u h l m i e) v q s = absurd (omega arith)

    pub finds_short : Plain → length old < picks_length p → found.answer ≡ refused 12 (picks_length p)
    finds_short v h = from_end ends
      where
        from_end : Ends → found.answer ≡ refused 12 (picks_length p)
        from_end (universal k f e) = absurd (none_some (sym v ∙ f))
        from_end (short u h e) = answer_of e
        from_end (many u r l e) = absurd (omega arith)
        from_end (nothing_found u r l n e) = absurd (omega arith)
        from_end (least_found u r l m i e) = absurd (omega arith)

    -- with an `every` line it is 23, and nothing is written
    pub finds_every : (k : Relation) → c.question.every ≡ some k → found ≡ left 23
    finds_every k f = from_end ends
      where
        from_end : Ends → found ≡ left 23
        from_end (universal j g e) = e
        from_end (short u h e) = absurd (none_some (sym u ∙ f))
        from_end (many u r l e) = absurd (none_some (sym u ∙ f))
        from_end (nothing_found u r l n e) = absurd (none_some (sym u ∙ f))
        from_end (least_found u r l m i e) = absurd (none_some (sym u ∙ f))

-- ---- the call: a refusal leaves the buffer as it was; its length stays
module _ (L : CaseLimits) (question site old : List ℕ) where
  abbrev ready : Result (Ready (Unit {0}))
  ready = asked L question site nothing nothing without_every (λ p. room_for (picks_length p) (length old))

  pub find_refuse : (k place : ℕ) → (find L question site old).answer ≡ refused k place → In (ready_numbers ++ find_numbers) k × ((find L question site old).picks ≡ old)
  unfolding find found_from
  find_refuse k place e = from_this (found_words L question site (length old)) refl e
    where
      from_this : (m : Result (List ℕ)) → found_words L question site (length old) ≡ m → (found_from m old).answer ≡ refused k place → In (ready_numbers ++ find_numbers) k × ((found_from m old).picks ≡ old)
      from_this (refused j at) q e = (subst (In (ready_numbers ++ find_numbers)) (refused_number j k at place e) (words_refuse L question site (length old) j at q), refl)
      from_this (accepted w) q e = absurd (refused_accepted (sym e))

  pub find_length : length (find L question site old).picks ≡ length old
  unfolding find found_from found_words
  find_length = from_this (found_words L question site (length old)) fits
    where
      fits : (w : List ℕ) → found_words L question site (length old) ≡ accepted w → length w ≤ length old
      fits w e =
          let (r, a, f) = bind_parts ready _ w e in
          let (F, b, g) = bind_parts (least_picks r.case (cells r.problem)) _ w f in
          let q = has_room (picks_length r.problem) (length old) tt (Asked.parts L question site nothing nothing without_every (λ p. room_for (picks_length p) (length old)) r a).has_room in
          let l = (Lent.pick_words_lem r.problem F []).0 in
          let m = ap length (accepted_eq (pick_words r.problem F) w g) in
          omega arith

      from_this : (m : Result (List ℕ)) → ((w : List ℕ) → m ≡ accepted w → length w ≤ length old) → length (found_from m old).picks ≡ length old
      from_this (refused k place) h = refl
      from_this (accepted w) h = written_length w old (h w refl)
