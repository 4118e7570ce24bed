-- The problem of an accepted case is a good one.
use Prim.Native.Nat.{ℕ, zero, suc, ◌+◌, ◌-◌, ◌<◌, ◌≤◌}
use Rattle.std.specs.Prelude.{◌≡◌, ◌⊎◌, Bool, not, ◌&&◌, ◌||◌, leb, if◌then◌else◌}
use Rattle.std.proofs.Math.Path.{refl, sym, ap, subst}
use Rattle.std.proofs.Common.{ap₂, subst₂, ◌∙◌, zero-add, lt→ltb, T_not, leb→le}
use Rattle.std.proofs.Math.Logic.{inl, inr, ⊎_elim}
use Rattle.std.proofs.Math.Bool.{true, false}
use Rattle.std.proofs.Math.Option.{Option, none, some}
use mathlib.Core.List.Memᴰ
use mathlib.Core.List.{List, [], ◌∷◌, ◌++◌, map, append_assoc, Memᴰ}
use native.Mathlib.Omega.{arith}
use Rattle.std.proofs.Math.Nat.{add-zero}
use Rattle.std.proofs.Math.Dec.{T, ltb, eqb, eqb→eq}
use Rattle.std.proofs.Math.ListN.{length, get_or, length-append, length-map, get_or-append, get_or-eq_default}
use Rattle.std.proofs.Math.Seq.{get_or-append-add}
use borrow.Author.Tests.{ltb-true, ltb-false, le-ltb, lt-ltb}
use Rattle.definitions.specs.Lists.{all, any, same, option, is_some, listed, position}
use Rattle.definitions.specs.Sheet.Relations.{Kind, static, plain, Fun, PFun, Inj, PInj, universal, is_chosen, is_universal, is_function, is_total, Relation, Tuple, built_in, number_of, is_declared, built_in_holds, is_among}
use Rattle.definitions.specs.Sheet.Formula.{Quantified, variables_of, Formula, Formulas, literal, negation, implication, conjunction, disjunction, exists, forall, nil, cons, nesting, nesting_all, is_known, are_known, is_bound, are_new, is_scoped, are_scoped, sort_of}
use Rattle.definitions.specs.Sheet.Sheets.{Question, relations_of, relations, first_chosen, first_rel, every_number}
use Rattle.definitions.specs.Problem.Truth.{Case, holds}
use Rattle.definitions.specs.Problem.Tree.{Tree, Trees, leaf, forall_node, exists_node, end, ◌then◌, nest, leaf_of, as_is, negated, all_as_is, all_negated, totalities, joined, tree_of, nodes}
use Rattle.definitions.specs.Problem.Atoms.{Problem, problem_of, problem_with, relation_at, node_at}
use Rattle.laws.specs.Booleans.{T_and_l, T_and_r, T_of, T_or, and_T}
use Rattle.laws.specs.Lists.{all_at, get_or_mem}
use Rattle.laws.specs.Positions.{place, place_lt, position_place}
use Rattle.laws.specs.Tuples.{same_eq}
use Rattle.laws.specs.Numbers.{no_relation, chosen_early}
use Rattle.laws.specs.Reader.{Holds, Apart, Fit, EveryFits, SortsFit, unsorted_fits, Accepted, accepted_range}
use Rattle.meaning.specs.Meaning.{known_name}
use Rattle.meaning.specs.Parts.{Within, WithinAll, Fits, FitsAll, Here, IsNode}
use Rattle.meaning.specs.Means.{Good}

-- ---- the relations
unfoldable is_static : Kind → Bool
is_static static = true
is_static plain = false
is_static Fun = false
is_static PFun = false
is_static Inj = false
is_static PInj = false
is_static universal = false

static_kind : (k : Kind) → T (is_static k) → k ≡ static
unfolding is_static
static_kind static t = refl
static_kind plain t = absurd t
static_kind Fun t = absurd t
static_kind PFun t = absurd t
static_kind Inj t = absurd t
static_kind PInj t = absurd t
static_kind universal t = absurd t

static_free : (k : Kind) → k ≡ static → T (is_chosen k) → ⊥
unfolding is_chosen
static_free k e t = subst (λ (x : Kind). T (is_chosen x)) e t

static_nofun : (k : Kind) → k ≡ static → T (is_function k) → ⊥
unfolding is_function
static_nofun k e t = subst (λ (x : Kind). T (is_function x)) e t

pub static_early : (k : Kind) → k ≡ static → T (is_universal k) → ⊥
unfolding is_universal
static_early k e t = subst (λ (x : Kind). T (is_universal x)) e t

-- that of an `every` line is neither chosen nor fixed nor a function
universal_alone : (k : Kind) → k ≡ universal → T (is_universal k) × (is_chosen k ≡ false) × (is_function k ≡ false) × (k ≡ static → ⊥)
unfolding is_universal is_chosen is_function is_static
universal_alone k e = subst (λ (x : Kind). T (is_universal x) × (is_chosen x ≡ false) × (is_function x ≡ false) × (x ≡ static → ⊥)) (sym e) (tt, refl, refl, λ s. subst (λ (x : Kind). T (not (is_static x))) s tt)

built_in_static : (k : Relation) → Memᴰ k built_in → (k.kind ≡ static) × (1 ≤ k.arity) × (k.arity ≤ 3)
unfolding built_in all is_static
built_in_static k m =
    let q : T (is_static k.kind && leb 1 k.arity && leb k.arity 3) = all_at (λ (k : Relation). is_static k.kind && leb 1 k.arity && leb k.arity 3) built_in tt k m in
    let a = T_and_l (is_static k.kind && leb 1 k.arity) _ q in
    (static_kind k.kind (T_and_l (is_static k.kind) _ a), leb→le 1 k.arity (T_and_r (is_static k.kind) _ a), leb→le k.arity 3 (T_and_r (is_static k.kind && leb 1 k.arity) _ q))

built_in_unsorted : (k : Relation) → Memᴰ k built_in → (k.firsts ≡ 0) × (k.seconds ≡ 0)
unfolding built_in all
built_in_unsorted k m =
    let q : T (eqb k.firsts 0 && eqb k.seconds 0) = all_at (λ (k : Relation). eqb k.firsts 0 && eqb k.seconds 0) built_in tt k m in
    (eqb→eq k.firsts 0 (T_and_l (eqb k.firsts 0) _ q), eqb→eq k.seconds 0 (T_and_r (eqb k.firsts 0) _ q))

-- five are built in, so a question's own relations have the numbers from 5 on
pub first_rel_lem : first_rel ≡ 5
unfolding first_rel built_in
first_rel_lem = refl

pub first_chosen_lem : (q : Question) → first_chosen q ≡ 5 + length q.rels
unfolding first_chosen
first_chosen_lem q = ap (λ (x : ℕ). x + length q.rels) first_rel_lem

-- ---- what a literal says: a built-in one what it means, a `rel` literal that it is a fact, a `choose` literal that it is a pick
module _ (c : Case) (picks : List Tuple) where
  pub built_in_literal : (r : ℕ) (xs : List ℕ) → r < 5 → holds c picks r xs ≡ built_in_holds c.site.size r (get_or xs 0 0) (get_or xs 1 0)
  unfolding holds
  built_in_literal r xs h = let l : ltb r first_rel ≡ true = ap (ltb r) first_rel_lem ∙ lt-ltb r 5 h in rw l refl

  pub rel_literal : (r : ℕ) (xs : List ℕ) → 5 ≤ r → r < first_chosen c.question → holds c picks r xs ≡ is_among (record { relation = r; places = xs }) c.site.facts
  unfolding holds
  rel_literal r xs l h = let e : ltb r first_rel ≡ false = ap (ltb r) first_rel_lem ∙ le-ltb r 5 l in rw (e, lt-ltb r (first_chosen c.question) h) refl

  pub choose_literal : (r : ℕ) (xs : List ℕ) → first_chosen c.question ≤ r → holds c picks r xs ≡ is_among (record { relation = r; places = xs }) picks
  unfolding holds
  choose_literal r xs h =
      let f = first_chosen_lem c.question in
      let e : ltb r first_rel ≡ false = ap (ltb r) first_rel_lem ∙ le-ltb r 5 (omega arith) in
      rw (e, le-ltb r (first_chosen c.question) h) refl

total_function : (k : Kind) → T (is_total k) → T (is_function k)
unfolding is_total is_function
total_function static t = t
total_function plain t = t
total_function Fun t = tt
total_function PFun t = tt
total_function Inj t = tt
total_function PInj t = tt
total_function universal t = t

-- ---- a known literal's relation has its arity
known_at : (rs : List Relation) (r : List ℕ) (k : ℕ) → Apart rs → T (any (λ (q : Relation). same q.name r && eqb q.arity k) rs)
    → (place (λ (q : Relation). same q.name r) rs < length rs) × ((get_or rs (place (λ (q : Relation). same q.name r) rs) no_relation).arity ≡ k)
    × T (any (λ (q : Relation). same q.name r) rs)
unfolding any place Apart is_declared
known_at [] r k a t = absurd t
known_at (q ∷ rs) r k a t = by_test (same q.name r) refl t (known_at rs r k a.1)
  where
    by_test : (b : Bool) → same q.name r ≡ b → T ((b && eqb q.arity k) || any (λ (q : Relation). same q.name r && eqb q.arity k) rs)
        → (T (any (λ (q : Relation). same q.name r && eqb q.arity k) rs) → (place (λ (q : Relation). same q.name r) rs < length rs) × ((get_or rs (place (λ (q : Relation). same q.name r) rs) no_relation).arity ≡ k) × T (any (λ (q : Relation). same q.name r) rs))
        → ((if b then zero else suc (place (λ (q : Relation). same q.name r) rs)) < suc (length rs)) × ((get_or (q ∷ rs) (if b then zero else suc (place (λ (q : Relation). same q.name r) rs)) no_relation).arity ≡ k) × T (b || any (λ (q : Relation). same q.name r) rs)
    by_test true e t ih = (
      omega arith,
      ⊎_elim (λ u. eqb→eq q.arity k u)
          (λ u. absurd (T_not (any (λ (x : Relation). same x.name q.name) rs) a.0
          (subst (λ (z : List ℕ). T (any (λ (x : Relation). same x.name z) rs)) (sym (same_eq q.name r (T_of e))) (known_name rs r k u))))
          (T_or (eqb q.arity k) _ t),
      tt,
    )
    by_test false e t ih = let h = ih t in (omega (arith, h.0), h.1, h.2)

module _ (c : Case) (A : Accepted c) where
  abbrev q : Question
  q = c.question

  abbrev p : Problem
  p = problem_of c

  relations_are : p.relations ≡ relations_of c.question
  unfolding problem_of problem_with
  relations_are = refl

  relation_is : (r : ℕ) → relation_at p r ≡ get_or (relations_of c.question) r no_relation
  unfolding relation_at problem_of problem_with
  relation_is r = refl

  -- the built-in ones and the `rel`s, then the `choose`s, then that of an `every` line
  abbrev low : List Relation
  low = built_in ++ c.question.rels

  abbrev high : List Relation
  high = c.question.chosen ++ listed c.question.every

  low_first : relations_of c.question ≡ low ++ (c.question.chosen ++ listed c.question.every)
  unfolding relations_of relations
  low_first = sym (append_assoc built_in c.question.rels (c.question.chosen ++ listed c.question.every))

  -- what is known of the relation of an `every` line
  pub every_fits : (k : Relation) → Memᴰ k (listed c.question.every) → EveryFits k
  unfolding listed Holds
  every_fits k m = by_option c.question.every A.question_fits.every_fits m
    where
      by_option : (o : Option Relation) → Holds EveryFits o → Memᴰ k (listed o) → EveryFits k
      by_option none h m = absurd (Memᴰ.not-nil m)
      by_option (some e) h m = subst EveryFits (sym (Memᴰ.eq_of_singleton m)) h

  pub relation_cases : (k : Relation) → Memᴰ k (relations_of c.question) → (1 ≤ k.arity) × (k.arity ≤ 3) × ((k.kind ≡ static) ⊎ (Fit k.arity k.kind ⊎ EveryFits k))
  relation_cases k m = ⊎_elim
      (λ a. ⊎_elim (λ b. let h = built_in_static k b in (h.1, h.2, inl h.0)) (λ b. let h = A.question_fits.rels_fit k b in (h.few.0, h.few.1, inl h.is_static_lem)) (Memᴰ.append_cases built_in a))
      (λ a. ⊎_elim (λ b. let h = A.question_fits.chosen_fit k b in (h.few.0, h.few.1, inr (inl h))) (λ b. let h = every_fits k b in (h.few.0, omega (arith, h.few.1), inr (inr h))) (Memᴰ.append_cases c.question.chosen a))
      (Memᴰ.append_cases low (subst (λ (l : List Relation). Memᴰ k l) low_first m))

  -- the sorts of a relation's places, and so whatever its number
  pub sorts_fit : (k : Relation) → Memᴰ k (relations_of c.question) → SortsFit (length c.question.types) k
  sorts_fit k m = ⊎_elim
      (λ a. unsorted_fits (length c.question.types) k (⊎_elim (λ b. built_in_unsorted k b) (λ b. (A.question_fits.rels_fit k b).no_sorts) (Memᴰ.append_cases built_in a)))
      (λ a. ⊎_elim (λ b. A.question_fits.chosen_sorted k b) (λ b. unsorted_fits (length c.question.types) k (every_fits k b).no_sorts) (Memᴰ.append_cases c.question.chosen a))
      (Memᴰ.append_cases low (subst (λ (l : List Relation). Memᴰ k l) low_first m))

  pub relation_sorts : (r : ℕ) → SortsFit (length c.question.types) (relation_at p r)
  relation_sorts r = subst (SortsFit (length c.question.types)) (sym (relation_is r)) (by_test (ltb r (length (relations_of c.question))) refl)
    where
      by_test : (b : Bool) → ltb r (length (relations_of c.question)) ≡ b → SortsFit (length c.question.types) (get_or (relations_of c.question) r no_relation)
      by_test true e = sorts_fit _ (get_or_mem (relations_of c.question) r no_relation (ltb-true r _ e))
      by_test false e = subst (SortsFit (length c.question.types)) (sym (get_or-eq_default (relations_of c.question) no_relation (ltb-false r _ e))) (unsorted_fits (length c.question.types) no_relation (refl, refl))

  low_count : length low ≡ first_chosen c.question
  unfolding first_chosen first_rel
  low_count = length-append built_in c.question.rels

  pub count_relations : length p.relations ≡ first_chosen c.question + length c.question.chosen + length (listed c.question.every)
  count_relations =
      let a = ap length (relations_are ∙ low_first) in
      let b = length-append low (c.question.chosen ++ listed c.question.every) in
      let d = length-append c.question.chosen (listed c.question.every) in
      let e = low_count in
      omega arith

  high_at : (j : ℕ) → relation_at p (first_chosen c.question + j) ≡ get_or (c.question.chosen ++ listed c.question.every) j no_relation
  high_at j = relation_is (first_chosen c.question + j) ∙ ap₂ (λ (l : List Relation) (x : ℕ). get_or l (x + j) no_relation) low_first (sym low_count) ∙ get_or-append-add low (c.question.chosen ++ listed c.question.every) j no_relation

  pub chosen_at : (j : ℕ) → j < length c.question.chosen → relation_at p (first_chosen c.question + j) ≡ get_or c.question.chosen j no_relation
  chosen_at j h = high_at j ∙ get_or-append c.question.chosen (listed c.question.every) no_relation j h

  -- the relation of an `every` line
  pub every_at : (e : Relation) → c.question.every ≡ some e → (every_number c.question < length p.relations) × (relation_at p (every_number c.question) ≡ e) × T (is_universal e.kind)
  unfolding every_number listed
  every_at e h =
      let n = count_relations in
      let l : length (listed c.question.every) ≡ 1 = ap (λ (o : Option Relation). length (listed o)) h in
      let z : length c.question.chosen ≡ length c.question.chosen + 0 = omega arith in (
        omega arith,
        high_at (length c.question.chosen) ∙ ap (λ (j : ℕ). get_or (c.question.chosen ++ listed c.question.every) j no_relation) z ∙ get_or-append-add c.question.chosen (listed c.question.every) 0 no_relation ∙ ap (λ (o : Option Relation). get_or (listed o) 0 no_relation) h,
        (universal_alone e.kind (every_fits e (subst (λ (o : Option Relation). Memᴰ e (listed o)) (sym h) (Memᴰ.head refl))).is_universal_lem).0,
      )

  -- a relation past the fixed ones is chosen or that of an `every` line
  pub high_cases : (r : ℕ) → first_chosen c.question ≤ r → r < length p.relations → ((j : ℕ) × (r ≡ first_chosen c.question + j) × (j < length c.question.chosen)) ⊎ ((e : Relation) × (c.question.every ≡ some e) × (r ≡ every_number c.question))
  unfolding every_number listed
  high_cases r h l = by_option c.question.every refl (ltb (r - first_chosen c.question) (length c.question.chosen)) refl
    where
      by_option : (o : Option Relation) → c.question.every ≡ o → (b : Bool) → ltb (r - first_chosen c.question) (length c.question.chosen) ≡ b
          → ((j : ℕ) × (r ≡ first_chosen c.question + j) × (j < length c.question.chosen)) ⊎ ((e : Relation) × (o ≡ some e) × (r ≡ first_chosen c.question + length c.question.chosen))
      by_option o e true t = inl (r - first_chosen c.question, omega arith, ltb-true _ _ t)
      by_option none e false t =
          let n = count_relations in
          let z : length (listed c.question.every) ≡ 0 = ap (λ (o : Option Relation). length (listed o)) e in
          let g : length c.question.chosen ≤ r - first_chosen c.question = ltb-false _ _ t in
          absurd (omega arith)
      by_option (some k) e false t =
          let n = count_relations in
          let z : length (listed c.question.every) ≡ 1 = ap (λ (o : Option Relation). length (listed o)) e in
          let g : length c.question.chosen ≤ r - first_chosen c.question = ltb-false _ _ t in
          inr (k, refl, omega arith)

  low_static : (r : ℕ) → r < first_chosen c.question → (relation_at p r).kind ≡ static
  low_static r h =
      let l : r < length low = subst (λ (x : ℕ). r < x) (sym low_count) h in
      ap (λ (k : Relation). k.kind) (relation_is r ∙ ap (λ (l : List Relation). get_or l r no_relation) low_first ∙ get_or-append low (c.question.chosen ++ listed c.question.every) no_relation r l)
      ∙ kind_of_lem (get_or low r no_relation) (get_or_mem low r no_relation l)
    where
      kind_of_lem : (k : Relation) → Memᴰ k low → k.kind ≡ static
      kind_of_lem k m = ⊎_elim (λ b. (built_in_static k b).0) (λ b. (A.question_fits.rels_fit k b).is_static_lem) (Memᴰ.append_cases built_in m)

  -- a chosen relation's number
  pub chosen_index : (r : ℕ) → r < length p.relations → T (is_chosen (relation_at p r).kind) → (j : ℕ) × (r ≡ first_chosen c.question + j) × (j < length c.question.chosen)
  chosen_index r l t = by_test (ltb r (first_chosen c.question)) refl
    where
      by_test : (b : Bool) → ltb r (first_chosen c.question) ≡ b → (j : ℕ) × (r ≡ first_chosen c.question + j) × (j < length c.question.chosen)
      by_test true e = absurd (static_free (relation_at p r).kind (low_static r (ltb-true r _ e)) t)
      by_test false e = ⊎_elim (λ q. q) (λ q. let (k, i, n) = q in let (a, b, u) = every_at k i in absurd (chosen_early (relation_at p r).kind t (subst₂ (λ (x : ℕ) (y : Relation). T (is_universal y.kind)) (sym n) (sym (ap (relation_at p) n ∙ b)) u))) (high_cases r (ltb-false r _ e) l)

  pub chosen_is : (j : ℕ) → j < length c.question.chosen → (first_chosen c.question + j < length p.relations)
      × T (is_chosen (relation_at p (first_chosen c.question + j)).kind)
      × (T (is_function (relation_at p (first_chosen c.question + j)).kind) → (relation_at p (first_chosen c.question + j)).arity ≡ 2)
  chosen_is j h =
      let f = A.question_fits.chosen_fit (get_or c.question.chosen j no_relation) (get_or_mem c.question.chosen j no_relation h) in
      let e = chosen_at j h in
      let n = count_relations in
      (omega arith, subst (λ (k : Relation). T (is_chosen k.kind)) (sym e) f.chosen, subst (λ (k : Relation). T (is_function k.kind) → k.arity ≡ 2) (sym e) f.pairs)

  pub static_low : (r : ℕ) → r < length p.relations → (relation_at p r).kind ≡ static → r < first_chosen c.question
  static_low r l e = by_test (ltb r (first_chosen c.question)) refl
    where
      by_test : (b : Bool) → ltb r (first_chosen c.question) ≡ b → r < first_chosen c.question
      by_test true q = ltb-true r _ q
      by_test false q =
          absurd (⊎_elim
          (λ s. let (j, n, h) = s in static_free (relation_at p r).kind e (subst (λ (x : ℕ). T (is_chosen (relation_at p x).kind)) (sym n) (chosen_is j h).1))
          (λ s. let (k, i, n) = s in let (a, b, u) = every_at k i in static_early (relation_at p r).kind e (subst (λ (y : Relation). T (is_universal y.kind)) (sym (ap (relation_at p) n ∙ b)) u))
          (high_cases r (ltb-false r _ q) l))

  pairs : (r : ℕ) → r < length p.relations → T (is_function (relation_at p r).kind) → (relation_at p r).arity ≡ 2
  pairs r l t = ⊎_elim (λ e. absurd (static_nofun (relation_at p r).kind e t)) (λ f. ⊎_elim (λ g. g.pairs t) (λ g. absurd (subst T (universal_alone (relation_at p r).kind g.is_universal_lem).2 t)) f)
      (subst (λ (k : Relation). (k.kind ≡ static) ⊎ (Fit k.arity k.kind ⊎ EveryFits k)) (sym (relation_is r)) (relation_cases (get_or (relations_of c.question) r no_relation) (get_or_mem (relations_of c.question) r no_relation (subst (λ (rs : List Relation). r < length rs) relations_are l))).2)

  -- ---- levels
  leaf_levels : (scope vs : List (List ℕ)) → length scope ≤ 4 → T (all (is_bound scope) vs) → T (all (λ l. ltb l 4) (map (λ v. option (position (same v) scope) zero (λ k. k)) vs))
  unfolding all is_bound option
  leaf_levels scope [] h t = tt
  leaf_levels scope (v ∷ vs) h t =
      let b : T (any (same v) scope) = T_and_l (any (same v) scope) _ t in
      let l : place (same v) scope < length scope = place_lt (same v) scope b in
      and_T (ltb (option (position (same v) scope) zero (λ k. k)) 4) _ (rw (position_place (same v) scope b) (lt→ltb (place (same v) scope) 4 (omega arith))) (leaf_levels scope vs h (T_and_r (any (same v) scope) _ t))

  length_variables : (qs : List Quantified) → length (variables_of qs) ≡ length qs
  unfolding variables_of
  length_variables qs = length-map qs _

  nest_within : (quantifier : ℕ → ℕ → Tree → Tree) → ((d σ : ℕ) (t : Tree) → d < 4 → Within t → Within (quantifier d σ t)) → (qs : List Quantified) (level : ℕ) (t : Tree) → level + length qs ≤ 4 → Within t → Within (nest quantifier level (map (sort_of c.question.types) qs) t)
  unfolding nest
  nest_within quantifier h [] level t l w = w
  nest_within quantifier h (q ∷ qs) level t l w = h level _ _ (omega arith) (nest_within quantifier h qs (suc level) t (omega arith) w)

  nest_fits : (quantifier : ℕ → ℕ → Tree → Tree) → ((d σ : ℕ) (t : Tree) → Fits p t → Fits p (quantifier d σ t)) → (qs : List Quantified) (level : ℕ) (t : Tree) → Fits p t → Fits p (nest quantifier level (map (sort_of c.question.types) qs) t)
  unfolding nest
  nest_fits quantifier h [] level t w = w
  nest_fits quantifier h (q ∷ qs) level t w = h level _ _ (nest_fits quantifier h qs (suc level) t w)

  abbrev rs : List Relation
  rs = relations_of c.question

  mutual
    unfolding as_is negated all_as_is all_negated is_scoped are_scoped nesting nesting_all Within WithinAll leaf_of

    as_within : (f : Formula) (scope : List (List ℕ)) → T (is_scoped scope f) → length scope + nesting f ≤ 4 → Within (as_is (relations_of c.question) c.question.types scope f)
    as_within (literal r vs) scope s h = leaf_levels scope vs (omega arith) s
    as_within (negation f) scope s h = neg_within f scope s h
    as_within (implication f g) scope s h = (neg_within f scope (T_and_l (is_scoped scope f) _ s) (omega arith), (as_within g scope (T_and_r (is_scoped scope f) _ s) (omega arith), tt))
    as_within (conjunction fs) scope s h = all_within fs scope s h
    as_within (disjunction fs) scope s h = all_within fs scope s h
    as_within (exists qs f) scope s h = nest_within exists_node (λ d σ t l w. (l, w)) qs (length scope) _ (omega arith) (as_within f (scope ++ variables_of qs) (T_and_r (are_new scope (variables_of qs)) _ s) (let e = length-append scope (variables_of qs) in let i = length_variables qs in omega arith))
    as_within (forall qs f) scope s h = nest_within forall_node (λ d σ t l w. (l, w)) qs (length scope) _ (omega arith) (as_within f (scope ++ variables_of qs) (T_and_r (are_new scope (variables_of qs)) _ s) (let e = length-append scope (variables_of qs) in let i = length_variables qs in omega arith))

    neg_within : (f : Formula) (scope : List (List ℕ)) → T (is_scoped scope f) → length scope + nesting f ≤ 4 → Within (negated (relations_of c.question) c.question.types scope f)
    neg_within (literal r vs) scope s h = leaf_levels scope vs (omega arith) s
    neg_within (negation f) scope s h = as_within f scope s h
    neg_within (implication f g) scope s h = (as_within f scope (T_and_l (is_scoped scope f) _ s) (omega arith), (neg_within g scope (T_and_r (is_scoped scope f) _ s) (omega arith), tt))
    neg_within (conjunction fs) scope s h = allneg_within fs scope s h
    neg_within (disjunction fs) scope s h = allneg_within fs scope s h
    neg_within (exists qs f) scope s h = nest_within forall_node (λ d σ t l w. (l, w)) qs (length scope) _ (omega arith) (neg_within f (scope ++ variables_of qs) (T_and_r (are_new scope (variables_of qs)) _ s) (let e = length-append scope (variables_of qs) in let i = length_variables qs in omega arith))
    neg_within (forall qs f) scope s h = nest_within exists_node (λ d σ t l w. (l, w)) qs (length scope) _ (omega arith) (neg_within f (scope ++ variables_of qs) (T_and_r (are_new scope (variables_of qs)) _ s) (let e = length-append scope (variables_of qs) in let i = length_variables qs in omega arith))

    all_within : (fs : Formulas) (scope : List (List ℕ)) → T (are_scoped scope fs) → length scope + nesting_all fs ≤ 4 → WithinAll (all_as_is (relations_of c.question) c.question.types scope fs)
    all_within nil scope s h = tt
    all_within (cons f fs) scope s h = (as_within f scope (T_and_l (is_scoped scope f) _ s) (omega arith), all_within fs scope (T_and_r (is_scoped scope f) _ s) (omega arith))

    allneg_within : (fs : Formulas) (scope : List (List ℕ)) → T (are_scoped scope fs) → length scope + nesting_all fs ≤ 4 → WithinAll (all_negated (relations_of c.question) c.question.types scope fs)
    allneg_within nil scope s h = tt
    allneg_within (cons f fs) scope s h = (neg_within f scope (T_and_l (is_scoped scope f) _ s) (omega arith), allneg_within fs scope (T_and_r (is_scoped scope f) _ s) (omega arith))

  -- ---- literals
  leaf_fits : (b : Bool) (scope : List (List ℕ)) (r : List ℕ) (vs : List (List ℕ)) → T (any (λ (k : Relation). same k.name r && eqb k.arity (length vs)) (relations_of c.question)) → Fits p (leaf_of b (relations_of c.question) scope r vs)
  unfolding Fits leaf_of number_of option
  leaf_fits b scope r vs t =
      let k = known_at (relations_of c.question) r (length vs) A.question_fits.apart t in
      let e : position (λ (q : Relation). same q.name r) (relations_of c.question) ≡ some (place (λ (q : Relation). same q.name r) (relations_of c.question)) = position_place (λ (q : Relation). same q.name r) (relations_of c.question) k.2 in
      rw e (
        subst (λ (l : List Relation). place (λ (q : Relation). same q.name r) (relations_of c.question) < length l) (sym relations_are)
            k.0,
        length-map vs _ ∙ sym (ap (λ (x : Relation). x.arity)
            (relation_is (place (λ (q : Relation). same q.name r) (relations_of c.question))) ∙ k.1),
      )

  mutual
    unfolding as_is negated all_as_is all_negated is_known are_known Fits FitsAll

    as_fits : (f : Formula) (scope : List (List ℕ)) → T (is_known (relations_of c.question) f) → Fits p (as_is (relations_of c.question) c.question.types scope f)
    as_fits (literal r vs) scope k = leaf_fits true scope r vs k
    as_fits (negation f) scope k = neg_fits f scope k
    as_fits (implication f g) scope k = (neg_fits f scope (T_and_l (is_known (relations_of c.question) f) _ k), (as_fits g scope (T_and_r (is_known (relations_of c.question) f) _ k), tt))
    as_fits (conjunction fs) scope k = all_fits fs scope k
    as_fits (disjunction fs) scope k = all_fits fs scope k
    as_fits (exists qs f) scope k = nest_fits exists_node (λ d σ t w. w) qs (length scope) _ (as_fits f (scope ++ variables_of qs) k)
    as_fits (forall qs f) scope k = nest_fits forall_node (λ d σ t w. w) qs (length scope) _ (as_fits f (scope ++ variables_of qs) k)

    neg_fits : (f : Formula) (scope : List (List ℕ)) → T (is_known (relations_of c.question) f) → Fits p (negated (relations_of c.question) c.question.types scope f)
    neg_fits (literal r vs) scope k = leaf_fits false scope r vs k
    neg_fits (negation f) scope k = as_fits f scope k
    neg_fits (implication f g) scope k = (as_fits f scope (T_and_l (is_known (relations_of c.question) f) _ k), (neg_fits g scope (T_and_r (is_known (relations_of c.question) f) _ k), tt))
    neg_fits (conjunction fs) scope k = allneg_fits fs scope k
    neg_fits (disjunction fs) scope k = allneg_fits fs scope k
    neg_fits (exists qs f) scope k = nest_fits forall_node (λ d σ t w. w) qs (length scope) _ (neg_fits f (scope ++ variables_of qs) k)
    neg_fits (forall qs f) scope k = nest_fits exists_node (λ d σ t w. w) qs (length scope) _ (neg_fits f (scope ++ variables_of qs) k)

    all_fits : (fs : Formulas) (scope : List (List ℕ)) → T (are_known (relations_of c.question) fs) → FitsAll p (all_as_is (relations_of c.question) c.question.types scope fs)
    all_fits nil scope k = tt
    all_fits (cons f fs) scope k = (as_fits f scope (T_and_l (is_known (relations_of c.question) f) _ k), all_fits fs scope (T_and_r (is_known (relations_of c.question) f) _ k))

    allneg_fits : (fs : Formulas) (scope : List (List ℕ)) → T (are_known (relations_of c.question) fs) → FitsAll p (all_negated (relations_of c.question) c.question.types scope fs)
    allneg_fits nil scope k = tt
    allneg_fits (cons f fs) scope k = (neg_fits f scope (T_and_l (is_known (relations_of c.question) f) _ k), allneg_fits fs scope (T_and_r (is_known (relations_of c.question) f) _ k))

  -- ---- totalities
  totals_fit : (r : ℕ) (ks : List Relation) → ((j : ℕ) → j < length ks → (r + j < length p.relations) × (relation_at p (r + j) ≡ get_or ks j no_relation) × (T (is_function (get_or ks j no_relation).kind) → (get_or ks j no_relation).arity ≡ 2)) → FitsAll p (totalities r ks)
  unfolding totalities FitsAll Fits
  totals_fit r [] h = tt
  totals_fit r (k ∷ ks) h =
      by_test (is_total k.kind) refl (totals_fit (suc r) ks (λ j l. let g = h (suc j) (omega arith) in
      let e : r + suc j ≡ suc r + j = omega arith in subst (λ (x : ℕ). (x < length p.relations) × (relation_at p x ≡ get_or ks j no_relation)
      × (T (is_function (get_or ks j no_relation).kind) → (get_or ks j no_relation).arity ≡ 2)) e g))
    where
      by_test : (b : Bool) → is_total k.kind ≡ b → FitsAll p (totalities (suc r) ks) → FitsAll p (if b then forall_node 0 k.firsts (exists_node 1 k.seconds (leaf true r (0 ∷ 1 ∷ []))) then totalities (suc r) ks else totalities (suc r) ks)
      by_test true e f =
          let g = h 0 (omega arith) in
          let z : r + 0 ≡ r = add-zero r in
          ((subst (λ (x : ℕ). x < length p.relations) z g.0, sym (ap (λ (x : Relation). x.arity) (ap (relation_at p) (sym z) ∙ g.1) ∙ g.2 (total_function k.kind (T_of e)))), f)
      by_test false e f = f

  totals_within : (r : ℕ) (ks : List Relation) → WithinAll (totalities r ks)
  unfolding totalities WithinAll Within all
  totals_within r [] = tt
  totals_within r (k ∷ ks) = by_test (is_total k.kind) (totals_within (suc r) ks)
    where
      by_test : (b : Bool) → WithinAll (totalities (suc r) ks) → WithinAll (if b then forall_node 0 k.firsts (exists_node 1 k.seconds (leaf true r (0 ∷ 1 ∷ []))) then totalities (suc r) ks else totalities (suc r) ks)
      by_test true f = ((omega arith, (omega arith, tt)), f)
      by_test false f = f

  joined_within : (t : Tree) (us : Trees) → Within t → WithinAll us → Within (joined t us)
  unfolding joined Within WithinAll
  joined_within t end w v = w
  joined_within t (u then us) w v = (w, v)

  joined_fits : (t : Tree) (us : Trees) → Fits p t → FitsAll p us → Fits p (joined t us)
  unfolding joined Fits FitsAll
  joined_fits t end w v = w
  joined_fits t (u then us) w v = (w, v)

  joined_node : (t : Tree) (us : Trees) → IsNode p t → IsNode p (joined t us)
  unfolding joined IsNode
  joined_node t end w = w
  joined_node t (u then us) w = tt

  -- ---- the root is no literal
  no_arity : (rs : List Relation) (r : List ℕ) → ((k : Relation) → Memᴰ k rs → 1 ≤ k.arity) → T (any (λ (k : Relation). same k.name r && eqb k.arity 0) rs) → ⊥
  unfolding any
  no_arity [] r h t = t
  no_arity (k ∷ rs) r h t = ⊎_elim (λ u. let e = eqb→eq k.arity 0 (T_and_r (same k.name r) _ u) in let g = h k (Memᴰ.head refl) in omega arith) (λ u. no_arity rs r (λ x m. h x (Memᴰ.tail m)) u) (T_or (same k.name r && eqb k.arity 0) _ t)

  no_leaf : (r : List ℕ) (vs : List (List ℕ)) → T (is_scoped [] (literal r vs)) → T (is_known (relations_of c.question) (literal r vs)) → ⊥
  unfolding is_scoped is_known all is_bound any
  no_leaf r [] s k = no_arity (relations_of c.question) r (λ x m. (relation_cases x m).0) k
  no_leaf r (v ∷ vs) s k = s

  mutual
    unfolding as_is negated is_scoped is_known nest IsNode variables_of

    as_node : (f : Formula) → T (is_scoped [] f) → T (is_known (relations_of c.question) f) → IsNode p (as_is (relations_of c.question) c.question.types [] f)
    as_node (literal r vs) s k = absurd (no_leaf r vs s k)
    as_node (negation f) s k = neg_node f s k
    as_node (implication f g) s k = tt
    as_node (conjunction fs) s k = tt
    as_node (disjunction fs) s k = tt
    as_node (exists [] f) s k = as_node f (T_and_r (are_new [] []) _ s) k
    as_node (exists (q ∷ qs) f) s k = tt
    as_node (forall [] f) s k = as_node f (T_and_r (are_new [] []) _ s) k
    as_node (forall (q ∷ qs) f) s k = tt

    neg_node : (f : Formula) → T (is_scoped [] f) → T (is_known (relations_of c.question) f) → IsNode p (negated (relations_of c.question) c.question.types [] f)
    neg_node (literal r vs) s k = absurd (no_leaf r vs s k)
    neg_node (negation f) s k = as_node f s k
    neg_node (implication f g) s k = tt
    neg_node (conjunction fs) s k = tt
    neg_node (disjunction fs) s k = tt
    neg_node (exists [] f) s k = neg_node f (T_and_r (are_new [] []) _ s) k
    neg_node (exists (q ∷ qs) f) s k = tt
    neg_node (forall [] f) s k = neg_node f (T_and_r (are_new [] []) _ s) k
    neg_node (forall (q ∷ qs) f) s k = tt

  root_is : p.root ≡ tree_of c.question
  unfolding problem_of problem_with
  root_is = refl

  abbrev t₀ : Tree
  t₀ = as_is (relations_of c.question) c.question.types [] c.question.rule.formula

  abbrev us₀ : Trees
  us₀ = totalities (first_chosen c.question) c.question.chosen

  known : T (is_known (relations_of c.question) c.question.rule.formula)
  unfolding relations_of
  known = A.question_fits.rule_fits.known

  root_here : Here p 0 p.root
  unfolding problem_of problem_with node_at tree_of
  root_here = record {
    cover = λ j l. ap (λ (x : ℕ). get_or (nodes (tree_of c.question)) x (leaf true zero [])) (zero-add j);
    within = joined_within t₀ us₀ (as_within c.question.rule.formula [] A.question_fits.rule_fits.scoped (omega (arith, A.question_fits.rule_fits.nested))) (totals_within (first_chosen c.question) c.question.chosen);
    fits = joined_fits t₀ us₀ (as_fits c.question.rule.formula [] known) (totals_fit (first_chosen c.question) c.question.chosen (λ j l. let h = chosen_is j l in (h.0, chosen_at j l, subst (λ (k : Relation). T (is_function k.kind) → k.arity ≡ 2) (chosen_at j l) h.2)));
    inside = omega arith;
  }

  pub good : Good p
  unfolding problem_of problem_with tree_of is_some
  good = record {
    element = A.site_fits.some_element;
    ranges = refl;
    ranged = accepted_range c A;
    noded = refl;
    root_here = root_here;
    root_node = joined_node t₀ us₀ (as_node c.question.rule.formula A.question_fits.rule_fits.scoped known);
    pairs = pairs;
    high_chosen = λ r t. high_of r t (ltb r (first_chosen c.question)) refl;
    sized = refl;
    every_is = every_at;
    every_one = one_of;
  }
    where
      high_of : (r : ℕ) → T (is_chosen (relation_at p r).kind) → (b : Bool) → ltb r (first_chosen c.question) ≡ b → first_chosen c.question ≤ r
      high_of r t true e = absurd (static_free (relation_at p r).kind (low_static r (ltb-true r _ e)) t)
      high_of r t false e = ltb-false r _ e

      one_of : (r : ℕ) → r < length p.relations → T (is_universal (relation_at p r).kind) → (r ≡ every_number c.question) × T (is_some c.question.every)
      one_of r l u = by_test (ltb r (first_chosen c.question)) refl
        where
          by_test : (b : Bool) → ltb r (first_chosen c.question) ≡ b → (r ≡ every_number c.question) × T (is_some c.question.every)
          by_test true e = absurd (static_early (relation_at p r).kind (low_static r (ltb-true r _ e)) u)
          by_test false e = ⊎_elim
              (λ q. let (j, n, h) = q in absurd (chosen_early (relation_at p r).kind (subst (λ (x : ℕ). T (is_chosen (relation_at p x).kind)) (sym n) (chosen_is j h).1) u))
              (λ q. let (k, i, n) = q in (n, subst (λ (o : Option Relation). T (is_some o)) (sym i) tt))
              (high_cases r (ltb-false r _ e) l)
