-- An accepted case without a `type` line and without an `every` line, unground and grounded: steps reach the goal exactly if the plan that is written for them is one under
-- the unground domain.
use Prim.Native.Nat.{ℕ, zero, suc, ◌+◌, ◌-◌, ◌*◌, ◌/◌, ◌%◌, ◌^◌, ◌<◌}
use Rattle.std.specs.Prelude.{◌≡◌, ◌⊎◌, Bool, drop, if◌then◌else◌}
use Rattle.std.proofs.Math.Path.{refl, sym, ap, ap₂, subst}
use Rattle.std.proofs.Common.{◌∙◌, inl, inr, eqb→eq}
use Rattle.std.proofs.Math.Logic.{⊎_elim}
use Rattle.std.proofs.Math.Bool.{true, false, not, ◌&&◌, ◌||◌}
use Rattle.std.proofs.Math.Option.{Option, none, some}
use mathlib.Core.List.Memᴰ
use mathlib.Core.List.{List, [], ◌∷◌, ◌++◌, map, map-append, append_assoc, append-nil, Memᴰ}
use native.Mathlib.Omega.{arith}
use Rattle.std.proofs.Math.Numerals.{add-one}
use Rattle.std.proofs.Math.Dec.{T, eqb, ltb, eqb_refl}
use Rattle.std.proofs.Math.ListN.{length, get_or, take, length-append}
use Rattle.std.proofs.Math.Seq.{get_or-append_seam, get_or-append-add}
use borrow.Author.Tests.{eq-eqb}
use Rattle.definitions.specs.Lists.{all, any, filter, option, find, map_from, from, below, before}
use Rattle.definitions.specs.Refusal.{accepted, given}
use Rattle.definitions.specs.Sheet.Relations.{Relation, is_function, is_injective, built_in, built_in_holds}
use Rattle.definitions.specs.Sheet.Sheets.{relations, relations_of}
use Rattle.definitions.specs.Problem.Truth.{Case, holds}
use Rattle.definitions.specs.Problem.Tree.{Tree, Trees, leaf, forall_node, exists_node, and_node, or_node, Part, parts, node_sort, is_forall, free, tree_of, nodes}
use Rattle.definitions.specs.Problem.Atoms.{Problem, problem_of, problem_with, relation_at, node_at, places_of, rows_of, Atom, guess, proof, goal, tuple, not_tuple, free_domain, free_range, holds_node, marked, atom_number}
use Rattle.definitions.specs.Problem.Atoms.{tuple_holds, is_initial, State, initial}
use Rattle.definitions.specs.Problem.Actions.{Action, set, begin_proof, prove_and, prove_or, prove_exists, prove_forall, prove_goal, round_end, mark_in, mark_out, action_at, Values, with_value, values_at, part_atom, part_atoms, under_atom}
use Rattle.definitions.specs.Problem.Actions.{free_atoms, forall_needs, root_atom, needs, adds, removes}
use Rattle.definitions.specs.Problem.Strips.{may_take, after, reaches_from, reaches_goal}
use Rattle.definitions.specs.Reply.Lifted
use Rattle.definitions.specs.Reply.Page.{free_values}
use Rattle.definitions.specs.Reply.Pddl.{plan_step, plan_from, plan_of}
use Rattle.laws.specs.Booleans.{T_and_l, T_and_r, T_of, T_true, T_false, T_ext, and_T, or_l}
use Rattle.laws.specs.Lists.{mem_below, mem_filter, filter_mem, mem_map, map_mem, mem_flat, flat_mem, map_map, map_from_mem, mem_map_from}
use Rattle.laws.specs.Results.{accepted_eq, bind_parts, given_some}
use Rattle.laws.specs.Rows.{Below, below_cons, cons_below, length_places, places_below, below_append, places_snoc}
use Rattle.laws.specs.Members.{before_least, before_below}
use Rattle.laws.specs.Numbers.{no_relation, inj_fun, IsAtom, IsAction, atom_injective, action_is, set_below}
use Rattle.meaning.specs.Parts.{Bnd, bnd_with, Here, under_forall, under_exists, parts_and, parts_or}
use Rattle.laws.specs.Reader.{Accepted}
use Rattle.meaning.specs.Grounded.{good, count_relations, first_chosen_lem, built_in_literal}
use Rattle.meaning.specs.Means.{Good, here_as, values_bnd}
use Rattle.meaning.specs.Valid.{needs_valid, adds_valid, removes_valid, pair_of, free_cases}
use Rattle.meaning.specs.Sound.{initial_at}
use Rattle.demands.specs.Every.{no_round, no_mark_in, no_mark_out, no_marked}
use Rattle.meaning.specs.PddlWords.{name_by, name_by_lem, Named, named_listed, begin_listed, goal_listed, all_elements}
use Rattle.demands.specs.LiftedFacts
use Lifted.{Predicate, guessing, proving, reached, related, unrelated, free_first, free_second, proved, predicate_kind, Fact, Term, parameter, object, Pattern, same_fact, is_said, term_value, said_of}
use Lifted.{term_at, with_term}
use Lifted.{ActionName, set_name, begin_name, goal_name, and_name, exists_name, first_name, next_name, or_name, name_kind, name_subject, name_part, same_name, Schema, relation_in, node_in, last_in, successor}
use Lifted.{own_terms, part_pattern, part_patterns, under_pattern, used_up, set_schema, proof_schema, schema_of, node_names, action_names, schemas, tuples_over, each_said, relation_facts, facts_of}
use Lifted.{World, PlanStep, may_apply, applied, schema_named, is_plan_from, is_plan, node_places}
use LiftedFacts.{fact_of, fact_eq, fact_injective, same_fact_eq, same_fact_refl, said_mem, mem_said, term_value_lem, with_term_lem, part_same, parts_same}

-- ---- lists
take_map : {A B : Type 0} (f : A → B) (k : ℕ) (l : List A) → take k (map f l) ≡ map f (take k l)
take_map f zero l = refl
take_map f (suc k) [] = refl
take_map f (suc k) (x ∷ l) = ap (λ (m : List _). f x ∷ m) (take_map f k l)

drop_map : {A B : Type 0} (f : A → B) (k : ℕ) (l : List A) → drop k (map f l) ≡ map f (drop k l)
drop_map f zero l = refl
drop_map f (suc k) [] = refl
drop_map f (suc k) (x ∷ l) = drop_map f k l

pub all_map : {A B : Type 0} (w : B → Bool) (f : A → B) (l : List A) → all (λ x. w (f x)) l ≡ all w (map f l)
unfolding all
all_map w f [] = refl
all_map w f (x ∷ l) = ap (λ (b : Bool). w (f x) && b) (all_map w f l)

-- ---- an action is found by its name
pub same_name_eq : (a b : ActionName) → T (same_name a b) → a ≡ b
unfolding same_name
same_name_eq a b t =
    let s = T_and_l (eqb (name_kind a) (name_kind b) && eqb (name_subject a) (name_subject b)) _ t in
    let k = eqb→eq (name_kind a) (name_kind b) (T_and_l (eqb (name_kind a) (name_kind b)) _ s) in
    let u = eqb→eq (name_subject a) (name_subject b) (T_and_r (eqb (name_kind a) (name_kind b)) _ s) in
    let v = eqb→eq (name_part a) (name_part b) (T_and_r (eqb (name_kind a) (name_kind b) && eqb (name_subject a) (name_subject b)) _ t) in
    sym (name_by_lem a) ∙ ap₂ (λ (x y : ℕ). name_by x y (name_part a)) k u ∙ ap (name_by (name_kind b) (name_subject b)) v ∙ name_by_lem b

pub same_name_refl : (a : ActionName) → T (same_name a a)
unfolding same_name
same_name_refl a = and_T (eqb (name_kind a) (name_kind a) && eqb (name_subject a) (name_subject a)) _ (and_T (eqb (name_kind a) (name_kind a)) _ (eqb_refl (name_kind a)) (eqb_refl (name_subject a))) (eqb_refl (name_part a))

module _ (c : Case) where
  pub schema_name : (a : ActionName) → (schema_of c a).name ≡ a
  unfolding schema_of set_schema proof_schema
  schema_name (set_name r) = refl
  schema_name begin_name = refl
  schema_name goal_name = refl
  schema_name (and_name v) = refl
  schema_name (exists_name v) = refl
  schema_name (first_name v) = refl
  schema_name (next_name v) = refl
  schema_name (or_name v i) = refl

  named_at : (names : List ActionName) (a : ActionName) → Memᴰ a names → schema_named (map (schema_of c) names) a ≡ some (schema_of c a)
  unfolding schema_named find
  named_at [] a m = absurd (Memᴰ.not-nil m)
  named_at (b ∷ names) a m = by_test (same_name (schema_of c b).name a) refl (named_at names a) (Memᴰ.cases_cons m)
    where
      by_test : (t : Bool) → same_name (schema_of c b).name a ≡ t → (Memᴰ a names → find (λ (s : Schema). same_name s.name a) (map (schema_of c) names) ≡ some (schema_of c a)) → (a ≡ b) ⊎ Memᴰ a names
          → (if t then some (schema_of c b) else find (λ (s : Schema). same_name s.name a) (map (schema_of c) names)) ≡ some (schema_of c a)
      by_test true e r o = ap (λ (x : ActionName). some (schema_of c x)) (sym (schema_name b) ∙ same_name_eq _ a (T_of e))
      by_test false e r (inl q) = absurd (subst T (sym (ap (λ (x : ActionName). same_name x a) (schema_name b ∙ sym q)) ∙ e) (same_name_refl a))
      by_test false e r (inr q) = r q

-- ---- the parameters of an action stand for a step's objects
values_from : (pre xs ys : List ℕ) → map (λ i. get_or (pre ++ (xs ++ ys)) i 0) (from (length pre) (length xs)) ≡ xs
unfolding from
values_from pre [] ys = refl
values_from pre (x ∷ xs) ys =
    let e : length (pre ++ (x ∷ [])) ≡ suc (length pre) = length-append pre (x ∷ []) ∙ add-one (length pre) in
    ap₂ ◌∷◌ (get_or-append_seam pre x (xs ++ ys) 0)
    (ap₂ (λ (l : List ℕ) (k : ℕ). map (λ i. get_or l i 0) (from k (length xs))) (sym (append_assoc pre (x ∷ []) (xs ++ ys))) (sym e) ∙ values_from (pre ++ (x ∷ [])) xs ys)

own_values : (k : ℕ) (xs ys : List ℕ) → length xs ≡ k → map (term_value (xs ++ ys)) (map parameter (below k)) ≡ xs
unfolding term_value below
own_values k xs ys e = ap (λ (j : ℕ). map (term_value (xs ++ ys)) (map parameter (below j))) (sym e) ∙ map_map (term_value (xs ++ ys)) parameter (below (length xs)) ∙ values_from [] xs ys

own_plain : (k : ℕ) (xs : List ℕ) → length xs ≡ k → map (term_value xs) (map parameter (below k)) ≡ xs
own_plain k xs e = subst (λ (l : List ℕ). map (term_value l) (map parameter (below k)) ≡ xs) (append-nil xs) (own_values k xs [] e)

-- a world that has the elements after one another
abbrev pub Follows : ℕ → World → Type 0
Follows n w = (y : ℕ) → suc y < n → T (w (record { predicate = related successor; objects = y ∷ suc y ∷ [] }))

module _ (c : Case) (A : Accepted c) (plain : c.question.types ≡ []) (alone : c.question.every ≡ none) where
  abbrev p : Problem
  p = problem_of c

  abbrev n : ℕ
  n = (problem_of c).size

  G : Good (problem_of c)
  G = good c A

  relation_is : (r : ℕ) → relation_in c r ≡ relation_at p r
  unfolding problem_of problem_with relation_in relation_at
  relation_is r = refl

  node_is : (v : ℕ) → node_in c v ≡ node_at p v
  unfolding problem_of problem_with node_in node_at
  node_is v = refl

  last_is : last_in c ≡ n - 1
  unfolding problem_of problem_with last_in
  last_is = refl

  root_is : tree_of c.question ≡ p.root
  unfolding problem_of problem_with
  root_is = refl

  -- the values of a node's free variables at a row, and what is further given
  module _ (v row : ℕ) (t : Tree) (h : Here p v t) where
    abbrev objects : List ℕ
    objects = places_of n (length (free t)) row

    agree : (ys : List ℕ) (l : ℕ) → term_value (objects ++ ys) (term_at (free t) l) ≡ values_at n t row l
    unfolding values_at
    agree ys l = term_value_lem (free t) objects ys l (length_places n (length (free t)) row)

    agree_plain : (l : ℕ) → term_value objects (term_at (free t) l) ≡ values_at n t row l
    agree_plain l = subst (λ (xs : List ℕ). term_value xs (term_at (free t) l) ≡ values_at n t row l) (append-nil objects) (agree [] l)

    bounded : Bnd n (values_at n t row)
    bounded = values_bnd p G t row

    pub parts_at : map (said_of objects) (part_patterns (n - 1) v t) ≡ map (fact_of p) (part_atoms n p.range (values_at n t row) (parts v t))
    unfolding part_patterns part_atoms parts
    parts_at = by_tree t h
      where
        one : (w : ℕ) (u : Tree) → Here p w u → said_of objects (part_pattern (n - 1) (term_at (free t)) w u) ≡ fact_of p (part_atom n p.range (values_at n t row) w u)
        one w u g = part_same p G (all_elements c plain) objects (term_at (free t)) (values_at n t row) agree_plain bounded w u g

        by_tree : (u : Tree) → Here p v u → map (said_of objects) (map (λ (q : Part). part_pattern (n - 1) (term_at (free t)) q.node q.tree) (parts v u)) ≡ map (fact_of p) (part_atoms n p.range (values_at n t row) (parts v u))
        by_tree (leaf q r ls) g = refl
        by_tree (forall_node d s u) g = ap (λ (f : Fact). f ∷ []) (one (suc v) u (under_forall p v d s u g))
        by_tree (exists_node d s u) g = ap (λ (f : Fact). f ∷ []) (one (suc v) u (under_exists p v d s u g))
        by_tree (and_node ts) g = parts_same p G (all_elements c plain) objects (term_at (free t)) (values_at n t row) agree_plain bounded (suc v) ts (parts_and p v ts g)
        by_tree (or_node ts) g = parts_same p G (all_elements c plain) objects (term_at (free t)) (values_at n t row) agree_plain bounded (suc v) ts (parts_or p v ts g)

    -- the part under a quantifier, whose variable is a term y with value x
    module _ (ys : List ℕ) (y : Term) (x : ℕ) (is : term_value (places_of n (length (free t)) row ++ ys) y ≡ x) (small : x < n) where
      under : (ε : ℕ → Term) (e : Values) (d w : ℕ) (u : Tree) → ((l : ℕ) → term_value (objects ++ ys) (ε l) ≡ e l) → Bnd n e → Here p w u
          → said_of (objects ++ ys) (part_pattern (n - 1) (with_term ε d y) w u) ≡ fact_of p (part_atom n p.range (with_value e d x) w u)
      under ε e d w u a b g = part_same p G (all_elements c plain) (objects ++ ys) (with_term ε d y) (with_value e d x) (λ l. with_term_lem (objects ++ ys) ε e d y a l ∙ ap (λ (z : ℕ). with_value e d z l) is) (bnd_with n e d x b small) w u g

  -- a quantifier
  Quantifies : Tree → Type 0
  Quantifies (leaf q r ls) = ⊥
  Quantifies (forall_node d s t) = Unit {0}
  Quantifies (exists_node d s t) = Unit {0}
  Quantifies (and_node ts) = ⊥
  Quantifies (or_node ts) = ⊥

  under_at_lem : (v row : ℕ) (t : Tree) → Here p v t → Quantifies t → (ys : List ℕ) (y : Term) (x : ℕ) → term_value (places_of n (length (free t)) row ++ ys) y ≡ x → x < n
      → map (said_of (places_of n (length (free t)) row ++ ys)) (under_pattern (n - 1) v t y) ≡ fact_of p (under_atom n p.range v t row x) ∷ []
  unfolding under_pattern under_atom Quantifies
  under_at_lem v row (leaf q r ls) h k ys y x is small = absurd k
  under_at_lem v row (forall_node d s u) h k ys y x is small = ap (λ (f : Fact). f ∷ [])
      (under v row (forall_node d s u) h ys y x is small (term_at (free (forall_node d s u))) (values_at n (forall_node d s u) row) d (suc v) u (agree v row (forall_node d s u) h ys) (bounded v row (forall_node d s u) h) (under_forall p v d s u h))
  under_at_lem v row (exists_node d s u) h k ys y x is small = ap (λ (f : Fact). f ∷ [])
      (under v row (exists_node d s u) h ys y x is small (term_at (free (exists_node d s u))) (values_at n (exists_node d s u) row) d (suc v) u (agree v row (exists_node d s u) h ys) (bounded v row (exists_node d s u) h) (under_exists p v d s u h))
  under_at_lem v row (and_node ts) h k ys y x is small = absurd k
  under_at_lem v row (or_node ts) h k ys y x is small = absurd k

  -- a node's own fact
  own_at : (v row : ℕ) (t : Tree) (ys : List ℕ) → node_at p v ≡ t → is_forall t ≡ false → said_of (places_of n (length (free t)) row ++ ys) (record { predicate = proved v; terms = own_terms t }) ≡ fact_of p (holds_node v row)
  unfolding said_of fact_of own_terms node_places
  own_at v row t ys e f = fact_eq _ _ refl (own_values (length (free t)) (places_of n (length (free t)) row) ys (length_places n (length (free t)) row)
      ∙ ap (λ (k : ℕ). places_of n k row) (sym (ap node_places e ∙ rw f refl)))

  own_upto : (v row : ℕ) (t : Tree) (ys : List ℕ) (y : Term) (x : ℕ) → node_at p v ≡ t → is_forall t ≡ true → row < n ^ length (free t) → term_value (places_of n (length (free t)) row ++ ys) y ≡ x → x < n
      → said_of (places_of n (length (free t)) row ++ ys) (record { predicate = proved v; terms = own_terms t ++ (y ∷ []) }) ≡ fact_of p (holds_node v (row * n + x))
  unfolding said_of fact_of own_terms node_places
  own_upto v row t ys y x e f l is small = fact_eq _ _ refl (map-append (term_value (places_of n (length (free t)) row ++ ys)) (map parameter (below (length (free t)))) (y ∷ [])
      ∙ ap₂ (λ (zs : List ℕ) (z : ℕ). zs ++ (z ∷ [])) (own_values (length (free t)) (places_of n (length (free t)) row) ys (length_places n (length (free t)) row)) is
      ∙ sym (places_snoc n (length (free t)) row x G.element l small)
      ∙ ap (λ (k : ℕ). places_of n k (row * n + x)) (sym (ap node_places e ∙ rw f refl)))

  -- ---- an action with parameters does at objects what an action of the problem does
  pub record Does (s : Schema) (xs : List ℕ) (a : Action) : Type 0 where
    pub counted : length xs ≡ s.parameters
    pub small : Below n xs
    pub needed : (w : World) → Follows n w → all w (map (said_of xs) s.needed) ≡ all w (map (fact_of p) (needs p a))
    pub added : map (said_of xs) s.added ≡ map (fact_of p) (adds p a)
    pub removed : map (said_of xs) s.removed ≡ map (fact_of p) (removes p a)

  begin_does : Does (schema_of c begin_name) [] begin_proof
  unfolding schema_of all said_of fact_of needs adds removes
  begin_does = record { counted = refl; small = tt; needed = λ w f. refl; added = refl; removed = refl }

  goal_does : Does (schema_of c goal_name) [] prove_goal
  unfolding schema_of all fact_of adds removes needs root_atom said_of term_value
  goal_does = record {
    counted = refl;
    small = tt;
    needed = λ w f. ap (λ (x : Fact). all w (x ∷ []))
        (ap₂ (λ (k : ℕ) (t : Tree). said_of [] (part_pattern k (λ _. object zero) zero t)) last_is root_is ∙ part_same p G (all_elements c plain) [] (λ _. object zero) (λ _. zero) (λ l. refl) (λ l. G.element) zero p.root G.root_here);
    added = refl;
    removed = refl;
  }

  -- setting a tuple
  used_same : (r row : ℕ) (k : Relation) (xs : List ℕ) → relation_at p r ≡ k → xs ≡ places_of n k.arity row → (T (is_function k.kind) → xs ≡ row / n ∷ row % n ∷ [])
      → map (said_of xs) (used_up r k) ≡ map (fact_of p) (not_tuple r row ∷ free_atoms n k r row)
  unfolding used_up free_atoms said_of fact_of term_value
  used_same r row k xs e q f = ap₂ ◌∷◌
      (fact_eq _ _ refl (own_plain k.arity xs (ap length q ∙ length_places n k.arity row) ∙ q ∙ ap (λ (x : Relation). places_of n x.arity row) (sym e)))
      (map-append (said_of xs) firsts seconds ∙ ap₂ ◌++◌ (first_same (is_function k.kind) f) (second_same (is_injective k.kind) (λ t. f (inj_fun k.kind t)))
      ∙ sym (map-append (fact_of p) (if is_function k.kind then free_domain r (row / n) ∷ [] else []) (if is_injective k.kind then free_range r (row % n) ∷ [] else [])))
    where
      firsts : List Pattern
      firsts = if is_function k.kind then record { predicate = free_first r; terms = parameter 0 ∷ [] } ∷ [] else []

      seconds : List Pattern
      seconds = if is_injective k.kind then record { predicate = free_second r; terms = parameter 1 ∷ [] } ∷ [] else []

      first_same : (b : Bool) → (T b → xs ≡ row / n ∷ row % n ∷ []) → map (said_of xs) (if b then record { predicate = free_first r; terms = parameter 0 ∷ [] } ∷ [] else []) ≡ map (fact_of p) (if b then free_domain r (row / n) ∷ [] else [])
      first_same true g = ap (λ (z : List ℕ). record { predicate = free_first r; objects = get_or z 0 0 ∷ [] } ∷ []) (g tt)
      first_same false g = refl

      second_same : (b : Bool) → (T b → xs ≡ row / n ∷ row % n ∷ []) → map (said_of xs) (if b then record { predicate = free_second r; terms = parameter 1 ∷ [] } ∷ [] else []) ≡ map (fact_of p) (if b then free_range r (row % n) ∷ [] else [])
      second_same true g = ap (λ (z : List ℕ). record { predicate = free_second r; objects = get_or z 1 0 ∷ [] } ∷ []) (g tt)
      second_same false g = refl

  set_does : (r row : ℕ) → IsAction p (set r row) → Does (set_schema r (relation_at p r)) (places_of n (relation_at p r).arity row) (set r row)
  unfolding set_schema all needs adds removes said_of fact_of IsAction
  set_does r row v =
      let xs : List ℕ = places_of n (relation_at p r).arity row in
      let u = used_same r row (relation_at p r) xs refl refl (λ f. (pair_of p G r row v.0 (set_below p r row v) f).0) in
      record {
        counted = length_places n (relation_at p r).arity row;
        small = places_below n (relation_at p r).arity row G.element;
        needed = λ w f. ap (λ (fs : List Fact). all w (record { predicate = guessing; objects = [] } ∷ fs)) u;
        added = ap (λ (ys : List ℕ). record { predicate = related r; objects = ys } ∷ []) (own_plain (relation_at p r).arity xs (length_places n (relation_at p r).arity row));
        removed = u;
      }

  -- ---- proving something of a node
  module _ (v row : ℕ) (l : v < length p.node_list) (h : row < rows_of n (node_at p v)) where
    abbrev t : Tree
    t = node_at p v

    abbrev k : ℕ
    k = length (free (node_at p v))

    abbrev xs : List ℕ
    xs = places_of n (length (free (node_at p v))) row

    here : Here p v t
    here = here_as p G v t l refl

    low : row < n ^ k
    unfolding rows_of
    low = h

    long : length xs ≡ k
    long = length_places n k row

    below_xs : Below n xs
    below_xs = places_below n k row G.element

    own_here : (s : Tree) → t ≡ s → is_forall s ≡ false → said_of xs (record { predicate = proved v; terms = own_terms t }) ≡ fact_of p (holds_node v row)
    own_here s e f = subst (λ (ys : List ℕ). said_of ys (record { predicate = proved v; terms = own_terms t }) ≡ fact_of p (holds_node v row)) (append-nil xs) (own_at v row t [] refl (ap is_forall e ∙ f))

    abbrev said : Fact
    said = record { predicate = proving; objects = [] }

    and_does : (ts : Trees) → t ≡ and_node ts → Does (proof_schema (and_name v) v k (part_patterns (n - 1) v t) (own_terms t)) xs (prove_and v row)
    unfolding proof_schema all needs adds removes is_forall said_of fact_of
    and_does ts e = record {
      counted = long;
      small = below_xs;
      needed = λ w f. ap (λ (fs : List Fact). all w (said ∷ fs)) (parts_at v row t here);
      added = ap (λ (f : Fact). f ∷ []) (own_here (and_node ts) e refl);
      removed = refl;
    }

    or_does : (ts : Trees) (i : ℕ) → t ≡ or_node ts → Does (proof_schema (or_name v i) v k (take 1 (drop i (part_patterns (n - 1) v t))) (own_terms t)) xs (prove_or v row i)
    unfolding proof_schema all needs adds removes is_forall said_of fact_of
    or_does ts i e = record {
      counted = long;
      small = below_xs;
      needed = λ w f. ap (λ (fs : List Fact). all w (said ∷ fs)) (chosen (said_of xs) (part_patterns (n - 1) v t) ∙ ap (λ (fs : List Fact). take 1 (drop i fs)) (parts_at v row t here) ∙ sym (chosen (fact_of p) (part_atoms n p.range (values_at n t row) (parts v t))));
      added = ap (λ (f : Fact). f ∷ []) (own_here (or_node ts) e refl);
      removed = refl;
    }
      where
        chosen : {A : Type 0} (f : A → Fact) (l : List A) → map f (take 1 (drop i l)) ≡ take 1 (drop i (map f l))
        chosen f l = sym (ap (take 1) (drop_map f i l) ∙ take_map f 1 (drop i l))

    -- the objects after the free variables
    after_free : (y : ℕ) (ys : List ℕ) → term_value (xs ++ (y ∷ ys)) (parameter k) ≡ y
    unfolding term_value
    after_free y ys = ap (λ (j : ℕ). get_or (xs ++ (y ∷ ys)) j 0) (sym long) ∙ get_or-append_seam xs y ys 0

    after_next : (y z : ℕ) → term_value (xs ++ (y ∷ z ∷ [])) (parameter (suc k)) ≡ z
    unfolding term_value
    after_next y z = let e : suc k ≡ length xs + 1 = let q = long in omega arith in ap (λ (j : ℕ). get_or (xs ++ (y ∷ z ∷ [])) j 0) e ∙ get_or-append-add xs (y ∷ z ∷ []) 1 0

    exists_does : (d s : ℕ) (u : Tree) (x : ℕ) → t ≡ exists_node d s u → x < n → Does (proof_schema (exists_name v) v (suc k) (under_pattern (n - 1) v t (parameter k)) (own_terms t)) (xs ++ (x ∷ [])) (prove_exists v row x)
    unfolding proof_schema all needs adds removes is_forall said_of fact_of Quantifies
    exists_does d s u x e g = record {
      counted = length-append xs (x ∷ []) ∙ add-one (length xs) ∙ ap suc long;
      small = below_append n xs (x ∷ []) below_xs (cons_below n x [] g tt);
      needed = λ w f. ap (λ (fs : List Fact). all w (said ∷ fs)) (under_at_lem v row t here (subst Quantifies (sym e) tt) (x ∷ []) (parameter k) x (after_free x []) g);
      added = ap (λ (f : Fact). f ∷ []) (own_at v row t (x ∷ []) refl (ap is_forall e));
      removed = refl;
    }

    no_before : (s : ℕ) → before (p.range s) zero ≡ none
    no_before s = ap (λ (ms : List ℕ). before ms zero) (all_elements c plain s) ∙ before_least n

    its_before : (s y : ℕ) → suc y < n → before (p.range s) (suc y) ≡ some y
    its_before s y g = ap (λ (ms : List ℕ). before ms (suc y)) (all_elements c plain s) ∙ before_below n y (omega arith)

    first_does : (d s : ℕ) (u : Tree) → t ≡ forall_node d s u → Does (proof_schema (first_name v) v k (under_pattern (n - 1) v t (object zero)) (own_terms t ++ (object zero ∷ []))) xs (prove_forall v row zero)
    unfolding proof_schema all needs forall_needs adds removes is_forall said_of fact_of Quantifies term_value option
    first_does d s u e = record {
      counted = long;
      small = below_xs;
      needed = λ w f. ap (λ (fs : List Fact). all w (said ∷ fs)) (under_plain ∙ ap (λ (o : Option ℕ). fact_of p (under_atom n p.range v t row zero) ∷ map (fact_of p) (option o [] (λ y. holds_node v (row * n + y) ∷ []))) (sym (no_before (node_sort t))));
      added = ap (λ (f : Fact). f ∷ []) own_plainly;
      removed = refl;
    }
      where
        under_plain : map (said_of xs) (under_pattern (n - 1) v t (object zero)) ≡ fact_of p (under_atom n p.range v t row zero) ∷ []
        under_plain = subst (λ (ys : List ℕ). map (said_of ys) (under_pattern (n - 1) v t (object zero)) ≡ fact_of p (under_atom n p.range v t row zero) ∷ []) (append-nil xs)
            (under_at_lem v row t here (subst Quantifies (sym e) tt) [] (object zero) zero refl G.element)

        own_plainly : said_of xs (record { predicate = proved v; terms = own_terms t ++ (object zero ∷ []) }) ≡ fact_of p (holds_node v (row * n + zero))
        own_plainly = subst (λ (ys : List ℕ). said_of ys (record { predicate = proved v; terms = own_terms t ++ (object zero ∷ []) }) ≡ fact_of p (holds_node v (row * n + zero))) (append-nil xs)
            (own_upto v row t [] (object zero) zero refl (ap is_forall e) low refl G.element)

    next_does : (d s : ℕ) (u : Tree) (y : ℕ) → t ≡ forall_node d s u → suc y < n
        → Does (proof_schema (next_name v) v (suc (suc k)) (record { predicate = related successor; terms = parameter k ∷ parameter (suc k) ∷ [] } ∷ record {
          predicate = proved v;
          terms = own_terms t ++
              (parameter k ∷ []);
        } ∷ under_pattern (n - 1) v t (parameter (suc k))) (own_terms t ++ (parameter (suc k) ∷ [])))
        (xs ++ (y ∷ suc y ∷ [])) (prove_forall v row (suc y))
    unfolding proof_schema all needs forall_needs adds removes is_forall said_of fact_of Quantifies option
    next_does d s u y e g = record {
      counted = length-append xs (y ∷ suc y ∷ []) ∙ ap (λ (j : ℕ). j + 2) long ∙ omega arith;
      small = below_append n xs (y ∷ suc y ∷ []) below_xs (cons_below n y (suc y ∷ []) (omega arith) (cons_below n (suc y) [] g tt));
      needed = λ w f. needed_next w f;
      added = ap (λ (f : Fact). f ∷ []) (own_upto v row t (y ∷ suc y ∷ []) (parameter (suc k)) (suc y) refl (ap is_forall e) low (after_next y (suc y)) g);
      removed = refl;
    }
      where
        objects : List ℕ
        objects = xs ++ (y ∷ suc y ∷ [])

        follows : said_of objects (record { predicate = related successor; terms = parameter k ∷ parameter (suc k) ∷ [] }) ≡ record { predicate = related successor; objects = y ∷ suc y ∷ [] }
        follows = fact_eq _ _ refl (ap₂ (λ (a b : ℕ). a ∷ b ∷ []) (after_free y (suc y ∷ [])) (after_next y (suc y)))

        own_y : said_of objects (record { predicate = proved v; terms = own_terms t ++ (parameter k ∷ []) }) ≡ fact_of p (holds_node v (row * n + y))
        own_y = own_upto v row t (y ∷ suc y ∷ []) (parameter k) y refl (ap is_forall e) low (after_free y (suc y ∷ [])) (omega arith)

        under_z : map (said_of objects) (under_pattern (n - 1) v t (parameter (suc k))) ≡ fact_of p (under_atom n p.range v t row (suc y)) ∷ []
        under_z = under_at_lem v row t here (subst Quantifies (sym e) tt) (y ∷ suc y ∷ []) (parameter (suc k)) (suc y) (after_next y (suc y)) g

        swap : (a b q : Bool) → q ≡ true → (q && (a && (b && true))) ≡ (b && (a && true))
        swap true true q h = rw h refl
        swap true false q h = rw h refl
        swap false true q h = rw h refl
        swap false false q h = rw h refl

        needed_next : (w : World) → Follows n w → all w (said ∷ said_of objects (record { predicate = related successor; terms = parameter k ∷ parameter (suc k) ∷ [] }) ∷ said_of objects
            (record { predicate = proved v; terms = own_terms t ++ (parameter k ∷ []) }) ∷ map (said_of objects) (under_pattern (n - 1) v t (parameter (suc k))))
            ≡ all w (map (fact_of p) (proof ∷ under_atom n p.range v t row (suc y) ∷ option (before (p.range (node_sort t)) (suc y)) [] (λ y. holds_node v (row * n + y) ∷ [])))
        needed_next w f =
            ap₂ (λ (x z : Fact). all w (said ∷ x ∷ z ∷ map (said_of objects) (under_pattern (n - 1) v t (parameter (suc k))))) follows own_y
            ∙ ap (λ (fs : List Fact). all w (said ∷ record { predicate = related successor; objects = y ∷ suc y ∷ [] } ∷ fact_of p (holds_node v (row * n + y)) ∷ fs)) under_z
            ∙ ap (λ (b : Bool). w said && b) (swap (w (fact_of p (holds_node v (row * n + y)))) (w (fact_of p (under_atom n p.range v t row (suc y)))) (w (record { predicate = related successor; objects = y ∷ suc y ∷ [] })) (T_true _ (f y g)))
            ∙ ap (λ (o : Option ℕ). all w (said ∷ fact_of p (under_atom n p.range v t row (suc y)) ∷ map (fact_of p) (option o [] (λ y. holds_node v (row * n + y) ∷ [])))) (sym (its_before (node_sort t) y g))

  -- ---- every action of the problem, and the name and the objects that its step has
  range_small : (s x : ℕ) → Memᴰ x (p.range s) → x < n
  range_small s x m = (G.ranged s).small x m

  at_node : {xs : List ℕ} {a : Action} (v : ℕ) (make : ℕ → Tree → Schema) → Does (make (n - 1) (node_at p v)) xs a → Does (make (last_in c) (node_in c v)) xs a
  at_node {xs} {a} v make d = subst (λ (s : Schema). Does s xs a) (ap₂ make (sym last_is) (sym (node_is v))) d

  pub does : (a : Action) → IsAction p a → Does (schema_of c (plan_step p a).name) (plan_step p a).objects a
  unfolding IsAction plan_step free_values schema_of
  does (set r row) v = subst (λ (k : Relation). Does (set_schema r k) (places_of n (relation_at p r).arity row) (set r row)) (sym (relation_is r)) (set_does r row v)
  does begin_proof v = begin_does
  does (prove_and v row) (l, h, (ts, e)) = at_node v (λ j u. proof_schema (and_name v) v (length (free u)) (part_patterns j v u) (own_terms u)) (and_does v row l h ts e)
  does (prove_or v row i) (l, h, (ts, e, g)) = at_node v (λ j u. proof_schema (or_name v i) v (length (free u)) (take 1 (drop i (part_patterns j v u))) (own_terms u)) (or_does v row l h ts i e)
  does (prove_exists v row x) (l, h, (d, s, u, e, g)) = at_node v (λ j u. proof_schema (exists_name v) v (suc (length (free u))) (under_pattern j v u (parameter (length (free u)))) (own_terms u)) (exists_does v row l h d s u x e (range_small s x g))
  does (prove_forall v row zero) (l, h, (d, s, u, e, g)) = at_node v (λ j u. proof_schema (first_name v) v (length (free u)) (under_pattern j v u (object zero)) (own_terms u ++ (object zero ∷ []))) (first_does v row l h d s u e)
  does (prove_forall v row (suc y)) (l, h, (d, s, u, e, g)) = at_node v
      (λ j u. proof_schema (next_name v) v (suc (suc (length (free u)))) (record {
        predicate = related successor;
        terms = parameter (length (free u)) ∷ parameter (suc (length
            (free u))) ∷ [];
      } ∷ record { predicate = proved v; terms = own_terms u ++ (parameter (length (free u)) ∷ []) } ∷ under_pattern j v u (parameter (suc (length (free u))))) (own_terms u ++ (parameter (suc (length (free u))) ∷ [])))
      (next_does v row l h d s u y e (range_small s (suc y) g))
  does prove_goal v = goal_does
  does round_end v = absurd (no_round c A alone v)
  does (mark_in r row) v = absurd (no_mark_in c A alone r row v)
  does (mark_out r row) v = absurd (no_mark_out c A alone r row v)

  relations_are : p.relations ≡ relations_of c.question
  unfolding problem_of problem_with
  relations_are = refl

  nodes_are : p.node_list ≡ nodes (tree_of c.question)
  unfolding problem_of problem_with
  nodes_are = refl

  -- its name is one of the domain's
  pub listed : (a : Action) → IsAction p a → Memᴰ (plan_step p a).name (action_names c)
  unfolding IsAction plan_step node_names Named problem_of problem_with relation_at relation_in node_at node_in
  listed (set r row) v = named_listed c (set_name r) (v.0, v.1)
  listed begin_proof v = begin_listed c
  listed (prove_and v row) (l, h, (ts, e)) = named_listed c (and_name v) (l, (ts, e))
  listed (prove_or v row i) (l, h, (ts, e, g)) = named_listed c (or_name v i) (l, (ts, e, g))
  listed (prove_exists v row x) (l, h, (d, s, u, e, g)) = named_listed c (exists_name v) (l, (d, s, u, e))
  listed (prove_forall v row zero) (l, h, (d, s, u, e, g)) = named_listed c (first_name v) (l, (d, s, u, e))
  listed (prove_forall v row (suc y)) (l, h, (d, s, u, e, g)) = named_listed c (next_name v) (l, (d, s, u, e))
  listed prove_goal v = goal_listed c
  listed round_end v = goal_listed c
  listed (mark_in r row) v = goal_listed c
  listed (mark_out r row) v = goal_listed c

  -- ---- a state and a world that agree on every atom, and stay so from step to step
  abbrev pub Agrees : State → World → Type 0
  Agrees s w = (x : Atom) → IsAtom p x → s (atom_number p x) ≡ w (fact_of p x)

  same_number : (x y : Atom) → IsAtom p x → IsAtom p y → eqb (atom_number p x) (atom_number p y) ≡ same_fact (fact_of p x) (fact_of p y)
  same_number x y v w = T_ext (eqb (atom_number p x) (atom_number p y)) (same_fact (fact_of p x) (fact_of p y))
      (λ t. subst (λ (z : Atom). T (same_fact (fact_of p x) (fact_of p z))) (atom_injective p x y v w (eqb→eq _ _ t)) (same_fact_refl (fact_of p x)))
      (λ t. subst (λ (z : Atom). T (eqb (atom_number p x) (atom_number p z))) (fact_injective p G.element (no_marked c A alone) x y v w (same_fact_eq _ _ t)) (eqb_refl (atom_number p x)))

  any_said : (x : Atom) (l : List Atom) → IsAtom p x → ((y : Atom) → Memᴰ y l → IsAtom p y) → any (eqb (atom_number p x)) (map (atom_number p) l) ≡ is_said (fact_of p x) (map (fact_of p) l)
  unfolding any is_said
  any_said x [] v h = refl
  any_said x (y ∷ l) v h = ap₂ ◌||◌ (same_number x y v (h y (Memᴰ.head refl))) (any_said x l v (λ z m. h z (Memᴰ.tail m)))

  all_said : (s : State) (w : World) → Agrees s w → (l : List Atom) → ((y : Atom) → Memᴰ y l → IsAtom p y) → all (λ x. s (atom_number p x)) l ≡ all w (map (fact_of p) l)
  unfolding all
  all_said s w g [] h = refl
  all_said s w g (y ∷ l) h = ap₂ ◌&&◌ (g y (h y (Memᴰ.head refl))) (all_said s w g l (λ z m. h z (Memᴰ.tail m)))

  -- what is removed is never a tuple
  kind_is : (y z : Atom) (k : ℕ) → y ≡ z → predicate_kind (fact_of p z).predicate ≡ k → predicate_kind (fact_of p y).predicate ≡ 3 → k ≡ 3
  kind_is y z k q h e = sym h ∙ ap (λ (x : Atom). predicate_kind (fact_of p x).predicate) (sym q) ∙ e

  pub no_tuple : (a : Action) → IsAction p a → (y : Atom) → Memᴰ y (removes p a) → predicate_kind (fact_of p y).predicate ≡ 3 → ⊥
  unfolding removes fact_of predicate_kind
  no_tuple (set r row) v y m e = ⊎_elim (λ q. let z = kind_is y (not_tuple r row) 4 q refl e in omega arith)
      (λ q. ⊎_elim (λ f. let z = kind_is y (free_domain r (row / n)) 5 f.1 refl e in omega arith) (λ f. let z = kind_is y (free_range r (row % n)) 6 f.1 refl e in omega arith) (free_cases p G n r row (relation_at p r) y q)) (Memᴰ.cases_cons m)
  no_tuple begin_proof v y m e = let z = kind_is y guess 0 (Memᴰ.eq_of_singleton m) refl e in omega arith
  no_tuple (prove_and k row) v y m e = absurd (Memᴰ.not-nil m)
  no_tuple (prove_or k row i) v y m e = absurd (Memᴰ.not-nil m)
  no_tuple (prove_exists k row x) v y m e = absurd (Memᴰ.not-nil m)
  no_tuple (prove_forall k row z) v y m e = absurd (Memᴰ.not-nil m)
  no_tuple prove_goal v y m e = absurd (Memᴰ.not-nil m)
  no_tuple round_end v y m e = no_round c A alone v
  no_tuple (mark_in r row) v y m e = no_mark_in c A alone r row v
  no_tuple (mark_out r row) v y m e = no_mark_out c A alone r row v

  module _ (s : State) (w : World) (a : Action) (v : IsAction p a) where
    abbrev schema : Schema
    schema = schema_of c (plan_step p a).name

    abbrev args : List ℕ
    args = (plan_step p a).objects

    may_same : Agrees s w → Follows n w → may_take p s a ≡ may_apply n w schema args
    unfolding may_take may_apply
    may_same g f =
        let d = does a v in
        let e : eqb (length args) schema.parameters ≡ true = eq-eqb _ _ d.counted in
        let b : all (λ x. ltb x n) args ≡ true = T_true _ d.small in
        all_said s w g (needs p a) (needs_valid p G a v) ∙ sym (d.needed w f) ∙ sym (all_map w (said_of args) schema.needed) ∙ sym (rw (e, b) refl)

    after_same : Agrees s w → Agrees (after p s a) (applied w schema args)
    unfolding after applied
    after_same g x u =
        let d = does a v in
        let m : any (eqb (atom_number p x)) (map (atom_number p) (removes p a)) ≡ is_said (fact_of p x) (map (said_of args) schema.removed) = any_said x (removes p a) u (removes_valid p G a v) ∙ ap (is_said (fact_of p x)) (sym d.removed) in
        let t : any (eqb (atom_number p x)) (map (atom_number p) (adds p a)) ≡ is_said (fact_of p x) (map (said_of args) schema.added) = any_said x (adds p a) u (adds_valid p G a v) ∙ ap (is_said (fact_of p x)) (sym d.added) in
        ap₂ ◌||◌ (ap₂ (λ (b q : Bool). b && not q) (g x u) m) t

    follows_same : Follows n w → Follows n (applied w schema args)
    unfolding applied predicate_kind
    follows_same f y h =
        let d = does a v in
        let x : Fact = record { predicate = related successor; objects = y ∷ suc y ∷ [] } in
        let none_removed : is_said x (map (said_of args) schema.removed) ≡ false = T_false _ (λ t.
        let (b, m, e) = map_mem (fact_of p) (removes p a) x (said_mem x _ (subst (λ (fs : List Fact). T (is_said x fs)) d.removed t)) in
        no_tuple a v b m (ap (λ (z : Fact). predicate_kind z.predicate) (sym e))) in
        or_l (w x && not (is_said x (map (said_of args) schema.removed))) _ (rw none_removed (and_T (w x) true (f y h) tt))

  -- ---- steps, and the plan that is written for them
  pub plan_parts : (k i : ℕ) (ks : List ℕ) (plan : List PlanStep) → plan_from p i (k ∷ ks) ≡ accepted plan → (a : Action) × (action_at p k ≡ some a) × ((rest : List PlanStep) × (plan_from p (suc i) ks ≡ accepted rest) × (plan_step p a ∷ rest ≡ plan))
  unfolding plan_from
  plan_parts k i ks plan e =
      let (a, q, e₁) = bind_parts (given (action_at p k) 13 i) _ plan e in
      let (rest, r, e₂) = bind_parts (plan_from p (suc i) ks) _ plan e₁ in
      (a, given_some (action_at p k) 13 i a q, (rest, r, accepted_eq _ plan e₂))

  reaches_same : (ks : List ℕ) (i : ℕ) (s : State) (w : World) (plan : List PlanStep) → Agrees s w → Follows n w → plan_from p i ks ≡ accepted plan → reaches_from p s ks ≡ is_plan_from (schemas c) n w plan
  unfolding reaches_from is_plan_from schemas plan_from fact_of IsAtom option
  reaches_same [] i s w plan g f e = subst (λ (steps : List PlanStep). s (atom_number p goal) ≡ is_plan_from (schemas c) n w steps) (accepted_eq [] plan e) (g goal tt)
  reaches_same (k ∷ ks) i s w plan g f e =
      let (a, q, (rest, r, t)) = plan_parts k i ks plan e in
      let v = action_is p k a q in
      let x = named_at c (action_names c) (plan_step p a).name (listed a v) in
      ap (λ (o : Option Action). option o false (λ a. may_take p s a && reaches_from p (after p s a) ks)) q
      ∙ ap₂ ◌&&◌ (may_same s w a v g f) (reaches_same ks (suc i) (after p s a) (applied w (schema_of c (plan_step p a).name) (plan_step p a).objects) rest (after_same s w a v g) (follows_same s w a v f) r)
      ∙ sym (ap (λ (o : Option Schema). option o false (λ s. may_apply n w s (plan_step p a).objects && is_plan_from (map (schema_of c) (action_names c)) n (applied w s (plan_step p a).objects) rest)) x)
      ∙ ap (is_plan_from (schemas c) n w) t

  -- ---- what is so at the start is what is initially true
  mem_tuples : (xs : List ℕ) → Below n xs → Memᴰ xs (tuples_over n (length xs))
  unfolding tuples_over
  mem_tuples [] b = Memᴰ.head refl
  mem_tuples (x ∷ xs) b = let q = below_cons n x xs b in mem_flat (λ x. map (λ xs. x ∷ xs) (tuples_over n (length xs))) (below n) x (x ∷ xs) (mem_below n x q.0) (mem_map (λ xs. x ∷ xs) (tuples_over n (length xs)) xs (mem_tuples xs q.1))

  -- what a fact that is so at the start says
  unfoldable pub Starts : Fact → Type 0
  Starts f = by f.predicate
    where
      by : Predicate → Type 0
      by guessing = Unit {0}
      by proving = ⊥
      by reached = ⊥
      by (related r) = T (holds c [] r f.objects)
      by (unrelated r) = T (not (holds c [] r f.objects))
      by (free_first r) = Unit {0}
      by (free_second r) = Unit {0}
      by (proved v) = ⊥

  pub each_said_lem : (a : Predicate) (xss : List (List ℕ)) (f : Fact) → Memᴰ f (each_said a xss) → (xs : List ℕ) × Memᴰ xs xss × (f ≡ record { predicate = a; objects = xs })
  unfolding each_said
  each_said_lem a xss f m = map_mem (λ xs. record { predicate = a; objects = xs }) xss f m

  said_each : (a : Predicate) (xss : List (List ℕ)) (xs : List ℕ) → Memᴰ xs xss → Memᴰ (record { predicate = a; objects = xs }) (each_said a xss)
  unfolding each_said
  said_each a xss xs m = mem_map (λ xs. record { predicate = a; objects = xs }) xss xs m

  relation_starts : (r : ℕ) (k : Relation) (f : Fact) → Memᴰ f (relation_facts c r k) → Starts f
  unfolding relation_facts Starts
  relation_starts r k f m = ⊎_elim
      (λ q. let (xs, i, e) = each_said_lem (related r) _ f q in subst Starts (sym e) (filter_mem (holds c [] r) (tuples_over c.site.size k.arity) xs i).1)
      (λ m₂. ⊎_elim
      (λ q. let (xs, i, e) = each_said_lem (unrelated r) _ f q in subst Starts (sym e) (filter_mem (λ xs. not (holds c [] r xs)) (tuples_over c.site.size k.arity) xs i).1)
      (λ m₃. ⊎_elim (λ q. free_starts (is_function k.kind) (free_first r) (λ xs. tt) q) (λ q. free_starts (is_injective k.kind) (free_second r) (λ xs. tt) q)
      (Memᴰ.append_cases (if is_function k.kind then each_said (free_first r) (tuples_over c.site.size 1) else []) m₃))
      (Memᴰ.append_cases (each_said (unrelated r) (filter (λ xs. not (holds c [] r xs)) (tuples_over c.site.size k.arity))) m₂))
      (Memᴰ.append_cases (each_said (related r) (filter (holds c [] r) (tuples_over c.site.size k.arity))) m)
    where
      free_starts : (b : Bool) (a : Predicate) → ((xs : List ℕ) → Starts (record { predicate = a; objects = xs })) → Memᴰ f (if b then each_said a (tuples_over c.site.size 1) else []) → Starts f
      free_starts true a h q = let (xs, i, e) = each_said_lem a _ f q in subst Starts (sym e) (h xs)
      free_starts false a h q = absurd (Memᴰ.not-nil q)

  pub starts : (f : Fact) → Memᴰ f (facts_of c) → Starts f
  unfolding facts_of Starts
  starts f m = ⊎_elim (λ e. subst Starts (sym e) tt)
      (λ q. let (fs, i, j) = flat_mem (λ (fs : List Fact). fs) (map_from (relation_facts c) zero (relations_of c.question)) f q in
      let (r, l, e) = map_from_mem (relation_facts c) zero (relations_of c.question) no_relation fs i in
      relation_starts (zero + r) (get_or (relations_of c.question) r no_relation) f (subst (Memᴰ f) e j))
      (Memᴰ.cases_cons m)

  initial_if : (x : Atom) → Starts (fact_of p x) → T (is_initial p x)
  unfolding Starts fact_of is_initial tuple_holds problem_of problem_with
  initial_if guess h = tt
  initial_if proof h = h
  initial_if goal h = h
  initial_if (tuple r row) h = h
  initial_if (not_tuple r row) h = h
  initial_if (free_domain r x) h = tt
  initial_if (free_range r y) h = tt
  initial_if (holds_node v row) h = h
  initial_if (marked r row) h = h

  in_facts : (r : ℕ) (f : Fact) → r < length p.relations → Memᴰ f (relation_facts c r (relation_at p r)) → Memᴰ f (facts_of c)
  unfolding facts_of relation_at
  in_facts r f l m = Memᴰ.tail (mem_flat (λ (fs : List Fact). fs) (map_from (relation_facts c) zero (relations_of c.question)) (relation_facts c r (get_or (relations_of c.question) r no_relation)) f
      (let e : zero + r ≡ r = omega arith in subst (λ (ks : List Relation). Memᴰ (relation_facts c r (get_or ks r no_relation)) (map_from (relation_facts c) zero ks)) relations_are
      (subst (λ (j : ℕ). Memᴰ (relation_facts c j (get_or p.relations r no_relation)) (map_from (relation_facts c) zero p.relations)) e (mem_map_from (relation_facts c) zero r p.relations no_relation l)))
      (subst (λ (ks : List Relation). Memᴰ f (relation_facts c r (get_or ks r no_relation))) relations_are m))

  size_is : n ≡ c.site.size
  unfolding problem_of problem_with
  size_is = refl

  among_tuples : (k : ℕ) (xs : List ℕ) → length xs ≡ k → Below n xs → Memᴰ xs (tuples_over c.site.size k)
  among_tuples k xs e b = subst (λ (m : ℕ). Memᴰ xs (tuples_over m k)) size_is (subst (λ (j : ℕ). Memᴰ xs (tuples_over n j)) e (mem_tuples xs b))

  module _ (r : ℕ) (k : Relation) where
    its_tuple : (xs : List ℕ) → length xs ≡ k.arity → Below n xs → T (holds c [] r xs) → Memᴰ (record { predicate = related r; objects = xs }) (relation_facts c r k)
    unfolding relation_facts
    its_tuple xs e b h = Memᴰ.append_left _ (said_each (related r) _ xs (mem_filter (holds c [] r) (tuples_over c.site.size k.arity) xs (among_tuples k.arity xs e b) h))

    its_not : (xs : List ℕ) → length xs ≡ k.arity → Below n xs → T (not (holds c [] r xs)) → Memᴰ (record { predicate = unrelated r; objects = xs }) (relation_facts c r k)
    unfolding relation_facts
    its_not xs e b h = Memᴰ.append_right (each_said (related r) (filter (holds c [] r) (tuples_over c.site.size k.arity))) (Memᴰ.append_left _
        (said_each (unrelated r) _ xs (mem_filter (λ xs. not (holds c [] r xs)) (tuples_over c.site.size k.arity) xs (among_tuples k.arity xs e b) h)))

    free_if : (b : Bool) (a : Predicate) (x : ℕ) → T b → x < n → Memᴰ (record { predicate = a; objects = x ∷ [] }) (if b then each_said a (tuples_over c.site.size 1) else [])
    unfolding all
    free_if true a x t h = said_each a _ (x ∷ []) (among_tuples 1 (x ∷ []) refl (cons_below n x [] h tt))
    free_if false a x t h = absurd t

    its_first : (x : ℕ) → T (is_function k.kind) → x < n → Memᴰ (record { predicate = free_first r; objects = x ∷ [] }) (relation_facts c r k)
    unfolding relation_facts
    its_first x t h = Memᴰ.append_right (each_said (related r) (filter (holds c [] r) (tuples_over c.site.size k.arity))) (Memᴰ.append_right (each_said (unrelated r) (filter (λ xs. not (holds c [] r xs)) (tuples_over c.site.size k.arity)))
        (Memᴰ.append_left _ (free_if (is_function k.kind) (free_first r) x t h)))

    its_second : (x : ℕ) → T (is_injective k.kind) → x < n → Memᴰ (record { predicate = free_second r; objects = x ∷ [] }) (relation_facts c r k)
    unfolding relation_facts
    its_second x t h = Memᴰ.append_right (each_said (related r) (filter (holds c [] r) (tuples_over c.site.size k.arity))) (Memᴰ.append_right (each_said (unrelated r) (filter (λ xs. not (holds c [] r xs)) (tuples_over c.site.size k.arity)))
        (Memᴰ.append_right (if is_function k.kind then each_said (free_first r) (tuples_over c.site.size 1) else []) (free_if (is_injective k.kind) (free_second r) x t h)))

  in_tuple : (r row : ℕ) → T (tuple_holds p r row) → T (holds c [] r (places_of n (relation_at p r).arity row))
  unfolding tuple_holds problem_of problem_with
  in_tuple r row h = h

  in_not : (r row : ℕ) → T (not (tuple_holds p r row)) → T (not (holds c [] r (places_of n (relation_at p r).arity row)))
  unfolding tuple_holds problem_of problem_with
  in_not r row h = h

  guess_fact : Memᴰ (record { predicate = guessing; objects = [] }) (facts_of c)
  unfolding facts_of
  guess_fact = Memᴰ.head refl

  successor_arity : 2 ≡ (relation_at p 2).arity
  unfolding relation_at problem_of problem_with relations_of relations built_in
  successor_arity = refl

  if_initial : (x : Atom) → IsAtom p x → T (is_initial p x) → Memᴰ (fact_of p x) (facts_of c)
  unfolding fact_of is_initial IsAtom
  if_initial guess v h = guess_fact
  if_initial proof v h = absurd h
  if_initial goal v h = absurd h
  if_initial (tuple r row) v h = in_facts r _ v.0 (its_tuple r (relation_at p r) _ (length_places n (relation_at p r).arity row) (places_below n (relation_at p r).arity row G.element) (in_tuple r row h))
  if_initial (not_tuple r row) v h = in_facts r _ v.0 (its_not r (relation_at p r) _ (length_places n (relation_at p r).arity row) (places_below n (relation_at p r).arity row G.element) (in_not r row h))
  if_initial (free_domain r x) v h = in_facts r _ v.0 (its_first r (relation_at p r) x v.1 v.2)
  if_initial (free_range r y) v h = in_facts r _ v.0 (its_second r (relation_at p r) y v.1 v.2)
  if_initial (holds_node k row) v h = absurd h
  if_initial (marked r row) v h = absurd h

  pub agrees_first : Agrees (initial p) (λ f. is_said f (facts_of c))
  agrees_first x v = initial_at p G x v ∙ T_ext (is_initial p x) (is_said (fact_of p x) (facts_of c)) (λ h. mem_said (fact_of p x) (facts_of c) (if_initial x v h)) (λ h. initial_if x (starts (fact_of p x) (said_mem (fact_of p x) (facts_of c) h)))

  pub follows_first : Follows n (λ f. is_said f (facts_of c))
  unfolding all built_in_holds
  follows_first y h = mem_said _ (facts_of c) (in_facts 2 _ (let a = count_relations c A in let b = first_chosen_lem c.question in omega arith)
      (its_tuple 2 (relation_at p 2) (y ∷ suc y ∷ []) successor_arity (cons_below n y (suc y ∷ []) (omega arith) (cons_below n (suc y) [] h tt))
      (subst T (sym (built_in_literal c [] 2 (y ∷ suc y ∷ []) (omega arith))) (eqb_refl (suc y)))))

  -- steps reach the goal exactly if the plan that is written for them is one
  pub unground : (steps : List ℕ) (plan : List PlanStep) → plan_of (problem_of c) steps ≡ accepted plan → reaches_goal (problem_of c) steps ≡ is_plan c plan
  unfolding plan_of reaches_goal is_plan
  unground steps plan e = reaches_same steps zero (initial p) (λ f. is_said f (facts_of c)) plan agrees_first follows_first e ∙ ap (λ (k : ℕ). is_plan_from (schemas c) k (λ f. is_said f (facts_of c)) plan) size_is

  -- a step has as many objects as its action has parameters, and all are objects
  pub step_counted : (a : Action) → IsAction (problem_of c) a → length (plan_step (problem_of c) a).objects ≡ (schema_of c (plan_step (problem_of c) a).name).parameters
  step_counted a v = (does a v).counted

  pub step_small : (a : Action) → IsAction (problem_of c) a → Below (problem_of c).size (plan_step (problem_of c) a).objects
  step_small a v = (does a v).small
