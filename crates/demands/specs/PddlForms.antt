-- What strict readers of PDDL ask for: every predicate that is used is declared, with as many places; every object that an action names is a
-- constant of the domain; every object is declared once.
use Prim.Native.Nat.{ℕ, zero, suc, ◌+◌, ◌-◌, ◌<◌, ◌≤◌}
use Rattle.std.specs.Prelude.{◌≡◌, Bool, get_or, if◌then◌else◌}
use Rattle.std.proofs.Math.Path.{refl, sym, ap, subst}
use Rattle.std.proofs.Common.{◌∙◌, length-append}
use Rattle.std.proofs.Math.Logic.{⊎_elim}
use Rattle.std.proofs.Math.Bool.{true, false, not}
use Rattle.std.proofs.Math.Option.{Option, none, some}
use mathlib.Core.List.Memᴰ
use mathlib.Core.List.{List, [], ◌∷◌, ◌++◌, map, Memᴰ}
use native.Mathlib.Omega.{arith}
use Rattle.std.proofs.Math.Numerals.{add-one}
use Rattle.std.proofs.Math.Dec.{T, eqb}
use borrow.Author.Tests.{eqb-true, eqb-false}
use Rattle.std.proofs.Math.ListN.{length, length-map}
use Rattle.definitions.specs.Lists.{option, position, flat_map, map_from, from, below, filter, all}
use Rattle.definitions.specs.Sheet.Relations.{Relation, is_function, is_injective, built_in}
use Rattle.definitions.specs.Sheet.Sheets.{relations, relations_of}
use Rattle.definitions.specs.Problem.Truth.{Case, holds}
use Rattle.definitions.specs.Problem.Tree.{Tree, Trees, leaf, forall_node, exists_node, and_node, or_node, end, ◌then◌, Part, parts, parts_from, tree_of, nodes, is_forall, free}
use Rattle.definitions.specs.Problem.Atoms.{Problem, problem_of, problem_with, relation_at, node_at}
use Rattle.definitions.specs.Reply.Lifted
use Rattle.definitions.specs.Reply.Pddl.{constants}
use Rattle.laws.specs.Lists.{mem_flat, flat_mem, map_mem, filter_mem, from_mem, below_lt, take_mem, drop_mem, length_below, mem_map_from, map_from_mem}
use Rattle.laws.specs.Repeats.{Once, once_from}
use Rattle.laws.specs.Rows.{Below, cons_below}
use Rattle.laws.specs.Numbers.{no_relation, no_node}
use Rattle.meaning.specs.Parts.{Here, HereAll, Fits, IsNode, node_at_lem, head_here, tail_here, parts_and, parts_or, under_forall, under_exists}
use Rattle.laws.specs.Reader.{Accepted}
use Rattle.meaning.specs.Grounded.{good, count_relations, first_chosen_lem}
use Rattle.meaning.specs.Means.{Good, here_as}
use Rattle.meaning.specs.PddlWords.{Named, names_are}
use Lifted.{Fact, tuples_over, each_said, relation_facts, facts_of}
use Lifted.{Predicate, guessing, proving, reached, related, unrelated, free_first, free_second, proved, Term, parameter, object, Pattern, ActionName, set_name, begin_name, goal_name, and_name}
use Lifted.{exists_name, first_name, next_name, or_name, Schema, relation_in, node_in, last_in, successor, term_at, with_term, own_terms, part_pattern, part_patterns, under_pattern, plainly, used_up, set_schema}
use Lifted.{proof_schema, schema_of, action_names, relation_predicates, predicates, node_places, places_in}

-- an object of a pattern is a constant
abbrev Constant : Case → Term → Type 0
Constant c t = (x : ℕ) → t ≡ object x → Memᴰ x (constants c)

unfoldable AllConstant : Case → List Term → Type 0
AllConstant c [] = Unit {0}
AllConstant c (t ∷ ts) = Constant c t × AllConstant c ts

pub record Formed (c : Case) (a : Pattern) : Type 0 where
  pub is_declared_lem : Memᴰ a.predicate (predicates c)
  pub places_right : length a.terms ≡ places_in c a.predicate
  pub constants_only : (x : ℕ) → Memᴰ (object x) a.terms → Memᴰ x (constants c)

constant_at : (c : Case) (ts : List Term) → AllConstant c ts → (x : ℕ) → Memᴰ (object x) ts → Memᴰ x (constants c)
unfolding AllConstant
constant_at c [] h x m = absurd (Memᴰ.not-nil m)
constant_at c (t ∷ ts) h x m = ⊎_elim (λ e. h.0 x (sym e)) (λ q. constant_at c ts h.1 x q) (Memᴰ.cases_cons m)

constant_append : (c : Case) (ts us : List Term) → AllConstant c ts → AllConstant c us → AllConstant c (ts ++ us)
unfolding AllConstant
constant_append c [] us h k = k
constant_append c (t ∷ ts) us h k = (h.0, constant_append c ts us h.1 k)

constant_map : (c : Case) (ε : ℕ → Term) (ls : List ℕ) → ((l : ℕ) → Constant c (ε l)) → AllConstant c (map ε ls)
unfolding AllConstant
constant_map c ε [] h = tt
constant_map c ε (l ∷ ls) h = (h l, constant_map c ε ls h)

module _ (c : Case) where
  parameter_constant : (i : ℕ) → Constant c (parameter i)
  parameter_constant i x e = let z : ◌≡◌ {A = ℕ} 0 1 = cc in absurd (omega arith)

  first_there : Memᴰ zero (constants c)
  unfolding constants
  first_there = by_test (eqb c.site.size 1)
    where
      by_test : (b : Bool) → Memᴰ zero (if b then 0 ∷ [] else 0 ∷ last_in c ∷ [])
      by_test true = Memᴰ.head refl
      by_test false = Memᴰ.head refl

  last_there : Memᴰ (last_in c) (constants c)
  unfolding constants last_in
  last_there = by_test (eqb c.site.size 1) refl
    where
      by_test : (b : Bool) → eqb c.site.size 1 ≡ b → Memᴰ (c.site.size - 1) (if b then 0 ∷ [] else 0 ∷ (c.site.size - 1) ∷ [])
      by_test true e = let q = eqb-true c.site.size 1 e in let z : c.site.size - 1 ≡ 0 = omega arith in Memᴰ.head z
      by_test false e = Memᴰ.tail (Memᴰ.head refl)

  object_constant : (y : ℕ) → Memᴰ y (constants c) → Constant c (object y)
  object_constant y m x e = let z : y ≡ x = cc in subst (λ (k : ℕ). Memᴰ k (constants c)) z m

  term_constant : (ds : List ℕ) (l : ℕ) → Constant c (term_at ds l)
  unfolding term_at option
  term_constant ds l = by_option (position (eqb l) ds)
    where
      by_option : (o : Option ℕ) → Constant c (option o (object zero) parameter)
      by_option none = object_constant zero first_there
      by_option (some i) = parameter_constant i

  with_constant : (ε : ℕ → Term) (d : ℕ) (x : Term) → ((l : ℕ) → Constant c (ε l)) → Constant c x → (l : ℕ) → Constant c (with_term ε d x l)
  unfolding with_term
  with_constant ε d x h f l = by_test (eqb l d)
    where
      by_test : (b : Bool) → Constant c (if b then x else ε l)
      by_test true = f
      by_test false = h l

  own_constant : (t : Tree) → AllConstant c (own_terms t)
  unfolding own_terms
  own_constant t = constant_map c parameter (below (length (free t))) parameter_constant

  -- ---- predicates that are declared
  phase_there : Memᴰ guessing (predicates c) × Memᴰ proving (predicates c) × Memᴰ reached (predicates c)
  unfolding predicates
  phase_there = (Memᴰ.head refl, Memᴰ.tail (Memᴰ.head refl), Memᴰ.tail (Memᴰ.tail (Memᴰ.head refl)))

  relation_there : (r : ℕ) (a : Predicate) → r < length (relations_of c.question) → Memᴰ a (relation_predicates r (relation_in c r)) → Memᴰ a (predicates c)
  unfolding predicates relation_in
  relation_there r a l m = Memᴰ.tail (Memᴰ.tail (Memᴰ.tail (Memᴰ.append_left _ (mem_flat (λ (ps : List Predicate). ps) (map_from relation_predicates zero (relations_of c.question)) (relation_predicates r (get_or (relations_of c.question) r no_relation)) a
      (let e : zero + r ≡ r = omega arith in subst (λ (j : ℕ). Memᴰ (relation_predicates j (get_or (relations_of c.question) r no_relation)) (map_from relation_predicates zero (relations_of c.question))) e
      (mem_map_from relation_predicates zero r (relations_of c.question) no_relation l)) m))))

  related_there : (r : ℕ) → r < length (relations_of c.question) → Memᴰ (related r) (predicates c) × Memᴰ (unrelated r) (predicates c)
  unfolding relation_predicates
  related_there r l = (relation_there r (related r) l (Memᴰ.head refl), relation_there r (unrelated r) l (Memᴰ.tail (Memᴰ.head refl)))

  free_there : (r : ℕ) → r < length (relations_of c.question) → (T (is_function (relation_in c r).kind) → Memᴰ (free_first r) (predicates c)) × (T (is_injective (relation_in c r).kind) → Memᴰ (free_second r) (predicates c))
  unfolding relation_predicates
  free_there r l = (
    (λ t. relation_there r (free_first r) l (Memᴰ.tail (Memᴰ.tail (Memᴰ.append_left _ (one (is_function (relation_in c r).kind) (free_first r) t))))),
    (λ t. relation_there r (free_second r) l (Memᴰ.tail (Memᴰ.tail (Memᴰ.append_right (if is_function (relation_in c r).kind then free_first r ∷ [] else []) (one (is_injective (relation_in c r).kind) (free_second r) t))))),
  )
    where
      one : (b : Bool) (a : Predicate) → T b → Memᴰ a (if b then a ∷ [] else [])
      one true a t = Memᴰ.head refl
      one false a t = absurd t

  node_there : (v : ℕ) → v < length (nodes (tree_of c.question)) → Memᴰ (proved v) (predicates c)
  unfolding predicates
  node_there v l = Memᴰ.tail (Memᴰ.tail (Memᴰ.tail (Memᴰ.append_right (flat_map (λ (ps : List Predicate). ps) (map_from relation_predicates zero (relations_of c.question)))
      (let e : zero + v ≡ v = omega arith in subst (λ (j : ℕ). Memᴰ (proved j) (map_from (λ v t. proved v) zero (nodes (tree_of c.question)))) e (mem_map_from (λ v t. proved v) zero v (nodes (tree_of c.question)) no_node l)))))

  plain_formed : (a : Predicate) → Memᴰ a (predicates c) → places_in c a ≡ 0 → Formed c (plainly a)
  plain_formed a m e = record { is_declared_lem = m; places_right = sym e; constants_only = λ x i. absurd (Memᴰ.not-nil i) }

  made : (a : Predicate) (ts : List Term) → Memᴰ a (predicates c) → length ts ≡ places_in c a → AllConstant c ts → Formed c (record { predicate = a; terms = ts })
  made a ts m e h = record { is_declared_lem = m; places_right = e; constants_only = constant_at c ts h }

-- ---- the patterns of the domain's actions
module _ (c : Case) (A : Accepted c) where
  abbrev p : Problem
  p = problem_of c

  G : Good (problem_of c)
  G = good c A

  relation_is : (r : ℕ) → relation_in c r ≡ relation_at p r
  unfolding problem_of problem_with relation_in relation_at
  relation_is r = refl

  relations_are : p.relations ≡ relations_of c.question
  unfolding problem_of problem_with
  relations_are = refl

  node_is : (v : ℕ) → node_in c v ≡ node_at p v
  unfolding problem_of problem_with node_in node_at
  node_is v = refl

  nodes_are : p.node_list ≡ nodes (tree_of c.question)
  unfolding problem_of problem_with
  nodes_are = refl

  root_is : p.root ≡ tree_of c.question
  unfolding problem_of problem_with
  root_is = refl

  known : (r : ℕ) → r < length p.relations → r < length (relations_of c.question)
  known r l = subst (λ (ks : List Relation). r < length ks) relations_are l

  -- a node's own predicate, with as many terms as its node has places
  node_formed : (v : ℕ) (t : Tree) (ts : List Term) → Here p v t → IsNode p t → length ts ≡ node_places t → AllConstant c ts → Formed c (record { predicate = proved v; terms = ts })
  unfolding places_in
  node_formed v t ts h i e k =
      let (q, l) = node_at_lem p v t h i in
      made c (proved v) ts (node_there c v (subst (λ (us : List Tree). v < length us) nodes_are l)) (e ∙ ap node_places (sym q ∙ sym (node_is v))) k

  part_formed : (ε : ℕ → Term) → ((l : ℕ) → Constant c (ε l)) → (v : ℕ) (t : Tree) → Here p v t → Formed c (part_pattern (last_in c) ε v t)
  unfolding part_pattern Fits IsNode node_places is_forall places_in AllConstant
  part_formed ε h v (leaf true r ls) k = made c (related r) (map ε ls) (related_there c r (known r k.fits.0)).0 (length-map ls ε ∙ k.fits.1 ∙ ap (λ (x : Relation). x.arity) (sym (relation_is r))) (constant_map c ε ls h)
  part_formed ε h v (leaf false r ls) k = made c (unrelated r) (map ε ls) (related_there c r (known r k.fits.0)).1 (length-map ls ε ∙ k.fits.1 ∙ ap (λ (x : Relation). x.arity) (sym (relation_is r))) (constant_map c ε ls h)
  part_formed ε h v (forall_node d s t) k = node_formed v (forall_node d s t) _ k tt (length-append (map ε (free (forall_node d s t))) (object (last_in c) ∷ []) ∙ add-one _ ∙ ap suc (length-map (free (forall_node d s t)) ε))
      (constant_append c (map ε (free (forall_node d s t))) (object (last_in c) ∷ []) (constant_map c ε (free (forall_node d s t)) h) (object_constant c (last_in c) (last_there c), tt))
  part_formed ε h v (exists_node d s t) k = node_formed v (exists_node d s t) _ k tt (length-map (free (exists_node d s t)) ε) (constant_map c ε (free (exists_node d s t)) h)
  part_formed ε h v (and_node ts) k = node_formed v (and_node ts) _ k tt (length-map (free (and_node ts)) ε) (constant_map c ε (free (and_node ts)) h)
  part_formed ε h v (or_node ts) k = node_formed v (or_node ts) _ k tt (length-map (free (or_node ts)) ε) (constant_map c ε (free (or_node ts)) h)

  abbrev All : List Pattern → Type 0
  All l = (a : Pattern) → Memᴰ a l → Formed c a

  all_none : All []
  all_none a m = absurd (Memᴰ.not-nil m)

  all_cons : (a : Pattern) (l : List Pattern) → Formed c a → All l → All (a ∷ l)
  all_cons a l h f b m = ⊎_elim (λ e. subst (Formed c) (sym e) h) (λ q. f b q) (Memᴰ.cases_cons m)

  some_parts : (ε : ℕ → Term) → ((l : ℕ) → Constant c (ε l)) → (v : ℕ) (ts : Trees) → HereAll p v ts → All (map (λ (q : Part). part_pattern (last_in c) ε q.node q.tree) (parts_from v ts))
  unfolding parts_from
  some_parts ε h v end k = all_none
  some_parts ε h v (t then ts) k = all_cons _ _ (part_formed ε h v t (head_here p v t ts k)) (some_parts ε h (v + length (nodes t)) ts (tail_here p v t ts k))

  parts_formed : (v : ℕ) (t : Tree) → Here p v t → All (part_patterns (last_in c) v t)
  unfolding part_patterns parts
  parts_formed v t k = by_tree t k
    where
      by_tree : (u : Tree) → Here p v u → All (map (λ (q : Part). part_pattern (last_in c) (term_at (free t)) q.node q.tree) (parts v u))
      by_tree (leaf q r ls) g = all_none
      by_tree (forall_node d s u) g = all_cons _ _ (part_formed (term_at (free t)) (term_constant c (free t)) (suc v) u (under_forall p v d s u g)) all_none
      by_tree (exists_node d s u) g = all_cons _ _ (part_formed (term_at (free t)) (term_constant c (free t)) (suc v) u (under_exists p v d s u g)) all_none
      by_tree (and_node ts) g = some_parts (term_at (free t)) (term_constant c (free t)) (suc v) ts (parts_and p v ts g)
      by_tree (or_node ts) g = some_parts (term_at (free t)) (term_constant c (free t)) (suc v) ts (parts_or p v ts g)

  under_formed : (v : ℕ) (t : Tree) (x : Term) → Here p v t → Constant c x → All (under_pattern (last_in c) v t x)
  unfolding under_pattern
  under_formed v (leaf q r ls) x k h = all_none
  under_formed v (forall_node d s t) x k h = all_cons _ _ (part_formed _ (with_constant c (term_at (free (forall_node d s t))) d x (term_constant c (free (forall_node d s t))) h) (suc v) t (under_forall p v d s t k)) all_none
  under_formed v (exists_node d s t) x k h = all_cons _ _ (part_formed _ (with_constant c (term_at (free (exists_node d s t))) d x (term_constant c (free (exists_node d s t))) h) (suc v) t (under_exists p v d s t k)) all_none
  under_formed v (and_node ts) x k h = all_none
  under_formed v (or_node ts) x k h = all_none

  -- ---- whole actions
  record SchemaFormed (s : Schema) : Type 0 where
    needed : All s.needed
    added : All s.added
    removed : All s.removed

  proof_formed : (name : ActionName) (v k : ℕ) (l : List Pattern) (own : List Term) → All l → Formed c (record { predicate = proved v; terms = own }) → SchemaFormed (proof_schema name v k l own)
  unfolding proof_schema places_in
  proof_formed name v k l own f g = record { needed = all_cons _ l (plain_formed c proving (phase_there c).1 refl) f; added = all_cons _ [] g all_none; removed = all_none }

  pair_long : (r : ℕ) → r < length (relations_of c.question) → T (is_function (relation_in c r).kind) → (relation_in c r).arity ≡ 2
  unfolding relation_in problem_of problem_with relation_at
  pair_long r l t = G.pairs r l t

  set_formed : (r : ℕ) → r < length (relations_of c.question) → SchemaFormed (set_schema r (relation_in c r))
  unfolding set_schema used_up places_in AllConstant
  set_formed r l = record {
    needed = all_cons _ _ (plain_formed c guessing (phase_there c).0 refl) used;
    added = all_cons _ [] (made c (related r) _ (related_there c r l).0 own_long own) all_none;
    removed = used;
  }
    where
      own : AllConstant c (map parameter (below (relation_in c r).arity))
      own = constant_map c parameter (below (relation_in c r).arity) (parameter_constant c)

      own_long : length (map parameter (below (relation_in c r).arity)) ≡ (relation_in c r).arity
      own_long = length-map (below (relation_in c r).arity) parameter ∙ length_below (relation_in c r).arity

      one : (b : Bool) (a : Pattern) → (T b → Formed c a) → All (if b then a ∷ [] else [])
      one true a h = all_cons a [] (h tt) all_none
      one false a h = all_none

      used : All (used_up r (relation_in c r))
      used = all_cons _ _ (made c (unrelated r) _ (related_there c r l).1 own_long own) (λ a m. ⊎_elim
          (λ q. one (is_function (relation_in c r).kind) (record { predicate = free_first r; terms = parameter 0 ∷ [] }) (λ t. made c (free_first r) (parameter 0 ∷ []) ((free_there c r l).0 t) refl (parameter_constant c 0, tt)) a q)
          (λ q. one (is_injective (relation_in c r).kind) (record { predicate = free_second r; terms = parameter 1 ∷ [] }) (λ t. made c (free_second r) (parameter 1 ∷ []) ((free_there c r l).1 t) refl (parameter_constant c 1, tt)) a q)
          (Memᴰ.append_cases (if is_function (relation_in c r).kind then record { predicate = free_first r; terms = parameter 0 ∷ [] } ∷ [] else []) m))

  own_long : (t : Tree) → length (own_terms t) ≡ length (free t)
  unfolding own_terms
  own_long t = length-map (below (length (free t))) parameter ∙ length_below (length (free t))

  there : (v : ℕ) → v < length (nodes (tree_of c.question)) → Here p v (node_in c v)
  there v l = here_as p G v (node_in c v) (subst (λ (us : List Tree). v < length us) (sym nodes_are) l) (sym (node_is v))

  plain_node : (v : ℕ) (s : Tree) → v < length (nodes (tree_of c.question)) → node_in c v ≡ s → IsNode p s → is_forall s ≡ false → Formed c (record { predicate = proved v; terms = own_terms (node_in c v) })
  unfolding node_places
  plain_node v s l e i f = node_formed v (node_in c v) (own_terms (node_in c v)) (there v l) (subst (IsNode p) (sym e) i) (own_long (node_in c v) ∙ sym (rw (ap is_forall e ∙ f) refl)) (own_constant c (node_in c v))

  upto_node : (v : ℕ) (s : Tree) (x : Term) → v < length (nodes (tree_of c.question)) → node_in c v ≡ s → IsNode p s → is_forall s ≡ true → Constant c x → Formed c (record { predicate = proved v; terms = own_terms (node_in c v) ++ (x ∷ []) })
  unfolding node_places AllConstant
  upto_node v s x l e i f h = node_formed v (node_in c v) (own_terms (node_in c v) ++ (x ∷ [])) (there v l) (subst (IsNode p) (sym e) i)
      (length-append (own_terms (node_in c v)) (x ∷ []) ∙ add-one _ ∙ ap suc (own_long (node_in c v)) ∙ sym (rw (ap is_forall e ∙ f) refl)) (constant_append c (own_terms (node_in c v)) (x ∷ []) (own_constant c (node_in c v)) (h, tt))

  successor_formed : (x y : Term) → Constant c x → Constant c y → Formed c (record { predicate = related successor; terms = x ∷ y ∷ [] })
  unfolding places_in relation_in relations_of relations built_in AllConstant
  successor_formed x y h k = made c (related successor) (x ∷ y ∷ []) (related_there c successor (known successor (let a = count_relations c A in let b = first_chosen_lem c.question in omega arith))).0 refl (h, (k, tt))

  named_formed : (name : ActionName) → Named c name → SchemaFormed (schema_of c name)
  unfolding Named schema_of IsNode is_forall places_in
  named_formed (set_name r) h = set_formed r h.0
  named_formed begin_name h = record { needed = all_cons _ [] (plain_formed c guessing (phase_there c).0 refl) all_none; added = all_cons _ [] (plain_formed c proving (phase_there c).1 refl) all_none; removed = all_cons _ [] (plain_formed c guessing (phase_there c).0 refl) all_none }
  named_formed goal_name h = record {
    needed = all_cons _ [] (part_formed (λ _. object zero) (λ _. object_constant c zero (first_there c)) zero (tree_of c.question) (subst (Here p zero) root_is
        G.root_here)) all_none;
    added = all_cons _ [] (plain_formed c reached (phase_there c).2 refl) all_none;
    removed = all_none;
  }
  named_formed (and_name v) (l, (ts, e)) = proof_formed (and_name v) v _ _ _ (parts_formed v (node_in c v) (there v l)) (plain_node v (and_node ts) l e tt refl)
  named_formed (or_name v i) (l, (ts, e, g)) = proof_formed (or_name v i) v _ _ _ (λ a m. parts_formed v (node_in c v) (there v l) a (drop_mem i _ a (take_mem 1 _ a m))) (plain_node v (or_node ts) l e tt refl)
  named_formed (exists_name v) (l, (d, s, t, e)) = proof_formed (exists_name v) v _ _ _ (under_formed v (node_in c v) _ (there v l) (parameter_constant c _)) (plain_node v (exists_node d s t) l e tt refl)
  named_formed (first_name v) (l, (d, s, t, e)) = proof_formed (first_name v) v _ _ _ (under_formed v (node_in c v) (object zero) (there v l) (object_constant c zero (first_there c))) (upto_node v (forall_node d s t) (object zero) l e tt refl (object_constant c zero (first_there c)))
  named_formed (next_name v) (l, (d, s, t, e)) =
      let k : ℕ = length (free (node_in c v)) in
      proof_formed (next_name v) v _ _ _ (all_cons _ _ (successor_formed (parameter k) (parameter (suc k)) (parameter_constant c k) (parameter_constant c (suc k)))
      (all_cons _ _ (upto_node v (forall_node d s t) (parameter k) l e tt refl (parameter_constant c k)) (under_formed v (node_in c v) (parameter (suc k)) (there v l) (parameter_constant c (suc k)))))
      (upto_node v (forall_node d s t) (parameter (suc k)) l e tt refl (parameter_constant c (suc k)))

  -- every pattern of every action of the domain
  pub patterns_formed : (name : ActionName) → Memᴰ name (action_names c) → (a : Pattern) → Memᴰ a ((schema_of c name).needed ++ ((schema_of c name).added ++ (schema_of c name).removed)) → Formed c a
  patterns_formed name m a i =
      let f = named_formed name (names_are c name m) in
      ⊎_elim (λ q. f.needed a q) (λ q. ⊎_elim (λ q₂. f.added a q₂) (λ q₂. f.removed a q₂) (Memᴰ.append_cases (schema_of c name).added q)) (Memᴰ.append_cases (schema_of c name).needed i)

  -- ---- the facts of the instance
  pub record FactFormed (f : Fact) : Type 0 where
    pub fact_declared : Memᴰ f.predicate (predicates c)
    pub fact_places : length f.objects ≡ places_in c f.predicate
    pub fact_objects : Below c.site.size f.objects

  tuples_are : (m k : ℕ) (xs : List ℕ) → Memᴰ xs (tuples_over m k) → (length xs ≡ k) × Below m xs
  unfolding tuples_over all
  tuples_are m zero xs i = subst (λ (l : List ℕ). (length l ≡ 0) × Below m l) (sym (Memᴰ.eq_of_singleton i)) (refl, tt)
  tuples_are m (suc k) xs i =
      let (x, a, b) = flat_mem (λ x. map (λ xs. x ∷ xs) (tuples_over m k)) (below m) xs i in
      let (ys, d, e) = map_mem (λ xs. x ∷ xs) (tuples_over m k) xs b in
      let (l, h) = tuples_are m k ys d in
      subst (λ (l : List ℕ). (length l ≡ suc k) × Below m l) (sym e) (ap suc l, cons_below m x ys (below_lt m x a) h)

  each_formed : (a : Predicate) (k : ℕ) (xss : List (List ℕ)) → Memᴰ a (predicates c) → places_in c a ≡ k → ((xs : List ℕ) → Memᴰ xs xss → Memᴰ xs (tuples_over c.site.size k)) → (f : Fact) → Memᴰ f (each_said a xss) → FactFormed f
  unfolding each_said
  each_formed a k xss d e h f m =
      let (xs, i, q) = map_mem (λ xs. record { predicate = a; objects = xs }) xss f m in
      let (l, b) = tuples_are c.site.size k xs (h xs i) in
      subst FactFormed (sym q) (record { fact_declared = d; fact_places = l ∙ sym e; fact_objects = b })

  relation_facts_lem : (r : ℕ) → r < length (relations_of c.question) → (f : Fact) → Memᴰ f (relation_facts c r (relation_in c r)) → FactFormed f
  unfolding relation_facts places_in
  relation_facts_lem r l f m = ⊎_elim
      (λ q. each_formed (related r) (relation_in c r).arity _ (related_there c r l).0 refl (λ xs i. (filter_mem (holds c [] r) _ xs i).0) f q)
      (λ m₂. ⊎_elim
      (λ q. each_formed (unrelated r) (relation_in c r).arity _ (related_there c r l).1 refl (λ xs i. (filter_mem (λ xs. not (holds c [] r xs)) _ xs i).0) f q)
      (λ m₃. ⊎_elim (λ q. free_formed (is_function (relation_in c r).kind) (free_first r) (free_there c r l).0 refl q) (λ q. free_formed (is_injective (relation_in c r).kind) (free_second r) (free_there c r l).1 refl q)
      (Memᴰ.append_cases (if is_function (relation_in c r).kind then each_said (free_first r) (tuples_over c.site.size 1) else []) m₃))
      (Memᴰ.append_cases (each_said (unrelated r) (filter (λ xs. not (holds c [] r xs)) (tuples_over c.site.size (relation_in c r).arity))) m₂))
      (Memᴰ.append_cases (each_said (related r) (filter (holds c [] r) (tuples_over c.site.size (relation_in c r).arity))) m)
    where
      free_formed : (b : Bool) (a : Predicate) → (T b → Memᴰ a (predicates c)) → places_in c a ≡ 1 → Memᴰ f (if b then each_said a (tuples_over c.site.size 1) else []) → FactFormed f
      free_formed true a h e q = each_formed a 1 _ (h tt) e (λ xs i. i) f q
      free_formed false a h e q = absurd (Memᴰ.not-nil q)

  pub facts_formed : (f : Fact) → Memᴰ f (facts_of c) → FactFormed f
  unfolding facts_of places_in all relation_in
  facts_formed f m = ⊎_elim (λ e. subst FactFormed (sym e) (record { fact_declared = (phase_there c).0; fact_places = refl; fact_objects = tt }))
      (λ q. let (fs, i, j) = flat_mem (λ (fs : List Fact). fs) (map_from (relation_facts c) zero (relations_of c.question)) f q in
      let (r, l, e) = map_from_mem (relation_facts c) zero (relations_of c.question) no_relation fs i in
      let z : zero + r ≡ r = omega arith in
      relation_facts_lem r l f (subst (λ (k : ℕ). Memᴰ f (relation_facts c k (get_or (relations_of c.question) r no_relation))) z (subst (Memᴰ f) e j)))
      (Memᴰ.cases_cons m)

  -- ---- every element is an object, of the domain or of the instance, once
  pub objects_once : Once (constants c ++ from 1 (c.site.size - 2))
  unfolding constants last_in Once
  objects_once = by_test (eqb c.site.size 1) refl
    where
      last_out : (m : ℕ) → (m ≡ 1 → ⊥) → 1 ≤ m → m - 1 < 1 + (m - 2) → ⊥
      last_out zero h g l = omega arith
      last_out (suc zero) h g l = h refl
      last_out (suc (suc m)) h g l = omega arith

      by_test : (b : Bool) → eqb c.site.size 1 ≡ b → Once ((if b then 0 ∷ [] else 0 ∷ (c.site.size - 1) ∷ []) ++ from 1 (c.site.size - 2))
      by_test true e = (λ m. let q = from_mem (c.site.size - 2) 1 0 m in omega (arith, q.0), once_from (c.site.size - 2) 1)
      by_test false e =
          let k = A.site_fits.some_element in
          let z = eqb-false c.site.size 1 e in (
            λ m. ⊎_elim (λ q. z (omega arith)) (λ q. let f = from_mem (c.site.size - 2) 1 0 q in omega (arith, f.0)) (Memᴰ.cases_cons m),
            (λ m. let f = from_mem (c.site.size - 2) 1 (c.site.size - 1) m in last_out c.site.size z k f.1, once_from (c.site.size - 2) 1),
          )
