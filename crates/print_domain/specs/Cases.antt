-- What is written by numbers is the domain of the case. Assumes nothing.
use Prim.Native.Nat.{ℕ, zero, suc, ◌+◌, ◌-◌, ◌≤◌, ◌<◌}
use Rattle.std.specs.Prelude.{◌≡◌, Bool, get_or, if◌then◌else◌}
use Rattle.std.proofs.Math.Path.{refl, sym, ap, ap₂}
use Rattle.std.proofs.Common.{subst, ◌∙◌}
use Rattle.std.proofs.Math.Bool.{true, false}
use mathlib.Core.List.{List, [], ◌∷◌, ◌++◌, map, append_assoc, append-nil}
use native.Mathlib.Omega.{arith}
use Rattle.std.proofs.Math.Dec.{eqb}
use Rattle.std.proofs.Math.ListN.{length}
use Rattle.definitions.specs.Lists.{flat_map, map_from, from, below}
use Rattle.definitions.specs.Sheet.Text.{bytes, decimal, decimal_in}
use Rattle.definitions.specs.Sheet.Formula.{write_each}
use Rattle.definitions.specs.Sheet.Relations.{Kind, static, plain, Fun, PFun, Inj, PInj, universal, is_chosen, is_function, is_injective}
use Rattle.definitions.specs.Sheet.Sheets.{relations_of}
use Rattle.definitions.specs.Problem.Truth.{Case}
use Rattle.definitions.specs.Problem.Atoms.{problem_of, problem_with, relation_at}
use Rattle.definitions.specs.Problem.Tree.{Tree, Trees, leaf, forall_node, exists_node, and_node, or_node, parts, how_many, nodes, tree_of, free, is_forall}
use Rattle.definitions.specs.Reply.Page.{spaces}
use Rattle.definitions.specs.Reply.Lifted
use Rattle.definitions.specs.Reply.Pddl
use Lifted.{Predicate, related, unrelated, free_first, free_second, proved, parameter, relation_in, node_in, last_in, ActionName, set_name, begin_name, goal_name, and_name, exists_name, next_name, or_name}
use Lifted.{schema_of, set_names, node_names, action_names, schemas, relation_predicates, predicates, node_places, places_in}
use Pddl.{object_word, parameter_word, term_word, predicate_word, action_word, bracketed, indented, write_pattern, conjoined, constants, predicate_line, schema_text, domain_text}
use Rattle.laws.specs.Booleans.{T_of}
use Rattle.laws.specs.Lists.{flat_append, flat_same, flat_flat, flat_map_lem, below_lt, map_map}
use Rattle.laws.specs.Numbers.{no_relation, no_node}
use Rattle.rule_nodes.specs.declared.Nodes.{Nodes}
use Rattle.rule_nodes.specs.Tables.{node_kind, IsTable, Fits}
use Rattle.rule_nodes.specs.Free.{free_few}
use Rattle.problem_table.specs.Of.{kind_number}
use Rattle.problem_layout.specs.declared.Relations.{Relations}
use Rattle.problem_layout.specs.Laid.{Inputs, RelationsFit}
use Rattle.print_words.specs.declared.Word.{Word}
use Rattle.print_words.specs.Words.{word_in, atom_in, NamesOf}
use Rattle.print_instance.specs.Texts.{relation_word, is_fun, is_inj}
use Rattle.print_domain.specs.Texts
use Rattle.print_domain.specs.Actions.{row_at, and_text, or_text, ors_text, exists_text, forall_text, node_text, nodes_text, goal_text, constants_text, domain_in}
use Texts.{proved_word, line_text, relation_lines, relations_lines, node_places_of, node_line, nodes_lines, is_picked, set_if, sets_text, set_text}
use Rattle.print_domain.specs.Patterns
use Rattle.print_domain.specs.Schemas

flat_from : {A B C : Type 0} (h : B → List C) (f : ℕ → A → B) (i : ℕ) (l : List A) (d : A) → flat_map h (map_from f i l) ≡ flat_map (λ j. h (f (i + j) (get_or l j d))) (below (length l))
unfolding flat_map map_from below from
flat_from h f i [] d = refl
flat_from h f i (x ∷ l) d =
    let z : i ≡ i + zero = omega arith in
    ap₂ ◌++◌ (ap (λ (k : ℕ). h (f k x)) z)
    (flat_from h f (suc i) l d ∙ flat_same _ _ (below (length l)) (λ j _. let e : suc i + j ≡ i + suc j = omega arith in ap (λ (k : ℕ). h (f k (get_or l j d))) e) ∙ sym (Schemas.flat_shift (λ j. h (f (i + j) (get_or (x ∷ l) j d))) zero (length l)))

-- ---- kinds
fun_is : (k : Kind) → is_fun (kind_number k) ≡ is_function k
unfolding is_fun kind_number is_function
fun_is static = refl
fun_is plain = refl
fun_is Fun = refl
fun_is PFun = refl
fun_is Inj = refl
fun_is PInj = refl
fun_is universal = refl

inj_is : (k : Kind) → is_inj (kind_number k) ≡ is_injective k
unfolding is_inj kind_number is_injective
inj_is static = refl
inj_is plain = refl
inj_is Fun = refl
inj_is PFun = refl
inj_is Inj = refl
inj_is PInj = refl
inj_is universal = refl

chosen_is : (k : Kind) → is_picked (kind_number k) ≡ is_chosen k
unfolding is_picked kind_number is_chosen
chosen_is static = refl
chosen_is plain = refl
chosen_is Fun = refl
chosen_is PFun = refl
chosen_is Inj = refl
chosen_is PInj = refl
chosen_is universal = refl

places_are : (u : Tree) (kind width : ℕ) → kind ≡ node_kind u → width ≡ length (free u) → (if eqb kind 0 then width + 1 else width) ≡ node_places u
unfolding node_kind node_places is_forall
places_are (leaf p r ls) kind width e d = rw e d
places_are (forall_node l s t) kind width e d = rw e (let z : width + 1 ≡ suc (length (free (forall_node l s t))) = omega arith in z)
places_are (exists_node l s t) kind width e d = rw e d
places_are (and_node ts) kind width e d = rw e d
places_are (or_node ts) kind width e d = rw e d

-- ---- the constants
constants_are : (c : Case) (n : ℕ) → n ≡ c.site.size → constants_text n ≡ indented 2 (bracketed (bytes ":constants" ∷ map object_word (constants c)))
unfolding constants_text constants indented spaces bracketed write_each object_word decimal decimal_in last_in
constants_are c n size = by_test (eqb n 1) ∙ ap (λ (m : ℕ). indented 2 (bracketed (bytes ":constants" ∷ map object_word (if eqb m 1 then 0 ∷ [] else 0 ∷ (m - 1) ∷ [])))) size
  where
    end_is : (W : List ℕ) → W ++ (41 ∷ 10 ∷ []) ≡ ((W ++ []) ++ bytes ")") ++ (10 ∷ [])
    end_is W = sym (ap (λ (l : List ℕ). (l ++ bytes ")") ++ (10 ∷ [])) (append-nil W) ∙ append_assoc W (bytes ")") (10 ∷ []))

    by_test : (b : Bool) → bytes "  (:constants o0" ++ (if b then 41 ∷ 10 ∷ [] else (32 ∷ []) ++ (object_word (n - 1) ++ (41 ∷ 10 ∷ [])))
        ≡ indented 2 (bracketed (bytes ":constants" ∷ map object_word (if b then 0 ∷ [] else 0 ∷ (n - 1) ∷ [])))
    by_test true = refl
    by_test false = ap (λ (l : List ℕ). bytes "  (:constants o0 " ++ l) (end_is (object_word (n - 1)))

begin_is : (c : Case) → schema_text c (schema_of c begin_name)
    ≡ bytes "  (:action begin-proof" ++ (10 ∷ (bytes "    :parameters ()" ++ (10 ∷ (bytes "    :precondition (and (guess))" ++ (10 ∷ (bytes "    :effect (and (proof) (not (guess))))" ++ (10 ∷ [])))))))
unfolding schema_text schema_of indented spaces conjoined bracketed write_pattern predicate_word action_word write_each below from
begin_is c = refl

module _ (c : Case) (q ns : List ℕ) (N : NamesOf c q ns) (n : ℕ) (w : List ℕ) (k : ℕ) (g : Relations) (t : Nodes) (I : Inputs (problem_of c) n w k g t) (G : RelationsFit g) (F : Fits t) (some : 0 < n) where
  size : n ≡ c.site.size
  unfolding problem_of problem_with
  size = I.size

  rels_are : g.count ≡ length (relations_of c.question)
  unfolding problem_of problem_with
  rels_are = I.count

  tree : IsTable g.count (tree_of c.question) t
  unfolding problem_of problem_with
  tree = I.tree

  arity : (r : ℕ) → r < g.count → get_or g.arity r 0 ≡ (relation_in c r).arity
  unfolding problem_of problem_with relation_at relation_in
  arity r h = I.arity r h

  kind : (r : ℕ) → r < g.count → get_or g.kind r 0 ≡ kind_number (relation_in c r).kind
  unfolding problem_of problem_with relation_at relation_in
  kind r h = I.kind r h

  -- ---- predicates
  line_is : (x : Word) (p : Predicate) (places : ℕ) → word_in q ns x ≡ predicate_word c p → places ≤ 8 → places ≡ places_in c p → line_text q ns x (below places) ≡ predicate_line c p
  unfolding predicate_line atom_in term_word
  line_is x p places e few d = ap₂ (λ (y : List ℕ) (ws : List (List ℕ)). indented 4 (bracketed (y ∷ ws))) e
      (ap (map term_word) (Schemas.terms_below places few) ∙ map_map term_word parameter (below places) ∙ ap (λ (m : ℕ). map parameter_word (below m)) d)

  if_line : (b d : Bool) (x : Word) (p : Predicate) → b ≡ d → line_text q ns x (below 1) ≡ predicate_line c p → (if b then line_text q ns x (below 1) else []) ≡ flat_map (predicate_line c) (if d then p ∷ [] else [])
  unfolding flat_map
  if_line b true x p e s = rw e (s ∙ sym (append-nil (predicate_line c p)))
  if_line b false x p e s = rw e refl

  module _ (r : ℕ) (h : r < g.count) where
    here : r < length (relations_of c.question)
    here = omega (arith, rels_are)

    few : get_or g.arity r 0 ≤ 8
    few = omega (arith, G.arity r)

    fun : is_fun (get_or g.kind r 0) ≡ is_function (relation_in c r).kind
    fun = ap is_fun (kind r h) ∙ fun_is (relation_in c r).kind

    inj : is_inj (get_or g.kind r 0) ≡ is_injective (relation_in c r).kind
    inj = ap is_inj (kind r h) ∙ inj_is (relation_in c r).kind

    relation_lines_lem : relation_lines q ns r (get_or g.arity r 0) (get_or g.kind r 0) ≡ flat_map (predicate_line c) (relation_predicates r (relation_in c r))
    unfolding relation_lines relation_predicates flat_map places_in
    relation_lines_lem =
        ap₂ ◌++◌ (line_is (relation_word 0 r) (related r) (get_or g.arity r 0) (Patterns.related_is c q ns N r here) few (arity r h))
        (ap₂ ◌++◌ (line_is (relation_word 1 r) (unrelated r) (get_or g.arity r 0) (Patterns.unrelated_is c q ns N r here) few (arity r h))
        (ap₂ ◌++◌ (if_line (is_fun (get_or g.kind r 0)) (is_function (relation_in c r).kind) (relation_word 2 r) (free_first r) fun (line_is (relation_word 2 r) (free_first r) 1 (Patterns.first_is c q ns N r here) (omega arith) refl))
        (if_line (is_inj (get_or g.kind r 0)) (is_injective (relation_in c r).kind) (relation_word 3 r) (free_second r) inj (line_is (relation_word 3 r) (free_second r) 1 (Patterns.second_is c q ns N r here) (omega arith) refl))
        ∙ sym (flat_append (predicate_line c) (if is_function (relation_in c r).kind then free_first r ∷ [] else []) (if is_injective (relation_in c r).kind then free_second r ∷ [] else []))))

    set_text_lem : flat_map (λ a. schema_text c (schema_of c a)) (set_names r (relation_in c r)) ≡ set_if q ns r (get_or g.arity r 0) (get_or g.kind r 0)
    unfolding set_if set_names flat_map
    set_text_lem = by_test (is_chosen (relation_in c r).kind) refl ∙ ap (λ (b : Bool). if b then set_text q ns r (get_or g.arity r 0) (get_or g.kind r 0) else []) (sym (ap is_picked (kind r h) ∙ chosen_is (relation_in c r).kind))
      where
        by_test : (b : Bool) → is_chosen (relation_in c r).kind ≡ b → flat_map (λ a. schema_text c (schema_of c a)) (if b then set_name r ∷ [] else []) ≡ (if b then set_text q ns r (get_or g.arity r 0) (get_or g.kind r 0) else [])
        by_test true e = append-nil (schema_text c (schema_of c (set_name r))) ∙ sym (Schemas.set_is c q ns N r (get_or g.arity r 0) (get_or g.kind r 0) here (arity r h) few fun inj (T_of e))
        by_test false e = refl

  module _ (v : ℕ) (h : v < t.count) where
    abbrev u : Tree
    u = node_in c v

    node_line_lem : node_line q ns t v ≡ predicate_line c (proved v)
    unfolding node_line node_places_of places_in
    node_line_lem =
        let x = Patterns.node_at_lem c q ns N t g.count rels_are tree F n size some v h in
        let p : node_places_of (row_at t v) ≡ node_places u = places_are u (row_at t v).kind (row_at t v).width x.kind x.width in
        line_is (proved_word v (row_at t v).kind) (proved v) (node_places_of (row_at t v)) (Patterns.proved_is c q ns N t g.count rels_are tree F n size some v h)
        (few (row_at t v).width (eqb (row_at t v).kind 0) (omega (arith, x.width, free_few u))) p
      where
        few : (m : ℕ) (b : Bool) → m ≤ 4 → (if b then m + 1 else m) ≤ 8
        few m true l = omega arith
        few m false l = omega arith

    abbrev S : ActionName → List ℕ
    S a = schema_text c (schema_of c a)

    kind_at : (j : ℕ) → node_kind u ≡ j → (row_at t v).kind ≡ j
    kind_at j e = Schemas.kind_is c q ns N t g.count rels_are tree F n size some v h ∙ e

    node_by : (j : ℕ) → node_kind u ≡ j → node_text q ns t v (n + 7)
        ≡ (if eqb j 0 then forall_text q ns t v (n + 7) else if eqb j 1 then exists_text q ns t v (n + 7) else if eqb j 2 then and_text q ns t v (n + 7) else ors_text q ns t v (n + 7))
    unfolding node_text
    node_by j e = ap (λ (i : ℕ). if eqb i 0 then forall_text q ns t v (n + 7) else if eqb i 1 then exists_text q ns t v (n + 7) else if eqb i 2 then and_text q ns t v (n + 7) else ors_text q ns t v (n + 7)) (kind_at j e)

    ors_are : (ts : Trees) → u ≡ or_node ts → node_kind u ≡ 3 → flat_map S (map (or_name v) (below (how_many ts))) ≡ ors_text q ns t v (n + 7)
    unfolding ors_text parts
    ors_are ts e d =
        let m : length (parts v u) ≡ how_many ts = ap (λ (x : Tree). length (parts v x)) e ∙ Schemas.length_parts (suc v) ts in
        flat_map_lem S (or_name v) (below (how_many ts))
        ∙ flat_same (λ i. S (or_name v i)) (or_text q ns t v (n + 7)) (below (how_many ts))
        (λ i b. let l = below_lt (how_many ts) i b in sym (Schemas.or_is c q ns N t g.count rels_are tree F n size some v h i (omega (arith, m)) d))
        ∙ ap (λ (i : ℕ). flat_map (or_text q ns t v (n + 7)) (below i)) (sym (Schemas.many_is c q ns N t g.count rels_are tree F n size some v h ∙ m))

    names_text : (x : Tree) → u ≡ x → flat_map S (node_names v x) ≡ node_text q ns t v (n + 7)
    unfolding node_names flat_map forall_text node_kind Patterns.Inner
    names_text (leaf p r ls) e = absurd (subst Patterns.Inner e (Patterns.node_inner c q ns N t g.count rels_are tree F n size some v h))
    names_text (forall_node l s x) e =
        let d : node_kind u ≡ 0 = ap node_kind e in
        ap₂ ◌++◌ (sym (Schemas.first_is c q ns N t g.count rels_are tree F n size some v h d)) (append-nil (S (next_name v)) ∙ sym (Schemas.next_is c q ns N t g.count rels_are tree F n size some v h d))
        ∙ sym (node_by 0 d)
    names_text (exists_node l s x) e =
        let d : node_kind u ≡ 1 = ap node_kind e in
        append-nil (S (exists_name v)) ∙ sym (Schemas.exists_is c q ns N t g.count rels_are tree F n size some v h d) ∙ sym (node_by 1 d)
    names_text (and_node ts) e =
        let d : node_kind u ≡ 2 = ap node_kind e in
        append-nil (S (and_name v)) ∙ sym (Schemas.and_is c q ns N t g.count rels_are tree F n size some v h d) ∙ sym (node_by 2 d)
    names_text (or_node ts) e = let d : node_kind u ≡ 3 = ap node_kind e in ors_are ts e d ∙ sym (node_by 3 d)

  -- ---- all of them
  relations_lines_lem : flat_map (predicate_line c) (flat_map (λ (ps : List Predicate). ps) (map_from relation_predicates zero (relations_of c.question))) ≡ relations_lines q ns g
  unfolding relations_lines relation_in
  relations_lines_lem =
      flat_flat (predicate_line c) (λ (ps : List Predicate). ps) (map_from relation_predicates zero (relations_of c.question))
      ∙ flat_from (flat_map (predicate_line c)) relation_predicates zero (relations_of c.question) no_relation
      ∙ ap (λ (m : ℕ). flat_map (λ j. flat_map (predicate_line c) (relation_predicates (zero + j) (get_or (relations_of c.question) j no_relation))) (below m)) (sym rels_are)
      ∙ flat_same _ _ (below g.count) (λ r m. let z : zero + r ≡ r = omega arith in ap (λ (i : ℕ). flat_map (predicate_line c) (relation_predicates i (get_or (relations_of c.question) r no_relation))) z ∙ sym (relation_lines_lem r (below_lt g.count r m)))

  nodes_lines_lem : flat_map (predicate_line c) (map_from (λ v x. proved v) zero (nodes (tree_of c.question))) ≡ nodes_lines q ns t
  unfolding nodes_lines
  nodes_lines_lem =
      flat_from (predicate_line c) (λ v x. proved v) zero (nodes (tree_of c.question)) no_node
      ∙ ap (λ (m : ℕ). flat_map (λ j. predicate_line c (proved (zero + j))) (below m)) (sym tree.count)
      ∙ flat_same _ _ (below t.count) (λ v m. let z : zero + v ≡ v = omega arith in ap (λ (i : ℕ). predicate_line c (proved i)) z ∙ sym (node_line_lem v (below_lt t.count v m)))

  sets_are : flat_map (λ a. schema_text c (schema_of c a)) (flat_map (λ (as₁ : List ActionName). as₁) (map_from set_names zero (relations_of c.question))) ≡ sets_text q ns g
  unfolding sets_text relation_in
  sets_are =
      flat_flat (λ a. schema_text c (schema_of c a)) (λ (as₁ : List ActionName). as₁) (map_from set_names zero (relations_of c.question))
      ∙ flat_from (flat_map (λ a. schema_text c (schema_of c a))) set_names zero (relations_of c.question) no_relation
      ∙ ap (λ (m : ℕ). flat_map (λ j. flat_map (λ a. schema_text c (schema_of c a)) (set_names (zero + j) (get_or (relations_of c.question) j no_relation))) (below m)) (sym rels_are)
      ∙ flat_same _ _ (below g.count) (λ r m. let z : zero + r ≡ r = omega arith in ap (λ (i : ℕ). flat_map (λ a. schema_text c (schema_of c a)) (set_names i (get_or (relations_of c.question) r no_relation))) z ∙ set_text_lem r (below_lt g.count r m))

  nodes_are : flat_map (λ a. schema_text c (schema_of c a)) (flat_map (λ (as₁ : List ActionName). as₁) (map_from node_names zero (nodes (tree_of c.question)))) ≡ nodes_text q ns t (n + 7)
  unfolding nodes_text node_in
  nodes_are =
      flat_flat (λ a. schema_text c (schema_of c a)) (λ (as₁ : List ActionName). as₁) (map_from node_names zero (nodes (tree_of c.question)))
      ∙ flat_from (flat_map (λ a. schema_text c (schema_of c a))) node_names zero (nodes (tree_of c.question)) no_node
      ∙ ap (λ (m : ℕ). flat_map (λ j. flat_map (λ a. schema_text c (schema_of c a)) (node_names (zero + j) (get_or (nodes (tree_of c.question)) j no_node))) (below m)) (sym tree.count)
      ∙ flat_same _ _ (below t.count) (λ v m. let z : zero + v ≡ v = omega arith in ap (λ (i : ℕ). flat_map (λ a. schema_text c (schema_of c a)) (node_names i (get_or (nodes (tree_of c.question)) v no_node))) z
      ∙ names_text v (below_lt t.count v m) (get_or (nodes (tree_of c.question)) v no_node) refl)

  abbrev begin_text : List ℕ
  begin_text = bytes "  (:action begin-proof" ++ (10 ∷ (bytes "    :parameters ()" ++ (10 ∷ (bytes "    :precondition (and (guess))" ++ (10 ∷ (bytes "    :effect (and (proof) (not (guess))))" ++ (10 ∷ [])))))))

  schemas_are : flat_map (schema_text c) (schemas c) ≡ sets_text q ns g ++ (begin_text ++ (nodes_text q ns t (n + 7) ++ goal_text q ns t (n + 7)))
  unfolding schemas action_names flat_map
  schemas_are =
      flat_map_lem (schema_text c) (schema_of c) (action_names c)
      ∙ flat_append (λ a. schema_text c (schema_of c a)) (flat_map (λ (as₁ : List ActionName). as₁) (map_from set_names zero (relations_of c.question))) _
      ∙ ap₂ ◌++◌ sets_are
      (ap₂ ◌++◌ (begin_is c)
      (flat_append (λ a. schema_text c (schema_of c a)) (flat_map (λ (as₁ : List ActionName). as₁) (map_from node_names zero (nodes (tree_of c.question)))) (goal_name ∷ [])
      ∙ ap₂ ◌++◌ nodes_are (append-nil (schema_text c (schema_of c goal_name)) ∙ sym (Schemas.goal_is c q ns N t g.count rels_are tree F n size some))))

  abbrev phases : List ℕ
  phases = bytes "    (guess)" ++ (10 ∷ (bytes "    (proof)" ++ (10 ∷ (bytes "    (holds_goal)" ++ (10 ∷ [])))))

  predicates_are : flat_map (predicate_line c) (predicates c) ≡ phases ++ (relations_lines q ns g ++ nodes_lines q ns t)
  unfolding predicates flat_map predicate_line predicate_word places_in bracketed indented spaces write_each below from
  predicates_are = ap (λ (l : List ℕ). phases ++ l)
      (flat_append (predicate_line c) (flat_map (λ (ps : List Predicate). ps) (map_from relation_predicates zero (relations_of c.question))) (map_from (λ v x. proved v) zero (nodes (tree_of c.question)))
      ∙ ap₂ ◌++◌ relations_lines_lem nodes_lines_lem)

  pub domain_is : domain_in q ns n g t ≡ domain_text c
  unfolding domain_in domain_text indented spaces
  domain_is =
      shape (constants_text n) (relations_lines q ns g) (nodes_lines q ns t) (sets_text q ns g) (nodes_text q ns t (n + 7)) (goal_text q ns t (n + 7))
      ∙ ap (λ (K : List ℕ). title ++ (K ++ (opened ++ ((phases ++ (relations_lines q ns g ++ nodes_lines q ns t)) ++ (closed ++ ((sets_text q ns g ++ (begin_text ++ (nodes_text q ns t (n + 7) ++ goal_text q ns t (n + 7)))) ++ (41 ∷ 10 ∷ []))))))) (constants_are c n size)
      ∙ ap₂ (λ (P Q : List ℕ). title ++ (indented 2 (bracketed (bytes ":constants" ∷ map object_word (constants c))) ++ (opened ++ (P ++ (closed ++ (Q ++ (41 ∷ 10 ∷ []))))))) (sym predicates_are) (sym schemas_are)
    where
      title : List ℕ
      title = bytes "(define (domain case)" ++ (10 ∷ [])

      opened : List ℕ
      opened = bytes "  (:predicates" ++ (10 ∷ [])

      closed : List ℕ
      closed = bytes "  )" ++ (10 ∷ [])

      shape : (K R L S M E : List ℕ) → title ++ (K ++ ((bytes "  (:predicates" ++ (10 ∷ phases)) ++ (R ++ (L ++ (closed ++ (S ++ (begin_text ++ (M ++ (E ++ (41 ∷ 10 ∷ []))))))))))
          ≡ title ++ (K ++ (opened ++ ((phases ++ (R ++ L)) ++ (closed ++ ((S ++ (begin_text ++ (M ++ E))) ++ (41 ∷ 10 ∷ []))))))
      shape K R L S M E =
          let Z = closed ++ (S ++ (begin_text ++ (M ++ (E ++ (41 ∷ 10 ∷ []))))) in
          sym (ap (λ (l : List ℕ). title ++ (K ++ (opened ++ ((phases ++ (R ++ L)) ++ (closed ++ l)))))
          (append_assoc S (begin_text ++ (M ++ E)) (41 ∷ 10 ∷ []) ∙ ap (λ (l : List ℕ). S ++ (begin_text ++ l)) (append_assoc M E (41 ∷ 10 ∷ [])))
          ∙ ap (λ (l : List ℕ). title ++ (K ++ (opened ++ (phases ++ l)))) (append_assoc R L Z))
