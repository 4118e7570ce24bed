-- Actions by the tables are written as the case's. Assumes nothing.
use Prim.Native.Nat.{ℕ, zero, suc, ◌+◌, ◌≤◌, ◌<◌}
use Rattle.std.specs.Prelude.{◌≡◌, Bool, T, length, get_or, take, drop, if◌then◌else◌}
use Rattle.std.proofs.Math.Path.{refl, sym, ap, ap₂}
use Rattle.std.proofs.Common.{◌∙◌, arith}
use Rattle.std.proofs.Math.Bool.{true, false}
use mathlib.Core.List.{List, [], ◌∷◌, ◌++◌, map, map-append, append_assoc, append-nil}
use Rattle.std.proofs.Math.ListN.{length-map}
use Rattle.definitions.specs.Lists.{flat_map, from, below}
use Rattle.definitions.specs.Sheet.Text.{bytes, decimal, decimal_in}
use Rattle.definitions.specs.Sheet.Formula.{write_each}
use Rattle.definitions.specs.Sheet.Relations.{built_in, is_chosen, is_function, is_injective}
use Rattle.definitions.specs.Sheet.Sheets.{relations, relations_of}
use Rattle.definitions.specs.Problem.Truth.{Case}
use Rattle.definitions.specs.Problem.Tree.{Tree, Trees, leaf, forall_node, exists_node, and_node, or_node, end, ◌then◌, Part, parts, parts_from, how_many, nodes, tree_of, free}
use Rattle.definitions.specs.Reply.Page.{spaces}
use Rattle.definitions.specs.Reply.Lifted
use Rattle.definitions.specs.Reply.Pddl.{parameter_word, predicate_word, action_word, bracketed, indented, write_pattern, conjoined, schema_text}
use Lifted.{related, unrelated, free_first, free_second, proved, Term, parameter, object, Pattern, Schema, relation_in, node_in, last_in, term_at, with_term, own_terms, part_pattern, part_patterns, under_pattern}
use Lifted.{ActionName, set_name, goal_name, and_name, exists_name, first_name, next_name, or_name, used_up, set_schema, proof_schema, schema_of, successor}
use Rattle.laws.specs.Lists.{flat_append, flat_same, flat_map_lem, below_lt, map_same, get_d_map}
use Rattle.rule_nodes.specs.declared.Nodes.{Nodes}
use Rattle.rule_nodes.specs.Tables.{node_kind, node_level, IsTable, Fits}
use Rattle.rule_nodes.specs.Free.{free_few}
use Rattle.problem_table.specs.Of.{no_part as noTreePart}
use Rattle.print_names.specs.declared.Name.{Name}
use Rattle.print_names.specs.declared.Name.TheVariants.{Set, Goal, And, Exists, First, Next, Or}
use Rattle.print_names.specs.Naming
use Naming.{set_word, one_number, two_numbers}
use Rattle.print_words.specs.declared.Word.{Word}
use Rattle.print_words.specs.Words.{term_by, term_low, term_high, word_in, name_high, NamesOf}
use Rattle.print_instance.specs.Texts.{relation_word, is_fun, is_inj}
use Rattle.print_domain.specs.Texts
use Rattle.print_domain.specs.Actions.{row_at, effect_text, end_text, no_env, part_text, proof_end, kid_text, and_text, or_text, under_text, exists_text, own_with, first_text, next_text, goal_text}
use Texts.{proved_word, head_text, params_text, also_text, used_text, set_text}
use Rattle.print_domain.specs.Parts.{goal_env}
use Rattle.print_domain.specs.Patterns

-- ---- lists of words
each_append : (xs ys : List (List ℕ)) → write_each (λ v. v) (xs ++ ys) ≡ write_each (λ v. v) xs ++ write_each (λ v. v) ys
unfolding write_each
each_append [] ys = refl
each_append (x ∷ xs) ys = ap (λ (l : List ℕ). 32 ∷ (x ++ l)) (each_append xs ys) ∙ ap (λ (l : List ℕ). 32 ∷ l) (sym (append_assoc x (write_each (λ v. v) xs) (write_each (λ v. v) ys)))

each_flat : {A : Type 0} (f : A → List ℕ) (l : List A) → write_each (λ v. v) (map f l) ≡ flat_map (λ a. bytes " " ++ f a) l
unfolding write_each flat_map
each_flat f [] = refl
each_flat f (x ∷ l) = ap (λ (m : List ℕ). 32 ∷ (f x ++ m)) (each_flat f l)

pub flat_shift : {B : Type 0} (h : ℕ → List B) (a m : ℕ) → flat_map h (from (suc a) m) ≡ flat_map (λ j. h (suc j)) (from a m)
unfolding flat_map from
flat_shift h a zero = refl
flat_shift h a (suc m) = ap (λ (t : List _). h (suc a) ++ t) (flat_shift h (suc a) m)

flat_index : {A B : Type 0} (h : A → List B) (l : List A) (d : A) → flat_map h l ≡ flat_map (λ j. h (get_or l j d)) (below (length l))
unfolding flat_map below from
flat_index h [] d = refl
flat_index h (x ∷ l) d = ap (λ (t : List _). h x ++ t) (flat_index h l d ∙ sym (flat_shift (λ j. h (get_or (x ∷ l) j d)) zero (length l)))

one_of : {A : Type 0} (l : List A) (i : ℕ) (d : A) → i < length l → take 1 (drop i l) ≡ get_or l i d ∷ []
one_of [] i d h = absurd (omega arith)
one_of (x ∷ l) zero d h = refl
one_of (x ∷ l) (suc i) d h = one_of l i d (omega arith)

pub terms_below : (k : ℕ) → k ≤ 8 → map term_by (below k) ≡ map parameter (below k)
terms_below k h = map_same term_by parameter (below k) (λ i m. let l = below_lt k i m in term_low i (omega arith))

pub length_parts : (v : ℕ) (ts : Trees) → length (parts_from v ts) ≡ how_many ts
unfolding parts_from how_many
length_parts v end = refl
length_parts v (t then ts) = ap suc (length_parts (v + length (nodes t)) ts)

each_map : {A : Type 0} (f : A → List ℕ) (l : List A) → write_each f l ≡ write_each (λ v. v) (map f l)
unfolding write_each
each_map f [] = refl
each_map f (x ∷ l) = ap (λ (m : List ℕ). 32 ∷ (f x ++ m)) (each_map f l)

params_are : (k : ℕ) → params_text k ≡ bracketed (map parameter_word (below k))
unfolding params_text bracketed below from
params_are zero = refl
params_are (suc k) = ap (λ (l : List ℕ). bytes "(" ++ (parameter_word 0 ++ (l ++ bytes ")"))) (each_map parameter_word (from 1 k))

-- ---- the word of an action
chosen_high : (c : Case) (r : ℕ) → T (is_chosen (relation_in c r).kind) → 5 ≤ r
unfolding relation_in relations_of relations built_in is_chosen
chosen_high c zero t = absurd t
chosen_high c (suc zero) t = absurd t
chosen_high c (suc (suc zero)) t = absurd t
chosen_high c (suc (suc (suc zero))) t = absurd t
chosen_high c (suc (suc (suc (suc zero)))) t = absurd t
chosen_high c (suc (suc (suc (suc (suc r))))) t = omega arith

five : (c : Case) → 5 ≤ length (relations_of c.question)
unfolding relations_of relations built_in
five c = omega arith

module _ (c : Case) (q ns : List ℕ) where
  goal_word : Naming.word_in q ns Goal ≡ action_word c goal_name
  unfolding Naming.word_in action_word
  goal_word = refl

  and_word : (v : ℕ) → Naming.word_in q ns (And v) ≡ action_word c (and_name v)
  unfolding Naming.word_in action_word one_number
  and_word v = refl

  exists_word : (v : ℕ) → Naming.word_in q ns (Exists v) ≡ action_word c (exists_name v)
  unfolding Naming.word_in action_word one_number
  exists_word v = refl

  first_word_lem : (v : ℕ) → Naming.word_in q ns (First v) ≡ action_word c (first_name v)
  unfolding Naming.word_in action_word two_numbers decimal decimal_in
  first_word_lem v = refl

  next_word : (v : ℕ) → Naming.word_in q ns (Next v) ≡ action_word c (next_name v)
  unfolding Naming.word_in action_word two_numbers decimal decimal_in
  next_word v = refl

  or_word : (v i : ℕ) → Naming.word_in q ns (Or v i) ≡ action_word c (or_name v i)
  unfolding Naming.word_in action_word two_numbers
  or_word v i = refl

  -- ---- an action's text in parts
  head_parts : (k : Name) (count : ℕ) (X : List ℕ) → head_text q ns k count ++ X
      ≡ bytes "  (:action " ++ (Naming.word_in q ns k ++ ((10 ∷ bytes "    :parameters ") ++ (params_text count ++ ((10 ∷ bytes "    :precondition (and") ++ X))))
  unfolding head_text
  head_parts k count X =
      ap (λ (l : List ℕ). bytes "  (:action " ++ l)
      (append_assoc (Naming.word_in q ns k) ((10 ∷ bytes "    :parameters ") ++ (params_text count ++ (10 ∷ bytes "    :precondition (and"))) X
      ∙ ap (λ (l : List ℕ). Naming.word_in q ns k ++ ((10 ∷ bytes "    :parameters ") ++ l)) (append_assoc (params_text count) (10 ∷ bytes "    :precondition (and") X))

  -- as it is said, or its negation
  abbrev pub says : Bool → Pattern → List ℕ
  says false a = bytes " " ++ write_pattern c a
  says true a = bytes " (not " ++ (write_pattern c a ++ bytes ")")

  not_said : (a : Pattern) → bytes " " ++ bracketed (bytes "not" ∷ write_pattern c a ∷ []) ≡ says true a
  unfolding bracketed write_each
  not_said a = ap (λ (l : List ℕ). bytes " (not " ++ (l ++ bytes ")")) (append-nil (write_pattern c a))

  text_parts : (s : Schema) → schema_text c s ≡ bytes "  (:action " ++ (action_word c s.name ++ ((10 ∷ bytes "    :parameters ") ++ (bracketed (map parameter_word (below s.parameters))
      ++ ((10 ∷ bytes "    :precondition (and") ++ (write_each (λ v. v) (map (write_pattern c) s.needed)
      ++ (effect_text ++ (write_each (λ v. v) (map (write_pattern c) s.added ++ map (λ a. bracketed (bytes "not" ∷ write_pattern c a ∷ [])) s.removed) ++ end_text)))))))
  unfolding schema_text indented spaces conjoined bracketed
  text_parts s = shape (action_word c s.name) (bracketed (map parameter_word (below s.parameters))) (write_each (λ v. v) (map (write_pattern c) s.needed))
      (write_each (λ v. v) (map (write_pattern c) s.added ++ map (λ a. bracketed (bytes "not" ∷ write_pattern c a ∷ [])) s.removed))
    where
      shape : (A B C D : List ℕ) → bytes "  (:action " ++ ((A ++ (10 ∷ [])) ++ (bytes "    :parameters " ++ ((B ++ (10 ∷ []))
          ++ (bytes "    :precondition (and" ++ (((C ++ bytes ")") ++ (10 ∷ [])) ++ (bytes "    :effect (and" ++ (((D ++ bytes ")") ++ bytes ")") ++ (10 ∷ []))))))))
          ≡ bytes "  (:action " ++ (A ++ ((10 ∷ bytes "    :parameters ") ++ (B ++ ((10 ∷ bytes "    :precondition (and") ++ (C ++ (effect_text ++ (D ++ end_text)))))))
      shape A B C D =
          let d : ((D ++ bytes ")") ++ bytes ")") ++ (10 ∷ []) ≡ D ++ end_text = append_assoc (D ++ bytes ")") (bytes ")") (10 ∷ []) ∙ append_assoc D (bytes ")") (41 ∷ 10 ∷ []) in
          let e : ((C ++ bytes ")") ++ (10 ∷ [])) ++ (bytes "    :effect (and" ++ (D ++ end_text)) ≡ C ++ (effect_text ++ (D ++ end_text)) =
          append_assoc (C ++ bytes ")") (10 ∷ []) (bytes "    :effect (and" ++ (D ++ end_text)) ∙ append_assoc C (bytes ")") (10 ∷ (bytes "    :effect (and" ++ (D ++ end_text))) in
          ap (λ (l : List ℕ). bytes "  (:action " ++ ((A ++ (10 ∷ [])) ++ (bytes "    :parameters " ++ ((B ++ (10 ∷ [])) ++ (bytes "    :precondition (and" ++ (((C ++ bytes ")") ++ (10 ∷ [])) ++ (bytes "    :effect (and" ++ l))))))) d
          ∙ ap (λ (l : List ℕ). bytes "  (:action " ++ ((A ++ (10 ∷ [])) ++ (bytes "    :parameters " ++ ((B ++ (10 ∷ [])) ++ (bytes "    :precondition (and" ++ l))))) e
          ∙ ap (λ (l : List ℕ). bytes "  (:action " ++ ((A ++ (10 ∷ [])) ++ (bytes "    :parameters " ++ l))) (append_assoc B (10 ∷ []) (bytes "    :precondition (and" ++ (C ++ (effect_text ++ (D ++ end_text)))))
          ∙ ap (λ (l : List ℕ). bytes "  (:action " ++ l) (append_assoc A (10 ∷ []) (bytes "    :parameters " ++ (B ++ ((10 ∷ bytes "    :precondition (and") ++ (C ++ (effect_text ++ (D ++ end_text)))))))

  pub schema_is : (s : Schema) (k : Name) (X E : List ℕ) → Naming.word_in q ns k ≡ action_word c s.name → X ≡ flat_map (says false) s.needed
      → E ≡ flat_map (says false) s.added ++ flat_map (says true) s.removed → head_text q ns k s.parameters ++ (X ++ (effect_text ++ (E ++ end_text))) ≡ schema_text c s
  schema_is s k X E w x e =
      head_parts k s.parameters (X ++ (effect_text ++ (E ++ end_text)))
      ∙ ap (λ (W : List ℕ). bytes "  (:action " ++ (W ++ ((10 ∷ bytes "    :parameters ") ++ (params_text s.parameters ++ ((10 ∷ bytes "    :precondition (and") ++ (X ++ (effect_text ++ (E ++ end_text)))))))) w
      ∙ ap (λ (B : List ℕ). bytes "  (:action " ++ (action_word c s.name ++ ((10 ∷ bytes "    :parameters ") ++ (B ++ ((10 ∷ bytes "    :precondition (and") ++ (X ++ (effect_text ++ (E ++ end_text)))))))) (params_are s.parameters)
      ∙ ap₂ (λ (C D : List ℕ). bytes "  (:action " ++ (action_word c s.name ++ ((10 ∷ bytes "    :parameters ") ++ (bracketed (map parameter_word (below s.parameters)) ++ ((10 ∷ bytes "    :precondition (and") ++ (C ++ (effect_text ++ (D ++ end_text))))))))
      (x ∙ sym (each_flat (write_pattern c) s.needed))
      (e ∙ ap₂ ◌++◌ (sym (each_flat (write_pattern c) s.added))
      (flat_same (says true) (λ a. bytes " " ++ bracketed (bytes "not" ∷ write_pattern c a ∷ [])) s.removed (λ a _. sym (not_said a)) ∙ sym (each_flat (λ a. bracketed (bytes "not" ∷ write_pattern c a ∷ [])) s.removed))
      ∙ sym (each_append (map (write_pattern c) s.added) (map (λ a. bracketed (bytes "not" ∷ write_pattern c a ∷ [])) s.removed)))
      ∙ sym (text_parts s)

  -- of a proof, and of the goal
  proof_is : (name : ActionName) (k : Name) (v m count : ℕ) (needed : List Pattern) (own : List Term) (X Y : List ℕ) → m ≡ count → Naming.word_in q ns k ≡ action_word c name
      → X ≡ flat_map (says false) needed → Y ≡ says false (record { predicate = proved v; terms = own })
      → head_text q ns k m ++ (bytes " (proof)" ++ (X ++ (effect_text ++ (Y ++ end_text)))) ≡ schema_text c (proof_schema name v count needed own)
  unfolding proof_schema flat_map write_pattern bracketed predicate_word write_each
  proof_is name k v m count needed own X Y z w x y =
      ap (λ (j : ℕ). head_text q ns k j ++ (bytes " (proof)" ++ (X ++ (effect_text ++ (Y ++ end_text))))) z
      ∙ schema_is (proof_schema name v count needed own) k (bytes " (proof)" ++ X) Y w (ap (λ (l : List ℕ). bytes " (proof)" ++ l) x)
      (y ∙ sym (append-nil (says false (record { predicate = proved v; terms = own }) ++ []) ∙ append-nil (says false (record { predicate = proved v; terms = own }))))

-- ---- setting tuples
module _ (c : Case) (q ns : List ℕ) (N : NamesOf c q ns) where
  says_is : (negated : Bool) (w : Word) (ks : List ℕ) (a : Pattern) → word_in q ns w ≡ predicate_word c a.predicate → map term_by ks ≡ a.terms → also_text q ns w ks negated ≡ says c q ns negated a
  says_is false w ks a e d = Patterns.also_is c q ns N w ks a e d
  says_is true w ks a e d = Patterns.not_is c q ns N w ks a e d

  if_is : (negated b d : Bool) (w : Word) (ks : List ℕ) (a : Pattern) → b ≡ d → also_text q ns w ks negated ≡ says c q ns negated a
      → (if b then also_text q ns w ks negated else []) ≡ flat_map (says c q ns negated) (if d then a ∷ [] else [])
  unfolding flat_map
  if_is negated b true w ks a e s = rw e (s ∙ sym (append-nil (says c q ns negated a)))
  if_is negated b false w ks a e s = rw e refl

  module _ (r arity kind : ℕ) (h : r < length (relations_of c.question)) (arity_is : arity ≡ (relation_in c r).arity) (few : arity ≤ 8) (fun : is_fun kind ≡ is_function (relation_in c r).kind)
      (inj : is_inj kind ≡ is_injective (relation_in c r).kind) where
    tuple_terms : map term_by (below arity) ≡ map parameter (below (relation_in c r).arity)
    tuple_terms = terms_below arity few ∙ ap (λ (a : ℕ). map parameter (below a)) arity_is

    one_term : (i : ℕ) → i < 8 → map term_by (i ∷ []) ≡ parameter i ∷ []
    one_term i l = ap (λ (x : Term). x ∷ []) (term_low i l)

    used_is : (negated : Bool) → used_text q ns r arity kind negated ≡ flat_map (says c q ns negated) (used_up r (relation_in c r))
    unfolding used_text used_up flat_map
    used_is negated =
        ap₂ ◌++◌ (says_is negated (relation_word 1 r) (below arity) (record { predicate = unrelated r; terms = map parameter (below (relation_in c r).arity) }) (Patterns.unrelated_is c q ns N r h) tuple_terms)
        (ap₂ ◌++◌
        (if_is negated (is_fun kind) (is_function (relation_in c r).kind) (relation_word 2 r) (0 ∷ []) (record { predicate = free_first r; terms = parameter 0 ∷ [] }) fun
        (says_is negated (relation_word 2 r) (0 ∷ []) (record { predicate = free_first r; terms = parameter 0 ∷ [] }) (Patterns.first_is c q ns N r h) (one_term 0 (omega arith))))
        (if_is negated (is_inj kind) (is_injective (relation_in c r).kind) (relation_word 3 r) (1 ∷ []) (record { predicate = free_second r; terms = parameter 1 ∷ [] }) inj
        (says_is negated (relation_word 3 r) (1 ∷ []) (record { predicate = free_second r; terms = parameter 1 ∷ [] }) (Patterns.second_is c q ns N r h) (one_term 1 (omega arith))))
        ∙ sym (flat_append (says c q ns negated) (if is_function (relation_in c r).kind then record { predicate = free_first r; terms = parameter 0 ∷ [] } ∷ [] else [])
        (if is_injective (relation_in c r).kind then record { predicate = free_second r; terms = parameter 1 ∷ [] } ∷ [] else [])))

    set_word_lem : T (is_chosen (relation_in c r).kind) → Naming.word_in q ns (Set r) ≡ action_word c (set_name r)
    unfolding Naming.word_in set_word action_word
    set_word_lem t = ap (λ (w : List ℕ). bytes "set_" ++ (w ++ bytes "_true")) (sym (name_high q ns r (chosen_high c r t)) ∙ N.name r h)

    pub set_is : T (is_chosen (relation_in c r).kind) → set_text q ns r arity kind ≡ schema_text c (schema_of c (set_name r))
    unfolding set_text schema_of set_schema flat_map write_pattern bracketed predicate_word write_each
    set_is t =
        let A = also_text q ns (relation_word 0 r) (below arity) false in
        let U = used_text q ns r arity kind false in
        let R = used_text q ns r arity kind true in
        ap (λ (l : List ℕ). head_text q ns (Set r) arity ++ (bytes " (guess)" ++ (U ++ (effect_text ++ l)))) (sym (append_assoc A R end_text))
        ∙ ap (λ (j : ℕ). head_text q ns (Set r) j ++ (bytes " (guess)" ++ (U ++ (effect_text ++ ((A ++ R) ++ end_text))))) arity_is
        ∙ schema_is c q ns (set_schema r (relation_in c r)) (Set r) (bytes " (guess)" ++ U) (A ++ R) (set_word_lem t) (ap (λ (l : List ℕ). bytes " (guess)" ++ l) (used_is false))
        (ap₂ ◌++◌ (says_is false (relation_word 0 r) (below arity) (record { predicate = related r; terms = map parameter (below (relation_in c r).arity) }) (Patterns.related_is c q ns N r h) tuple_terms
        ∙ sym (append-nil (says c q ns false (record { predicate = related r; terms = map parameter (below (relation_in c r).arity) })))) (used_is true))

-- ---- proofs
under_pattern_lem : (l v : ℕ) (u : Tree) (x : Term) → node_kind u < 2
    → under_pattern l v u x ≡ part_pattern l (with_term (term_at (free u)) (node_level u) x) (get_or (parts v u) 0 noTreePart).node (get_or (parts v u) 0 noTreePart).tree ∷ []
unfolding under_pattern node_kind node_level parts
under_pattern_lem l v (leaf p r ls) x h = absurd (omega arith)
under_pattern_lem l v (forall_node d s t) x h = refl
under_pattern_lem l v (exists_node d s t) x h = refl
under_pattern_lem l v (and_node ts) x h = absurd (omega arith)
under_pattern_lem l v (or_node ts) x h = absurd (omega arith)

some_part : (v : ℕ) (u : Tree) → node_kind u < 2 → 0 < length (parts v u)
unfolding node_kind parts
some_part v (leaf p r ls) h = absurd (omega arith)
some_part v (forall_node d s t) h = omega arith
some_part v (exists_node d s t) h = omega arith
some_part v (and_node ts) h = absurd (omega arith)
some_part v (or_node ts) h = absurd (omega arith)

module _ (c : Case) (q ns : List ℕ) (N : NamesOf c q ns) (t : Nodes) (rels : ℕ) (rels_are : rels ≡ length (relations_of c.question)) (tree : IsTable rels (tree_of c.question) t) (fits : Fits t)
    (n : ℕ) (size : n ≡ c.site.size) (some : 0 < n) where
  pub goal_is : goal_text q ns t (n + 7) ≡ schema_text c (schema_of c goal_name)
  unfolding goal_text schema_of flat_map write_pattern bracketed predicate_word write_each
  goal_is =
      let P = part_pattern (last_in c) (λ _. object zero) zero (tree_of c.question) in
      let X = part_text q ns t t.root no_env (n + 7) in
      schema_is c q ns (schema_of c goal_name) Goal X (bytes " (holds_goal)") (goal_word c q ns)
      (Patterns.part_is c q ns N t rels rels_are tree fits n size some t.root zero (λ _. object zero) no_env goal_env tree.top_within fits.root (tree_of c.question) tree.top ∙ sym (append-nil (says c q ns false P)))
      refl

  module _ (v : ℕ) (h : v < t.count) where
    abbrev u : Tree
    u = node_in c v

    abbrev width : ℕ
    width = (row_at t v).width

    width_is : width ≡ length (free u)
    width_is = (Patterns.node_at_lem c q ns N t rels rels_are tree fits n size some v h).width

    pub kind_is : (row_at t v).kind ≡ node_kind u
    kind_is = (Patterns.node_at_lem c q ns N t rels rels_are tree fits n size some v h).kind

    width_few : width ≤ 4
    width_few = omega (arith, width_is, free_few u)

    own_terms_lem : map term_by (below width) ≡ own_terms u
    unfolding own_terms
    own_terms_lem = terms_below width (omega (arith, width_few)) ∙ ap (λ (k : ℕ). map parameter (below k)) width_is

    own_with_lem : (x : ℕ) (y : Term) → term_by x ≡ y → map term_by (own_with width x) ≡ own_terms u ++ (y ∷ [])
    own_with_lem x y e = map-append term_by (below width) (x ∷ []) ∙ ap₂ (λ (l : List Term) (z : Term). l ++ (z ∷ [])) own_terms_lem e

    self : (kind : ℕ) → node_kind u ≡ kind → word_in q ns (proved_word v kind) ≡ predicate_word c (proved v)
    self kind e = ap (λ (k : ℕ). word_in q ns (proved_word v k)) (sym (kind_is ∙ e)) ∙ Patterns.proved_is c q ns N t rels rels_are tree fits n size some v h

    proved_own : (kind : ℕ) (ks : List ℕ) (own : List Term) → node_kind u ≡ kind → map term_by ks ≡ own → also_text q ns (proved_word v kind) ks false ≡ says c q ns false (record { predicate = proved v; terms = own })
    proved_own kind ks own e d = says_is c q ns N false (proved_word v kind) ks (record { predicate = proved v; terms = own }) (self kind e) d

    abbrev pattern : Part → Pattern
    pattern p = part_pattern (last_in c) (term_at (free u)) p.node p.tree

    pub many_is : (row_at t v).many ≡ length (parts v u)
    many_is = Patterns.many_is c q ns N t rels rels_are tree fits n size some v h

    kid_at : (k : ℕ) → k < length (parts v u) → kid_text q ns t v (n + 7) k ≡ says c q ns false (pattern (get_or (parts v u) k noTreePart))
    kid_at k l = Patterns.kid_is c q ns N t rels rels_are tree fits n size some v h k l

    kids_are : flat_map (kid_text q ns t v (n + 7)) (below (row_at t v).many) ≡ flat_map (says c q ns false) (part_patterns (last_in c) v u)
    unfolding part_patterns
    kids_are =
        ap (λ (m : ℕ). flat_map (kid_text q ns t v (n + 7)) (below m)) many_is
        ∙ flat_same (kid_text q ns t v (n + 7)) (λ k. says c q ns false (pattern (get_or (parts v u) k noTreePart))) (below (length (parts v u))) (λ k m. kid_at k (below_lt (length (parts v u)) k m))
        ∙ sym (flat_index (λ p. says c q ns false (pattern p)) (parts v u) noTreePart) ∙ sym (flat_map_lem (says c q ns false) pattern (parts v u))

    pub and_is : node_kind u ≡ 2 → and_text q ns t v (n + 7) ≡ schema_text c (schema_of c (and_name v))
    unfolding and_text proof_end schema_of
    and_is e = proof_is c q ns (and_name v) (And v) v width (length (free u)) (part_patterns (last_in c) v u) (own_terms u) _ _ width_is (and_word c q ns v) kids_are (proved_own 2 (below width) (own_terms u) e own_terms_lem)

    kid_alone : (i : ℕ) → i < length (parts v u) → kid_text q ns t v (n + 7) i ≡ flat_map (says c q ns false) (take 1 (drop i (part_patterns (last_in c) v u)))
    unfolding part_patterns flat_map
    kid_alone i l =
        kid_at i l ∙ sym (append-nil (says c q ns false (pattern (get_or (parts v u) i noTreePart))))
        ∙ ap (flat_map (says c q ns false)) (sym (one_of (map pattern (parts v u)) i (pattern noTreePart) (omega (arith, length-map (parts v u) pattern))
        ∙ ap (λ (a : Pattern). a ∷ []) (get_d_map pattern (parts v u) i noTreePart (pattern noTreePart) l)))

    pub or_is : (i : ℕ) → i < length (parts v u) → node_kind u ≡ 3 → or_text q ns t v (n + 7) i ≡ schema_text c (schema_of c (or_name v i))
    unfolding or_text proof_end schema_of
    or_is i l e = proof_is c q ns (or_name v i) (Or v i) v width (length (free u)) (take 1 (drop i (part_patterns (last_in c) v u))) (own_terms u) _ _ width_is (or_word c q ns v i) (kid_alone i l) (proved_own 3 (below width) (own_terms u) e own_terms_lem)

    under_at_lem : (x : ℕ) (y : Term) → node_kind u < 2 → term_by x ≡ y → under_text q ns t v x (n + 7) ≡ flat_map (says c q ns false) (under_pattern (last_in c) v u y)
    unfolding flat_map
    under_at_lem x y l e =
        Patterns.under_is c q ns N t rels rels_are tree fits n size some v h x (some_part v u l)
        ∙ sym (append-nil (says c q ns false (part_pattern (last_in c) (with_term (term_at (free u)) (node_level u) (term_by x)) (get_or (parts v u) 0 noTreePart).node (get_or (parts v u) 0 noTreePart).tree)))
        ∙ ap (flat_map (says c q ns false)) (sym (under_pattern_lem (last_in c) v u (term_by x) l)) ∙ ap (λ (z : Term). flat_map (says c q ns false) (under_pattern (last_in c) v u z)) e

    first_free : term_by width ≡ parameter (length (free u))
    first_free = term_low width (omega (arith, width_few)) ∙ ap parameter width_is

    second_free : term_by (width + 1) ≡ parameter (suc (length (free u)))
    second_free = let e : width + 1 ≡ suc (length (free u)) = omega (arith, width_is) in term_low (width + 1) (omega (arith, width_few)) ∙ ap parameter e

    pub exists_is : node_kind u ≡ 1 → exists_text q ns t v (n + 7) ≡ schema_text c (schema_of c (exists_name v))
    unfolding exists_text proof_end schema_of
    exists_is e = proof_is c q ns (exists_name v) (Exists v) v (width + 1) (suc (length (free u))) (under_pattern (last_in c) v u (parameter (length (free u)))) (own_terms u) _ _ (omega (arith, width_is)) (exists_word c q ns v)
        (under_at_lem width (parameter (length (free u))) (omega (arith, e)) first_free) (proved_own 1 (below width) (own_terms u) e own_terms_lem)

    pub first_is : node_kind u ≡ 0 → first_text q ns t v (n + 7) ≡ schema_text c (schema_of c (first_name v))
    unfolding first_text proof_end schema_of
    first_is e =
        let o : term_by 8 ≡ object zero = term_high 8 (omega arith) in
        proof_is c q ns (first_name v) (First v) v width (length (free u)) (under_pattern (last_in c) v u (object zero)) (own_terms u ++ (object zero ∷ [])) _ _ width_is (first_word_lem c q ns v)
        (under_at_lem 8 (object zero) (omega (arith, e)) o) (proved_own 0 (own_with width 8) (own_terms u ++ (object zero ∷ [])) e (own_with_lem 8 (object zero) o))

    pub next_is : node_kind u ≡ 0 → next_text q ns t v (n + 7) ≡ schema_text c (schema_of c (next_name v))
    unfolding next_text proof_end schema_of flat_map
    next_is e =
        let y = parameter (length (free u)) in
        let z = parameter (suc (length (free u))) in
        let A = also_text q ns (relation_word 0 2) (width ∷ (width + 1) ∷ []) false in
        let B = also_text q ns (proved_word v 0) (own_with width width) false in
        let X = under_text q ns t v (width + 1) (n + 7) in
        let Y = proof_end q ns (proved_word v 0) (own_with width (width + 1)) in
        ap (λ (l : List ℕ). head_text q ns (Next v) (width + 2) ++ (bytes " (proof)" ++ l)) (sym (append_assoc A (B ++ X) Y ∙ ap (λ (l : List ℕ). A ++ l) (append_assoc B X Y)))
        ∙ proof_is c q ns (next_name v) (Next v) v (width + 2) (suc (suc (length (free u))))
        (record { predicate = related successor; terms = y ∷ z ∷ [] } ∷ record { predicate = proved v; terms = own_terms u ++ (y ∷ []) } ∷ under_pattern (last_in c) v u z)
        (own_terms u ++ (z ∷ [])) (A ++ (B ++ X)) _ (omega (arith, width_is)) (next_word c q ns v)
        (ap₂ ◌++◌ (says_is c q ns N false (relation_word 0 2) (width ∷ (width + 1) ∷ []) (record { predicate = related successor; terms = y ∷ z ∷ [] }) (Patterns.related_is c q ns N 2 (omega (arith, five c)))
        (ap₂ (λ (a b : Term). a ∷ b ∷ []) first_free second_free))
        (ap₂ ◌++◌ (proved_own 0 (own_with width width) (own_terms u ++ (y ∷ [])) e (own_with_lem width y first_free)) (under_at_lem (width + 1) z (omega (arith, e)) second_free)))
        (proved_own 0 (own_with width (width + 1)) (own_terms u ++ (z ∷ [])) e (own_with_lem (width + 1) z second_free))
