-- What PDDL makes of a written domain, instance and plan: the task with the case's actions, objects and facts, word by word.
use Prim.Native.Nat.{ℕ, ◌-◌, ◌<◌}
use Rattle.std.specs.Prelude.{◌≡◌, Bool, ◌&&◌, ◌||◌, eqb, length, if◌then◌else◌}
use Rattle.std.proofs.Math.Path.{refl, sym, ap, ap₂, subst}
use Rattle.std.proofs.Common.{◌∙◌, ⊎_elim, arith, eqb→eq, ltb-true, ltb-false}
use Rattle.std.proofs.Math.Bool.{true, false, not}
use Rattle.std.proofs.Math.Option.{Option, some}
use mathlib.Core.List.{List, [], ◌∷◌, ◌++◌, map, map-append, append_assoc, append-nil}
use Rattle.std.proofs.Math.Dec.{T, ltb, not_T}
use Rattle.std.proofs.Math.ListN.{get_or, get_or-eq_default}
use Rattle.definitions.specs.Lists.{all, filter, option, flat_map, find, same, from, below, is_empty}
use Rattle.definitions.specs.Sheet.Text.{bytes, is_between, is_capital, is_small, is_digit, decimal}
use Rattle.definitions.specs.Sheet.Relations.{Relation}
use Rattle.definitions.specs.Sheet.Sheets.{relations_of}
use Rattle.definitions.specs.Problem.Truth.{Case}
use Rattle.definitions.specs.Problem.Tree.{Tree, leaf, forall_node, exists_node, and_node, or_node}
use Rattle.definitions.specs.Reply.Lifted.{Predicate, guessing, proving, reached, related, unrelated, free_first, free_second, proved, Fact, Term, parameter, object, Pattern, ActionName, set_name}
use Rattle.definitions.specs.Reply.Lifted.{begin_name, goal_name, and_name, exists_name, first_name, next_name, or_name, Schema, relation_in, node_in, schemas, predicates, places_in, facts_of, PlanStep}
use Rattle.definitions.specs.Reply.Pddl
use Rattle.definitions.specs.Reply.PddlMeaning
use Rattle.laws.specs.Booleans.{T_or, and_T}
use Rattle.laws.specs.Lists.{all_of, all_at, map_map, map_same}
use Rattle.laws.specs.Numbers.{no_relation}
use Rattle.laws.specs.Reader.{Accepted}
use Rattle.meaning.specs.PddlWords.{names_formed}
use Rattle.demands.specs.PlanLines.{Word, high, folded_append, decimal_bytes, name_bytes, object_word_lem}
use Rattle.demands.specs.PddlReading
use Rattle.definitions.specs.Reply.Page.{spaces}
use Pddl.{object_word, parameter_word, term_word, node_word, predicate_word, action_word, bracketed, indented, write_fact, write_pattern, conjoined, constants, predicate_line, schema_text}
use Pddl.{domain_text, instance_text, step_text, plan_text, small, folded, is_word, is_word_byte}
use PddlMeaning.{Expression, word, in_all, with_word, is_blank, taking, taking_all, closing, expressions, letters_of, members_in, begins, each, as_word, as_words, AtomWords, conjuncts, negated, atoms_in}
use PddlMeaning.{added_in, removed_in, Operator, has_key, operator_in, section, only_one, Task, task_from, task_of, steps_in, grouped, listed, unlisted}
use PddlReading.{listed_back, members_back, Reads, Fresh, Opens, Closes, reads_append, fresh_append, reads_close, opens_close, fresh_none, fresh_of, space_then, line_then, space_opens}
use PddlReading.{bracket_opens, bracket_closes, is_letter, fresh_word, Each, reads_bracketed, fold_line, line_end, spaced, reads_line, reads_flat, expressions_of}

-- ---- words are read as words
abbrev Item : List ℕ → Type 0
Item w = Fresh (folded w) (word (folded w) ∷ [])

item_of : (w : List ℕ) → 0 < length w → T (all is_letter (folded w)) → Item w
unfolding folded
item_of [] h t = absurd (omega arith)
item_of (b ∷ w) h t = fresh_word (small b) (map small w) t

word_letter : (b : ℕ) → T (is_word_byte b) → T (is_letter b)
unfolding is_letter is_blank
word_letter b t =
    let h = high b t in
    and_T (not (eqb b 40) && not (eqb b 41)) _
    (and_T (not (eqb b 40)) _ (not_T (eqb b 40) (λ q. let e = eqb→eq b 40 q in omega arith)) (not_T (eqb b 41) (λ q. let e = eqb→eq b 41 q in omega arith)))
    (not_T (eqb b 32 || eqb b 10 || eqb b 9 || eqb b 13) (λ q. ⊎_elim (λ q₁. ⊎_elim (λ q₂. ⊎_elim (λ q₃. let e = eqb→eq b 32 q₃ in omega arith) (λ q₃. let e = eqb→eq b 10 q₃ in omega arith) (T_or (eqb b 32) _ q₂))
    (λ q₂. let e = eqb→eq b 9 q₂ in omega arith) (T_or (eqb b 32 || eqb b 10) _ q₁)) (λ q₁. let e = eqb→eq b 13 q₁ in omega arith) (T_or (eqb b 32 || eqb b 10 || eqb b 9) _ q)))

pub letters_of_lem : (w : List ℕ) → T (all is_word_byte w) → T (all is_letter w)
letters_of_lem w t = all_of is_letter w (λ b m. word_letter b (all_at is_word_byte w t b m))

word_item : (w : List ℕ) → Word w → Item w
unfolding is_word is_empty folded
word_item [] t = absurd t
word_item (b ∷ w) t = item_of (b ∷ w) (omega arith) (letters_of_lem (map small (b ∷ w)) t)

parameter_item : (i : ℕ) → Item (parameter_word i)
unfolding parameter_word folded small is_capital is_between is_letter is_blank all
parameter_item i = item_of (parameter_word i) (omega arith) (letters_of_lem (folded (decimal i)) (decimal_bytes i))

object_item : (x : ℕ) → Item (object_word x)
object_item x = word_item (object_word x) (object_word_lem x)

term_item : (t : Term) → Item (term_word t)
unfolding term_word
term_item (parameter i) = parameter_item i
term_item (object x) = object_item x

-- ---- lists of words
each_map : {A : Type 0} (f : A → List ℕ) (g : A → Expression) → ((a : A) → Fresh (folded (f a)) (g a ∷ [])) → (l : List A) → Each (map folded (map f l)) (map g l)
unfolding Each
each_map f g h [] = tt
each_map f g h (a ∷ l) = (h a, each_map f g h l)

each_append : (ts us : List (List ℕ)) (es fs : List Expression) → Each ts es → Each us fs → Each (ts ++ us) (es ++ fs)
unfolding Each
each_append [] us [] fs h k = k
each_append [] us (e ∷ es) fs h k = absurd h
each_append (t ∷ ts) us [] fs h k = absurd h
each_append (t ∷ ts) us (e ∷ es) fs h k = (h.0, each_append ts us es fs h.1 k)

as_words_lem : (ws : List (List ℕ)) → each as_word (map word ws) ≡ some ws
unfolding each as_word option
as_words_lem [] = refl
as_words_lem (w ∷ ws) = rw (as_words_lem ws) refl

pub group_words : (ws : List (List ℕ)) → as_words (grouped (map word ws)) ≡ some ws
unfolding as_words grouped
group_words ws = ap (each as_word) (listed_back (map word ws)) ∙ as_words_lem ws

pub each_some : {A B C : Type 0} (f : B → Option C) (g : A → B) (h : A → C) → ((a : A) → f (g a) ≡ some (h a)) → (l : List A) → each f (map g l) ≡ some (map h l)
unfolding each option
each_some f g h e [] = refl
each_some f g h e (a ∷ l) = rw (e a, each_some f g h e l) refl

-- ---- the words of a case
module _ (c : Case) where
  unfoldable pub fact_words : Fact → AtomWords
  fact_words f = folded (predicate_word c f.predicate) ∷ map (λ x. folded (object_word x)) f.objects

  unfoldable pub pattern_words : Pattern → AtomWords
  pattern_words a = folded (predicate_word c a.predicate) ∷ map (λ t. folded (term_word t)) a.terms

  unfoldable pub operator_of : Schema → Operator
  operator_of s = record {
    name = folded (action_word c s.name);
    parameters = map (λ i. folded (parameter_word i)) (below s.parameters);
    needed = map pattern_words s.needed;
    added = map pattern_words s.added;
    removed = map pattern_words s.removed;
  }

  unfoldable pub step_words : PlanStep → AtomWords
  step_words t = folded (action_word c t.name) ∷ map (λ x. folded (object_word x)) t.objects

  unfoldable pub object_words : List ℕ → List (List ℕ)
  object_words xs = map (λ x. folded (object_word x)) xs

  unfoldable pub task_in : Task
  task_in = record { operators = map operator_of (schemas c); objects = object_words (constants c) ++ object_words (from 1 (c.site.size - 2)); facts = map fact_words (facts_of c); goals = fact_words (record { predicate = reached; objects = [] }) ∷ [] }

module _ (c : Case) (A : Accepted c) where
  -- whatever number a relation has, its name has only letters of words
  name_letters : (r : ℕ) → T (all is_word_byte (folded (relation_in c r).name))
  unfolding relation_in folded all
  name_letters r = by_test (ltb r (length (relations_of c.question))) refl
    where
      by_test : (b : Bool) → ltb r (length (relations_of c.question)) ≡ b → T (all is_word_byte (folded (get_or (relations_of c.question) r no_relation).name))
      by_test true e = name_bytes (get_or (relations_of c.question) r no_relation).name (names_formed c A r (ltb-true r _ e))
      by_test false e = subst (λ (k : Relation). T (all is_word_byte (folded k.name))) (sym (get_or-eq_default (relations_of c.question) no_relation {n = r} (ltb-false r _ e))) tt

  node_letters : (t : Tree) → T (all is_word_byte (folded (node_word t)))
  unfolding node_word folded small is_capital is_between all is_word_byte is_small is_digit
  node_letters (leaf q r ls) = tt
  node_letters (forall_node d s t) = tt
  node_letters (exists_node d s t) = tt
  node_letters (and_node ts) = tt
  node_letters (or_node ts) = tt

  predicate_word_lem : (a : Predicate) → Word (predicate_word c a)
  unfolding predicate_word folded small is_capital is_between is_word is_empty all is_word_byte is_small is_digit
  predicate_word_lem guessing = tt
  predicate_word_lem proving = tt
  predicate_word_lem reached = tt
  predicate_word_lem (related r) = name_letters r
  predicate_word_lem (unrelated r) = name_letters r
  predicate_word_lem (free_first r) = folded_append (relation_in c r).name (bytes "_dom") (name_letters r) tt
  predicate_word_lem (free_second r) = folded_append (relation_in c r).name (bytes "_ran") (name_letters r) tt
  predicate_word_lem (proved v) = folded_append (node_word (node_in c v)) (bytes "_" ++ decimal v) (node_letters (node_in c v)) (decimal_bytes v)

  action_word_lem : (a : ActionName) → Word (action_word c a)
  unfolding action_word folded small is_capital is_between is_word is_empty all is_word_byte is_small is_digit
  action_word_lem (set_name r) = folded_append (relation_in c r).name (bytes "_true") (name_letters r) tt
  action_word_lem begin_name = tt
  action_word_lem goal_name = tt
  action_word_lem (and_name v) = decimal_bytes v
  action_word_lem (exists_name v) = decimal_bytes v
  action_word_lem (first_name v) = folded_append (decimal v) (bytes "_1") (decimal_bytes v) tt
  action_word_lem (next_name v) = folded_append (decimal v) (bytes "_2") (decimal_bytes v) tt
  action_word_lem (or_name v i) = folded_append (decimal v) (bytes "_" ++ decimal i) (decimal_bytes v) (decimal_bytes i)

  -- ---- what a pattern, a fact and a conjunction are read as
  abbrev atom_said : AtomWords → Expression
  atom_said ws = grouped (map word ws)

  bracketed_words : (w : List ℕ) (ws : List (List ℕ)) → Item w → Each (map folded ws) (map word (map folded ws)) → Fresh (folded (bracketed (w ∷ ws))) (atom_said (folded w ∷ map folded ws) ∷ [])
  unfolding Each
  bracketed_words w ws h k = fresh_of (reads_bracketed (w ∷ ws) (word (folded w) ∷ map word (map folded ws)) (h, k))

  items : {B : Type 0} (f : B → List ℕ) → ((b : B) → Item (f b)) → (l : List B) → Each (map folded (map f l)) (map word (map folded (map f l)))
  unfolding Each
  items f h [] = tt
  items f h (b ∷ l) = (h b, items f h l)

  pattern_read : (a : Pattern) → Fresh (folded (write_pattern c a)) (atom_said (pattern_words c a) ∷ [])
  unfolding write_pattern pattern_words
  pattern_read a = subst (λ (ws : List (List ℕ)). Fresh (folded (write_pattern c a)) (atom_said (folded (predicate_word c a.predicate) ∷ ws) ∷ [])) (map_map folded term_word a.terms)
      (bracketed_words (predicate_word c a.predicate) (map term_word a.terms) (word_item _ (predicate_word_lem a.predicate)) (items term_word term_item a.terms))

  fact_read : (f : Fact) → Fresh (folded (write_fact c f)) (atom_said (fact_words c f) ∷ [])
  unfolding write_fact fact_words
  fact_read f = subst (λ (ws : List (List ℕ)). Fresh (folded (write_fact c f)) (atom_said (folded (predicate_word c f.predicate) ∷ ws) ∷ [])) (map_map folded object_word f.objects)
      (bracketed_words (predicate_word c f.predicate) (map object_word f.objects) (word_item _ (predicate_word_lem f.predicate)) (items object_word object_item f.objects))

  abbrev not_said : AtomWords → Expression
  not_said ws = grouped (word (bytes "not") ∷ atom_said ws ∷ [])

  not_read : (a : Pattern) → Fresh (folded (bracketed (bytes "not" ∷ write_pattern c a ∷ []))) (not_said (pattern_words c a) ∷ [])
  unfolding Each folded small is_capital is_between is_letter is_blank all
  not_read a = fresh_of (reads_bracketed (bytes "not" ∷ write_pattern c a ∷ []) (word (bytes "not") ∷ atom_said (pattern_words c a) ∷ []) (fresh_word 110 (111 ∷ 116 ∷ []) tt, (pattern_read a, tt)))

  abbrev and_said : List Expression → Expression
  and_said es = grouped (word (bytes "and") ∷ es)

  and_read : (ts : List (List ℕ)) (es : List Expression) → Each (map folded ts) es → Reads (folded (conjoined ts)) (and_said es ∷ [])
  unfolding conjoined Each folded small is_capital is_between is_letter is_blank all
  and_read ts es h = reads_bracketed (bytes "and" ∷ ts) (word (bytes "and") ∷ es) (fresh_word 97 (110 ∷ 100 ∷ []) tt, h)

  needed_read : (l : List Pattern) → Reads (folded (conjoined (map (write_pattern c) l))) (and_said (map (λ a. atom_said (pattern_words c a)) l) ∷ [])
  needed_read l = and_read (map (write_pattern c) l) (map (λ a. atom_said (pattern_words c a)) l) (each_map (write_pattern c) (λ a. atom_said (pattern_words c a)) pattern_read l)

  effects : List Pattern → List Pattern → List Expression
  effects l m = map (λ a. atom_said (pattern_words c a)) l ++ map (λ a. not_said (pattern_words c a)) m

  effects_read : (l m : List Pattern) → Reads (folded (conjoined (map (write_pattern c) l ++ map (λ a. bracketed (bytes "not" ∷ write_pattern c a ∷ [])) m))) (and_said (effects l m) ∷ [])
  unfolding effects
  effects_read l m = and_read _ _ (subst (λ (ts : List (List ℕ)). Each ts (effects l m)) (sym (map-append folded (map (write_pattern c) l) (map (λ a. bracketed (bytes "not" ∷ write_pattern c a ∷ [])) m)))
      (each_append _ _ _ _ (each_map (write_pattern c) (λ a. atom_said (pattern_words c a)) pattern_read l) (each_map (λ a. bracketed (bytes "not" ∷ write_pattern c a ∷ [])) (λ a. not_said (pattern_words c a)) not_read m)))

  -- ---- an action
  parameter_words : ℕ → List (List ℕ)
  parameter_words k = map (λ i. folded (parameter_word i)) (below k)

  action_said : Schema → Expression
  action_said s = grouped (word (bytes ":action") ∷ word (folded (action_word c s.name)) ∷ word (bytes ":parameters") ∷ grouped (map word (parameter_words s.parameters))
      ∷ word (bytes ":precondition") ∷ and_said (map (λ a. atom_said (pattern_words c a)) s.needed) ∷ word (bytes ":effect") ∷ and_said (effects s.added s.removed) ∷ [])

  parameters_read : (k : ℕ) → Reads (folded (bracketed (map parameter_word (below k)))) (grouped (map word (parameter_words k)) ∷ [])
  unfolding parameter_words
  parameters_read k = subst (λ (ws : List (List ℕ)). Reads (folded (bracketed (map parameter_word (below k)))) (grouped (map word ws) ∷ [])) (map_map folded parameter_word (below k)) (reads_bracketed (map parameter_word (below k)) _ (items parameter_word parameter_item (below k)))

  -- a keyword, a space, and what follows
  keyed : (b : ℕ) (w t : List ℕ) (es : List Expression) → T (all is_letter (b ∷ w)) → Reads t es → Fresh ((b ∷ w) ++ (32 ∷ t)) (word (b ∷ w) ∷ es)
  keyed b w t es h R = fresh_append (fresh_word b w h) (space_then (fresh_of R))

  fold_append : (t u : List ℕ) → folded (t ++ u) ≡ folded t ++ folded u
  unfolding folded
  fold_append t u = map-append small t u

  name_line : (s : Schema) → Opens (folded (indented 2 (bytes "(:action " ++ action_word c s.name))) (word (bytes ":action") ∷ word (folded (action_word c s.name)) ∷ [])
  unfolding folded small is_capital is_between is_letter is_blank all spaces
  name_line s = subst (λ (t : List ℕ). Opens t (word (bytes ":action") ∷ word (folded (action_word c s.name)) ∷ [])) (sym (fold_line 2 (bytes "(:action " ++ action_word c s.name)))
      (space_opens (space_opens (bracket_opens (line_end (fresh_append (fresh_word 58 (bytes "action") tt) (space_then (word_item (action_word c s.name) (action_word_lem s.name))))))))

  parameters_line : (k : ℕ) → Reads (folded (indented 4 (bytes ":parameters " ++ bracketed (map parameter_word (below k))))) (word (bytes ":parameters") ∷ grouped (map word (parameter_words k)) ∷ [])
  unfolding folded small is_capital is_between is_letter is_blank all
  parameters_line k = reads_line 3 _ _ (keyed 58 (bytes "parameters") _ _ tt (parameters_read k))

  needed_line : (l : List Pattern) → Reads (folded (indented 4 (bytes ":precondition " ++ conjoined (map (write_pattern c) l)))) (word (bytes ":precondition") ∷ and_said (map (λ a. atom_said (pattern_words c a)) l) ∷ [])
  unfolding folded small is_capital is_between is_letter is_blank all
  needed_line l = reads_line 3 _ _ (keyed 58 (bytes "precondition") _ _ tt (needed_read l))

  effect_line : (l m : List Pattern) → Closes (folded (indented 4 (bytes ":effect " ++ (conjoined (map (write_pattern c) l ++ map (λ a. bracketed (bytes "not" ∷ write_pattern c a ∷ [])) m) ++ bytes ")")))) (word (bytes ":effect") ∷ and_said (effects l m) ∷ [])
  unfolding folded small is_capital is_between is_letter is_blank all spaces
  effect_line l m =
      let C : List ℕ = conjoined (map (write_pattern c) l ++ map (λ a. bracketed (bytes "not" ∷ write_pattern c a ∷ [])) m) in
      let e : map small (C ++ (41 ∷ [])) ++ (10 ∷ []) ≡ map small C ++ (41 ∷ 10 ∷ []) = ap (λ (x : List ℕ). x ++ (10 ∷ [])) (map-append small C (41 ∷ [])) ∙ append_assoc (map small C) (41 ∷ []) (10 ∷ []) in
      subst (λ (t : List ℕ). Closes t (word (bytes ":effect") ∷ and_said (effects l m) ∷ [])) (sym (fold_line 4 (bytes ":effect " ++ (C ++ bytes ")")) ∙ ap (λ (x : List ℕ). spaces 4 ++ (bytes ":effect " ++ x)) e))
      (reads_close (space_then (spaced 3 (keyed 58 (bytes "effect") _ _ tt (effects_read l m)))) (bracket_closes (fresh_of (line_then fresh_none))))

  action_read : (s : Schema) → Reads (folded (schema_text c s)) (action_said s ∷ [])
  unfolding schema_text action_said
  action_read s =
      let l₁ : List ℕ = indented 2 (bytes "(:action " ++ action_word c s.name) in
      let l₂ : List ℕ = indented 4 (bytes ":parameters " ++ bracketed (map parameter_word (below s.parameters))) in
      let l₃ : List ℕ = indented 4 (bytes ":precondition " ++ conjoined (map (write_pattern c) s.needed)) in
      let l₄ : List ℕ = indented 4 (bytes ":effect " ++ (conjoined (map (write_pattern c) s.added ++ map (λ a. bracketed (bytes "not" ∷ write_pattern c a ∷ [])) s.removed) ++ bytes ")")) in
      subst (λ (t : List ℕ). Reads t (action_said s ∷ [])) (sym (fold_append l₁ (l₂ ++ (l₃ ++ l₄)) ∙ ap (λ (x : List ℕ). folded l₁ ++ x) (fold_append l₂ (l₃ ++ l₄) ∙ ap (λ (x : List ℕ). folded l₂ ++ x) (fold_append l₃ l₄))))
      (opens_close (name_line s) (reads_close (parameters_line s.parameters) (reads_close (needed_line s.needed) (effect_line s.added s.removed))))

  five : (a b d e f g : List ℕ) → a ++ (b ++ (d ++ (e ++ (f ++ g)))) ≡ (a ++ ((b ++ (d ++ e)) ++ f)) ++ g
  five a b d e f g = sym (append_assoc a ((b ++ (d ++ e)) ++ f) g ∙ ap (λ (x : List ℕ). a ++ x) (append_assoc (b ++ (d ++ e)) f g ∙ append_assoc b (d ++ e) (f ++ g) ∙ ap (λ (x : List ℕ). b ++ x) (append_assoc d e (f ++ g))))

  -- ---- the domain
  predicate_said : Predicate → Expression
  predicate_said a = grouped (map word (folded (predicate_word c a) ∷ map folded (map parameter_word (below (places_in c a)))))

  predicate_read : (a : Predicate) → Reads (folded (predicate_line c a)) (predicate_said a ∷ [])
  unfolding predicate_line predicate_said
  predicate_read a = reads_line 3 _ _ (bracketed_words (predicate_word c a) (map parameter_word (below (places_in c a))) (word_item _ (predicate_word_lem a)) (items parameter_word parameter_item (below (places_in c a))))

  abbrev objects_said : List ℕ → List Expression
  objects_said xs = map word (object_words c xs)

  objects_read : (key : List ℕ) (xs : List ℕ) → Item key → Fresh (folded (bracketed (key ∷ map object_word xs))) (grouped (word (folded key) ∷ objects_said xs) ∷ [])
  unfolding object_words
  objects_read key xs h = subst (λ (ws : List (List ℕ)). Fresh (folded (bracketed (key ∷ map object_word xs))) (grouped (word (folded key) ∷ map word ws) ∷ [])) (map_map folded object_word xs)
      (bracketed_words key (map object_word xs) h (items object_word object_item xs))

  end_closes : Closes (folded (indented 0 (bytes ")"))) []
  unfolding folded small is_capital is_between indented spaces
  end_closes = bracket_closes (fresh_of (line_then fresh_none))

  inner_closes : Closes (folded (indented 2 (bytes ")"))) []
  unfolding folded small is_capital is_between indented spaces
  inner_closes = reads_close (space_then (fresh_of (space_then fresh_none))) (bracket_closes (fresh_of (line_then fresh_none)))

  -- a group opened in one line, filled in others, and closed in one
  block : (l₀ t l₁ : List ℕ) (es fs : List Expression) → Opens (folded l₀) es → Reads (folded t) fs → Closes (folded l₁) [] → Reads (folded (l₀ ++ (t ++ l₁))) (grouped (es ++ fs) ∷ [])
  block l₀ t l₁ es fs o r k = subst (λ (x : List ℕ). Reads x (grouped (es ++ fs) ∷ [])) (sym (fold_append l₀ (t ++ l₁) ∙ ap (λ (x : List ℕ). folded l₀ ++ x) (fold_append t l₁)))
      (subst (λ (x : List Expression). Reads (folded l₀ ++ (folded t ++ folded l₁)) (grouped (es ++ x) ∷ [])) (append-nil fs) (opens_close o (reads_close r k)))

  reads_both : (t u : List ℕ) (es fs : List Expression) → Reads (folded t) es → Reads (folded u) fs → Reads (folded (t ++ u)) (es ++ fs)
  reads_both t u es fs r k = subst (λ (x : List ℕ). Reads x (es ++ fs)) (sym (fold_append t u)) (reads_append r k)

  predicates_opens : Opens (folded (indented 2 (bytes "(:predicates"))) (word (bytes ":predicates") ∷ [])
  unfolding folded small is_capital is_between is_letter is_blank all indented spaces
  predicates_opens = space_opens (space_opens (bracket_opens (line_end (fresh_word 58 (bytes "predicates") tt))))

  constants_item : Item (bytes ":constants")
  unfolding folded small is_capital is_between is_letter is_blank all
  constants_item = fresh_word 58 (bytes "constants") tt

  domain_said : List Expression
  domain_said =
      word (bytes "define") ∷ grouped (word (bytes "domain") ∷ word (bytes "case") ∷ []) ∷ grouped (word (bytes ":constants") ∷ objects_said (constants c))
      ∷ grouped (word (bytes ":predicates") ∷ map predicate_said (predicates c)) ∷ map action_said (schemas c)

  domain_opens : Opens (folded (indented 0 (bytes "(define (domain case)"))) (word (bytes "define") ∷ grouped (word (bytes "domain") ∷ word (bytes "case") ∷ []) ∷ [])
  unfolding folded small is_capital is_between indented spaces taking_all taking option closing in_all with_word is_blank
  domain_opens = record {
    to = λ s. record { around = in_all s ∷ s.around; inside = word (bytes "define") ∷ grouped (word (bytes "domain") ∷ word (bytes "case") ∷ []) ∷ []; letters = [] };
    goes = λ s. refl;
    more_around = λ s. refl;
    starts = λ s. refl;
  }

  constants_line : Reads (folded (indented 2 (bracketed (bytes ":constants" ∷ map object_word (constants c))))) (grouped (word (bytes ":constants") ∷ objects_said (constants c)) ∷ [])
  unfolding folded small is_capital is_between
  constants_line = reads_line 1 _ _ (objects_read (bytes ":constants") (constants c) constants_item)

  domain_read : expressions (domain_text c) ≡ some (grouped domain_said ∷ [])
  unfolding domain_text domain_said
  domain_read =
      let l₁ : List ℕ = indented 0 (bytes "(define (domain case)") in
      let l₂ : List ℕ = indented 2 (bracketed (bytes ":constants" ∷ map object_word (constants c))) in
      let l₃ : List ℕ = indented 2 (bytes "(:predicates") in
      let l₄ : List ℕ = flat_map (predicate_line c) (predicates c) in
      let l₅ : List ℕ = indented 2 (bytes ")") in
      let l₆ : List ℕ = flat_map (schema_text c) (schemas c) in
      let l₇ : List ℕ = indented 0 (bytes ")") in
      let e : l₂ ++ (l₃ ++ (l₄ ++ (l₅ ++ (l₆ ++ l₇)))) ≡ (l₂ ++ ((l₃ ++ (l₄ ++ l₅)) ++ l₆)) ++ l₇ = five l₂ l₃ l₄ l₅ l₆ l₇ in
      let predicates_block : Reads (folded (l₃ ++ (l₄ ++ l₅))) (grouped (word (bytes ":predicates") ∷ map predicate_said (predicates c)) ∷ []) = block l₃ l₄ l₅ _ _ predicates_opens (reads_flat (predicate_line c) predicate_said predicate_read (predicates c)) inner_closes in
      let actions_part : Reads (folded l₆) (map action_said (schemas c)) = reads_flat (schema_text c) action_said action_read (schemas c) in
      expressions_of (l₁ ++ (l₂ ++ (l₃ ++ (l₄ ++ (l₅ ++ (l₆ ++ l₇)))))) _ (subst (λ (t : List ℕ). Reads (folded (l₁ ++ t)) (grouped domain_said ∷ [])) (sym e)
      (block l₁ (l₂ ++ ((l₃ ++ (l₄ ++ l₅)) ++ l₆)) l₇ _ _ domain_opens (reads_both l₂ _ _ _ constants_line (reads_both (l₃ ++ (l₄ ++ l₅)) l₆ _ _ predicates_block actions_part)) end_closes))

  -- ---- the instance
  instance_said : List Expression
  instance_said =
      word (bytes "define") ∷ grouped (word (bytes "problem") ∷ word (bytes "site") ∷ []) ∷ grouped (word (bytes ":domain") ∷ word (bytes "case") ∷ [])
      ∷ grouped (word (bytes ":objects") ∷ objects_said (from 1 (c.site.size - 2))) ∷ grouped (word (bytes ":init") ∷ map (λ f. atom_said (fact_words c f)) (facts_of c))
      ∷ grouped (word (bytes ":goal") ∷ atom_said (fact_words c (record { predicate = reached; objects = [] })) ∷ []) ∷ []

  problem_opens : Opens (folded (indented 0 (bytes "(define (problem site)"))) (word (bytes "define") ∷ grouped (word (bytes "problem") ∷ word (bytes "site") ∷ []) ∷ [])
  unfolding folded small is_capital is_between indented spaces taking_all taking option closing in_all with_word is_blank
  problem_opens = record {
    to = λ s. record { around = in_all s ∷ s.around; inside = word (bytes "define") ∷ grouped (word (bytes "problem") ∷ word (bytes "site") ∷ []) ∷ []; letters = [] };
    goes = λ s. refl;
    more_around = λ s. refl;
    starts = λ s. refl;
  }

  case_line : Reads (folded (indented 2 (bytes "(:domain case)"))) (grouped (word (bytes ":domain") ∷ word (bytes "case") ∷ []) ∷ [])
  unfolding folded small is_capital is_between indented spaces taking_all taking option closing in_all with_word is_blank
  case_line = record {
    to = λ s. record { around = s.around; inside = in_all s ++ (grouped (word (bytes ":domain") ∷ word (bytes "case") ∷ []) ∷ []); letters = [] };
    goes = λ s. refl;
    same_around = λ s. refl;
    joins = λ s. refl;
  }

  objects_item : Item (bytes ":objects")
  unfolding folded small is_capital is_between is_letter is_blank all
  objects_item = fresh_word 58 (bytes "objects") tt

  objects_line : Reads (folded (indented 2 (bracketed (bytes ":objects" ∷ map object_word (from 1 (c.site.size - 2)))))) (grouped (word (bytes ":objects") ∷ objects_said (from 1 (c.site.size - 2))) ∷ [])
  unfolding folded small is_capital is_between
  objects_line = reads_line 1 _ _ (objects_read (bytes ":objects") (from 1 (c.site.size - 2)) objects_item)

  init_opens : Opens (folded (indented 2 (bytes "(:init"))) (word (bytes ":init") ∷ [])
  unfolding folded small is_capital is_between is_letter is_blank all indented spaces
  init_opens = space_opens (space_opens (bracket_opens (line_end (fresh_word 58 (bytes "init") tt))))

  goal_line : Reads (folded (indented 2 (bracketed (bytes ":goal" ∷ bracketed (predicate_word c reached ∷ []) ∷ [])))) (grouped (word (bytes ":goal") ∷ atom_said (fact_words c (record { predicate = reached; objects = [] })) ∷ []) ∷ [])
  unfolding Each fact_words folded small is_capital is_between is_letter is_blank all
  goal_line = reads_line 1 _ _ (fresh_of (reads_bracketed (bytes ":goal" ∷ bracketed (predicate_word c reached ∷ []) ∷ []) _ (fresh_word 58 (bytes "goal") tt, (bracketed_words (predicate_word c reached) [] (word_item (predicate_word c reached) (predicate_word_lem reached)) tt, tt))))

  instance_read : expressions (instance_text c) ≡ some (grouped instance_said ∷ [])
  unfolding instance_text instance_said
  instance_read =
      let l₁ : List ℕ = indented 0 (bytes "(define (problem site)") in
      let l₂ : List ℕ = indented 2 (bytes "(:domain case)") in
      let l₃ : List ℕ = indented 2 (bracketed (bytes ":objects" ∷ map object_word (from 1 (c.site.size - 2)))) in
      let l₄ : List ℕ = indented 2 (bytes "(:init") in
      let l₅ : List ℕ = flat_map (λ f. indented 4 (write_fact c f)) (facts_of c) in
      let l₆ : List ℕ = indented 2 (bytes ")") in
      let l₇ : List ℕ = indented 2 (bracketed (bytes ":goal" ∷ bracketed (predicate_word c reached ∷ []) ∷ [])) in
      let l₈ : List ℕ = indented 0 (bytes ")") in
      let e : l₂ ++ (l₃ ++ (l₄ ++ (l₅ ++ (l₆ ++ (l₇ ++ l₈))))) ≡ (l₂ ++ (l₃ ++ ((l₄ ++ (l₅ ++ l₆)) ++ l₇))) ++ l₈ = ap (λ (x : List ℕ). l₂ ++ x) (five l₃ l₄ l₅ l₆ l₇ l₈) ∙ sym (append_assoc l₂ (l₃ ++ ((l₄ ++ (l₅ ++ l₆)) ++ l₇)) l₈) in
      let facts_block : Reads (folded (l₄ ++ (l₅ ++ l₆))) (grouped (word (bytes ":init") ∷ map (λ f. atom_said (fact_words c f)) (facts_of c)) ∷ []) = block l₄ l₅ l₆ _ _ init_opens (reads_flat (λ f. indented 4 (write_fact c f))
      (λ f. atom_said (fact_words c f)) (λ f. reads_line 3 _ _ (fact_read f)) (facts_of c)) inner_closes in
      expressions_of (l₁ ++ (l₂ ++ (l₃ ++ (l₄ ++ (l₅ ++ (l₆ ++ (l₇ ++ l₈))))))) _ (subst (λ (t : List ℕ). Reads (folded (l₁ ++ t)) (grouped instance_said ∷ [])) (sym e)
      (block l₁ (l₂ ++ (l₃ ++ ((l₄ ++ (l₅ ++ l₆)) ++ l₇))) l₈ _ _ problem_opens (reads_both l₂ _ _ _ case_line (reads_both l₃ _ _ _ objects_line (reads_both (l₄ ++ (l₅ ++ l₆)) l₇ _ _ facts_block goal_line))) end_closes))

  -- ---- a plan
  step_read : (t : PlanStep) → Reads (folded (step_text c t)) (atom_said (step_words c t) ∷ [])
  unfolding step_text step_words spaces Each
  step_read t = subst (λ (x : List ℕ). Reads x (atom_said (step_words c t) ∷ [])) (sym (fold_line 0 (bracketed (action_word c t.name ∷ map object_word t.objects))))
      (subst (λ (ws : List (List ℕ)). Reads (folded (bracketed (action_word c t.name ∷ map object_word t.objects)) ++ (10 ∷ [])) (atom_said (folded (action_word c t.name) ∷ ws) ∷ [])) (map_map folded object_word t.objects)
      (reads_append (reads_bracketed (action_word c t.name ∷ map object_word t.objects) _ (whole (action_word c t.name) (map object_word t.objects) (word_item _ (action_word_lem t.name)) (items object_word object_item t.objects))) (line_then fresh_none)))
    where
      whole : (w : List ℕ) (ws : List (List ℕ)) → Item w → Each (map folded ws) (map word (map folded ws)) → Each (map folded (w ∷ ws)) (map word (map folded (w ∷ ws)))
      whole w ws h k = (h, k)

  pub plan_read : (plan : List PlanStep) → steps_in (plan_text c plan) ≡ some (map (step_words c) plan)
  unfolding steps_in plan_text option
  plan_read plan = rw (expressions_of (flat_map (step_text c) plan) (map (λ t. atom_said (step_words c t)) plan) (reads_flat (step_text c) (λ t. atom_said (step_words c t)) step_read plan))
      (each_some as_words (λ t. atom_said (step_words c t)) (step_words c) (λ t. group_words (step_words c t)) plan)

  -- ---- expressions as a task
  filter_map_all : {B : Type 0} (f : Expression → Bool) (g : B → Expression) → ((b : B) → f (g b) ≡ true) → (l : List B) → filter f (map g l) ≡ map g l
  unfolding filter
  filter_map_all f g h [] = refl
  filter_map_all f g h (b ∷ l) = rw (h b) (ap (λ (x : List Expression). g b ∷ x) (filter_map_all f g h l))

  filter_map_none : {B : Type 0} (f : Expression → Bool) (g : B → Expression) → ((b : B) → f (g b) ≡ false) → (l : List B) → filter f (map g l) ≡ []
  unfolding filter
  filter_map_none f g h [] = refl
  filter_map_none f g h (b ∷ l) = rw (h b) (filter_map_none f g h l)

  filter_append : (f : Expression → Bool) (l m : List Expression) → filter f (l ++ m) ≡ filter f l ++ filter f m
  unfolding filter
  filter_append f [] m = refl
  filter_append f (x ∷ l) m = by_test (f x) (filter_append f l m)
    where
      by_test : (b : Bool) → filter f (l ++ m) ≡ filter f l ++ filter f m → (if b then x ∷ filter f (l ++ m) else filter f (l ++ m)) ≡ (if b then x ∷ filter f l else filter f l) ++ filter f m
      by_test true e = ap (λ (y : List Expression). x ∷ y) e
      by_test false e = e

  -- no predicate is called `not`, or `and`
  no_not : (a : Predicate) → same (folded (predicate_word c a)) (bytes "not") ≡ false
  unfolding predicate_word folded small is_capital is_between same
  no_not guessing = refl
  no_not proving = refl
  no_not reached = refl
  no_not (related r) = refl
  no_not (unrelated r) = refl
  no_not (free_first r) = refl
  no_not (free_second r) = refl
  no_not (proved v) = refl

  atom_plain : (a : Pattern) → negated (atom_said (pattern_words c a)) ≡ false
  unfolding negated begins members_in grouped listed unlisted letters_of pattern_words
  atom_plain a = no_not a.predicate

  not_negated : (a : Pattern) → negated (not_said (pattern_words c a)) ≡ true
  unfolding negated begins members_in grouped listed unlisted letters_of same
  not_negated a = refl

  and_parts : (es : List Expression) → conjuncts (and_said es) ≡ es
  unfolding conjuncts begins members_in grouped listed unlisted letters_of same
  and_parts es = listed_back es

  atoms_back : (l : List Pattern) → atoms_in (map (λ a. atom_said (pattern_words c a)) l) ≡ some (map (pattern_words c) l)
  unfolding atoms_in
  atoms_back l = each_some as_words (λ a. atom_said (pattern_words c a)) (pattern_words c) (λ a. group_words (pattern_words c a)) l

  added_back : (l m : List Pattern) → added_in (effects l m) ≡ some (map (pattern_words c) l)
  unfolding added_in effects
  added_back l m = ap atoms_in (filter_append (λ e. not (negated e)) (map (λ a. atom_said (pattern_words c a)) l) (map (λ a. not_said (pattern_words c a)) m)
      ∙ ap₂ ◌++◌ (filter_map_all (λ e. not (negated e)) (λ a. atom_said (pattern_words c a)) (λ a. ap not (atom_plain a)) l) (filter_map_none (λ e. not (negated e)) (λ a. not_said (pattern_words c a)) (λ a. ap not (not_negated a)) m)
      ∙ append-nil (map (λ a. atom_said (pattern_words c a)) l)) ∙ atoms_back l

  second_of : (a : Pattern) → get_or (members_in (not_said (pattern_words c a))) 1 (word []) ≡ atom_said (pattern_words c a)
  unfolding members_in grouped listed unlisted
  second_of a = refl

  removed_back : (l m : List Pattern) → removed_in (effects l m) ≡ some (map (pattern_words c) m)
  unfolding removed_in effects
  removed_back l m = ap (λ (es : List Expression). atoms_in (map (λ e. get_or (members_in e) 1 (word [])) es)) (filter_append negated (map (λ a. atom_said (pattern_words c a)) l) (map (λ a. not_said (pattern_words c a)) m)
      ∙ ap₂ ◌++◌ (filter_map_none negated (λ a. atom_said (pattern_words c a)) atom_plain l) (filter_map_all negated (λ a. not_said (pattern_words c a)) not_negated m))
      ∙ ap atoms_in (map_map (λ e. get_or (members_in e) 1 (word [])) (λ a. not_said (pattern_words c a)) m ∙ map_same (λ a. get_or (members_in (not_said (pattern_words c a))) 1 (word [])) (λ a. atom_said (pattern_words c a)) m (λ a _. second_of a)) ∙ atoms_back m

  operator_read : (s : Schema) → operator_in (members_in (action_said s)) ≡ some (operator_of c s)
  unfolding operator_in has_key letters_of same action_said operator_of option as_word parameter_words
  operator_read s = rw (
    members_back,
    group_words (map (λ i. folded (parameter_word i)) (below s.parameters)),
    and_parts (map (λ a. atom_said (pattern_words c a)) s.needed),
    atoms_back s.needed,
    and_parts (effects s.added s.removed),
    added_back s.added s.removed,
    removed_back s.added s.removed,
  ) refl

  action_begins : (s : Schema) → begins (bytes ":action") (action_said s) ≡ true
  unfolding begins action_said members_in grouped listed unlisted letters_of same
  action_begins s = refl

  actions_in : filter (begins (bytes ":action")) domain_said ≡ map action_said (schemas c)
  unfolding domain_said begins members_in grouped listed unlisted letters_of same filter
  actions_in = filter_map_all (begins (bytes ":action")) action_said action_begins (schemas c)

  constants_in : section (bytes ":constants") domain_said ≡ objects_said (constants c)
  unfolding section domain_said find begins members_in grouped listed unlisted letters_of same option
  constants_in = listed_back (objects_said (constants c))

  objects_in : section (bytes ":objects") instance_said ≡ objects_said (from 1 (c.site.size - 2))
  unfolding section instance_said find begins members_in grouped listed unlisted letters_of same option
  objects_in = listed_back (objects_said (from 1 (c.site.size - 2)))

  facts_in : section (bytes ":init") instance_said ≡ map (λ f. atom_said (fact_words c f)) (facts_of c)
  unfolding section instance_said find begins members_in grouped listed unlisted letters_of same option
  facts_in = listed_back (map (λ f. atom_said (fact_words c f)) (facts_of c))

  facts_back : atoms_in (map (λ f. atom_said (fact_words c f)) (facts_of c)) ≡ some (map (fact_words c) (facts_of c))
  unfolding atoms_in
  facts_back = each_some as_words (λ f. atom_said (fact_words c f)) (fact_words c) (λ f. group_words (fact_words c f)) (facts_of c)

  goal_in : atoms_in (conjuncts (get_or (section (bytes ":goal") instance_said) 0 (word []))) ≡ some (fact_words c (record { predicate = reached; objects = [] }) ∷ [])
  unfolding section instance_said find begins members_in grouped listed unlisted letters_of same option conjuncts atoms_in each as_words as_word fact_words predicate_word folded small is_capital is_between
  goal_in = refl

  pub task_read : task_of (domain_text c) (instance_text c) ≡ some (task_in c)
  unfolding task_of only_one task_from task_in option
  task_read = rw (
    domain_read,
    instance_read,
    members_back domain_said,
    members_back instance_said,
    actions_in,
    each_some (λ e. operator_in (members_in e)) action_said (operator_of c) operator_read (schemas c),
    constants_in,
    as_words_lem (object_words c (constants c)),
    objects_in,
    as_words_lem (object_words c (from 1 (c.site.size - 2))),
    facts_in,
    facts_back,
    goal_in,
  ) refl
