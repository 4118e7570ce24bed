-- A plan's text whose lines have the form, but one of which is no step (22), is no plan of the written domain and instance either.
use Prim.Native.Nat.{ℕ, suc, ◌+◌, ◌-◌, ◌*◌, ◌<◌, ◌≤◌}
use Rattle.std.specs.Prelude.{◌≡◌, ◌&&◌, drop, if◌then◌else◌}
use Rattle.std.proofs.Math.Path.{refl, sym, ap}
use Rattle.std.proofs.Common.{ap₂, subst, ◌∙◌, eq-eqb, eqb-true}
use Rattle.std.proofs.Math.Logic.{⊎_elim}
use Rattle.std.proofs.Math.Bool.{Bool, true, false, not}
use Rattle.std.proofs.Math.Option.{Option, none, some}
use mathlib.Core.List.Memᴰ
use mathlib.Core.List.{List, [], ◌∷◌, ◌++◌, map, map-append, append-nil, Memᴰ}
use native.Mathlib.Omega.{arith}
use Rattle.std.proofs.Math.Dec.{T, eqb, eqb→eq}
use Rattle.std.proofs.Math.ListN.{length, get_or, length-map}
use Rattle.definitions.specs.Lists.{all, any, same, option, find, from, below, is_empty}
use Rattle.definitions.specs.Sheet.Text.{split, is_between, is_capital}
use Rattle.definitions.specs.Refusal.{Result, refused, accepted, ◌>>=◌, given}
use Rattle.definitions.specs.Sheet.Relations.{built_in_holds}
use Rattle.definitions.specs.Sheet.Sheets.{first_chosen}
use Rattle.definitions.specs.Problem.Truth.{Case}
use Rattle.definitions.specs.Problem.Tree.{Tree, free}
use Rattle.definitions.specs.Problem.Atoms.{Problem, problem_of, problem_with, node_at, Atom, proof, goal, holds_node, State, initial}
use Rattle.definitions.specs.Problem.Actions.{Action, set, begin_proof, prove_and, prove_or, prove_exists, prove_forall, prove_goal, round_end, mark_in, mark_out, adds, action_number}
use Rattle.definitions.specs.Problem.Strips.{after}
use Rattle.definitions.specs.Sheet.Formula.{write_each}
use Rattle.definitions.specs.Reply.Lifted
use Rattle.definitions.specs.Reply.Pddl
use Rattle.definitions.specs.Reply.PddlMeaning
use Rattle.laws.specs.Booleans.{T_and_l, T_and_r, T_of, T_false, T_or}
use Rattle.laws.specs.Lists.{none_some, some_eq, any_at, all_at, map_mem, map_map, from_mem, length_below}
use Rattle.laws.specs.Tuples.{same_eq}
use Rattle.laws.specs.Results.{refused_accepted}
use Rattle.laws.specs.Rows.{Below, cons_below}
use Rattle.laws.specs.Numbers.{IsAction, action_is}
use Rattle.laws.specs.Lines.{joined, print_joined, LineByLine, split_cons}
use Rattle.laws.specs.Told.{unsplit, split_back, text_told}
use Rattle.laws.specs.Reader.{Accepted}
use Rattle.meaning.specs.Grounded.{good, first_chosen_lem, built_in_literal}
use Rattle.meaning.specs.Means.{Good}
use Rattle.meaning.specs.Valid.{adds_valid}
use Rattle.laws.specs.Labels.{option_parts}
use Rattle.demands.specs.Every.{no_round, no_mark_in, no_mark_out}
use Rattle.demands.specs.LiftedFacts.{fact_of, said_mem}
use Rattle.demands.specs.Ungrounded
use Rattle.demands.specs.PlanLines.{object_found}
use Rattle.meaning.specs.PddlWords
use Rattle.demands.specs.PddlReading
use Rattle.demands.specs.PddlTasks
use Rattle.demands.specs.TextPlans
use Rattle.demands.specs.ReadPlans
use Lifted.{related, predicate_kind, Fact, parameter, said_of, term_value, ActionName, set_name, begin_name, goal_name, and_name, exists_name, first_name, next_name, or_name, node_in, last_in, successor}
use Lifted.{proof_schema, schema_of, action_names, schemas}
use Pddl.{object_word, parameter_word, action_word, constants, small, folded, closed, words_in, is_word, PlanLine, add_plan_line, read_plan_lines, name_from, object_from, objects_from, action_named, step_from}
use Pddl.{steps_from, plan_step, domain_text, instance_text}
use PddlMeaning.{Expression, word, grouped, as_words, AtomWords, Operator, is_among_atoms, same_words, atom_at, may_run, after_run, runs_from, steps_in, is_plan_of}
use PddlReading.{Reads, Fresh, Each, reads_append, fresh_append, reads_each, bracket_opens, bracket_closes, opens_close, fresh_none, line_then, reads_none, fresh_word, expressions_of}
use PddlTasks.{letters_of_lem, group_words, each_some, fact_words, pattern_words, operator_of, object_words, task_in, task_read}
use TextPlans.{Fits, AllFit, same_words_eq, AgreesWith, FollowsWith, parameter_words, arguments, atom_in_place, named_fits}
use ReadPlans.{below_get, closed_told, each_unsplit, find_told, if_told, objects_told, IsLine, line_told, open_told}

-- ---- the words of a line
record Spelled (x : List ℕ) (ws : List (List ℕ)) : Type 0 where
  first : List ℕ
  others : List (List ℕ)
  are : ws ≡ first ∷ others
  words : T (all is_word (first ∷ others))
  text : x ≡ 40 ∷ ((first ++ write_each (λ v. v) others) ++ (41 ∷ []))

spelled : (x : List ℕ) (ws : List (List ℕ)) → words_in x ≡ some ws → Spelled x ws
unfolding words_in
spelled [] ws e = absurd (none_some e)
spelled (b ∷ bs) ws e =
    let (k, f) = if_told (eqb b 40) _ ws e in
    let (t, g, h) = option_parts (closed bs) _ ws f in
    let (q, r) = if_told (all is_word (split 32 t)) (some (split 32 t)) ws h in
    let (v, vs, z) = split_cons 32 t in
    record {
      first = v;
      others = vs;
      are = sym (some_eq r) ∙ z;
      words = subst (λ (l : List (List ℕ)). T (all is_word l)) z (T_of q);
      text = ap₂ ◌∷◌ (eqb-true b 40 k) (closed_told bs t g ∙ ap (λ (l : List ℕ). l ++ (41 ∷ [])) (sym (split_back 32 t) ∙ ap (unsplit 32) z ∙ each_unsplit v vs));
    }

word_fresh : (w : List ℕ) → T (is_word w) → Fresh w (word w ∷ [])
unfolding is_word is_empty
word_fresh [] t = absurd t
word_fresh (b ∷ w) t = fresh_word b w (letters_of_lem (b ∷ w) t)

each_fresh : (ws : List (List ℕ)) → T (all is_word ws) → Each ws (map word ws)
unfolding Each all
each_fresh [] t = tt
each_fresh (w ∷ ws) t = (word_fresh w (T_and_l (is_word w) _ t), each_fresh ws (T_and_r (is_word w) _ t))

spelled_reads : (x : List ℕ) (ws : List (List ℕ)) → Spelled x ws → Reads (x ++ (10 ∷ [])) (grouped (map word ws) ∷ [])
unfolding all
spelled_reads x ws s =
    let w : List ℕ = s.first in
    let vs : List (List ℕ) = s.others in
    let inner : Reads (40 ∷ ((w ++ write_each (λ v. v) vs) ++ (41 ∷ []))) (grouped ((word w ∷ map word vs) ++ []) ∷ []) = opens_close (bracket_opens (fresh_append (word_fresh w (T_and_l (is_word w) _ s.words)) (reads_each vs
    (map word vs) (each_fresh vs (T_and_r (is_word w) _ s.words))))) (bracket_closes fresh_none) in
    subst (λ (t : List ℕ). Reads (t ++ (10 ∷ [])) (grouped (map word ws) ∷ [])) (sym s.text)
    (subst (λ (l : List (List ℕ)). Reads ((40 ∷ ((w ++ write_each (λ v. v) vs) ++ (41 ∷ []))) ++ (10 ∷ [])) (grouped (map word l) ∷ [])) (sym s.are)
    (reads_append (subst (λ (es : List Expression). Reads (40 ∷ ((w ++ write_each (λ v. v) vs) ++ (41 ∷ []))) (grouped es ∷ [])) (append-nil (word w ∷ map word vs)) inner) (line_then fresh_none)))

abbrev line_said : PlanLine → Expression
line_said l = grouped (map word l.words)

lines_read : (ls : List PlanLine) (text : List ℕ) → LineByLine IsLine ls text → Reads (folded text) (map line_said ls)
unfolding LineByLine folded small is_capital is_between
lines_read [] text h = subst (λ (t : List ℕ). Reads (map small t) []) (sym h) reads_none
lines_read (l ∷ ls) text (fs, r, (rest, e, h)) =
    let q : map small text ≡ (map small (joined fs) ++ (10 ∷ [])) ++ map small rest = ap (map small) (e ∙ ap (λ (t : List ℕ). t ++ rest) (print_joined fs)) ∙ map-append small (joined fs ++ (10 ∷ [])) rest
    ∙ ap (λ (t : List ℕ). t ++ map small rest) (map-append small (joined fs) (10 ∷ [])) in
    subst (λ (t : List ℕ). Reads t (line_said l ∷ map line_said ls)) (sym q) (reads_append (spelled_reads (map small (joined fs)) l.words (spelled (map small (joined fs)) l.words r)) (lines_read ls rest h))

steps_read : (text : List ℕ) (ls : List PlanLine) → read_plan_lines text ≡ accepted ls → steps_in text ≡ some (map (λ (l : PlanLine). l.words) ls)
unfolding read_plan_lines steps_in option
steps_read text ls e =
    let (t, l) = text_told add_plan_line IsLine line_told open_told text ls e in
    rw (expressions_of text (map line_said ls) (lines_read ls text t)) (each_some as_words line_said (λ (l : PlanLine). l.words) (λ (l : PlanLine). group_words l.words) ls)

-- every line has a word
has_word : (ls : List PlanLine) (text : List ℕ) → LineByLine IsLine ls text → (l : PlanLine) → Memᴰ l ls → (w : List ℕ) × (ws : List (List ℕ)) × (l.words ≡ w ∷ ws)
unfolding LineByLine
has_word [] text h l m = absurd (Memᴰ.not-nil m)
has_word (k ∷ ls) text (fs, r, (rest, e, h)) l m = ⊎_elim (λ q. let s = spelled (folded (joined fs)) k.words r in (s.first, s.others, ap (λ (x : PlanLine). x.words) q ∙ s.are)) (λ q. has_word ls rest h l q) (Memᴰ.cases_cons m)

-- ---- lists
find_map : {B C : Type 0} (f : C → Bool) (g : B → C) (h : B → Bool) (l : List B) → ((b : B) → f (g b) ≡ h b) → find h l ≡ none → find f (map g l) ≡ none
unfolding find
find_map f g h [] e n = refl
find_map f g h (b ∷ l) e n = ap (λ (k : Bool). if k then some (g b) else find f (map g l)) (e b) ∙ by_test (h b) n (find_map f g h l e)
  where
    by_test : (k : Bool) → (if k then some b else find h l) ≡ none → (find h l ≡ none → find f (map g l) ≡ none) → (if k then some (g b) else find f (map g l)) ≡ none
    by_test true q r = absurd (none_some (sym q))
    by_test false q r = r q

and_false : (b d : Bool) → d ≡ false → (b && d) ≡ false
and_false true d e = e
and_false false d e = refl

all_no : {B : Type 0} (f : B → Bool) (l : List B) (x : B) → Memᴰ x l → f x ≡ false → all f l ≡ false
all_no f l x m e = T_false (all f l) (λ t. subst T e (all_at f l t x m))

option_none : {B C : Type 0} (f : B → C) (o : Option B) → option o none (λ b. some (f b)) ≡ none → o ≡ none
unfolding option
option_none f none e = refl
option_none f (some b) e = absurd (none_some (sym e))

rest_refused : (m : Result (List ℕ)) (j k at : ℕ) → (accepted j >>= λ j. m >>= λ js. accepted (j ∷ js)) ≡ refused k at → m ≡ refused k at
unfolding ◌>>=◌
rest_refused (refused i place) j k at e = e
rest_refused (accepted js) j k at e = absurd (refused_accepted (sym e))

module _ (c : Case) (A : Accepted c) (plain : c.question.types ≡ []) (alone : c.question.every ≡ none) where
  abbrev p : Problem
  p = problem_of c

  abbrev n : ℕ
  n = (problem_of c).size

  G : Good (problem_of c)
  G = good c A

  -- ---- a world has of SUC only neighbours
  abbrev suc_fact : ℕ → ℕ → Fact
  suc_fact y z = record { predicate = related successor; objects = y ∷ z ∷ [] }

  abbrev Only : (AtomWords → Bool) → Type 0
  Only w = (y z : ℕ) → y < n → z < n → T (w (fact_words c (suc_fact y z))) → z ≡ suc y

  pair_below : (y z : ℕ) → y < n → z < n → Below n (y ∷ z ∷ [])
  unfolding all
  pair_below y z h g = cons_below n y (z ∷ []) h (cons_below n z [] g tt)

  only_start : Only (TextPlans.start c A plain alone)
  unfolding Ungrounded.Starts PddlWords.Declared built_in_holds
  only_start y z h g t =
      let q = Ungrounded.starts c A plain alone (suc_fact y z) (said_mem (suc_fact y z) _ (subst T (TextPlans.start_said c A plain alone (suc_fact y z) (TextPlans.successor_there c A plain alone) (pair_below y z h g)) t)) in
      eqb→eq z (suc y) (subst T (built_in_literal c [] 2 (y ∷ z ∷ []) (omega arith)) q)

  other : (x y : Atom) (k : ℕ) → x ≡ y → predicate_kind (fact_of p y).predicate ≡ k → (fact_of p x).predicate ≡ related successor → k ≡ 3
  unfolding predicate_kind
  other x y k q h e = sym h ∙ ap (λ (z : Atom). predicate_kind (fact_of p z).predicate) (sym q) ∙ ap predicate_kind e

  first_chosen_is : 5 ≤ first_chosen (problem_of c).source.question
  unfolding problem_of problem_with
  first_chosen_is = let a = first_chosen_lem c.question in omega arith

  -- what is added is never a tuple of a relation that is built in
  no_static : (a : Action) → IsAction p a → (x : Atom) → Memᴰ x (adds p a) → (fact_of p x).predicate ≡ related successor → ⊥
  unfolding adds IsAction fact_of predicate_kind
  no_static (set r row) v x m e =
      let z : related r ≡ related successor = ap (λ (y : Atom). (fact_of p y).predicate) (sym (Memᴰ.eq_of_singleton m)) ∙ e in
      let k : r ≡ successor = cc in
      let a = G.high_chosen r v.1 in
      let b = first_chosen_is in
      omega arith
  no_static begin_proof v x m e = let z = other x proof 1 (Memᴰ.eq_of_singleton m) refl e in omega arith
  no_static (prove_and k row) v x m e = let z = other x (holds_node k row) 7 (Memᴰ.eq_of_singleton m) refl e in omega arith
  no_static (prove_or k row i) v x m e = let z = other x (holds_node k row) 7 (Memᴰ.eq_of_singleton m) refl e in omega arith
  no_static (prove_exists k row y) v x m e = let z = other x (holds_node k row) 7 (Memᴰ.eq_of_singleton m) refl e in omega arith
  no_static (prove_forall k row z) v x m e = let z = other x (holds_node k (row * p.size + z)) 7 (Memᴰ.eq_of_singleton m) refl e in omega arith
  no_static prove_goal v x m e = let z = other x goal 2 (Memᴰ.eq_of_singleton m) refl e in omega arith
  no_static round_end v x m e = no_round c A alone v
  no_static (mark_in r row) v x m e = no_mark_in c A alone r row v
  no_static (mark_out r row) v x m e = no_mark_out c A alone r row v

  only_after : (a : Action) (v : IsAction p a) (w : AtomWords → Bool) → Only w → Only (after_run w (operator_of c (schema_of c (plan_step p a).name)) (arguments (plan_step p a).objects))
  unfolding after_run operator_of is_among_atoms TextPlans.say PddlWords.Declared
  only_after a v w o y z h g t = ⊎_elim (λ q. o y z h g (T_and_l (w (fact_words c (suc_fact y z))) _ q))
      (λ q. let (ws, m, e) = any_at (same_words (fact_words c (suc_fact y z))) (map (TextPlans.say c A plain alone) (adds p a)) (subst (λ (l : List AtomWords). T (is_among_atoms (fact_words c (suc_fact y z)) l))
      (TextPlans.said_list c A plain alone a v (schema_of c (plan_step p a).name).added (adds p a) (TextPlans.fits_schema c A plain alone a v).added (Ungrounded.does c A plain alone a v).added) q) in
      let (x, k, d) = map_mem (TextPlans.say c A plain alone) (adds p a) ws m in
      let u = adds_valid p G a v x k in
      let f : suc_fact y z ≡ fact_of p x = TextPlans.words_apart c A plain alone (suc_fact y z) (fact_of p x) (TextPlans.successor_there c A plain alone) (TextPlans.declared c A plain alone x u) (pair_below y z h g) (TextPlans.objects_below c A plain alone x u) (same_words_eq _ _ e ∙ d) in
      absurd (no_static a v x k (ap (λ (r : Fact). r.predicate) (sym f))))
      (T_or (w (fact_words c (suc_fact y z)) && not (is_among_atoms (fact_words c (suc_fact y z)) (map (atom_at (parameter_words (schema_of c (plan_step p a).name).parameters) (arguments (plan_step p a).objects)) (map (pattern_words c) (schema_of c (plan_step p a).name).removed)))) _ t)

  -- ---- objects that the texts have are read as objects
  object_told : (x : ℕ) → Memᴰ x (constants c ++ from 1 (c.site.size - 2)) → x < n
  unfolding constants last_in
  object_told x m = let q = TextPlans.size_is c A plain alone in let e = G.element in ⊎_elim (λ i. by_test (eqb c.site.size 1) i) (λ i. let f = from_mem (c.site.size - 2) 1 x i in omega (arith, f.1)) (Memᴰ.append_cases
      (if eqb c.site.size 1 then 0 ∷ [] else 0 ∷ (c.site.size - 1) ∷ []) m)
    where
      by_test : (b : Bool) → Memᴰ x (if b then 0 ∷ [] else 0 ∷ (c.site.size - 1) ∷ []) → x < n
      by_test true i = let z = Memᴰ.eq_of_singleton i in let e = G.element in omega arith
      by_test false i = ⊎_elim (λ z. let e = G.element in omega arith) (λ j. let z = Memᴰ.eq_of_singleton j in let e = G.element in let q = TextPlans.size_is c A plain alone in omega arith) (Memᴰ.cases_cons i)

  objects_there : (vs : List (List ℕ)) → T (all (λ v. any (same v) (task_in c).objects) vs) → (xs : List ℕ) × (objects_from n vs ≡ some xs)
  unfolding all objects_from option task_in object_words
  objects_there [] t = ([], refl)
  objects_there (v ∷ vs) t =
      let (w, m, e) = any_at (same v) (map (λ x. folded (object_word x)) (constants c) ++ map (λ x. folded (object_word x)) (from 1 (c.site.size - 2))) (T_and_l (any (same v) (map (λ x. folded (object_word x))
      (constants c) ++ map (λ x. folded (object_word x)) (from 1 (c.site.size - 2)))) _ t) in
      let (x, k, d) = map_mem (λ x. folded (object_word x)) (constants c ++ from 1 (c.site.size - 2)) w (subst (Memᴰ w) (sym (map-append (λ x. folded (object_word x)) (constants c) (from 1 (c.site.size - 2)))) m) in
      let o : object_from n v ≡ some x = ap (object_from n) (same_eq v w e ∙ d) ∙ object_found c A x (object_told x k) in
      let (xs, r) = objects_there vs (T_and_r (any (same v) (map (λ x. folded (object_word x)) (constants c) ++ map (λ x. folded (object_word x)) (from 1 (c.site.size - 2)))) _ t) in
      (x ∷ xs, rw (o, r) refl)

  -- ---- a line that is no step cannot be taken
  no_name : (w₀ : List ℕ) → name_from c w₀ ≡ none → find (λ (o : Operator). same o.name w₀) (task_in c).operators ≡ none
  unfolding name_from task_in schemas operator_of
  no_name w₀ e = ap (find (λ (o : Operator). same o.name w₀)) (map_map (operator_of c) (schema_of c) (action_names c))
      ∙ find_map (λ (o : Operator). same o.name w₀) (λ b. operator_of c (schema_of c b)) (λ b. same (folded (action_word c b)) w₀) (action_names c) (λ b. ap (λ (x : ActionName). same (folded (action_word c x)) w₀) (Ungrounded.schema_name c b)) e

  node_is : (v : ℕ) → node_in c v ≡ node_at p v
  unfolding problem_of problem_with node_in node_at
  node_is v = refl

  -- of a `forall`, two elements that do not follow one another
  gap_no : (v : ℕ) (xs : List ℕ) (w : AtomWords → Bool) → Only w → Below n xs → length xs ≡ (schema_of c (next_name v)).parameters → action_named p (next_name v) xs ≡ none
      → all (λ a. w (atom_at (parameter_words (schema_of c (next_name v)).parameters) (arguments xs) a)) (map (pattern_words c) (schema_of c (next_name v)).needed) ≡ false
  unfolding schema_of proof_schema action_named all AllFit Fits said_of term_value
  gap_no v xs w o b e q =
      let k : ℕ = length (free (node_in c v)) in
      let y : ℕ = get_or xs k 0 in
      let z : ℕ = get_or xs (suc k) 0 in
      let few = TextPlans.SchemaFits.few (named_fits c (next_name v) (TextPlans.pairs_few c A plain alone)) in
      let apart : z ≡ suc y → ⊥ = λ h. gap_test (get_or xs (suc (length (free (node_at p v)))) 0) (suc (get_or xs (length (free (node_at p v))) 0)) _ q (ap (λ (t : Tree). get_or xs (suc (length (free t))) 0) (sym (node_is v)) ∙ h
      ∙ ap (λ (t : Tree). suc (get_or xs (length (free t)) 0)) (node_is v)) in
      let said = atom_in_place c (suc (suc k)) xs (record { predicate = related successor; terms = parameter k ∷ parameter (suc k) ∷ [] }) few e (omega arith, (omega arith, tt)) in
      let no : w (fact_words c (suc_fact y z)) ≡ false = T_false _ (λ t. apart (o y z (below_get n k xs b (omega arith)) (below_get n (suc k) xs b (omega arith)) t)) in
      all_no (λ a. w (atom_at (parameter_words (suc (suc k))) (arguments xs) a)) (map (pattern_words c) (schema_of c (next_name v)).needed) (pattern_words c (record {
        predicate = related successor;
        terms = parameter k ∷ parameter
            (suc k) ∷ [];
      })) (Memᴰ.tail (Memᴰ.head refl)) (ap w said ∙ no)
    where
      gap_test : (z y : ℕ) (a : Action) → (if eqb z y then some a else none) ≡ none → z ≡ y → ⊥
      gap_test z y a e h = none_some (sym e ∙ ap (λ (k : Bool). if k then some a else none) (eq-eqb z y h))

  others_named : (name : ActionName) (xs : List ℕ) (w : AtomWords → Bool) → Only w → Below n xs → length xs ≡ (schema_of c name).parameters → action_named p name xs ≡ none
      → all (λ a. w (atom_at (parameter_words (schema_of c name).parameters) (arguments xs) a)) (map (pattern_words c) (schema_of c name).needed) ≡ false
  unfolding action_named
  others_named (set_name r) xs w o b e q = absurd (none_some (sym q))
  others_named begin_name xs w o b e q = absurd (none_some (sym q))
  others_named goal_name xs w o b e q = absurd (none_some (sym q))
  others_named (and_name v) xs w o b e q = absurd (none_some (sym q))
  others_named (exists_name v) xs w o b e q = absurd (none_some (sym q))
  others_named (first_name v) xs w o b e q = absurd (none_some (sym q))
  others_named (or_name v i) xs w o b e q = absurd (none_some (sym q))
  others_named (next_name v) xs w o b e q = gap_no v xs w o b e q

  count_length : (name : ActionName) → length (operator_of c (schema_of c name)).parameters ≡ (schema_of c name).parameters
  unfolding operator_of
  count_length name = length-map (below (schema_of c name).parameters) (λ i. folded (parameter_word i)) ∙ length_below (schema_of c name).parameters

  named_no : (name : ActionName) (xs : List ℕ) (vs : List (List ℕ)) (w : AtomWords → Bool) → Only w → Below n xs → length xs ≡ (schema_of c name).parameters → vs ≡ arguments xs → action_named p name xs ≡ none
      → all (λ a. w (atom_at (operator_of c (schema_of c name)).parameters vs a)) (operator_of c (schema_of c name)).needed ≡ false
  unfolding operator_of
  named_no name xs vs w o b l z q = ap (λ (ys : List (List ℕ)). all (λ a. w (atom_at (parameter_words (schema_of c name).parameters) ys a)) (map (pattern_words c) (schema_of c name).needed)) z ∙ others_named name xs w o b l q

  cannot_run : (name : ActionName) (vs : List (List ℕ)) (w : AtomWords → Bool) → Only w
      → option (objects_from n vs) none (λ xs. if eqb (length xs) (schema_of c name).parameters then option (action_named p name xs) none (λ a. some (action_number p a)) else none) ≡ none
      → may_run (task_in c).objects w (operator_of c (schema_of c name)) vs ≡ false
  unfolding may_run option
  cannot_run name vs w o e = by_objects (objects_from n vs) refl e
    where
      middle : (a b d : Bool) → b ≡ false → (a && b && d) ≡ false
      middle true b d q = ap (λ (x : Bool). x && d) q
      middle false b d q = refl

      before_false : (a b d : Bool) → a ≡ false → (a && b && d) ≡ false
      before_false a b d q = ap (λ (x : Bool). x && b && d) q

      last_false : (a b d : Bool) → d ≡ false → (a && b && d) ≡ false
      last_false a b d q = and_false (a && b) d q

      by_count : (xs : List ℕ) → objects_from n vs ≡ some xs → (k : Bool) → eqb (length xs) (schema_of c name).parameters ≡ k → (if k then option (action_named p name xs) none (λ a. some (action_number p a)) else none) ≡ none
          → (eqb (length vs) (length (operator_of c (schema_of c name)).parameters) && all (λ x. any (same x) (task_in c).objects) vs && all (λ a. w (atom_at (operator_of c (schema_of c name)).parameters vs a)) (operator_of c (schema_of c name)).needed) ≡ false
      by_count xs q false k e =
          let (z, b) = objects_told n vs xs q in
          let l : length vs ≡ length xs = ap length z ∙ length-map (map object_word xs) folded ∙ length-map xs object_word in
          before_false (eqb (length vs) (length (operator_of c (schema_of c name)).parameters)) (all (λ x. any (same x) (task_in c).objects) vs) (all (λ a. w (atom_at (operator_of c (schema_of c name)).parameters vs a))
          (operator_of c (schema_of c name)).needed) (ap₂ eqb l (count_length name) ∙ k)
      by_count xs q true k e =
          let (z, b) = objects_told n vs xs q in
          let l = eqb-true (length xs) (schema_of c name).parameters k in
          last_false (eqb (length vs) (length (operator_of c (schema_of c name)).parameters)) (all (λ x. any (same x) (task_in c).objects) vs) (all (λ a. w (atom_at (operator_of c (schema_of c name)).parameters vs a)) (operator_of c
          (schema_of c name)).needed) (named_no name xs vs w o b l (z ∙ map_map folded object_word xs) (option_none (action_number p) (action_named p name xs) e))

      by_objects : (r : Option (List ℕ)) → objects_from n vs ≡ r → option r none (λ xs. if eqb (length xs) (schema_of c name).parameters then option (action_named p name xs) none (λ a. some (action_number p a)) else none) ≡ none
          → (eqb (length vs) (length (operator_of c (schema_of c name)).parameters) && all (λ x. any (same x) (task_in c).objects) vs && all (λ a. w (atom_at (operator_of c (schema_of c name)).parameters vs a)) (operator_of c (schema_of c name)).needed) ≡ false
      by_objects none q e = middle (eqb (length vs) (length (operator_of c (schema_of c name)).parameters)) (all (λ x. any (same x) (task_in c).objects) vs) (all (λ a. w (atom_at (operator_of c (schema_of c name)).parameters vs a))
          (operator_of c (schema_of c name)).needed) (T_false (all (λ x. any (same x) (task_in c).objects) vs) (λ t. let (xs, r) = objects_there vs t in none_some (sym q ∙ r)))
      by_objects (some xs) q e = by_count xs q (eqb (length xs) (schema_of c name).parameters) refl e

  not_taken : (w₀ : List ℕ) (vs : List (List ℕ)) (w : AtomWords → Bool) (rest : Operator → Bool) → Only w → step_from c p (w₀ ∷ vs) ≡ none
      → option (find (λ (o : Operator). same o.name w₀) (task_in c).operators) false (λ o. may_run (task_in c).objects w o vs && rest o) ≡ false
  unfolding step_from name_from option
  not_taken w₀ vs w rest o e = by_name (find (λ name. same (folded (action_word c name)) w₀) (action_names c)) refl e
    where
      by_name : (r : Option ActionName) → find (λ name. same (folded (action_word c name)) w₀) (action_names c) ≡ r
          → option r none (λ name. option (objects_from n vs) none (λ xs. if eqb (length xs) (schema_of c name).parameters then option (action_named p name xs) none (λ a. some (action_number p a)) else none)) ≡ none
          → option (find (λ (o : Operator). same o.name w₀) (task_in c).operators) false (λ o. may_run (task_in c).objects w o vs && rest o) ≡ false
      by_name none q e = ap (λ (x : Option Operator). option x false (λ o. may_run (task_in c).objects w o vs && rest o)) (no_name w₀ q)
      by_name (some name) q e =
          let (m, t) = find_told (λ name. same (folded (action_word c name)) w₀) (action_names c) name q in
          let z : folded (action_word c name) ≡ w₀ = same_eq _ _ t in
          ap (λ (x : Option Operator). option x false (λ o. may_run (task_in c).objects w o vs && rest o)) (ap (λ (u : List ℕ). find (λ (o : Operator). same o.name u) (task_in c).operators) (sym z) ∙ TextPlans.operator_found c A plain alone name m)
          ∙ ap (λ (b : Bool). b && rest (operator_of c (schema_of c name))) (cannot_run name vs w o e)

  -- ---- all lines
  runs_none : (ls : List PlanLine) (s : State) (w : AtomWords → Bool) (k at : ℕ) → AgreesWith c A plain alone s w → FollowsWith c A plain alone w → Only w → ((l : PlanLine) → Memᴰ l ls → (v : List ℕ) × (vs : List (List ℕ)) × (l.words ≡ v ∷ vs))
      → steps_from c p ls ≡ refused k at → runs_from (task_in c) w (map (λ (l : PlanLine). l.words) ls) ≡ false
  unfolding steps_from runs_from given option
  runs_none [] s w k at g f o h e = absurd (refused_accepted (sym e))
  runs_none (l ∷ ls) s w k at g f o h e = by_step (step_from c p l.words) refl e (λ s w. runs_none ls s w k at)
    where
      goes : (ws : List (List ℕ)) → Bool
      goes ws = option (find (λ (o : Operator). same o.name (get_or ws 0 [])) (task_in c).operators) false (λ o. may_run (task_in c).objects w o (drop 1 ws) && runs_from (task_in c) (after_run w o (drop 1 ws)) (map (λ (l : PlanLine). l.words) ls))

      by_step : (r : Option ℕ) → step_from c p l.words ≡ r → (given r 22 l.at >>= λ j. steps_from c p ls >>= λ js. accepted (j ∷ js)) ≡ refused k at
          → ((s : State) (w : AtomWords → Bool) → AgreesWith c A plain alone s w → FollowsWith c A plain alone w → Only w → ((l : PlanLine) → Memᴰ l ls → (v : List ℕ) × (vs : List (List ℕ)) × (l.words ≡ v ∷ vs))
          → steps_from c p ls ≡ refused k at → runs_from (task_in c) w (map (λ (l : PlanLine). l.words) ls) ≡ false)
          → goes l.words ≡ false
      by_step none q e r = let (v, vs, z) = h l (Memᴰ.head refl) in ap goes z ∙ not_taken v vs w (λ o. runs_from (task_in c) (after_run w o vs) (map (λ (l : PlanLine). l.words) ls)) o (ap (step_from c p) (sym z) ∙ q)
      by_step (some j) q e r =
          let (a, i, z) = ReadPlans.step_told c A plain alone l.words j q in
          let v = action_is p j a i in
          let t = TextPlans.operator_found c A plain alone (plan_step p a).name (Ungrounded.listed c A plain alone a v) in
          ap goes (z ∙ ap (λ (ys : List (List ℕ)). folded (action_word c (plan_step p a).name) ∷ ys) (map_map folded object_word (plan_step p a).objects))
          ∙ ap (λ (x : Option Operator). option x false (λ o. may_run (task_in c).objects w o (arguments (plan_step p a).objects) && runs_from (task_in c) (after_run w o (arguments (plan_step p a).objects)) (map (λ (l : PlanLine). l.words) ls))) t
          ∙ and_false (may_run (task_in c).objects w (operator_of c (schema_of c (plan_step p a).name)) (arguments (plan_step p a).objects)) (runs_from (task_in c) (after_run w (operator_of c (schema_of c (plan_step p a).name))
          (arguments (plan_step p a).objects)) (map (λ (l : PlanLine). l.words) ls)) (r (after p s a) (after_run w (operator_of c (schema_of c (plan_step p a).name)) (arguments (plan_step p a).objects))
          (TextPlans.after_same c A plain alone a v s w g) (TextPlans.follows_same c A plain alone a v w f) (only_after a v w o) (λ x m. h x (Memᴰ.tail m)) (rest_refused (steps_from c p ls) j k at e))

  pub no_plan : (text : List ℕ) (ls : List PlanLine) (k at : ℕ) → read_plan_lines text ≡ accepted ls → steps_from c (problem_of c) ls ≡ refused k at → is_plan_of (domain_text c) (instance_text c) text ≡ false
  unfolding is_plan_of option read_plan_lines
  no_plan text ls k at e f =
      let (t, l) = text_told add_plan_line IsLine line_told open_told text ls e in
      rw (task_read c A, steps_read text ls e) (ap (λ (w : AtomWords → Bool). runs_from (task_in c) w (map (λ (l : PlanLine). l.words) ls)) (TextPlans.facts_start c A plain alone)
      ∙ runs_none ls (initial p) (TextPlans.start c A plain alone) k at (TextPlans.agrees_start c A plain alone) (TextPlans.follows_start c A plain alone) only_start (has_word ls text t) f)
