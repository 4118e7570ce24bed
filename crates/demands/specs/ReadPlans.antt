-- A plan that is read, from whoever: but for letters it is what is written for the steps that it is read as.
use Prim.Native.Nat.{ℕ, zero, suc, ◌/◌, ◌%◌, ◌^◌, ◌<◌, ◌≤◌}
use Rattle.std.specs.Prelude.{◌≡◌, Bool, true, false, eqb, ltb, take, if◌then◌else◌}
use Rattle.std.proofs.Math.Path.{refl, sym, ap, ap₂, subst}
use Rattle.std.proofs.Common.{◌∙◌, arith, mod-lt}
use Rattle.std.proofs.Math.Option.{Option, none, some}
use mathlib.Core.List.{List, [], ◌∷◌, ◌++◌, map, map-append, append-nil, Memᴰ}
use Rattle.std.proofs.Math.Dec.{T}
use Rattle.std.proofs.Math.ListN.{length, get_or}
use borrow.Author.Tests.{eqb-true, ltb-true}
use Rattle.definitions.specs.Lists.{all, same, option, flat_map, find}
use Rattle.definitions.specs.Sheet.Text.{split, is_between, is_capital, number, decimal}
use Rattle.definitions.specs.Refusal.{accepted, ◌>>=◌, given}
use Rattle.definitions.specs.Sheet.Formula.{write_each}
use Rattle.definitions.specs.Sheet.Relations.{is_function}
use Rattle.definitions.specs.Problem.Truth.{Case}
use Rattle.definitions.specs.Problem.Tree.{Tree, Trees, forall_node, exists_node, and_node, or_node, tree_of, nodes, free, how_many}
use Rattle.definitions.specs.Problem.Atoms.{Problem, problem_of, problem_with, relation_at, node_at, row_of, places_of, tuples_of, rows_of}
use Rattle.definitions.specs.Problem.Actions.{Action, set, prove_and, prove_or, prove_exists, prove_forall, action_at}
use Rattle.definitions.specs.Reply.Lifted.{ActionName, set_name, begin_name, goal_name, and_name, exists_name, first_name, next_name, or_name, set_schema, proof_schema, schema_of, action_names, PlanStep, relation_in}
use Rattle.definitions.specs.Reply.Lifted.{node_in}
use Rattle.definitions.specs.Reply.Pddl
use Rattle.definitions.specs.Reply.PddlMeaning.{expressions, steps_in, is_plan_of}
use Rattle.laws.specs.Booleans.{T_of}
use Rattle.laws.specs.Lists.{none_some, some_eq, mem_below}
use Rattle.laws.specs.Tuples.{same_eq}
use Rattle.laws.specs.Results.{accepted_eq, bind_parts, given_some}
use Rattle.laws.specs.Rows.{Below, below_cons, cons_below, places_row, row_lt, pair_places}
use Rattle.laws.specs.SetRows.{row_set}
use Rattle.laws.specs.Numbers.{IsAction, action_at_lem}
use Rattle.laws.specs.Decimals.{decimal_number}
use Rattle.laws.specs.Lines.{joined, print_joined, LineByLine, split_cons}
use Rattle.laws.specs.Told.{unsplit, split_back, fields_back, text_told}
use Rattle.laws.specs.Reader.{Accepted}
use Rattle.meaning.specs.Grounded.{good}
use Rattle.meaning.specs.Means.{Good}
use Rattle.laws.specs.Labels.{option_parts}
use Rattle.demands.specs.Every.{the_goal}
use Rattle.meaning.specs.PddlWords.{decimal_small, Named, names_are, all_elements}
use Rattle.demands.specs.PlanLines.{fold_bracketed, low_small}
use Rattle.definitions.specs.Reply.Page.{spaces, free_values}
use Pddl.{object_word, action_word, bracketed, indented, step_text, plan_text, small, folded, closed, words_in, is_word, PlanLine, add_plan_line, read_plan_lines, name_from, object_from, objects_from}
use Pddl.{action_named, step_from, steps_from, plan_step, plan_from, plan_of}

-- ---- a line, put together from its words again
unfoldable pub line_of : List (List ℕ) → List ℕ
line_of [] = []
line_of (w ∷ ws) = 40 ∷ ((w ++ write_each (λ v. v) ws) ++ (41 ∷ []))

pub closed_told : (bs t : List ℕ) → closed bs ≡ some t → bs ≡ t ++ (41 ∷ [])
unfolding closed option
closed_told [] t e = absurd (none_some e)
closed_told (b ∷ []) t e = by_test (eqb b 41) refl e
  where
    by_test : (k : Bool) → eqb b 41 ≡ k → (if k then some [] else none) ≡ some t → b ∷ [] ≡ t ++ (41 ∷ [])
    by_test true q e = ap₂ (λ (x : ℕ) (l : List ℕ). l ++ (x ∷ [])) (eqb-true b 41 q) (some_eq e)
    by_test false q e = absurd (none_some e)
closed_told (b ∷ d ∷ bs) t e = by_option (closed (d ∷ bs)) refl e (closed_told (d ∷ bs))
  where
    by_option : (o : Option (List ℕ)) → closed (d ∷ bs) ≡ o → option o none (λ t. some (b ∷ t)) ≡ some t → ((t : List ℕ) → closed (d ∷ bs) ≡ some t → d ∷ bs ≡ t ++ (41 ∷ [])) → b ∷ d ∷ bs ≡ t ++ (41 ∷ [])
    by_option none q e h = absurd (none_some e)
    by_option (some u) q e h = ap (λ (l : List ℕ). b ∷ l) (h u q) ∙ ap (λ (l : List ℕ). l ++ (41 ∷ [])) (some_eq e)

pub each_unsplit : (w : List ℕ) (ws : List (List ℕ)) → unsplit 32 (w ∷ ws) ≡ w ++ write_each (λ v. v) ws
unfolding unsplit write_each
each_unsplit w [] = sym (append-nil w)
each_unsplit w (v ∷ ws) = ap (λ (l : List ℕ). w ++ (32 ∷ l)) (each_unsplit v ws)

words_told : (x : List ℕ) (ws : List (List ℕ)) → words_in x ≡ some ws → x ≡ line_of ws
unfolding words_in option line_of
words_told [] ws e = absurd (none_some e)
words_told (b ∷ bs) ws e = by_bracket (eqb b 40) refl e
  where
    by_words : (t : List ℕ) → bs ≡ t ++ (41 ∷ []) → b ≡ 40 → (k : Bool) → (if k then some (split 32 t) else none) ≡ some ws → b ∷ bs ≡ line_of ws
    by_words t q r true e =
        let (v, vs, z) = split_cons 32 t in
        ap₂ ◌∷◌ r (q ∙ ap (λ (l : List ℕ). l ++ (41 ∷ [])) (sym (split_back 32 t) ∙ ap (unsplit 32) z ∙ each_unsplit v vs)) ∙ ap line_of (sym z ∙ some_eq e)
    by_words t q r false e = absurd (none_some e)

    by_closed : (o : Option (List ℕ)) → closed bs ≡ o → b ≡ 40 → option o none (λ t. if all is_word (split 32 t) then some (split 32 t) else none) ≡ some ws → b ∷ bs ≡ line_of ws
    by_closed none q r e = absurd (none_some e)
    by_closed (some t) q r e = by_words t (closed_told bs t q) r (all is_word (split 32 t)) e

    by_bracket : (k : Bool) → eqb b 40 ≡ k → (if k then option (closed bs) none (λ t. if all is_word (split 32 t) then some (split 32 t) else none) else none) ≡ some ws → b ∷ bs ≡ line_of ws
    by_bracket true q e = by_closed (closed bs) refl (eqb-true b 40 q) e
    by_bracket false q e = absurd (none_some e)

-- ---- a text that is read as lines
abbrev pub IsLine : PlanLine → List (List ℕ) → Type 0
IsLine l fs = words_in (folded (joined fs)) ≡ some l.words

pub line_told : (acc : List PlanLine) (at : ℕ) (w : List ℕ) (m : List PlanLine) → add_plan_line acc (record { at = at; ended = true; content = w }) ≡ accepted m → (l : PlanLine) × (m ≡ acc ++ (l ∷ [])) × IsLine l (split 9 w)
unfolding add_plan_line
line_told acc at w m e =
    let (ws, f, g) = bind_parts (given (words_in (folded w)) 2 at) _ m e in
    (record { at = at; words = ws }, sym (accepted_eq _ m g), ap (λ (x : List ℕ). words_in (folded x)) (fields_back w (split 9 w) refl) ∙ given_some (words_in (folded w)) 2 at ws f)

pub open_told : (acc : List PlanLine) (at : ℕ) (w : List ℕ) (m : List PlanLine) → add_plan_line acc (record { at = at; ended = false; content = w }) ≡ accepted m → ⊥
unfolding add_plan_line given
open_told acc at w m e = let (ws, f, g) = bind_parts (given none 2 at) _ m e in none_some (given_some none 2 at ws f)

whole : (ls : List PlanLine) (text : List ℕ) → LineByLine IsLine ls text → folded text ≡ flat_map (λ (l : PlanLine). line_of l.words ++ (10 ∷ [])) ls
unfolding LineByLine flat_map folded small is_capital is_between
whole [] text h = ap (map small) h
whole (l ∷ ls) text (fs, r, (rest, e, h)) = ap (map small) (e ∙ ap (λ (t : List ℕ). t ++ rest) (print_joined fs)) ∙ map-append small (joined fs ++ (10 ∷ [])) rest
    ∙ ap₂ ◌++◌ (map-append small (joined fs) (10 ∷ []) ∙ ap (λ (t : List ℕ). t ++ (10 ∷ [])) (words_told (map small (joined fs)) l.words r)) (whole ls rest h)

lines_told : (text : List ℕ) (ls : List PlanLine) → read_plan_lines text ≡ accepted ls → folded text ≡ flat_map (λ (l : PlanLine). line_of l.words ++ (10 ∷ [])) ls
unfolding read_plan_lines
lines_told text ls e = let (t, l) = text_told add_plan_line IsLine line_told open_told text ls e in whole ls text t

-- ---- lists cut at the end
one_last : (k : ℕ) (xs : List ℕ) → length xs ≡ suc k → xs ≡ take k xs ++ (get_or xs k 0 ∷ [])
one_last k [] e = absurd (omega arith)
one_last zero (x ∷ []) e = refl
one_last zero (x ∷ y ∷ xs) e = absurd (omega arith)
one_last (suc k) (x ∷ xs) e = ap (λ (l : List ℕ). x ∷ l) (one_last k xs (omega arith))

two_last : (k : ℕ) (xs : List ℕ) → length xs ≡ suc (suc k) → xs ≡ take k xs ++ (get_or xs k 0 ∷ get_or xs (suc k) 0 ∷ [])
two_last k [] e = absurd (omega arith)
two_last zero (x ∷ []) e = absurd (omega arith)
two_last zero (x ∷ y ∷ []) e = refl
two_last zero (x ∷ y ∷ z ∷ xs) e = absurd (omega arith)
two_last (suc k) (x ∷ xs) e = ap (λ (l : List ℕ). x ∷ l) (two_last k xs (omega arith))

take_long : (k : ℕ) (xs : List ℕ) → k ≤ length xs → length (take k xs) ≡ k
take_long zero xs h = refl
take_long (suc k) [] h = absurd (omega arith)
take_long (suc k) (x ∷ xs) h = ap suc (take_long k xs (omega arith))

below_take : (n k : ℕ) (xs : List ℕ) → Below n xs → Below n (take k xs)
unfolding all
below_take n zero xs b = tt
below_take n (suc k) [] b = tt
below_take n (suc k) (x ∷ xs) b = let q = below_cons n x xs b in cons_below n x (take k xs) q.0 (below_take n k xs q.1)

pub below_get : (n k : ℕ) (xs : List ℕ) → Below n xs → k < length xs → get_or xs k 0 < n
below_get n k [] b h = absurd (omega arith)
below_get n zero (x ∷ xs) b h = (below_cons n x xs b).0
below_get n (suc k) (x ∷ xs) b h = below_get n k xs (below_cons n x xs b).1 (omega arith)

no_objects : (xs : List ℕ) → length xs ≡ 0 → [] ≡ xs
no_objects [] e = refl
no_objects (x ∷ xs) e = absurd (omega arith)

pub find_told : {B : Type 0} (f : B → Bool) (l : List B) (a : B) → find f l ≡ some a → Memᴰ a l × T (f a)
unfolding find
find_told f [] a e = absurd (none_some e)
find_told f (b ∷ l) a e = by_test (f b) refl e (find_told f l a)
  where
    by_test : (k : Bool) → f b ≡ k → (if k then some b else find f l) ≡ some a → (find f l ≡ some a → Memᴰ a l × T (f a)) → Memᴰ a (b ∷ l) × T (f a)
    by_test true q e h = let z = some_eq e in (Memᴰ.head (sym z), subst (λ (x : _). T (f x)) z (T_of q))
    by_test false q e h = let (m, t) = h e in (Memᴰ.tail m, t)

pub if_told : {B : Type 0} (k : Bool) (o : Option B) (x : B) → (if k then o else none) ≡ some x → (k ≡ true) × (o ≡ some x)
if_told true o x e = (refl, e)
if_told false o x e = absurd (none_some e)

-- ---- objects
pub object_told : (n : ℕ) (w : List ℕ) (x : ℕ) → object_from n w ≡ some x → (w ≡ folded (object_word x)) × (x < n)
unfolding object_from object_word folded small is_capital is_between
object_told n [] x e = absurd (none_some e)
object_told n (b ∷ bs) x e =
    let (k, f) = if_told (eqb b 111) _ x e in
    let (y, g, h) = option_parts (number bs) _ x f in
    let (l, z) = if_told (ltb y n) (some y) x h in
    let i : y ≡ x = some_eq z in
    (ap₂ ◌∷◌ (eqb-true b 111 k) ((decimal_number bs y g).0 ∙ ap decimal i ∙ sym (decimal_small x)), subst (λ (v : ℕ). v < n) i (ltb-true y n l))

pub objects_told : (n : ℕ) (ws : List (List ℕ)) (xs : List ℕ) → objects_from n ws ≡ some xs → (ws ≡ map folded (map object_word xs)) × Below n xs
unfolding objects_from all
objects_told n [] xs e = subst (λ (l : List ℕ). ([] ≡ map folded (map object_word l)) × Below n l) (some_eq e) (refl, tt)
objects_told n (w ∷ ws) xs e =
    let (x, f, g) = option_parts (object_from n w) _ xs e in
    let (ys, h, i) = option_parts (objects_from n ws) _ xs g in
    let (a, b) = object_told n w x f in
    let (d, k) = objects_told n ws ys h in
    subst (λ (l : List ℕ). (w ∷ ws ≡ map folded (map object_word l)) × Below n l) (some_eq i) (ap₂ ◌∷◌ a d, cons_below n x ys b k)

-- PDDL's meaning ignores case
pub plan_case : (domain instance plan again : List ℕ) → folded plan ≡ folded again → is_plan_of domain instance plan ≡ is_plan_of domain instance again
unfolding is_plan_of steps_in expressions
plan_case domain instance plan again e = rw e refl

module _ (c : Case) (A : Accepted c) (plain : c.question.types ≡ []) (alone : c.question.every ≡ none) where
  abbrev p : Problem
  p = problem_of c

  abbrev n : ℕ
  n = (problem_of c).size

  G : Good (problem_of c)
  G = good c A

  -- ---- a name of the domain, and objects as many as its parameters: the action, whose step they are
  in_range : (s x : ℕ) → x < n → Memᴰ x (p.range s)
  in_range s x h = subst (Memᴰ x) (sym (all_elements c plain s)) (mem_below n x h)

  row_back : (k : ℕ) (xs : List ℕ) → length xs ≡ k → Below n xs → (row_of n xs < n ^ k) × (places_of n k (row_of n xs) ≡ xs)
  row_back k xs e b = (subst (λ (j : ℕ). row_of n xs < n ^ j) e (row_lt n xs b), ap (λ (j : ℕ). places_of n j (row_of n xs)) (sym e) ∙ places_row n xs G.element b)

  step_eq : (name : ActionName) (xs ys : List ℕ) → xs ≡ ys → ◌≡◌ {A = PlanStep} (record { name = name; objects = xs }) (record { name = name; objects = ys })
  step_eq name xs ys e = ap (λ (l : List ℕ). record { name = name; objects = l }) e

  set_told : (r : ℕ) (xs : List ℕ) → Named c (set_name r) → Below n xs → length xs ≡ (relation_in c r).arity → IsAction p (set r (row_of n xs)) × (plan_step p (set r (row_of n xs)) ≡ record { name = set_name r; objects = xs })
  unfolding Named IsAction plan_step tuples_of relation_in relation_at problem_of problem_with
  set_told r xs (l, t) b e =
      let (h, q) = row_back (relation_at p r).arity xs e b in
      ((l, t, row_set n p.range (relation_at p r) (row_of n xs) t h (λ f. typed f h)), step_eq (set_name r) _ xs q)
    where
      typed : T (is_function (relation_at p r).kind) → row_of n xs < n ^ (relation_at p r).arity → Memᴰ (row_of n xs / n) (p.range (relation_at p r).firsts) × Memᴰ (row_of n xs % n) (p.range (relation_at p r).seconds)
      typed f h = let z = pair_places n (row_of n xs) G.element (subst (λ (k : ℕ). row_of n xs < n ^ k) (G.pairs r l f) h) in (in_range (relation_at p r).firsts (row_of n xs / n) z.1, in_range (relation_at p r).seconds (row_of n xs % n) (mod-lt (row_of n xs) G.element))

  node_is : (v : ℕ) → node_in c v ≡ node_at p v
  unfolding problem_of problem_with node_in node_at
  node_is v = refl

  nodes_are : nodes (tree_of c.question) ≡ p.node_list
  unfolding problem_of problem_with
  nodes_are = refl

  there : (v : ℕ) → v < length (nodes (tree_of c.question)) → v < length p.node_list
  there v l = subst (λ (ts : List Tree). v < length ts) nodes_are l

  module _ (v : ℕ) (xs : List ℕ) (b : Below n xs) where
    abbrev k : ℕ
    k = length (free (node_at p v))

    rows : (zs : List ℕ) → length zs ≡ k → Below n zs → (row_of n zs < rows_of n (node_at p v)) × (free_values p v (row_of n zs) ≡ zs)
    unfolding rows_of free_values
    rows zs e h = row_back k zs e h

    and_told : (ts : Trees) → v < length p.node_list → node_at p v ≡ and_node ts → length xs ≡ k → IsAction p (prove_and v (row_of n xs)) × (plan_step p (prove_and v (row_of n xs)) ≡ record { name = and_name v; objects = xs })
    unfolding IsAction plan_step
    and_told ts l e h = let (q, z) = rows xs h b in ((l, q, (ts, e)), step_eq (and_name v) _ xs z)

    or_told : (ts : Trees) (i : ℕ) → v < length p.node_list → node_at p v ≡ or_node ts → i < how_many ts → length xs ≡ k → IsAction p (prove_or v (row_of n xs) i) × (plan_step p (prove_or v (row_of n xs) i) ≡ record { name = or_name v i; objects = xs })
    unfolding IsAction plan_step
    or_told ts i l e g h = let (q, z) = rows xs h b in ((l, q, (ts, e, g)), step_eq (or_name v i) _ xs z)

    first_told : (d s : ℕ) (t : Tree) → v < length p.node_list → node_at p v ≡ forall_node d s t → length xs ≡ k → IsAction p (prove_forall v (row_of n xs) zero) × (plan_step p (prove_forall v (row_of n xs) zero) ≡ record { name = first_name v; objects = xs })
    unfolding IsAction plan_step
    first_told d s t l e h = let (q, z) = rows xs h b in ((l, q, (d, s, t, e, in_range s zero G.element)), step_eq (first_name v) _ xs z)

    exists_told : (d s : ℕ) (t : Tree) → v < length p.node_list → node_at p v ≡ exists_node d s t → length xs ≡ suc k
        → IsAction p (prove_exists v (row_of n (take k xs)) (get_or xs k 0)) × (plan_step p (prove_exists v (row_of n (take k xs)) (get_or xs k 0)) ≡ record { name = exists_name v; objects = xs })
    unfolding IsAction plan_step
    exists_told d s t l e h =
        let (q, z) = rows (take k xs) (take_long k xs (omega arith)) (below_take n k xs b) in
        ((l, q, (d, s, t, e, in_range s (get_or xs k 0) (below_get n k xs b (omega arith)))), step_eq (exists_name v) _ xs (ap (λ (y : List ℕ). y ++ (get_or xs k 0 ∷ [])) z ∙ sym (one_last k xs h)))

    next_told : (d s y : ℕ) (t : Tree) → v < length p.node_list → node_at p v ≡ forall_node d s t → length xs ≡ suc (suc k) → get_or xs k 0 ≡ y → get_or xs (suc k) 0 ≡ suc y
        → IsAction p (prove_forall v (row_of n (take k xs)) (suc y)) × (plan_step p (prove_forall v (row_of n (take k xs)) (suc y)) ≡ record { name = next_name v; objects = xs })
    unfolding IsAction plan_step
    next_told d s y t l e h f g =
        let (q, z) = rows (take k xs) (take_long k xs (omega arith)) (below_take n k xs b) in
        ((l, q, (d, s, t, e, in_range s (suc y) (subst (λ (x : ℕ). x < n) g (below_get n (suc k) xs b (omega arith))))), step_eq (next_name v) _ xs (ap₂ (λ (u : List ℕ) (w : List ℕ). u ++ w) z (ap₂ (λ (x w : ℕ). x ∷ w ∷ []) (sym f) (sym g)) ∙ sym (two_last k xs h)))

  abbrev IsStep : ActionName → List ℕ → Action → Type 0
  IsStep name xs a = IsAction p a × (plan_step p a ≡ record { name = name; objects = xs })

  named_told : (name : ActionName) (xs : List ℕ) (a : Action) → Named c name → Below n xs → length xs ≡ (schema_of c name).parameters → action_named p name xs ≡ some a → IsStep name xs a
  unfolding Named schema_of set_schema proof_schema action_named IsAction plan_step
  named_told (set_name r) xs a h b e q = subst (IsStep (set_name r) xs) (some_eq q) (set_told r xs h b e)
  named_told begin_name xs a h b e q = subst (IsStep begin_name xs) (some_eq q) (tt, step_eq begin_name [] xs (no_objects xs e))
  named_told goal_name xs a h b e q = subst (IsStep goal_name xs) (some_eq q) (the_goal c A alone, step_eq goal_name [] xs (no_objects xs e))
  named_told (and_name v) xs a (l, (ts, z)) b e q = subst (IsStep (and_name v) xs) (some_eq q) (and_told v xs b ts (there v l) (sym (node_is v) ∙ z) (e ∙ ap (λ (t : Tree). length (free t)) (node_is v)))
  named_told (or_name v i) xs a (l, (ts, z, g)) b e q = subst (IsStep (or_name v i) xs) (some_eq q) (or_told v xs b ts i (there v l) (sym (node_is v) ∙ z) g (e ∙ ap (λ (t : Tree). length (free t)) (node_is v)))
  named_told (exists_name v) xs a (l, (d, s, t, z)) b e q = subst (IsStep (exists_name v) xs) (some_eq q) (exists_told v xs b d s t (there v l) (sym (node_is v) ∙ z) (e ∙ ap (λ (t : Tree). suc (length (free t))) (node_is v)))
  named_told (first_name v) xs a (l, (d, s, t, z)) b e q = subst (IsStep (first_name v) xs) (some_eq q) (first_told v xs b d s t (there v l) (sym (node_is v) ∙ z) (e ∙ ap (λ (t : Tree). length (free t)) (node_is v)))
  named_told (next_name v) xs a (l, (d, s, t, z)) b e q =
      let (f, g) = if_told (eqb (get_or xs (suc (length (free (node_at p v)))) 0) (suc (get_or xs (length (free (node_at p v))) 0))) _ a q in
      let w : get_or xs (suc (length (free (node_at p v)))) 0 ≡ suc (get_or xs (length (free (node_at p v))) 0) = eqb-true _ _ f in
      subst (IsStep (next_name v) xs) (ap (prove_forall v (row_of n (take (length (free (node_at p v))) xs))) (sym w) ∙ some_eq g) (next_told v xs b d s (get_or xs (length (free (node_at p v))) 0) t (there v l) (sym (node_is v)
      ∙ z) (e ∙ ap (λ (t : Tree). suc (suc (length (free t)))) (node_is v)) refl w)

  -- ---- a line that is a step, and all lines
  pub step_told : (ws : List (List ℕ)) (k : ℕ) → step_from c p ws ≡ some k → (a : Action) × (action_at p k ≡ some a) × (ws ≡ folded (action_word c (plan_step p a).name) ∷ map folded (map object_word (plan_step p a).objects))
  unfolding step_from name_from
  step_told [] k e = absurd (none_some e)
  step_told (w ∷ ws) k e =
      let (name, f, e₁) = option_parts (find (λ name. same (folded (action_word c name)) w) (action_names c)) _ k e in
      let (xs, g, e₂) = option_parts (objects_from n ws) _ k e₁ in
      let (h, e₃) = if_told (eqb (length xs) (schema_of c name).parameters) _ k e₂ in
      let (a, i, e₄) = option_parts (action_named p name xs) _ k e₃ in
      let (m, t) = find_told (λ name. same (folded (action_word c name)) w) (action_names c) name f in
      let (o, b) = objects_told n ws xs g in
      let (v, s) = named_told name xs a (names_are c name m) b (eqb-true _ _ h) i in
      (a, ap (action_at p) (sym (some_eq e₄)) ∙ action_at_lem p a v, ap₂ ◌∷◌ (sym (same_eq _ _ t)) o ∙ ap (λ (z : PlanStep). folded (action_word c z.name) ∷ map folded (map object_word z.objects)) (sym s))

  fold_step : (t : PlanStep) → folded (step_text c t) ≡ line_of (folded (action_word c t.name) ∷ map folded (map object_word t.objects)) ++ (10 ∷ [])
  unfolding step_text line_of indented spaces folded
  fold_step t = map-append small (bracketed (action_word c t.name ∷ map object_word t.objects)) (10 ∷ []) ∙ ap₂ (λ (x : List ℕ) (b : ℕ). x ++ (b ∷ [])) (fold_bracketed (action_word c t.name) (map object_word t.objects)) (low_small 10 (omega arith))

  steps_told : (ls : List PlanLine) (ks : List ℕ) (i : ℕ) → steps_from c p ls ≡ accepted ks → (plan : List PlanStep) × (plan_from p i ks ≡ accepted plan) × (flat_map (λ (l : PlanLine). line_of l.words ++ (10 ∷ [])) ls ≡ folded (plan_text c plan))
  unfolding steps_from plan_from plan_text flat_map given ◌>>=◌ folded
  steps_told [] ks i e = ([], ap (plan_from p i) (sym (accepted_eq [] ks e)), refl)
  steps_told (l ∷ ls) ks i e =
      let (k, f, e₁) = bind_parts (given (step_from c p l.words) 22 l.at) _ ks e in
      let (rest, g, e₂) = bind_parts (steps_from c p ls) _ ks e₁ in
      let (a, q, z) = step_told l.words k (given_some (step_from c p l.words) 22 l.at k f) in
      let (plan, r, t) = steps_told ls rest (suc i) g in
      (plan_step p a ∷ plan, ap (plan_from p i) (sym (accepted_eq (k ∷ rest) ks e₂)) ∙ rw (q, r) refl, ap₂ ◌++◌ (ap (λ (ws : List (List ℕ)). line_of ws ++ (10 ∷ [])) z ∙ sym (fold_step (plan_step p a))) t ∙ sym (map-append small (step_text c (plan_step p a)) (flat_map (step_text c) plan)))

  pub read_written : (text : List ℕ) (ls : List PlanLine) (steps : List ℕ) → read_plan_lines text ≡ accepted ls → steps_from c (problem_of c) ls ≡ accepted steps
      → (plan : List PlanStep) × (plan_of (problem_of c) steps ≡ accepted plan) × (folded text ≡ folded (plan_text c plan))
  unfolding plan_of
  read_written text ls steps e f = let (plan, r, t) = steps_told ls steps zero f in (plan, r, lines_told text ls e ∙ t)
