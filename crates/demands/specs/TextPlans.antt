-- The texts themselves: steps reach the goal exactly if the text that is written for them is a plan of the written domain and instance, by
-- PDDL's own meaning.
use Prim.Native.Nat.{ℕ, zero, suc, ◌+◌, ◌-◌, ◌<◌, ◌≤◌}
use Rattle.std.specs.Prelude.{◌≡◌, ◌⊎◌, Bool, get_or, take, drop, if◌then◌else◌}
use Rattle.std.proofs.Math.Path.{refl, sym, ap, ap₂, subst}
use Rattle.std.proofs.Common.{◌∙◌, inl, inr, eqb→eq}
use Rattle.std.proofs.Math.Logic.{⊎_elim}
use Rattle.std.proofs.Math.Bool.{true, false, not, ◌&&◌, ◌||◌}
use Rattle.std.proofs.Math.Option.{Option, none, some}
use mathlib.Core.List.Memᴰ
use mathlib.Core.List.{List, [], ◌∷◌, ◌++◌, map, map-append, Memᴰ}
use native.Mathlib.Omega.{arith}
use Rattle.std.proofs.Math.Dec.{T, eqb, ltb, eqb_refl}
use Rattle.std.proofs.Math.ListN.{length, get_or-eq_default}
use Rattle.std.proofs.lemmas.List.{length-map}
use borrow.Author.Tests.{eq-eqb, eqb-true, eqb-false, ltb-true, ltb-false}
use Rattle.definitions.specs.Lists.{all, any, filter, same, option, position, find, map_from, from, below}
use Rattle.definitions.specs.Sheet.Text.{is_between, is_capital, number}
use Rattle.definitions.specs.Refusal.{accepted}
use Rattle.definitions.specs.Sheet.Relations.{Relation, is_function, is_injective}
use Rattle.definitions.specs.Sheet.Sheets.{relations_of}
use Rattle.definitions.specs.Problem.Truth.{Case, holds}
use Rattle.definitions.specs.Problem.Tree.{Tree, leaf, forall_node, exists_node, and_node, or_node, Part, parts, tree_of, occurs, free}
use Rattle.definitions.specs.Problem.Atoms.{Problem, problem_of, problem_with, relation_at, Atom, guess, proof, goal, tuple, not_tuple, free_domain, free_range, holds_node, marked, atom_number, State, initial}
use Rattle.definitions.specs.Problem.Actions.{Action, needs, adds, removes}
use Rattle.definitions.specs.Problem.Strips.{may_take, after, reaches_from, reaches_goal}
use Rattle.definitions.specs.Reply.Lifted
use Rattle.definitions.specs.Reply.Pddl
use Rattle.definitions.specs.Reply.PddlMeaning
use Rattle.laws.specs.Booleans.{T_and_l, T_and_r, T_of, T_true, T_false, T_ext, and_T, or_l}
use Rattle.laws.specs.Lists.{any_of, any_at, any_none, mem_map, map_mem, flat_mem, mem_from, filter_mem, below_lt, length_below, map_map, get_d_map, get_or_below, get_or_mem, take_mem, drop_mem, map_from_mem}
use Rattle.laws.specs.Positions.{position_at, position_none}
use Rattle.laws.specs.Tuples.{same_eq, same_refl}
use Rattle.laws.specs.Results.{accepted_eq}
use Rattle.laws.specs.Repeats.{filter_le}
use Rattle.laws.specs.Rows.{Below, below_cons, cons_below, places_below}
use Rattle.laws.specs.Numbers.{no_relation, inj_fun, IsAtom, IsAction, atom_injective, action_is}
use Rattle.laws.specs.Decimals.{number_decimal}
use Rattle.laws.specs.Reader.{Accepted}
use Rattle.meaning.specs.Grounded.{good, relation_cases, count_relations, first_chosen_lem}
use Rattle.meaning.specs.Means.{Good}
use Rattle.meaning.specs.Valid.{needs_valid, adds_valid, removes_valid}
use Rattle.demands.specs.Every.{no_marked}
use Rattle.demands.specs.LiftedFacts.{fact_of, fact_eq, fact_injective, said_mem, mem_said}
use Rattle.demands.specs.Ungrounded
use Rattle.meaning.specs.PddlWords.{decimal_small, Declared, declared_apart, actions_apart, objects_apart}
use Rattle.demands.specs.PddlTasks
use Lifted.{Predicate, guessing, proving, reached, related, unrelated, free_first, free_second, proved, predicate_kind, Fact, Term, parameter, object, Pattern, is_said, term_value, said_of, term_at}
use Lifted.{with_term, ActionName, set_name, begin_name, goal_name, and_name, exists_name, first_name, next_name, or_name, Schema, relation_in, node_in, last_in, successor, own_terms, part_pattern, part_patterns}
use Lifted.{under_pattern, plainly, used_up, set_schema, proof_schema, schema_of, action_names, schemas, tuples_over, each_said, relation_facts, facts_of, PlanStep}
use Pddl.{object_word, parameter_word, term_word, predicate_word, action_word, constants, small, folded, plan_step, plan_from, plan_of, domain_text, instance_text, plan_text}
use PddlMeaning.{AtomWords, Operator, same_words, is_among_atoms, in_place_of, atom_at, may_run, after_run, runs_from, is_plan_of}
use PddlTasks.{fact_words, pattern_words, operator_of, step_words, object_words, task_in, task_read, plan_read}
use Ungrounded.{all_map, Follows, Does}

-- ---- equal words
pub same_words_eq : (a b : AtomWords) → T (same_words a b) → a ≡ b
unfolding same_words
same_words_eq [] [] t = refl
same_words_eq [] (y ∷ ys) t = absurd t
same_words_eq (x ∷ xs) [] t = absurd t
same_words_eq (x ∷ xs) (y ∷ ys) t = ap₂ ◌∷◌ (same_eq x y (T_and_l (same x y) _ t)) (same_words_eq xs ys (T_and_r (same x y) _ t))

pub same_words_refl : (a : AtomWords) → T (same_words a a)
unfolding same_words
same_words_refl [] = tt
same_words_refl (x ∷ xs) = and_T (same x x) _ (same_refl x) (same_words_refl xs)

-- ---- terms: a parameter that the action has, or an object
unfoldable pub Fits : ℕ → Term → Type 0
Fits k (parameter i) = i < k
Fits k (object x) = Unit {0}

unfoldable pub AllFit : ℕ → List Term → Type 0
AllFit k [] = Unit {0}
AllFit k (t ∷ ts) = Fits k t × AllFit k ts

fits_more : (k m : ℕ) (t : Term) → k ≤ m → Fits k t → Fits m t
unfolding Fits
fits_more k m (parameter i) h f = omega arith
fits_more k m (object x) h f = tt

all_map_fit : (k : ℕ) (ε : ℕ → Term) (ls : List ℕ) → ((l : ℕ) → Fits k (ε l)) → AllFit k (map ε ls)
unfolding AllFit
all_map_fit k ε [] h = tt
all_map_fit k ε (l ∷ ls) h = (h l, all_map_fit k ε ls h)

all_append_fit : (k : ℕ) (ts us : List Term) → AllFit k ts → AllFit k us → AllFit k (ts ++ us)
unfolding AllFit
all_append_fit k [] us a b = b
all_append_fit k (t ∷ ts) us a b = (a.0, all_append_fit k ts us a.1 b)

term_fits : (ds : List ℕ) (l : ℕ) → Fits (length ds) (term_at ds l)
unfolding term_at position option Fits
term_fits [] l = tt
term_fits (d ∷ ds) l = by_test (eqb l d) (term_fits ds l)
  where
    by_position : (o : Option ℕ) → Fits (length ds) (option o (object zero) parameter) → Fits (suc (length ds)) (option (option o none (λ i. some (suc i))) (object zero) parameter)
    by_position none h = tt
    by_position (some i) h = omega arith

    by_test : (b : Bool) → Fits (length ds) (term_at ds l) → Fits (suc (length ds)) (option (if b then some zero else option (position (eqb l) ds) none (λ i. some (suc i))) (object zero) parameter)
    by_test true h = omega arith
    by_test false h = by_position (position (eqb l) ds) h

from_fits : (a k m : ℕ) → a + k ≤ m → AllFit m (map parameter (from a k))
unfolding from AllFit Fits
from_fits a zero m h = tt
from_fits a (suc k) m h = (omega arith, from_fits (suc a) k m (omega arith))

own_fits : (k m : ℕ) → k ≤ m → AllFit m (map parameter (below k))
unfolding below
own_fits k m h = from_fits zero k m (omega arith)

with_fits : (k : ℕ) (ε : ℕ → Term) (d : ℕ) (x : Term) → ((l : ℕ) → Fits k (ε l)) → Fits k x → (l : ℕ) → Fits k (with_term ε d x l)
unfolding with_term
with_fits k ε d x h f l = by_test (eqb l d)
  where
    by_test : (b : Bool) → Fits k (if b then x else ε l)
    by_test true = f
    by_test false = h l

part_fits : (k end : ℕ) (ε : ℕ → Term) (v : ℕ) (t : Tree) → ((l : ℕ) → Fits k (ε l)) → AllFit k (part_pattern end ε v t).terms
unfolding part_pattern AllFit Fits
part_fits k end ε v (leaf true r ls) h = all_map_fit k ε ls h
part_fits k end ε v (leaf false r ls) h = all_map_fit k ε ls h
part_fits k end ε v (forall_node d s t) h = all_append_fit k (map ε (free (forall_node d s t))) (object end ∷ []) (all_map_fit k ε (free (forall_node d s t)) h) (tt, tt)
part_fits k end ε v (exists_node d s t) h = all_map_fit k ε (free (exists_node d s t)) h
part_fits k end ε v (and_node ts) h = all_map_fit k ε (free (and_node ts)) h
part_fits k end ε v (or_node ts) h = all_map_fit k ε (free (or_node ts)) h

-- all patterns of a list
abbrev pub Fitting : ℕ → List Pattern → Type 0
Fitting k l = (a : Pattern) → Memᴰ a l → AllFit k a.terms

fitting_cons : (k : ℕ) (a : Pattern) (l : List Pattern) → AllFit k a.terms → Fitting k l → Fitting k (a ∷ l)
fitting_cons k a l h f b m = ⊎_elim (λ e. subst (λ (x : Pattern). AllFit k x.terms) (sym e) h) (λ q. f b q) (Memᴰ.cases_cons m)

fitting_none : (k : ℕ) → Fitting k []
fitting_none k a m = absurd (Memᴰ.not-nil m)

plain_fits : (k : ℕ) (a : Predicate) → AllFit k (plainly a).terms
unfolding AllFit
plain_fits k a = tt

node_fits : (t : Tree) (l : ℕ) → Fits (length (free t)) (term_at (free t) l)
node_fits t l = term_fits (free t) l

parts_fit : (end v : ℕ) (t : Tree) → Fitting (length (free t)) (part_patterns end v t)
unfolding part_patterns
parts_fit end v t a m = let (q, i, e) = map_mem (λ (q : Part). part_pattern end (term_at (free t)) q.node q.tree) (parts v t) a m in subst (λ (x : Pattern). AllFit (length (free t)) x.terms) (sym e) (part_fits (length
    (free t)) end (term_at (free t)) q.node q.tree (node_fits t))

under_fits : (end v k : ℕ) (t : Tree) (x : Term) → length (free t) ≤ k → Fits k x → Fitting k (under_pattern end v t x)
unfolding under_pattern
under_fits end v k (leaf p r ls) x h f = fitting_none k
under_fits end v k (forall_node d s t) x h f = fitting_cons k _ [] (part_fits k end _ (suc v) t (with_fits k (term_at (free (forall_node d s t))) d x (λ l. fits_more _ k _ h (node_fits (forall_node d s t) l)) f)) (fitting_none k)
under_fits end v k (exists_node d s t) x h f = fitting_cons k _ [] (part_fits k end _ (suc v) t (with_fits k (term_at (free (exists_node d s t))) d x (λ l. fits_more _ k _ h (node_fits (exists_node d s t) l)) f)) (fitting_none k)
under_fits end v k (and_node ts) x h f = fitting_none k
under_fits end v k (or_node ts) x h f = fitting_none k

-- ---- the patterns of every action of the domain have its own parameters
pub record SchemaFits (s : Schema) : Type 0 where
  pub needed : Fitting s.parameters s.needed
  pub added : Fitting s.parameters s.added
  pub removed : Fitting s.parameters s.removed
  pub few : s.parameters ≤ 64

free_few : (t : Tree) → length (free t) ≤ 4
unfolding free
free_few t = let a = filter_le (λ l. occurs l t) (below 4) in let b = length_below 4 in omega arith

proof_fits : (name : ActionName) (v k : ℕ) (l : List Pattern) (own : List Term) → Fitting k l → AllFit k own → k ≤ 64 → SchemaFits (proof_schema name v k l own)
unfolding proof_schema
proof_fits name v k l own f g h = record { needed = fitting_cons k _ l (plain_fits k proving) f; added = fitting_cons k _ [] g (fitting_none k); removed = fitting_none k; few = h }

used_fits : (r : ℕ) (k : Relation) → (T (is_function k.kind) → k.arity ≡ 2) → Fitting k.arity (used_up r k)
unfolding used_up AllFit Fits
used_fits r k h = fitting_cons k.arity _ _ (own_fits k.arity k.arity (omega arith)) (λ a m. ⊎_elim (λ q. one (is_function k.kind) (record { predicate = free_first r; terms = parameter 0 ∷ [] }) (λ t. let e = h t in (omega arith, tt)) a q)
    (λ q. one (is_injective k.kind) (record { predicate = free_second r; terms = parameter 1 ∷ [] }) (λ t. let e = h (inj_fun k.kind t) in (omega arith, tt)) a q)
    (Memᴰ.append_cases (if is_function k.kind then record { predicate = free_first r; terms = parameter 0 ∷ [] } ∷ [] else []) m))
  where
    one : (b : Bool) (x : Pattern) → (T b → AllFit k.arity x.terms) → (a : Pattern) → Memᴰ a (if b then x ∷ [] else []) → AllFit k.arity a.terms
    one true x f a q = subst (λ (y : Pattern). AllFit k.arity y.terms) (sym (Memᴰ.eq_of_singleton q)) (f tt)
    one false x f a q = absurd (Memᴰ.not-nil q)

set_fits : (r : ℕ) (k : Relation) → (T (is_function k.kind) → k.arity ≡ 2) → k.arity ≤ 64 → SchemaFits (set_schema r k)
unfolding set_schema
set_fits r k h few = record { needed = fitting_cons k.arity _ _ (plain_fits k.arity guessing) (used_fits r k h); added = fitting_cons k.arity _ [] (own_fits k.arity k.arity (omega arith)) (fitting_none k.arity); removed = used_fits r k h; few = few }

taken_fit : (k i : ℕ) (l : List Pattern) → Fitting k l → Fitting k (take 1 (drop i l))
taken_fit k i l f a m = f a (drop_mem i l a (take_mem 1 (drop i l) a m))

module _ (c : Case) where
  pub named_fits : (name : ActionName) → ((r : ℕ) → (T (is_function (relation_in c r).kind) → (relation_in c r).arity ≡ 2) × ((relation_in c r).arity ≤ 64)) → SchemaFits (schema_of c name)
  unfolding schema_of own_terms Fits AllFit
  named_fits (set_name r) h = set_fits r (relation_in c r) (h r).0 (h r).1
  named_fits begin_name h = record { needed = fitting_cons 0 _ [] (plain_fits 0 guessing) (fitting_none 0); added = fitting_cons 0 _ [] (plain_fits 0 proving) (fitting_none 0); removed = fitting_cons 0 _ [] (plain_fits 0 guessing) (fitting_none 0); few = omega arith }
  named_fits goal_name h = record { needed = fitting_cons 0 _ [] (part_fits 0 (last_in c) (λ _. object zero) zero (tree_of c.question) (λ l. tt)) (fitting_none 0); added = fitting_cons 0 _ [] (plain_fits 0 reached) (fitting_none 0); removed = fitting_none 0; few = omega arith }
  named_fits (and_name v) h = let t = node_in c v in let q = free_few (node_in c v) in proof_fits (and_name v) v (length (free t)) _ _ (parts_fit (last_in c) v t) (own_fits _ _ (omega arith)) (omega arith)
  named_fits (or_name v i) h = let t = node_in c v in let q = free_few (node_in c v) in proof_fits (or_name v i) v (length (free t)) _ _ (taken_fit _ i _ (parts_fit (last_in c) v t)) (own_fits _ _ (omega arith)) (omega arith)
  named_fits (exists_name v) h =
      let q = free_few (node_in c v) in
      let k : ℕ = length (free (node_in c v)) in
      proof_fits (exists_name v) v (suc k) (under_pattern (last_in c) v (node_in c v) (parameter k)) (map parameter (below k)) (under_fits (last_in c) v (suc k) (node_in c v) (parameter k) (omega arith) (omega arith)) (own_fits k (suc k) (omega arith)) (omega arith)
  named_fits (first_name v) h =
      let q = free_few (node_in c v) in
      let k : ℕ = length (free (node_in c v)) in
      proof_fits (first_name v) v k (under_pattern (last_in c) v (node_in c v) (object zero)) (map parameter (below k) ++ (object zero ∷ [])) (under_fits (last_in c) v k (node_in c v) (object zero) (omega arith) tt) (all_append_fit k
      (map parameter (below k)) (object zero ∷ []) (own_fits k k (omega arith)) (tt, tt)) (omega arith)
  named_fits (next_name v) h =
      let q = free_few (node_in c v) in
      let k : ℕ = length (free (node_in c v)) in
      let own : (x : Term) → Fits (suc (suc k)) x → AllFit (suc (suc k)) (map parameter (below k) ++ (x ∷ [])) = λ x f. all_append_fit (suc (suc k)) (map parameter (below k)) (x ∷ []) (own_fits k (suc (suc k)) (omega arith)) (f, tt) in
      proof_fits (next_name v) v (suc (suc k)) _ (map parameter (below k) ++ (parameter (suc k) ∷ []))
      (fitting_cons (suc (suc k)) (record { predicate = related successor; terms = parameter k ∷ parameter (suc k) ∷ [] }) _ (omega arith, (omega arith, tt))
      (fitting_cons (suc (suc k)) (record { predicate = proved v; terms = map parameter (below k) ++ (parameter k ∷ []) }) _ (own (parameter k) (omega arith)) (under_fits (last_in c) v (suc (suc k)) (node_in c v) (parameter (suc k)) (omega arith) (omega arith))))
      (own (parameter (suc k)) (omega arith)) (omega arith)

-- ---- a parameter's word stands for its object's
parameter_number : (i : ℕ) → i ≤ 64 → option (number (drop 2 (folded (parameter_word i)))) zero (λ z. z) ≡ i
unfolding parameter_word folded small is_capital is_between option
parameter_number i h = rw (decimal_small i) (rw (number_decimal i (omega arith)) refl)

parameter_apart : (i j : ℕ) → i ≤ 64 → j ≤ 64 → folded (parameter_word i) ≡ folded (parameter_word j) → i ≡ j
parameter_apart i j h g e = sym (parameter_number i h) ∙ ap (λ (w : List ℕ). option (number (drop 2 w)) zero (λ z. z)) e ∙ parameter_number j g

abbrev pub parameter_words : ℕ → List (List ℕ)
parameter_words k = map (λ i. folded (parameter_word i)) (below k)

abbrev pub arguments : List ℕ → List (List ℕ)
arguments xs = map (λ x. folded (object_word x)) xs

word_at : (k i : ℕ) → i < k → get_or (parameter_words k) i [] ≡ folded (parameter_word i)
word_at k i h = get_d_map (λ i. folded (parameter_word i)) (below k) i 0 [] (let l = length_below k in omega arith) ∙ ap (λ (x : ℕ). folded (parameter_word x)) (get_or_below k i h)

parameter_place : (k i : ℕ) → k ≤ 64 → i < k → position (same (folded (parameter_word i))) (parameter_words k) ≡ some i
parameter_place k i few h =
    let l : length (parameter_words k) ≡ k = length-map (below k) (λ i. folded (parameter_word i)) ∙ length_below k in
    position_at (same (folded (parameter_word i))) (parameter_words k) [] i (omega arith) (T_true _ (subst (λ (w : List ℕ). T (same (folded (parameter_word i)) w)) (sym (word_at k i h)) (same_refl (folded (parameter_word i)))))
    (λ j g. T_false _ (λ t. let e : j ≡ i = sym (parameter_apart i j (omega arith) (omega arith) (same_eq (folded (parameter_word i)) (get_or (parameter_words k) j []) t ∙ word_at k j (omega arith))) in omega arith))

-- no object's word is a parameter's
object_no : (x i : ℕ) → same (folded (object_word x)) (folded (parameter_word i)) ≡ false
unfolding object_word parameter_word folded small is_capital is_between same
object_no x i = refl

object_place : (k x : ℕ) → position (same (folded (object_word x))) (parameter_words k) ≡ none
object_place k x = position_none (same (folded (object_word x))) (parameter_words k) (any_none (same (folded (object_word x))) (parameter_words k) (λ w m. let (i, n, e) = map_mem (λ i. folded (parameter_word i)) (below k) w m in ap (same (folded (object_word x))) e ∙ object_no x i))

term_in_place : (k : ℕ) (xs : List ℕ) (t : Term) → k ≤ 64 → length xs ≡ k → Fits k t → in_place_of (parameter_words k) (arguments xs) (folded (term_word t)) ≡ folded (object_word (term_value xs t))
unfolding in_place_of term_word term_value Fits option
term_in_place k xs (parameter i) few e h = rw (parameter_place k i few h) (get_d_map (λ x. folded (object_word x)) xs i 0 [] (omega arith))
term_in_place k xs (object x) few e h = rw (object_place k x) refl

terms_in_place : (k : ℕ) (xs : List ℕ) (ts : List Term) → k ≤ 64 → length xs ≡ k → AllFit k ts → map (in_place_of (parameter_words k) (arguments xs)) (map (λ t. folded (term_word t)) ts) ≡ map (λ x. folded (object_word x)) (map (term_value xs) ts)
unfolding AllFit
terms_in_place k xs [] few e h = refl
terms_in_place k xs (t ∷ ts) few e h = ap₂ ◌∷◌ (term_in_place k xs t few e h.0) (terms_in_place k xs ts few e h.1)

pub atom_in_place : (c : Case) (k : ℕ) (xs : List ℕ) (a : Pattern) → k ≤ 64 → length xs ≡ k → AllFit k a.terms → atom_at (parameter_words k) (arguments xs) (pattern_words c a) ≡ fact_words c (said_of xs a)
unfolding atom_at pattern_words fact_words said_of
atom_in_place c k xs a few e h = ap (λ (ws : List (List ℕ)). folded (predicate_word c a.predicate) ∷ ws) (terms_in_place k xs a.terms few e h)

atoms_in_place : (c : Case) (k : ℕ) (xs : List ℕ) (l : List Pattern) → k ≤ 64 → length xs ≡ k → Fitting k l → map (atom_at (parameter_words k) (arguments xs)) (map (pattern_words c) l) ≡ map (fact_words c) (map (said_of xs) l)
atoms_in_place c k xs [] few e h = refl
atoms_in_place c k xs (a ∷ l) few e h = ap₂ ◌∷◌ (atom_in_place c k xs a few e (h a (Memᴰ.head refl))) (atoms_in_place c k xs l few e (λ b m. h b (Memᴰ.tail m)))

nil≢cons : {B : Type 0} {x : B} {l : List B} → [] ≡ x ∷ l → ⊥
nil≢cons e = let z : ◌≡◌ {A = ℕ} 0 1 = cc in absurd (omega arith)

not_zero_le : (x : ℕ) → (x ≡ zero → ⊥) → 1 ≤ x
not_zero_le zero h = absurd (h refl)
not_zero_le (suc x) h = omega arith

last_lt : (x m : ℕ) → x < m → (x ≡ m - 1 → ⊥) → x < 1 + (m - 2)
last_lt x m h g = by_test (ltb x (m - 1)) refl
  where
    by_test : (b : Bool) → ltb x (m - 1) ≡ b → x < 1 + (m - 2)
    by_test true e = let a = ltb-true x (m - 1) e in omega arith
    by_test false e = let a = ltb-false x (m - 1) e in let z : x ≡ m - 1 = omega arith in absurd (g z)

-- ---- the words of atoms
module _ (c : Case) (A : Accepted c) (plain : c.question.types ≡ []) (alone : c.question.every ≡ none) where
  abbrev p : Problem
  p = problem_of c

  abbrev n : ℕ
  n = (problem_of c).size

  G : Good (problem_of c)
  G = good c A

  pub size_is : n ≡ c.site.size
  unfolding problem_of problem_with
  size_is = refl

  unfoldable pub say : Atom → AtomWords
  say x = fact_words c (fact_of p x)

  pub declared : (x : Atom) → IsAtom p x → Declared c (fact_of p x).predicate
  unfolding IsAtom Declared fact_of problem_of problem_with
  declared guess v = tt
  declared proof v = tt
  declared goal v = tt
  declared (tuple r row) v = v.0
  declared (not_tuple r row) v = v.0
  declared (free_domain r x) v = v.0
  declared (free_range r y) v = v.0
  declared (holds_node k row) v = v.0
  declared (marked r row) v = tt

  pub objects_below : (x : Atom) → IsAtom p x → Below n (fact_of p x).objects
  unfolding IsAtom fact_of all
  objects_below guess v = tt
  objects_below proof v = tt
  objects_below goal v = tt
  objects_below (tuple r row) v = places_below n _ row G.element
  objects_below (not_tuple r row) v = places_below n _ row G.element
  objects_below (free_domain r x) v = cons_below n x [] v.2 tt
  objects_below (free_range r y) v = cons_below n y [] v.2 tt
  objects_below (holds_node k row) v = places_below n _ row G.element
  objects_below (marked r row) v = tt

  objects_back : (xs ys : List ℕ) → Below n xs → Below n ys → map (λ x. folded (object_word x)) xs ≡ map (λ x. folded (object_word x)) ys → xs ≡ ys
  objects_back [] [] a b e = refl
  objects_back [] (y ∷ ys) a b e = absurd (nil≢cons e)
  objects_back (x ∷ xs) [] a b e = absurd (nil≢cons (sym e))
  objects_back (x ∷ xs) (y ∷ ys) a b e =
      let q = below_cons n x xs a in
      let r = below_cons n y ys b in
      let h : folded (object_word x) ≡ folded (object_word y) = cc in
      let t : map (λ x. folded (object_word x)) xs ≡ map (λ x. folded (object_word x)) ys = cc in
      ap₂ ◌∷◌ (objects_apart c A x y (subst (λ (k : ℕ). x < k) size_is q.0) (subst (λ (k : ℕ). y < k) size_is r.0) h) (objects_back xs ys q.1 r.1 t)

  -- facts of declared predicates and elements have words of their own
  pub words_apart : (f g : Fact) → Declared c f.predicate → Declared c g.predicate → Below n f.objects → Below n g.objects → fact_words c f ≡ fact_words c g → f ≡ g
  unfolding fact_words
  words_apart f g a b d e q =
      let h : folded (predicate_word c f.predicate) ≡ folded (predicate_word c g.predicate) = cc in
      let t : map (λ x. folded (object_word x)) f.objects ≡ map (λ x. folded (object_word x)) g.objects = cc in
      fact_eq f g (declared_apart c A f.predicate g.predicate a b h) (objects_back f.objects g.objects d e t)

  say_injective : (x y : Atom) → IsAtom p x → IsAtom p y → say x ≡ say y → x ≡ y
  unfolding say
  say_injective x y v w e = fact_injective p G.element (no_marked c A alone) x y v w (words_apart (fact_of p x) (fact_of p y) (declared x v) (declared y w) (objects_below x v) (objects_below y w) e)

  abbrev pub AgreesWith : State → (AtomWords → Bool) → Type 0
  AgreesWith s w = (x : Atom) → IsAtom p x → s (atom_number p x) ≡ w (say x)

  abbrev pub FollowsWith : (AtomWords → Bool) → Type 0
  FollowsWith w = Follows n (λ f. w (fact_words c f))

  same_number : (x y : Atom) → IsAtom p x → IsAtom p y → eqb (atom_number p x) (atom_number p y) ≡ same_words (say x) (say y)
  same_number x y v w = T_ext (eqb (atom_number p x) (atom_number p y)) (same_words (say x) (say y))
      (λ t. subst (λ (z : Atom). T (same_words (say x) (say z))) (atom_injective p x y v w (eqb→eq _ _ t)) (same_words_refl (say x)))
      (λ t. subst (λ (z : Atom). T (eqb (atom_number p x) (atom_number p z))) (say_injective x y v w (same_words_eq _ _ t)) (eqb_refl (atom_number p x)))

  any_among : (x : Atom) (l : List Atom) → IsAtom p x → ((y : Atom) → Memᴰ y l → IsAtom p y) → any (eqb (atom_number p x)) (map (atom_number p) l) ≡ is_among_atoms (say x) (map say l)
  unfolding any is_among_atoms
  any_among x [] v h = refl
  any_among x (y ∷ l) v h = ap₂ ◌||◌ (same_number x y v (h y (Memᴰ.head refl))) (any_among x l v (λ z m. h z (Memᴰ.tail m)))

  all_among : (s : State) (w : AtomWords → Bool) → AgreesWith s w → (l : List Atom) → ((y : Atom) → Memᴰ y l → IsAtom p y) → all (λ x. s (atom_number p x)) l ≡ all (λ f. w (fact_words c f)) (map (fact_of p) l)
  unfolding all say
  all_among s w g [] h = refl
  all_among s w g (y ∷ l) h = ap₂ ◌&&◌ (g y (h y (Memᴰ.head refl))) (all_among s w g l (λ z m. h z (Memᴰ.tail m)))

  -- ---- every object is one of the texts'
  pub object_known : (x : ℕ) → x < n → Memᴰ x (constants c ++ from 1 (c.site.size - 2))
  unfolding constants last_in
  object_known x h = by_test (eqb c.site.size 1) refl
    where
      inner : (b : Bool) → eqb x zero ≡ b → (d : Bool) → eqb x (c.site.size - 1) ≡ d → Memᴰ x (0 ∷ (c.site.size - 1) ∷ from 1 (c.site.size - 2))
      inner true e d f = Memᴰ.head (eqb-true x zero e)
      inner false e true f = Memᴰ.tail (Memᴰ.head (eqb-true x (c.site.size - 1) f))
      inner false e false f = let a = eqb-false x zero e in let b = eqb-false x (c.site.size - 1) f in let q = size_is in
          Memᴰ.tail (Memᴰ.tail (mem_from (c.site.size - 2) 1 x (not_zero_le x a) (last_lt x c.site.size (rw size_is at h) b)))

      by_test : (b : Bool) → eqb c.site.size 1 ≡ b → Memᴰ x ((if b then 0 ∷ [] else 0 ∷ (c.site.size - 1) ∷ []) ++ from 1 (c.site.size - 2))
      by_test true e = let a = eqb-true c.site.size 1 e in let q = size_is in let z : x ≡ zero = omega arith in Memᴰ.head z
      by_test false e = inner (eqb x zero) refl (eqb x (c.site.size - 1)) refl

  objects_known : (xs : List ℕ) → Below n xs → T (all (λ w. any (same w) (object_words c (constants c) ++ object_words c (from 1 (c.site.size - 2)))) (arguments xs))
  unfolding all object_words
  objects_known [] b = tt
  objects_known (x ∷ xs) b =
      let q = below_cons n x xs b in
      and_T (any (same (folded (object_word x))) (map (λ x. folded (object_word x)) (constants c) ++ map (λ x. folded (object_word x)) (from 1 (c.site.size - 2)))) _
      (any_of (same (folded (object_word x))) _ (folded (object_word x)) (subst (Memᴰ (folded (object_word x))) (map-append (λ x. folded (object_word x)) (constants c) (from 1 (c.site.size - 2))) (mem_map (λ x. folded
      (object_word x)) (constants c ++ from 1 (c.site.size - 2)) x (object_known x q.0))) (same_refl (folded (object_word x))))
      (objects_known xs q.1)

  its_pairs : (r : ℕ) → r < length (relations_of c.question) → T (is_function (get_or (relations_of c.question) r no_relation).kind) → (get_or (relations_of c.question) r no_relation).arity ≡ 2
  unfolding problem_of problem_with relation_at
  its_pairs r l t = G.pairs r l t

  no_pairs : T (is_function no_relation.kind) → no_relation.arity ≡ 2
  unfolding is_function
  no_pairs t = absurd t

  pub successor_there : successor < length (relations_of c.question)
  unfolding problem_of problem_with
  successor_there = let a = count_relations c A in let b = first_chosen_lem c.question in omega arith

  -- ---- one step, in words and in the state
  pub pairs_few : (r : ℕ) → (T (is_function (relation_in c r).kind) → (relation_in c r).arity ≡ 2) × ((relation_in c r).arity ≤ 64)
  unfolding relation_in
  pairs_few r = by_test (ltb r (length (relations_of c.question))) refl
    where
      by_test : (b : Bool) → ltb r (length (relations_of c.question)) ≡ b → (T (is_function (get_or (relations_of c.question) r no_relation).kind) → (get_or (relations_of c.question) r no_relation).arity ≡ 2) × ((get_or (relations_of c.question) r no_relation).arity ≤ 64)
      by_test true e = let l = ltb-true r (length (relations_of c.question)) e in (its_pairs r l, let q = relation_cases c A (get_or (relations_of c.question) r no_relation) (get_or_mem (relations_of c.question) r no_relation l) in omega (arith, q.1))
      by_test false e = subst (λ (k : Relation). (T (is_function k.kind) → k.arity ≡ 2) × (k.arity ≤ 64)) (sym (get_or-eq_default (relations_of c.question) no_relation {n = r} (ltb-false r _ e))) (no_pairs, omega arith)

  module _ (a : Action) (v : IsAction p a) where
    abbrev pub schema : Schema
    schema = schema_of c (plan_step p a).name

    abbrev pub xs : List ℕ
    xs = (plan_step p a).objects

    abbrev pub operator : Operator
    operator = operator_of c (schema_of c (plan_step p a).name)

    pub fits_schema : SchemaFits (schema_of c (plan_step p a).name)
    fits_schema = named_fits c (plan_step p a).name pairs_few

    done : Does c A plain alone schema xs a
    done = Ungrounded.does c A plain alone a v

    in_place : (l : List Pattern) → Fitting schema.parameters l → map (atom_at (parameter_words schema.parameters) (arguments xs)) (map (pattern_words c) l) ≡ map (fact_words c) (map (said_of xs) l)
    in_place l f = atoms_in_place c schema.parameters xs l fits_schema.few done.counted f

    pub may_same : (s : State) (w : AtomWords → Bool) → AgreesWith s w → FollowsWith w → may_take p s a ≡ may_run (task_in c).objects w operator (arguments xs)
    unfolding may_take may_run operator_of task_in
    may_same s w g f =
        let e : eqb (length (arguments xs)) (length (parameter_words schema.parameters)) ≡ true = eq-eqb _ _ (length-map xs (λ x. folded (object_word x)) ∙ done.counted ∙ sym (length-map (below schema.parameters) (λ i. folded (parameter_word i)) ∙ length_below schema.parameters)) in
        let b : all (λ w. any (same w) (object_words c (constants c) ++ object_words c (from 1 (c.site.size - 2)))) (arguments xs) ≡ true = T_true _ (objects_known xs done.small) in
        all_among s w g (needs p a) (needs_valid p G a v) ∙ sym (done.needed (λ f. w (fact_words c f)) f)
        ∙ all_map_words w (map (said_of xs) schema.needed) ∙ ap (all w) (sym (in_place schema.needed fits_schema.needed))
        ∙ sym (all_map w (atom_at (parameter_words schema.parameters) (arguments xs)) (map (pattern_words c) schema.needed))
        ∙ sym (rw (e, b) refl)
      where
        all_map_words : (w : AtomWords → Bool) (l : List Fact) → all (λ f. w (fact_words c f)) l ≡ all w (map (fact_words c) l)
        all_map_words w l = all_map w (fact_words c) l

    pub said_list : (l : List Pattern) (m : List Atom) → Fitting schema.parameters l → map (said_of xs) l ≡ map (fact_of p) m → map (atom_at (parameter_words schema.parameters) (arguments xs)) (map (pattern_words c) l) ≡ map say m
    unfolding say
    said_list l m f e = in_place l f ∙ ap (map (fact_words c)) e ∙ map_map (fact_words c) (fact_of p) m

    pub after_same : (s : State) (w : AtomWords → Bool) → AgreesWith s w → AgreesWith (after p s a) (after_run w operator (arguments xs))
    unfolding after after_run operator_of
    after_same s w g x u =
        let r : any (eqb (atom_number p x)) (map (atom_number p) (removes p a)) ≡ is_among_atoms (say x) (map (atom_at (parameter_words schema.parameters) (arguments xs)) (map (pattern_words c) schema.removed)) = any_among x
        (removes p a) u (removes_valid p G a v) ∙ ap (is_among_atoms (say x)) (sym (said_list schema.removed (removes p a) fits_schema.removed done.removed)) in
        let t : any (eqb (atom_number p x)) (map (atom_number p) (adds p a)) ≡ is_among_atoms (say x) (map (atom_at (parameter_words schema.parameters) (arguments xs)) (map (pattern_words c) schema.added)) = any_among x
        (adds p a) u (adds_valid p G a v) ∙ ap (is_among_atoms (say x)) (sym (said_list schema.added (adds p a) fits_schema.added done.added)) in
        ap₂ ◌||◌ (ap₂ (λ (b q : Bool). b && not q) (g x u) r) t

    pub follows_same : (w : AtomWords → Bool) → FollowsWith w → FollowsWith (after_run w operator (arguments xs))
    unfolding after_run operator_of predicate_kind is_among_atoms say all Declared
    follows_same w f y h =
        let x : Fact = record { predicate = related successor; objects = y ∷ suc y ∷ [] } in
        let none_removed : is_among_atoms (fact_words c x) (map (atom_at (parameter_words schema.parameters) (arguments xs)) (map (pattern_words c) schema.removed)) ≡ false = T_false _ (λ t.
        let (q, m, e) = any_at (same_words (fact_words c x)) (map say (removes p a)) (subst (λ (l : List AtomWords). T (is_among_atoms (fact_words c x) l)) (said_list schema.removed (removes p a) fits_schema.removed done.removed) t) in
        let (b, k, d) = map_mem say (removes p a) q m in
        let w₂ = removes_valid p G a v b k in
        let z : x ≡ fact_of p b = words_apart x (fact_of p b) successor_there (declared b w₂) (cons_below n y (suc y ∷ []) (omega arith) (cons_below n (suc y) [] h tt)) (objects_below b w₂) (same_words_eq _ _ e ∙ d) in
        Ungrounded.no_tuple c A plain alone a v b k (ap (λ (z : Fact). predicate_kind z.predicate) (sym z))) in
        or_l (w (fact_words c x) && not (is_among_atoms (fact_words c x) (map (atom_at (parameter_words schema.parameters) (arguments xs)) (map (pattern_words c) schema.removed)))) _ (rw none_removed (and_T (w (fact_words c x)) true (f y h) tt))

  -- ---- the start
  tuples_below : (m k : ℕ) (zs : List ℕ) → Memᴰ zs (tuples_over m k) → Below m zs
  unfolding tuples_over all
  tuples_below m zero zs i = subst (Below m) (sym (Memᴰ.eq_of_singleton i)) tt
  tuples_below m (suc k) zs i =
      let (x, a, b) = flat_mem (λ x. map (λ zs. x ∷ zs) (tuples_over m k)) (below m) zs i in
      let (ys, d, e) = map_mem (λ zs. x ∷ zs) (tuples_over m k) zs b in
      subst (Below m) (sym e) (cons_below m x ys (below_lt m x a) (tuples_below m k ys d))

  abbrev Proper : Fact → Type 0
  Proper f = Declared c f.predicate × Below c.site.size f.objects

  each_proper : (a : Predicate) (k : ℕ) (xss : List (List ℕ)) → Declared c a → ((xs : List ℕ) → Memᴰ xs xss → Memᴰ xs (tuples_over c.site.size k)) → (f : Fact) → Memᴰ f (each_said a xss) → Proper f
  each_proper a k xss h g f m = let (xs, i, e) = Ungrounded.each_said_lem c A plain alone a xss f m in subst Proper (sym e) (h, tuples_below c.site.size k xs (g xs i))

  relation_proper : (r : ℕ) (k : Relation) → r < length (relations_of c.question) → (f : Fact) → Memᴰ f (relation_facts c r k) → Proper f
  unfolding relation_facts Declared
  relation_proper r k l f m = ⊎_elim
      (λ q. each_proper (related r) k.arity _ l (λ xs i. (filter_mem (holds c [] r) _ xs i).0) f q)
      (λ m₂. ⊎_elim
      (λ q. each_proper (unrelated r) k.arity _ l (λ xs i. (filter_mem (λ xs. not (holds c [] r xs)) _ xs i).0) f q)
      (λ m₃. ⊎_elim (λ q. free_proper (is_function k.kind) (free_first r) l q) (λ q. free_proper (is_injective k.kind) (free_second r) l q)
      (Memᴰ.append_cases (if is_function k.kind then each_said (free_first r) (tuples_over c.site.size 1) else []) m₃))
      (Memᴰ.append_cases (each_said (unrelated r) (filter (λ xs. not (holds c [] r xs)) (tuples_over c.site.size k.arity))) m₂))
      (Memᴰ.append_cases (each_said (related r) (filter (holds c [] r) (tuples_over c.site.size k.arity))) m)
    where
      free_proper : (b : Bool) (a : Predicate) → Declared c a → Memᴰ f (if b then each_said a (tuples_over c.site.size 1) else []) → Proper f
      free_proper true a h q = each_proper a 1 _ h (λ xs i. i) f q
      free_proper false a h q = absurd (Memᴰ.not-nil q)

  facts_proper : (f : Fact) → Memᴰ f (facts_of c) → Proper f
  unfolding facts_of Declared all
  facts_proper f m = ⊎_elim (λ e. subst Proper (sym e) (tt, tt))
      (λ q. let (fs, i, j) = flat_mem (λ (fs : List Fact). fs) (map_from (relation_facts c) zero (relations_of c.question)) f q in
      let (r, l, e) = map_from_mem (relation_facts c) zero (relations_of c.question) no_relation fs i in
      let z : zero + r ≡ r = omega arith in
      relation_proper r (get_or (relations_of c.question) r no_relation) l f (subst (λ (k : ℕ). Memᴰ f (relation_facts c k (get_or (relations_of c.question) r no_relation))) z (subst (Memᴰ f) e j)))
      (Memᴰ.cases_cons m)

  unfoldable pub start : AtomWords → Bool
  start w = is_among_atoms w (map (fact_words c) (facts_of c))

  pub start_said : (f : Fact) → Declared c f.predicate → Below n f.objects → start (fact_words c f) ≡ is_said f (facts_of c)
  unfolding start is_among_atoms
  start_said f d b = T_ext (any (same_words (fact_words c f)) (map (fact_words c) (facts_of c))) (is_said f (facts_of c))
      (λ t. let (q, m, e) = any_at (same_words (fact_words c f)) (map (fact_words c) (facts_of c)) t in
      let (g, k, z) = map_mem (fact_words c) (facts_of c) q m in
      let (u, w) = facts_proper g k in
      mem_said f (facts_of c) (subst (λ (x : Fact). Memᴰ x (facts_of c)) (sym (words_apart f g d u b (subst (λ (k : ℕ). Below k g.objects) (sym size_is) w) (same_words_eq _ _ e ∙ z))) k))
      (λ t. any_of (same_words (fact_words c f)) (map (fact_words c) (facts_of c)) (fact_words c f) (mem_map (fact_words c) (facts_of c) f (said_mem f (facts_of c) t)) (same_words_refl (fact_words c f)))

  pub agrees_start : AgreesWith (initial p) start
  unfolding say
  agrees_start x v = Ungrounded.agrees_first c A plain alone x v ∙ sym (start_said (fact_of p x) (declared x v) (objects_below x v))

  pub follows_start : FollowsWith start
  unfolding Declared all
  follows_start y h = subst T (sym (start_said (record { predicate = related successor; objects = y ∷ suc y ∷ [] }) successor_there (cons_below n y (suc y ∷ []) (omega arith) (cons_below n (suc y) [] h tt)))) (Ungrounded.follows_first c A plain alone y h)

  -- ---- an operator is found by its name
  find_mapped : {B C : Type 0} (f : C → Bool) (g : B → C) (l : List B) (a : B) → Memᴰ a l → T (f (g a)) → ((b : B) → Memᴰ b l → T (f (g b)) → b ≡ a) → find f (map g l) ≡ some (g a)
  unfolding find
  find_mapped f g [] a m t h = absurd (Memᴰ.not-nil m)
  find_mapped f g (b ∷ l) a m t h = by_test (f (g b)) refl (find_mapped f g l a) (Memᴰ.cases_cons m)
    where
      by_test : (k : Bool) → f (g b) ≡ k → (Memᴰ a l → T (f (g a)) → ((d : _) → Memᴰ d l → T (f (g d)) → d ≡ a) → find f (map g l) ≡ some (g a)) → (a ≡ b) ⊎ Memᴰ a l → (if k then some (g b) else find f (map g l)) ≡ some (g a)
      by_test true e r o = ap (λ (x : _). some (g x)) (h b (Memᴰ.head refl) (T_of e))
      by_test false e r (inl q) = absurd (subst T (ap (λ (x : _). f (g x)) q ∙ e) t)
      by_test false e r (inr q) = r q t (λ d i u. h d (Memᴰ.tail i) u)

  pub operator_found : (a : ActionName) → Memᴰ a (action_names c) → find (λ (o : Operator). same o.name (folded (action_word c a))) (task_in c).operators ≡ some (operator_of c (schema_of c a))
  unfolding task_in schemas operator_of
  operator_found a m = ap (find (λ (o : Operator). same o.name (folded (action_word c a)))) (map_map (operator_of c) (schema_of c) (action_names c))
      ∙ find_mapped (λ (o : Operator). same o.name (folded (action_word c a))) (λ b. operator_of c (schema_of c b)) (action_names c) a m
      (subst (λ (b : ActionName). T (same (folded (action_word c b)) (folded (action_word c a)))) (sym (Ungrounded.schema_name c a)) (same_refl (folded (action_word c a))))
      (λ b k t. actions_apart c A b a k m (ap (λ (x : ActionName). folded (action_word c x)) (sym (Ungrounded.schema_name c b)) ∙ same_eq _ _ t))

  pub goal_same : (s : State) (w : AtomWords → Bool) → AgreesWith s w → s (atom_number p goal) ≡ all w (task_in c).goals
  unfolding task_in all IsAtom say fact_of
  goal_same s w g = g goal tt ∙ and_true (w (fact_words c (record { predicate = reached; objects = [] })))
    where
      and_true : (b : Bool) → b ≡ (b && true)
      and_true true = refl
      and_true false = refl

  -- ---- all steps
  runs_same : (ks : List ℕ) (i : ℕ) (s : State) (w : AtomWords → Bool) (plan : List PlanStep) → AgreesWith s w → FollowsWith w → plan_from p i ks ≡ accepted plan → reaches_from p s ks ≡ runs_from (task_in c) w (map (step_words c) plan)
  unfolding reaches_from runs_from plan_from option IsAtom step_words
  runs_same [] i s w plan g f e = subst (λ (steps : List PlanStep). s (atom_number p goal) ≡ runs_from (task_in c) w (map (step_words c) steps)) (accepted_eq [] plan e) (goal_same s w g)
  runs_same (k ∷ ks) i s w plan g f e =
      let (a, q, (rest, r, t)) = Ungrounded.plan_parts c A plain alone k i ks plan e in
      let v = action_is p k a q in
      let x = operator_found (plan_step p a).name (Ungrounded.listed c A plain alone a v) in
      ap (λ (o : Option Action). option o false (λ a. may_take p s a && reaches_from p (after p s a) ks)) q
      ∙ ap₂ ◌&&◌ (may_same a v s w g f) (runs_same ks (suc i) (after p s a) (after_run w (operator_of c (schema_of c (plan_step p a).name)) (arguments (plan_step p a).objects)) rest (after_same a v s w g) (follows_same a v w f) r)
      ∙ sym (ap (λ (o : Option Operator). option o false (λ o. may_run (task_in c).objects w o (arguments (plan_step p a).objects) && runs_from (task_in c) (after_run w o (arguments (plan_step p a).objects)) (map (step_words c) rest))) x)
      ∙ ap (λ (steps : List PlanStep). runs_from (task_in c) w (map (step_words c) steps)) t

  pub facts_start : (λ a. is_among_atoms a (task_in c).facts) ≡ start
  unfolding task_in start
  facts_start = refl

  -- steps reach the goal exactly if their text is a plan of the two texts
  pub texts_mean : (steps : List ℕ) (plan : List PlanStep) → plan_of (problem_of c) steps ≡ accepted plan → reaches_goal (problem_of c) steps ≡ is_plan_of (domain_text c) (instance_text c) (plan_text c plan)
  unfolding plan_of reaches_goal is_plan_of option
  texts_mean steps plan e = runs_same steps zero (initial p) start plan agrees_start follows_start e ∙ sym (rw (task_read c A, plan_read c A plan) (ap (λ (w : AtomWords → Bool). runs_from (task_in c) w (map (step_words c) plan)) facts_start))
