-- A question that uses no types: its tree is the one that it has where no types are declared, every sort in that tree and of a relation's
-- places is 0, and so the problem does not depend on types and members.
use Prim.Native.Nat.{ℕ, zero, suc, ◌+◌, ◌*◌, ◌/◌, ◌%◌, ◌≤◌}
use Rattle.std.specs.Prelude.{◌≡◌, Bool, ◌&&◌, ◌||◌, T, eqb, ltb, get_or, drop, if◌then◌else◌}
use Rattle.std.proofs.Math.Path.{refl, ap, ap₂, fun_ext}
use Rattle.std.proofs.Common.{sym, subst, ◌∙◌, eqb→eq, eq-eqb, le-ltb}
use Rattle.std.proofs.Math.Bool.{true, false, not}
use Rattle.std.proofs.Math.Option.{Option, none, some}
use mathlib.Core.List.Memᴰ
use mathlib.Core.List.{List, [], ◌∷◌, ◌++◌, map, Memᴰ}
use native.Mathlib.Omega.{arith}
use Rattle.std.proofs.Math.ListN.{length, take}
use Rattle.definitions.specs.Lists.{all, any, option, listed, filter, map_from, below, is_in, before}
use Rattle.definitions.specs.Sheet.Relations.{Relation, is_chosen, is_function, built_in}
use Rattle.definitions.specs.Sheet.Formula.{Quantified, Formula, Formulas, literal, negation, implication, conjunction, disjunction, exists, forall, nil, cons, variables_of, sort_named, sort_of, is_type, has_type, is_typed, are_typed}
use Rattle.definitions.specs.Sheet.Sheets.{Member, is_member, relations, relations_of, first_chosen, every_number}
use Rattle.definitions.specs.Problem.Truth.{Case, holds, members_of, every_tuples, values}
use Rattle.definitions.specs.Problem.Tree.{Tree, Trees, leaf, forall_node, exists_node, and_node, or_node, end, ◌then◌, nest, as_is, negated, all_as_is, all_negated, joined, totalities, tree_of, nodes, parts, parts_from, node_sort}
use Rattle.definitions.specs.Problem.Atoms.{Problem, problem_with, problem_of, relation_at, node_at, tuples_of, rows_of, Block, item_at, atom_blocks, Atom}
use Rattle.definitions.specs.Problem.Atoms.{guess, proof, goal, tuple, not_tuple, free_domain, free_range, holds_node, marked, atom_number, relation_start, node_start, last_start, tuple_start}
use Rattle.definitions.specs.Problem.Atoms.{node_atoms, tuple_holds, is_initial, State, initial}
use Rattle.definitions.specs.Problem.Actions.{Action, set, begin_proof, prove_and, prove_or, prove_exists, prove_forall, prove_goal, round_end, mark_in, mark_out, choices, prove_node, is_settable}
use Rattle.definitions.specs.Problem.Actions.{set_rows, sets_of, set_blocks, proofs_of, proof_blocks, finish, mark_blocks, action_blocks, action_at, Values, part_atom, part_atoms}
use Rattle.definitions.specs.Problem.Actions.{under_atom, forall_needs, root_atom, mark_or_goal, needs, adds, removes}
use Rattle.definitions.specs.Refusal.{refused, accepted}
use Rattle.definitions.specs.Problem.Strips.{may_take, after, run_from, run}
use Rattle.definitions.specs.Problem.Built.{bound}
use Rattle.definitions.specs.Reply.Untyped.{has_no_type, is_untyped, are_untyped, has_no_sorts, uses_no_types, untyped}
use Rattle.laws.specs.Booleans.{T_and_l, T_and_r, T_of, and_T}
use Rattle.laws.specs.Lists.{all_at, all_of}
use Rattle.laws.specs.Members.{MembersFit}
use Rattle.laws.specs.Reader.{SortsFit, unsorted_fits, Accepted}
use Rattle.meaning.specs.Grounded.{sorts_fit}
use Rattle.laws.specs.Sorts.{Sorted, SortedAll, node_sort_lem, node_sorted, nodes_sorted, tree_sorted}

-- ---- the tree
sort_none : (types : List (List ℕ)) (q : Quantified) → T (has_no_type q) → sort_of types q ≡ zero
unfolding sort_of has_no_type option
sort_none types q = by_option q.type
  where
    by_option : (o : Option (List ℕ)) → T (option o true (λ _. false)) → option o zero (sort_named types) ≡ zero
    by_option none t = refl
    by_option (some name) t = absurd t

sorts_same : (types : List (List ℕ)) (qs : List Quantified) → T (all has_no_type qs) → map (sort_of types) qs ≡ map (sort_of []) qs
unfolding all
sorts_same types [] h = refl
sorts_same types (q ∷ qs) h = ap₂ ◌∷◌ (sort_none types q (T_and_l (has_no_type q) _ h) ∙ sym (sort_none [] q (T_and_l (has_no_type q) _ h))) (sorts_same types qs (T_and_r (has_no_type q) _ h))

module _ (rs : List Relation) (types : List (List ℕ)) where
  mutual
    unfolding as_is negated all_as_is all_negated is_untyped are_untyped

    as_same : (f : Formula) (scope : List (List ℕ)) → T (is_untyped f) → as_is rs types scope f ≡ as_is rs [] scope f
    as_same (literal r vs) scope h = refl
    as_same (negation f) scope h = neg_same f scope h
    as_same (implication f g) scope h = ap₂ (λ (t u : Tree). or_node (t then u then end)) (neg_same f scope (T_and_l (is_untyped f) _ h)) (as_same g scope (T_and_r (is_untyped f) _ h))
    as_same (conjunction fs) scope h = ap and_node (all_same fs scope h)
    as_same (disjunction fs) scope h = ap or_node (all_same fs scope h)
    as_same (exists qs f) scope h = ap₂ (nest exists_node (length scope)) (sorts_same types qs (T_and_l (all has_no_type qs) _ h)) (as_same f (scope ++ variables_of qs) (T_and_r (all has_no_type qs) _ h))
    as_same (forall qs f) scope h = ap₂ (nest forall_node (length scope)) (sorts_same types qs (T_and_l (all has_no_type qs) _ h)) (as_same f (scope ++ variables_of qs) (T_and_r (all has_no_type qs) _ h))

    neg_same : (f : Formula) (scope : List (List ℕ)) → T (is_untyped f) → negated rs types scope f ≡ negated rs [] scope f
    neg_same (literal r vs) scope h = refl
    neg_same (negation f) scope h = as_same f scope h
    neg_same (implication f g) scope h = ap₂ (λ (t u : Tree). and_node (t then u then end)) (as_same f scope (T_and_l (is_untyped f) _ h)) (neg_same g scope (T_and_r (is_untyped f) _ h))
    neg_same (conjunction fs) scope h = ap or_node (allneg_same fs scope h)
    neg_same (disjunction fs) scope h = ap and_node (allneg_same fs scope h)
    neg_same (exists qs f) scope h = ap₂ (nest forall_node (length scope)) (sorts_same types qs (T_and_l (all has_no_type qs) _ h)) (neg_same f (scope ++ variables_of qs) (T_and_r (all has_no_type qs) _ h))
    neg_same (forall qs f) scope h = ap₂ (nest exists_node (length scope)) (sorts_same types qs (T_and_l (all has_no_type qs) _ h)) (neg_same f (scope ++ variables_of qs) (T_and_r (all has_no_type qs) _ h))

    all_same : (fs : Formulas) (scope : List (List ℕ)) → T (are_untyped fs) → all_as_is rs types scope fs ≡ all_as_is rs [] scope fs
    all_same nil scope h = refl
    all_same (cons f fs) scope h = ap₂ ◌then◌ (as_same f scope (T_and_l (is_untyped f) _ h)) (all_same fs scope (T_and_r (is_untyped f) _ h))

    allneg_same : (fs : Formulas) (scope : List (List ℕ)) → T (are_untyped fs) → all_negated rs types scope fs ≡ all_negated rs [] scope fs
    allneg_same nil scope h = refl
    allneg_same (cons f fs) scope h = ap₂ ◌then◌ (neg_same f scope (T_and_l (is_untyped f) _ h)) (allneg_same fs scope (T_and_r (is_untyped f) _ h))

tree_same : (c : Case) → T (is_untyped c.question.rule.formula) → tree_of c.question ≡ tree_of (untyped c).question
unfolding tree_of relations_of first_chosen untyped
tree_same c h = ap (λ (t : Tree). joined t (totalities (first_chosen c.question) c.question.chosen)) (as_same (relations_of c.question) c.question.types c.question.rule.formula [] h)

no_sorts : (k : Relation) → T (has_no_sorts k) → (k.firsts ≡ 0) × (k.seconds ≡ 0)
unfolding has_no_sorts
no_sorts k t = (eqb→eq k.firsts 0 (T_and_l (eqb k.firsts 0) _ t), eqb→eq k.seconds 0 (T_and_r (eqb k.firsts 0) _ t))

sorts_none : (k : Relation) → k.firsts ≡ 0 → k.seconds ≡ 0 → T (has_no_sorts k)
unfolding has_no_sorts
sorts_none k a b = and_T (eqb k.firsts 0) _ (T_of (eq-eqb k.firsts 0 a)) (T_of (eq-eqb k.seconds 0 b))

untyped_sorted : (c : Case) → T (all has_no_sorts (relations_of c.question)) → Sorted 0 (tree_of (untyped c).question)
unfolding untyped relations_of relations
untyped_sorted c u = tree_sorted (untyped c).question (λ k m. unsorted_fits 0 k (no_sorts k (all_at has_no_sorts (relations_of c.question) u k (Memᴰ.append_right built_in (Memᴰ.append_right c.question.rels (Memᴰ.append_left (listed c.question.every) m))))))

-- ---- actions of nodes whose sorts are 0, by ranges that are the same there
module _ (n : ℕ) (R S : ℕ → List ℕ) (same : R 0 ≡ S 0) where
  zeroth : (σ : ℕ) → σ ≤ 0 → R σ ≡ S σ
  zeroth zero h = same
  zeroth (suc σ) h = absurd (omega arith)

  choices_same : (t : Tree) → Sorted 0 t → choices R t ≡ choices S t
  unfolding choices Sorted
  choices_same (leaf p r ls) h = refl
  choices_same (forall_node d σ t) h = ap length (zeroth σ h.0)
  choices_same (exists_node d σ t) h = ap length (zeroth σ h.0)
  choices_same (and_node ts) h = refl
  choices_same (or_node ts) h = refl

  prove_same : (t : Tree) (v row i : ℕ) → Sorted 0 t → prove_node R t v row i ≡ prove_node S t v row i
  unfolding prove_node Sorted
  prove_same (leaf p r ls) v row i h = refl
  prove_same (forall_node d σ t) v row i h = ap (λ (ms : List ℕ). prove_forall v row (get_or ms i 0)) (zeroth σ h.0)
  prove_same (exists_node d σ t) v row i h = ap (λ (ms : List ℕ). prove_exists v row (get_or ms i 0)) (zeroth σ h.0)
  prove_same (and_node ts) v row i h = refl
  prove_same (or_node ts) v row i h = refl

  rows_same : (k : Relation) → T (has_no_sorts k) → set_rows n R k ≡ set_rows n S k
  unfolding set_rows is_settable
  rows_same k t =
      let (a, b) = no_sorts k t in
      let x : k.firsts ≤ 0 = omega arith in
      let y : k.seconds ≤ 0 = omega arith in
      ap₂ (λ (xs ys : List ℕ). if is_chosen k.kind then filter (λ row. if is_function k.kind then is_in (row / n) xs && is_in (row % n) ys else true) (below (tuples_of n k)) else []) (zeroth k.firsts x) (zeroth k.seconds y)

  sets_same : (ks : List Relation) (r : ℕ) → T (all has_no_sorts ks)
      → map_from {B = Block Action} (λ r (k : Relation). record { width = sets_of n R k; item = λ i. set r (get_or (set_rows n R k) i 0) }) r ks ≡ map_from (λ r (k : Relation). record { width = sets_of n S k; item = λ i. set r (get_or (set_rows n S k) i 0) }) r ks
  unfolding map_from all sets_of
  sets_same [] r u = refl
  sets_same (k ∷ ks) r u = ap₂ ◌∷◌ (ap (λ (rows : List ℕ). record { width = length rows; item = λ i. set r (get_or rows i 0) }) (rows_same k (T_and_l (has_no_sorts k) _ u))) (sets_same ks (suc r) (T_and_r (has_no_sorts k) _ u))

  block_same : (t : Tree) (v : ℕ) → Sorted 0 t
      → ◌≡◌ {A = Block Action} (record { width = proofs_of n R t; item = λ i. prove_node R t v (i / choices R t) (i % choices R t) }) (record { width = proofs_of n S t; item = λ i. prove_node S t v (i / choices S t) (i % choices S t) })
  unfolding proofs_of
  block_same t v h = rw (choices_same t h) (ap (λ (f : ℕ → Action). record { width = rows_of n t * choices S t; item = f }) (fun_ext (λ i. prove_same t v (i / choices S t) (i % choices S t) h)))

  blocks_same : (ts : List Tree) (v : ℕ) → ((t : Tree) → Memᴰ t ts → Sorted 0 t)
      → map_from {B = Block Action} (λ v t. record { width = proofs_of n R t; item = λ i. prove_node R t v (i / choices R t) (i % choices R t) }) v ts ≡ map_from (λ v t. record { width = proofs_of n S t; item = λ i. prove_node S t v (i / choices S t) (i % choices S t) }) v ts
  unfolding map_from
  blocks_same [] v h = refl
  blocks_same (t ∷ ts) v h = ap₂ ◌∷◌ (block_same t v (h t (Memᴰ.head refl))) (blocks_same ts (suc v) (λ u m. h u (Memᴰ.tail m)))

  proofs_same : (ts : List Tree) → ((t : Tree) → Memᴰ t ts → Sorted 0 t) → proof_blocks n R ts ≡ proof_blocks n S ts
  unfolding proof_blocks
  proofs_same ts h = blocks_same ts zero h

  part_same : (e : Values) (v : ℕ) (t : Tree) → Sorted 0 t → part_atom n R e v t ≡ part_atom n S e v t
  unfolding part_atom Sorted
  part_same e v (leaf true r ls) h = refl
  part_same e v (leaf false r ls) h = refl
  part_same e v (forall_node d σ t) h = rw (zeroth σ h.0) refl
  part_same e v (exists_node d σ t) h = refl
  part_same e v (and_node ts) h = refl
  part_same e v (or_node ts) h = refl

  from_same : (e : Values) (v : ℕ) (ts : Trees) → SortedAll 0 ts → part_atoms n R e (parts_from v ts) ≡ part_atoms n S e (parts_from v ts)
  unfolding part_atoms parts_from SortedAll
  from_same e v end h = refl
  from_same e v (t then ts) h = ap₂ ◌∷◌ (part_same e v t h.0) (from_same e (v + length (nodes t)) ts h.1)

  parts_same : (e : Values) (v : ℕ) (t : Tree) → Sorted 0 t → part_atoms n R e (parts v t) ≡ part_atoms n S e (parts v t)
  unfolding parts part_atoms Sorted
  parts_same e v (leaf p r ls) h = refl
  parts_same e v (forall_node d σ t) h = ap (λ (a : Atom). a ∷ []) (part_same e (suc v) t h.1)
  parts_same e v (exists_node d σ t) h = ap (λ (a : Atom). a ∷ []) (part_same e (suc v) t h.1)
  parts_same e v (and_node ts) h = from_same e (suc v) ts h
  parts_same e v (or_node ts) h = from_same e (suc v) ts h

  under_same : (v : ℕ) (t : Tree) (row x : ℕ) → Sorted 0 t → under_atom n R v t row x ≡ under_atom n S v t row x
  unfolding under_atom Sorted
  under_same v (leaf p r ls) row x h = refl
  under_same v (forall_node d σ t) row x h = part_same _ (suc v) t h.1
  under_same v (exists_node d σ t) row x h = part_same _ (suc v) t h.1
  under_same v (and_node ts) row x h = refl
  under_same v (or_node ts) row x h = refl

  chain_same : (v : ℕ) (t : Tree) (row z : ℕ) → Sorted 0 t → forall_needs n R v t row z ≡ forall_needs n S v t row z
  unfolding forall_needs
  chain_same v t row z h = ap₂ (λ (a : Atom) (ms : List ℕ). a ∷ option (before ms z) [] (λ y. holds_node v (row * n + y) ∷ [])) (under_same v t row z h) (zeroth (node_sort t) (node_sort_lem 0 t h))

-- ---- the problem of a tree and of relations whose sorts are 0: with the case's types and members, and without
module _ (c : Case) (t : Tree) (h : Sorted 0 t) (none_sorted : T (all has_no_sorts (relations_of c.question))) where
  abbrev p : Problem
  p = problem_with c t

  abbrev q : Problem
  q = problem_with (untyped c) t

  ranges_same : members_of c 0 ≡ members_of (untyped c) 0
  unfolding members_of untyped
  ranges_same = refl

  pub atoms_same : atom_blocks p ≡ atom_blocks q
  unfolding problem_with atom_blocks untyped relations_of
  atoms_same = refl

  set_blocks_lem : set_blocks c.site.size (members_of c) (relations_of c.question) ≡ set_blocks c.site.size (members_of (untyped c)) (relations_of c.question)
  unfolding set_blocks
  set_blocks_lem = sets_same c.site.size (members_of c) (members_of (untyped c)) ranges_same (relations_of c.question) zero none_sorted

  pub actions_same : action_blocks p ≡ action_blocks q
  unfolding problem_with action_blocks finish untyped relations_of
  actions_same = ap₂ (λ (x y : List (Block Action)). x ++ (record { width = 1; item = λ _. begin_proof } ∷ (y ++ (record { width = 1; item = λ _. option c.question.every prove_goal (λ _. round_end) } ∷ (mark_blocks mark_in c.site.size (relations_of c.question) ++ mark_blocks mark_out c.site.size (relations_of c.question)))))) set_blocks_lem (proofs_same c.site.size (members_of c) (members_of (untyped c)) ranges_same (nodes t) (λ u m. nodes_sorted 0 t u h m))

  pub action_same : (k : ℕ) → action_at p k ≡ action_at q k
  unfolding action_at
  action_same k = ap (λ (bs : List (Block Action)). item_at bs k) actions_same

  pub needs_same : (a : Action) → needs p a ≡ needs q a
  unfolding needs root_atom problem_with untyped relations_of relation_at node_at
  needs_same (set r row) = refl
  needs_same begin_proof = refl
  needs_same (prove_and v row) = ap (λ (l : List Atom). proof ∷ l) (parts_same c.site.size (members_of c) (members_of (untyped c)) ranges_same _ v (node_at p v) (node_sorted 0 t h v))
  needs_same (prove_or v row i) = ap (λ (l : List Atom). proof ∷ take 1 (drop i l)) (parts_same c.site.size (members_of c) (members_of (untyped c)) ranges_same _ v (node_at p v) (node_sorted 0 t h v))
  needs_same (prove_exists v row x) = ap (λ (a : Atom). proof ∷ a ∷ []) (under_same c.site.size (members_of c) (members_of (untyped c)) ranges_same v (node_at p v) row x (node_sorted 0 t h v))
  needs_same (prove_forall v row z) = ap (λ (l : List Atom). proof ∷ l) (chain_same c.site.size (members_of c) (members_of (untyped c)) ranges_same v (node_at p v) row z (node_sorted 0 t h v))
  needs_same prove_goal = ap (λ (a : Atom). a ∷ []) (part_same c.site.size (members_of c) (members_of (untyped c)) ranges_same _ zero t h)
  needs_same round_end = ap (λ (a : Atom). a ∷ []) (part_same c.site.size (members_of c) (members_of (untyped c)) ranges_same _ zero t h)
  needs_same (mark_in r row) = refl
  needs_same (mark_out r row) = refl

  pub adds_same : (a : Action) → adds p a ≡ adds q a
  unfolding adds mark_or_goal every_number first_chosen relation_at problem_with untyped relations_of
  adds_same (set r row) = refl
  adds_same begin_proof = refl
  adds_same (prove_and v row) = refl
  adds_same (prove_or v row i) = refl
  adds_same (prove_exists v row x) = refl
  adds_same (prove_forall v row z) = refl
  adds_same prove_goal = refl
  adds_same round_end = refl
  adds_same (mark_in r row) = refl
  adds_same (mark_out r row) = refl

  pub removes_same : (a : Action) → removes p a ≡ removes q a
  unfolding removes problem_with untyped relations_of relation_at
  removes_same (set r row) = refl
  removes_same begin_proof = refl
  removes_same (prove_and v row) = refl
  removes_same (prove_or v row i) = refl
  removes_same (prove_exists v row x) = refl
  removes_same (prove_forall v row z) = refl
  removes_same prove_goal = refl
  removes_same round_end = refl
  removes_same (mark_in r row) = refl
  removes_same (mark_out r row) = refl

  first_same : (a : Atom) → is_initial p a ≡ is_initial q a
  unfolding is_initial tuple_holds holds first_chosen relation_at problem_with untyped relations_of
  first_same guess = refl
  first_same proof = refl
  first_same goal = refl
  first_same (tuple r row) = refl
  first_same (not_tuple r row) = refl
  first_same (free_domain r x) = refl
  first_same (free_range r x) = refl
  first_same (holds_node v row) = refl
  first_same (marked r row) = refl

  pub initial_same : initial p ≡ initial q
  unfolding initial
  initial_same = ap₂ {C = State} (λ (bs : List (Block Atom)) (f : Atom → Bool) (i : ℕ). option (item_at bs i) false f) atoms_same (fun_ext first_same)

  pub bound_same : bound p ≡ bound q
  unfolding bound values every_tuples node_atoms problem_with untyped relations_of
  bound_same = refl

  number_same : (x : Atom) → atom_number p x ≡ atom_number q x
  unfolding atom_number tuple_start last_start relation_start node_start relation_at problem_with untyped relations_of
  number_same guess = refl
  number_same proof = refl
  number_same goal = refl
  number_same (tuple r row) = refl
  number_same (not_tuple r row) = refl
  number_same (free_domain r x) = refl
  number_same (free_range r x) = refl
  number_same (holds_node v row) = refl
  number_same (marked r row) = refl

  may_same : (s : State) (a : Action) → may_take p s a ≡ may_take q s a
  unfolding may_take
  may_same s a = ap₂ (λ (f : Atom → ℕ) (l : List Atom). all (λ x. s (f x)) l) (fun_ext number_same) (needs_same a)

  after_same : (s : State) (a : Action) → after p s a ≡ after q s a
  unfolding after
  after_same s a = ap₂ {C = State} (λ (gone come : List ℕ) (i : ℕ). (s i && not (any (eqb i) gone)) || any (eqb i) come) (ap₂ (λ (f : Atom → ℕ) (l : List Atom). map f l) (fun_ext number_same) (removes_same a)) (ap₂ (λ (f : Atom → ℕ) (l : List Atom). map f l) (fun_ext number_same) (adds_same a))

  run_from_same : (ks : List ℕ) (s : State) (i : ℕ) → run_from p s i ks ≡ run_from q s i ks
  unfolding run_from option
  run_from_same [] s i = ap (λ (k : ℕ). record { answer = if s k then accepted i else refused 15 i; state = s }) (number_same goal)
  run_from_same (k ∷ ks) s i = rw (action_same k) (by_option (action_at q k) (λ a. run_from_same ks (after p s a) (suc i)))
    where
      by_option : (o : Option Action) → ((a : Action) → run_from p (after p s a) (suc i) ks ≡ run_from q (after p s a) (suc i) ks)
          → option o (record { answer = refused 13 i; state = s }) (λ a. if may_take p s a then run_from p (after p s a) (suc i) ks else record { answer = refused 14 i; state = s })
          ≡ option o (record { answer = refused 13 i; state = s }) (λ a. if may_take q s a then run_from q (after q s a) (suc i) ks else record { answer = refused 14 i; state = s })
      by_option none h = refl
      by_option (some a) h = rw (may_same s a, h a, after_same s a) refl

  pub run_same : (ks : List ℕ) → run p ks ≡ run q ks
  unfolding run
  run_same ks = run_from_same ks (initial p) zero ∙ ap (λ (s : State). run_from q s zero ks) initial_same

-- ---- so of a case whose question uses no types: what holds of both problems by any such tree holds of them by their own
pub for_untyped : (c : Case) → T (uses_no_types c.question) → (P : Problem → Problem → Type 0) → ((t : Tree) → Sorted 0 t → T (all has_no_sorts (relations_of c.question)) → P (problem_with c t) (problem_with (untyped c) t)) → P (problem_of c) (problem_of (untyped c))
unfolding problem_of uses_no_types
for_untyped c h P x =
    let e = tree_same c (T_and_l (is_untyped c.question.rule.formula) _ h) in
    let u = T_and_r (is_untyped c.question.rule.formula) (all has_no_sorts (relations_of c.question)) h in
    subst (λ (t : Tree). P (problem_with c (tree_of c.question)) (problem_with (untyped c) t)) e (x (tree_of c.question) (subst (Sorted 0) (sym e) (untyped_sorted c u)) u)

-- ---- a case without `type` lines is such a one, and is its own
none_declared : has_type [] ≡ has_no_type
unfolding has_type has_no_type is_type any
none_declared = refl

mutual
  unfolding is_typed are_typed is_untyped are_untyped

  typed_none : (f : Formula) → is_typed [] f ≡ is_untyped f
  typed_none (literal r vs) = refl
  typed_none (negation f) = typed_none f
  typed_none (implication f g) = ap₂ ◌&&◌ (typed_none f) (typed_none g)
  typed_none (conjunction fs) = typed_nones fs
  typed_none (disjunction fs) = typed_nones fs
  typed_none (exists qs f) = ap₂ (λ (g : Quantified → Bool) (b : Bool). all g qs && b) none_declared (typed_none f)
  typed_none (forall qs f) = ap₂ (λ (g : Quantified → Bool) (b : Bool). all g qs && b) none_declared (typed_none f)

  typed_nones : (fs : Formulas) → are_typed [] fs ≡ are_untyped fs
  typed_nones nil = refl
  typed_nones (cons f fs) = ap₂ ◌&&◌ (typed_none f) (typed_nones fs)

pub no_types_rule : (c : Case) → Accepted c → c.question.types ≡ [] → T (uses_no_types c.question)
unfolding uses_no_types
no_types_rule c A e = and_T (is_untyped c.question.rule.formula) _
    (subst T (typed_none c.question.rule.formula) (subst (λ (types : List (List ℕ)). T (is_typed types c.question.rule.formula)) e A.question_fits.rule_fits.typed))
    (all_of has_no_sorts (relations_of c.question) unsorted)
  where
    unsorted : (k : Relation) → Memᴰ k (relations_of c.question) → T (has_no_sorts k)
    unsorted k m =
        let s = subst (λ (types : List (List ℕ)). SortsFit (length types) k) e (sorts_fit c A k m) in
        sorts_none k (omega (arith, s.firsts_few)) (omega (arith, s.seconds_few))

no_members : (members : List Member) (n : ℕ) → MembersFit 0 n members → members ≡ []
no_members [] n F = refl
no_members (m ∷ ms) n F = let h = F.typed m (Memᴰ.head refl) in absurd (omega arith)

pub no_types_case : (c : Case) → Accepted c → c.question.types ≡ [] → untyped c ≡ c
unfolding untyped
no_types_case c A e =
    ap₂ (λ (ts : List (List ℕ)) (ms : List Member). record {
      question = record { rels = c.question.rels; types = ts; chosen = c.question.chosen; every = c.question.every; rule = c.question.rule };
      site = record
          { size = c.site.size; members = ms; facts = c.site.facts };
    }) (sym e)
    (sym (no_members c.site.members c.site.size
    (subst (λ (types : List (List ℕ)). MembersFit (length types) c.site.size c.site.members) e A.site_fits.members_fit)))

pub no_types_range : (c : Case) → c.question.types ≡ [] → (s : ℕ) → members_of c s ≡ below c.site.size
unfolding members_of
no_types_range c e zero = refl
no_types_range c e (suc k) = rw e (none_below k)
  where
    none_below : (k : ℕ) → (if ltb k 0 then filter (is_member c.site.members k) (below c.site.size) else below c.site.size) ≡ below c.site.size
    none_below k = rw (le-ltb k 0 (omega arith)) refl
