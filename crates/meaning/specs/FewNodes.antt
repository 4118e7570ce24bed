-- How many nodes and parts a rule's tree has: no more than the forms that are counted, of which there are at most 64.
use Prim.Native.Nat.{ℕ, zero, suc, ◌+◌, ◌*◌, ◌<◌, ◌≤◌}
use Rattle.std.specs.Prelude.{◌≡◌, refl, Bool, false, eqb, length, get_or, if◌then◌else◌}
use Rattle.std.proofs.Common.{subst, ⊎_elim, length-append, ne_eqb}
use Rattle.std.proofs.Math.Bool.{true}
use mathlib.Core.List.Memᴰ
use mathlib.Core.List.{List, [], ◌∷◌, ◌++◌, map, Memᴰ}
use native.Mathlib.Omega.{arith}
use Rattle.std.proofs.lemmas.List.{length-map}
use Rattle.definitions.specs.Lists.{filter}
use Rattle.definitions.specs.Sheet.Relations.{Relation, is_total}
use Rattle.definitions.specs.Sheet.Formula.{Formula, Formulas, literal, negation, implication, conjunction, disjunction, exists, forall, nil, cons, variables_of, sort_of, forms, forms_all, totals, all_forms}
use Rattle.definitions.specs.Sheet.Sheets.{relations_of, first_chosen}
use Rattle.definitions.specs.Problem.Truth.{Case}
use Rattle.definitions.specs.Problem.Tree.{Tree, Trees, leaf, forall_node, exists_node, and_node, or_node, end, ◌then◌, nest, leaf_of, as_is, negated, all_as_is, all_negated, totalities, joined, tree_of, nodes}
use Rattle.definitions.specs.Problem.Tree.{nodes_all, how_many}
use Rattle.laws.specs.Lists.{get_or_mem}
use Rattle.laws.specs.Reader.{Accepted}

-- nodes and literals of a tree
mutual
  weight : Tree → ℕ
  weight (leaf p r ls) = 1
  weight (forall_node d s t) = suc (weight t)
  weight (exists_node d s t) = suc (weight t)
  weight (and_node ts) = suc (weights ts)
  weight (or_node ts) = suc (weights ts)

  weights : Trees → ℕ
  weights end = zero
  weights (t then ts) = weight t + weights ts

mutual
  unfolding weight nodes nodes_all

  nodes_le : (t : Tree) → length (nodes t) ≤ weight t
  nodes_le (leaf p r ls) = omega arith
  nodes_le (forall_node d s t) = let h = nodes_le t in omega arith
  nodes_le (exists_node d s t) = let h = nodes_le t in omega arith
  nodes_le (and_node ts) = let h = all_le ts in omega arith
  nodes_le (or_node ts) = let h = all_le ts in omega arith

  all_le : (ts : Trees) → length (nodes_all ts) ≤ weights ts
  all_le end = omega arith
  all_le (t then ts) = let a = length-append (nodes t) (nodes_all ts) in let b = nodes_le t in let d = all_le ts in omega arith

mutual
  unfolding weight

  some_weight : (t : Tree) → 1 ≤ weight t
  some_weight (leaf p r ls) = omega arith
  some_weight (forall_node d s t) = omega arith
  some_weight (exists_node d s t) = omega arith
  some_weight (and_node ts) = omega arith
  some_weight (or_node ts) = omega arith

parts_le : (ts : Trees) → how_many ts ≤ weights ts
unfolding weight how_many
parts_le end = omega arith
parts_le (t then ts) = let a = some_weight t in let b = parts_le ts in omega arith

mutual
  unfolding weight nodes nodes_all

  node_le : (t u : Tree) → Memᴰ u (nodes t) → weight u ≤ weight t
  node_le (leaf p r ls) u m = absurd (Memᴰ.not-nil m)
  node_le (forall_node d s t) u m = ⊎_elim (λ e. rw e (omega arith)) (λ q. let h = node_le t u q in omega arith) (Memᴰ.cases_cons m)
  node_le (exists_node d s t) u m = ⊎_elim (λ e. rw e (omega arith)) (λ q. let h = node_le t u q in omega arith) (Memᴰ.cases_cons m)
  node_le (and_node ts) u m = ⊎_elim (λ e. rw e (omega arith)) (λ q. let h = nodes_of ts u q in omega arith) (Memᴰ.cases_cons m)
  node_le (or_node ts) u m = ⊎_elim (λ e. rw e (omega arith)) (λ q. let h = nodes_of ts u q in omega arith) (Memᴰ.cases_cons m)

  nodes_of : (ts : Trees) (u : Tree) → Memᴰ u (nodes_all ts) → weight u ≤ weights ts
  nodes_of end u m = absurd (Memᴰ.not-nil m)
  nodes_of (t then ts) u m = ⊎_elim (λ q. let h = node_le t u q in omega arith) (λ q. let h = nodes_of ts u q in omega arith) (Memᴰ.append_cases (nodes t) m)

-- ---- the tree of a formula has no more than the formula has forms
nest_weight : (f : ℕ → ℕ → Tree → Tree) → ((d s : ℕ) (t : Tree) → weight (f d s t) ≡ suc (weight t)) → (d : ℕ) (ss : List ℕ) (t : Tree) → weight (nest f d ss t) ≡ length ss + weight t
unfolding nest
nest_weight f h d [] t = omega arith
nest_weight f h d (s ∷ ss) t = let a = h d s (nest f (suc d) ss t) in let b = nest_weight f h (suc d) ss t in omega arith

foralls : (d : ℕ) (ss : List ℕ) (t : Tree) → weight (nest forall_node d ss t) ≡ length ss + weight t
unfolding weight
foralls d ss t = nest_weight forall_node (λ d s t. refl) d ss t

existss : (d : ℕ) (ss : List ℕ) (t : Tree) → weight (nest exists_node d ss t) ≡ length ss + weight t
unfolding weight
existss d ss t = nest_weight exists_node (λ d s t. refl) d ss t

module _ (rs : List Relation) (types : List (List ℕ)) where
  mutual
    unfolding weight forms as_is negated all_as_is all_negated leaf_of

    as_le : (scope : List (List ℕ)) (f : Formula) → weight (as_is rs types scope f) ≤ forms f
    as_le scope (literal r vs) = omega arith
    as_le scope (negation f) = let h = not_le scope f in omega arith
    as_le scope (implication f g) = let a = not_le scope f in let b = as_le scope g in omega arith
    as_le scope (conjunction fs) = let h = all_as_le scope fs in omega arith
    as_le scope (disjunction fs) = let h = all_as_le scope fs in omega arith
    as_le scope (exists qs f) = let h = as_le (scope ++ variables_of qs) f in let e = existss (length scope) (map (sort_of types) qs) (as_is rs types (scope ++ variables_of qs) f) in let l = length-map qs (sort_of types) in omega arith
    as_le scope (forall qs f) = let h = as_le (scope ++ variables_of qs) f in let e = foralls (length scope) (map (sort_of types) qs) (as_is rs types (scope ++ variables_of qs) f) in let l = length-map qs (sort_of types) in omega arith

    not_le : (scope : List (List ℕ)) (f : Formula) → weight (negated rs types scope f) ≤ forms f
    not_le scope (literal r vs) = omega arith
    not_le scope (negation f) = let h = as_le scope f in omega arith
    not_le scope (implication f g) = let a = as_le scope f in let b = not_le scope g in omega arith
    not_le scope (conjunction fs) = let h = all_not_le scope fs in omega arith
    not_le scope (disjunction fs) = let h = all_not_le scope fs in omega arith
    not_le scope (exists qs f) = let h = not_le (scope ++ variables_of qs) f in let e = foralls (length scope) (map (sort_of types) qs) (negated rs types (scope ++ variables_of qs) f) in let l = length-map qs (sort_of types) in omega arith
    not_le scope (forall qs f) = let h = not_le (scope ++ variables_of qs) f in let e = existss (length scope) (map (sort_of types) qs) (negated rs types (scope ++ variables_of qs) f) in let l = length-map qs (sort_of types) in omega arith

    all_as_le : (scope : List (List ℕ)) (fs : Formulas) → weights (all_as_is rs types scope fs) ≤ forms_all fs
    all_as_le scope nil = omega arith
    all_as_le scope (cons f fs) = let a = as_le scope f in let b = all_as_le scope fs in omega arith

    all_not_le : (scope : List (List ℕ)) (fs : Formulas) → weights (all_negated rs types scope fs) ≤ forms_all fs
    all_not_le scope nil = omega arith
    all_not_le scope (cons f fs) = let a = not_le scope f in let b = all_not_le scope fs in omega arith

total_weight : (r : ℕ) (ks : List Relation) → weights (totalities r ks) ≡ 3 * totals ks
unfolding weight totalities totals filter
total_weight r [] = omega arith
total_weight r (k ∷ ks) = by_test (is_total k.kind) (total_weight (suc r) ks)
  where
    by_test : (b : Bool) → weights (totalities (suc r) ks) ≡ 3 * totals ks
        → weights (if b then forall_node 0 k.firsts (exists_node 1 k.seconds (leaf true r (0 ∷ 1 ∷ []))) then totalities (suc r) ks else totalities (suc r) ks) ≡ 3 * length (if b then k ∷ filter (λ (r : Relation). is_total
        r.kind) ks else filter (λ (r : Relation). is_total r.kind) ks)
    by_test true e = omega arith
    by_test false e = e

joined_le : (t : Tree) (us : Trees) (k : ℕ) → weights us ≡ 3 * k → weight (joined t us) ≤ weight t + 3 * k + (if eqb k zero then zero else 1)
unfolding weight joined
joined_le t end zero e = omega arith
joined_le t end (suc k) e = absurd (omega arith)
joined_le t (u then us) zero e = absurd (let a = some_weight u in omega arith)
joined_le t (u then us) (suc k) e = let z : eqb (suc k) zero ≡ false = ne_eqb (suc k) zero (λ q. omega arith) in rw z (omega arith)

-- ---- so an accepted case's tree has at most 64 nodes, and no node more than 64 parts
module _ (c : Case) (A : Accepted c) where
  tree_le : weight (tree_of c.question) ≤ 64
  unfolding tree_of all_forms
  tree_le =
      let q = c.question in
      let a = as_le (relations_of q) q.types [] q.rule.formula in
      let b = joined_le (as_is (relations_of q) q.types [] q.rule.formula) (totalities (first_chosen q) q.chosen) (totals q.chosen) (total_weight (first_chosen q) q.chosen) in
      let h = A.question_fits.rule_fits.few_forms in
      omega arith

  pub few_nodes : length (nodes (tree_of c.question)) ≤ 64
  few_nodes = let a = nodes_le (tree_of c.question) in let b = tree_le in omega arith

  pub few_parts : (v : ℕ) (ts : Trees) → v < length (nodes (tree_of c.question)) → get_or (nodes (tree_of c.question)) v (leaf true zero []) ≡ or_node ts → how_many ts ≤ 64
  unfolding weight
  few_parts v ts l e =
      let a = node_le (tree_of c.question) (or_node ts) (subst (λ (u : Tree). Memᴰ u (nodes (tree_of c.question))) e (get_or_mem (nodes (tree_of c.question)) v (leaf true zero []) l)) in
      let b = parts_le ts in
      let d = tree_le in
      omega arith
