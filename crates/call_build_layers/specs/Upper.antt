-- The upper end of an accepted case's window is small: a node adds 1, or as many as its variable ranges over, at most 64 elements; and
-- a tree has at most 64 nodes, of which at most 4 quantifiers stand one below the other.
use Rattle.std.specs.Prelude.{ℕ, zero, suc, ◌+◌, ◌*◌, ◌<◌, ◌≤◌, max, ◌≡◌, refl, Bool, true, false, length, if◌then◌else◌}
use mathlib.Core.List.{List, [], ◌∷◌, ◌++◌, map}
use native.Mathlib.Omega.{arith}
use Rattle.std.proofs.Common.{length-append}
use Rattle.std.proofs.lemmas.List.{length-map}
use Rattle.definitions.specs.Sheet.Relations.{Relation, is_total}
use Rattle.definitions.specs.Sheet.Formula.{Formula, Formulas, literal, negation, implication, conjunction, disjunction, exists, forall, nil, cons}
use Rattle.definitions.specs.Sheet.Formula.{variables_of, sort_of, nesting, nesting_all}
use Rattle.definitions.specs.Sheet.Sheets.{relations_of, first_chosen}
use Rattle.definitions.specs.Problem.Truth.{Case, members_of}
use Rattle.definitions.specs.Problem.Tree.{Tree, Trees, leaf, forall_node, exists_node, and_node, or_node, end, ◌then◌, nodes, nodes_all}
use Rattle.definitions.specs.Problem.Tree.{nest, leaf_of, as_is, negated, all_as_is, all_negated, totalities, joined, tree_of}
use Rattle.definitions.specs.Problem.Atoms.{problem_of, problem_with}
use Rattle.definitions.specs.Reply.Layers.{Window, most, wider, window, windows, case_window}
use Rattle.laws.specs.Members.{range_few}
use Rattle.laws.specs.Reader.{Accepted, accepted_range}
use Rattle.meaning.specs.FewNodes.{few_nodes}

-- how many quantifiers stand one below the other
mutual
  depth : Tree → ℕ
  depth (leaf p r ls) = zero
  depth (forall_node d s t) = suc (depth t)
  depth (exists_node d s t) = suc (depth t)
  depth (and_node ts) = depths ts
  depth (or_node ts) = depths ts

  depths : Trees → ℕ
  depths end = zero
  depths (t then ts) = max (depth t) (depths ts)

-- ---- the upper end, by that and by the nodes
module _ (R : ℕ → List ℕ) (few : (s : ℕ) → length (R s) ≤ 64) where
  mutual
    unfolding depth nodes nodes_all window windows wider most

    upper_le : (t : Tree) → (window R t).upper ≤ 64 * depth t + length (nodes t)
    upper_le (leaf p r ls) = omega arith
    upper_le (forall_node d s t) = let h = upper_le t in let l = few s in omega arith
    upper_le (exists_node d s t) = let h = upper_le t in omega arith
    upper_le (and_node ts) = let h = uppers_le ts in omega arith
    upper_le (or_node ts) = let h = uppers_le ts in omega arith

    uppers_le : (ts : Trees) → most (map (λ (w : Window). w.upper) (windows R ts)) ≤ 64 * depths ts + length (nodes_all ts)
    uppers_le end = omega arith
    uppers_le (t then ts) = let a = length-append (nodes t) (nodes_all ts) in let b = upper_le t in let d = uppers_le ts in omega arith

-- ---- no deeper than the formula is nested
nest_depth : (f : ℕ → ℕ → Tree → Tree) → ((d s : ℕ) (t : Tree) → depth (f d s t) ≡ suc (depth t))
    → (d : ℕ) (ss : List ℕ) (t : Tree) → depth (nest f d ss t) ≡ length ss + depth t
unfolding nest
nest_depth f h d [] t = omega arith
nest_depth f h d (s ∷ ss) t = let a = h d s (nest f (suc d) ss t) in let b = nest_depth f h (suc d) ss t in omega arith

foralls : (d : ℕ) (ss : List ℕ) (t : Tree) → depth (nest forall_node d ss t) ≡ length ss + depth t
unfolding depth
foralls d ss t = nest_depth forall_node (λ d s t. refl) d ss t

existss : (d : ℕ) (ss : List ℕ) (t : Tree) → depth (nest exists_node d ss t) ≡ length ss + depth t
unfolding depth
existss d ss t = nest_depth exists_node (λ d s t. refl) d ss t

module _ (rs : List Relation) (types : List (List ℕ)) where
  mutual
    unfolding depth nesting nesting_all as_is negated all_as_is all_negated leaf_of

    as_le : (scope : List (List ℕ)) (f : Formula) → depth (as_is rs types scope f) ≤ nesting f
    as_le scope (literal r vs) = omega arith
    as_le scope (negation f) = not_le scope f
    as_le scope (implication f g) = let a = not_le scope f in let b = as_le scope g in omega arith
    as_le scope (conjunction fs) = all_as_le scope fs
    as_le scope (disjunction fs) = all_as_le scope fs
    as_le scope (exists qs f) =
        let h = as_le (scope ++ variables_of qs) f in
        let e = existss (length scope) (map (sort_of types) qs) (as_is rs types (scope ++ variables_of qs) f) in
        let l = length-map qs (sort_of types) in
        omega arith
    as_le scope (forall qs f) =
        let h = as_le (scope ++ variables_of qs) f in
        let e = foralls (length scope) (map (sort_of types) qs) (as_is rs types (scope ++ variables_of qs) f) in
        let l = length-map qs (sort_of types) in
        omega arith

    not_le : (scope : List (List ℕ)) (f : Formula) → depth (negated rs types scope f) ≤ nesting f
    not_le scope (literal r vs) = omega arith
    not_le scope (negation f) = as_le scope f
    not_le scope (implication f g) = let a = as_le scope f in let b = not_le scope g in omega arith
    not_le scope (conjunction fs) = all_not_le scope fs
    not_le scope (disjunction fs) = all_not_le scope fs
    not_le scope (exists qs f) =
        let h = not_le (scope ++ variables_of qs) f in
        let e = foralls (length scope) (map (sort_of types) qs) (negated rs types (scope ++ variables_of qs) f) in
        let l = length-map qs (sort_of types) in
        omega arith
    not_le scope (forall qs f) =
        let h = not_le (scope ++ variables_of qs) f in
        let e = existss (length scope) (map (sort_of types) qs) (negated rs types (scope ++ variables_of qs) f) in
        let l = length-map qs (sort_of types) in
        omega arith

    all_as_le : (scope : List (List ℕ)) (fs : Formulas) → depths (all_as_is rs types scope fs) ≤ nesting_all fs
    all_as_le scope nil = omega arith
    all_as_le scope (cons f fs) = let a = as_le scope f in let b = all_as_le scope fs in omega arith

    all_not_le : (scope : List (List ℕ)) (fs : Formulas) → depths (all_negated rs types scope fs) ≤ nesting_all fs
    all_not_le scope nil = omega arith
    all_not_le scope (cons f fs) = let a = not_le scope f in let b = all_not_le scope fs in omega arith

total_depth : (r : ℕ) (ks : List Relation) → depths (totalities r ks) ≤ 4
unfolding depth totalities
total_depth r [] = omega arith
total_depth r (k ∷ ks) = by_test (is_total k.kind) (total_depth (suc r) ks)
  where
    by_test : (b : Bool) → depths (totalities (suc r) ks) ≤ 4
        → depths (if b then forall_node 0 k.firsts (exists_node 1 k.seconds (leaf true r (0 ∷ 1 ∷ []))) then totalities (suc r) ks
        else totalities (suc r) ks) ≤ 4
    by_test true h = omega arith
    by_test false h = h

joined_depth : (t : Tree) (us : Trees) → depth t ≤ 4 → depths us ≤ 4 → depth (joined t us) ≤ 4
unfolding depth joined
joined_depth t end h l = h
joined_depth t (u then us) h l = omega arith

-- ---- so an accepted case's upper end is below 1024
module _ (c : Case) (A : Accepted c) where
  tree_depth : depth (tree_of c.question) ≤ 4
  unfolding tree_of
  tree_depth =
      let q = c.question in
      let a = as_le (relations_of q) q.types [] q.rule.formula in
      let n = A.question_fits.rule_fits.nested in
      joined_depth (as_is (relations_of q) q.types [] q.rule.formula) (totalities (first_chosen q) q.chosen) (omega arith)
      (total_depth (first_chosen q) q.chosen)

  few_elements : (s : ℕ) → length (members_of c s) ≤ 64
  few_elements s =
      let a = range_few c.site.size (members_of c s) (accepted_range c A s) in
      let b = A.site_fits.few_elements in
      omega arith

  pub upper_few : (case_window (problem_of c)).upper < 1024
  unfolding case_window problem_of problem_with
  upper_few =
      let a = upper_le (members_of c) few_elements (tree_of c.question) in
      let b = few_nodes c A in
      let d = tree_depth in
      omega arith
