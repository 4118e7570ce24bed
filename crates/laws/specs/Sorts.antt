-- The sort of every node of a question's tree is 0 or that of a declared type: no more than there are types.
use Rattle.std.specs.Prelude.{ℕ, zero, suc, ◌≤◌, ◌≡◌, refl, Bool, true, false, ltb, length, get_or, if◌then◌else◌}
use Rattle.std.proofs.Common.{sym, subst, ⊎_elim, arith, ltb-true, ltb-false}
use Rattle.std.proofs.Math.Option.{Option, none, some}
use mathlib.Core.List.Memᴰ
use mathlib.Core.List.{List, [], ◌∷◌, ◌++◌, map, Memᴰ}
use Rattle.std.proofs.Math.ListN.{get_or-eq_default}
use Rattle.definitions.specs.Lists.{option}
use Rattle.definitions.specs.Sheet.Relations.{Relation, is_total}
use Rattle.definitions.specs.Sheet.Formula.{Quantified, Formula, Formulas, literal, negation, implication, conjunction, disjunction, exists, forall, nil, cons, variables_of, sort_named, sort_of}
use Rattle.definitions.specs.Sheet.Sheets.{Question, relations_of, first_chosen}
use Rattle.definitions.specs.Problem.Tree.{Tree, Trees, leaf, forall_node, exists_node, and_node, or_node, end, ◌then◌, nest, leaf_of, as_is, negated, all_as_is, all_negated, totalities, joined, tree_of, nodes, nodes_all, node_sort}
use Rattle.laws.specs.Lists.{get_or_mem}
use Rattle.laws.specs.Reader.{SortsFit, sort_named_lem}

-- no sort in a tree is greater than k
unfoldable mutual
  pub Sorted : ℕ → Tree → Type 0
  Sorted k (leaf p r ls) = Unit {0}
  Sorted k (forall_node d σ t) = (σ ≤ k) × Sorted k t
  Sorted k (exists_node d σ t) = (σ ≤ k) × Sorted k t
  Sorted k (and_node ts) = SortedAll k ts
  Sorted k (or_node ts) = SortedAll k ts

  pub SortedAll : ℕ → Trees → Type 0
  SortedAll k end = Unit {0}
  SortedAll k (t then ts) = Sorted k t × SortedAll k ts

-- so of each node below
pub node_sort_lem : (k : ℕ) (t : Tree) → Sorted k t → node_sort t ≤ k
unfolding node_sort Sorted
node_sort_lem k (leaf p r ls) h = omega arith
node_sort_lem k (forall_node d σ t) h = h.0
node_sort_lem k (exists_node d σ t) h = h.0
node_sort_lem k (and_node ts) h = omega arith
node_sort_lem k (or_node ts) h = omega arith

mutual
  unfolding nodes nodes_all Sorted SortedAll

  pub nodes_sorted : (k : ℕ) (t u : Tree) → Sorted k t → Memᴰ u (nodes t) → Sorted k u
  nodes_sorted k (leaf p r ls) u h m = absurd (Memᴰ.not-nil m)
  nodes_sorted k (forall_node d σ t) u h m = ⊎_elim (λ e. subst (Sorted k) (sym e) h) (λ i. nodes_sorted k t u h.1 i) (Memᴰ.cases_cons m)
  nodes_sorted k (exists_node d σ t) u h m = ⊎_elim (λ e. subst (Sorted k) (sym e) h) (λ i. nodes_sorted k t u h.1 i) (Memᴰ.cases_cons m)
  nodes_sorted k (and_node ts) u h m = ⊎_elim (λ e. subst (Sorted k) (sym e) h) (λ i. all_nodes_sorted k ts u h i) (Memᴰ.cases_cons m)
  nodes_sorted k (or_node ts) u h m = ⊎_elim (λ e. subst (Sorted k) (sym e) h) (λ i. all_nodes_sorted k ts u h i) (Memᴰ.cases_cons m)

  all_nodes_sorted : (k : ℕ) (ts : Trees) (u : Tree) → SortedAll k ts → Memᴰ u (nodes_all ts) → Sorted k u
  all_nodes_sorted k end u h m = absurd (Memᴰ.not-nil m)
  all_nodes_sorted k (t then ts) u h m = ⊎_elim (λ i. nodes_sorted k t u h.0 i) (λ i. all_nodes_sorted k ts u h.1 i) (Memᴰ.append_cases (nodes t) m)

-- by its number, too; past the last there is a literal
pub node_sorted : (k : ℕ) (t : Tree) → Sorted k t → (v : ℕ) → Sorted k (get_or (nodes t) v (leaf true 0 []))
unfolding Sorted
node_sorted k t h v = by_test (ltb v (length (nodes t))) refl
  where
    by_test : (b : Bool) → ltb v (length (nodes t)) ≡ b → Sorted k (get_or (nodes t) v (leaf true 0 []))
    by_test true e = nodes_sorted k t _ h (get_or_mem (nodes t) v (leaf true 0 []) (ltb-true v _ e))
    by_test false e = subst (Sorted k) (sym (get_or-eq_default (nodes t) (leaf true 0 []) (ltb-false v _ e))) tt

-- the sort of a variable
sort_within : (types : List (List ℕ)) (q : Quantified) → sort_of types q ≤ length types
unfolding sort_of option
sort_within types q = by_option q.type
  where
    by_option : (o : Option (List ℕ)) → option o zero (sort_named types) ≤ length types
    by_option none = omega arith
    by_option (some name) = sort_named_lem types name

module _ (rs : List Relation) (types : List (List ℕ)) where
  nest_sorted : (quantifier : ℕ → ℕ → Tree → Tree) →
      ((d σ : ℕ) (t : Tree) → σ ≤ length types → Sorted (length types) t → Sorted (length types) (quantifier d σ t))
      → (qs : List Quantified) (level : ℕ) (t : Tree) → Sorted (length types) t
      → Sorted (length types) (nest quantifier level (map (sort_of types) qs) t)
  unfolding nest
  nest_sorted quantifier h [] level t w = w
  nest_sorted quantifier h (q ∷ qs) level t w = h level (sort_of types q) _ (sort_within types q) (nest_sorted quantifier h qs (suc level) t w)

  mutual
    unfolding as_is negated all_as_is all_negated Sorted SortedAll leaf_of

    as_sorted : (f : Formula) (scope : List (List ℕ)) → Sorted (length types) (as_is rs types scope f)
    as_sorted (literal r vs) scope = tt
    as_sorted (negation f) scope = neg_sorted f scope
    as_sorted (implication f g) scope = (neg_sorted f scope, (as_sorted g scope, tt))
    as_sorted (conjunction fs) scope = all_sorted fs scope
    as_sorted (disjunction fs) scope = all_sorted fs scope
    as_sorted (exists qs f) scope = nest_sorted exists_node (λ d σ t h w. (h, w)) qs (length scope) _ (as_sorted f (scope ++ variables_of qs))
    as_sorted (forall qs f) scope = nest_sorted forall_node (λ d σ t h w. (h, w)) qs (length scope) _ (as_sorted f (scope ++ variables_of qs))

    neg_sorted : (f : Formula) (scope : List (List ℕ)) → Sorted (length types) (negated rs types scope f)
    neg_sorted (literal r vs) scope = tt
    neg_sorted (negation f) scope = as_sorted f scope
    neg_sorted (implication f g) scope = (as_sorted f scope, (neg_sorted g scope, tt))
    neg_sorted (conjunction fs) scope = allneg_sorted fs scope
    neg_sorted (disjunction fs) scope = allneg_sorted fs scope
    neg_sorted (exists qs f) scope = nest_sorted forall_node (λ d σ t h w. (h, w)) qs (length scope) _ (neg_sorted f (scope ++ variables_of qs))
    neg_sorted (forall qs f) scope = nest_sorted exists_node (λ d σ t h w. (h, w)) qs (length scope) _ (neg_sorted f (scope ++ variables_of qs))

    all_sorted : (fs : Formulas) (scope : List (List ℕ)) → SortedAll (length types) (all_as_is rs types scope fs)
    all_sorted nil scope = tt
    all_sorted (cons f fs) scope = (as_sorted f scope, all_sorted fs scope)

    allneg_sorted : (fs : Formulas) (scope : List (List ℕ)) → SortedAll (length types) (all_negated rs types scope fs)
    allneg_sorted nil scope = tt
    allneg_sorted (cons f fs) scope = (neg_sorted f scope, allneg_sorted fs scope)

totals_sorted : (k r : ℕ) (ks : List Relation) → ((x : Relation) → Memᴰ x ks → SortsFit k x) → SortedAll k (totalities r ks)
unfolding totalities Sorted SortedAll
totals_sorted k r [] f = tt
totals_sorted k r (x ∷ ks) f = by_test (is_total x.kind) (totals_sorted k (suc r) ks (λ y m. f y (Memᴰ.tail m)))
  where
    by_test : (b : Bool) → SortedAll k (totalities (suc r) ks) → SortedAll k (if b then forall_node 0 x.firsts (exists_node 1 x.seconds (leaf true r (0 ∷ 1 ∷ []))) then totalities (suc r) ks else totalities (suc r) ks)
    by_test true h = let s = f x (Memᴰ.head refl) in ((s.firsts_few, (s.seconds_few, tt)), h)
    by_test false h = h

joined_sorted : (k : ℕ) (t : Tree) (us : Trees) → Sorted k t → SortedAll k us → Sorted k (joined t us)
unfolding joined Sorted SortedAll
joined_sorted k t end w v = w
joined_sorted k t (u then us) w v = (w, v)

-- a question's tree, where the sorts of its kinds fit, as they do once it is read
pub tree_sorted : (q : Question) → ((k : Relation) → Memᴰ k q.chosen → SortsFit (length q.types) k) → Sorted (length q.types) (tree_of q)
unfolding tree_of
tree_sorted q f = joined_sorted (length q.types) _ _ (as_sorted (relations_of q) q.types q.rule.formula []) (totals_sorted (length q.types) (first_chosen q) q.chosen f)
