-- Document 01, "From rule to tree": negation normal form, added totalities, nodes in preorder and their free variables.
use Rattle.std.specs.Prelude.{ℕ, zero, suc, ◌+◌, Bool, true, false, not, ◌&&◌, ◌||◌, List, [], ◌∷◌, ◌++◌, map, length, eqb, if◌then◌else◌}
use Rattle.definitions.specs.Limits.{nesting_limit}
use Rattle.definitions.specs.Lists.{Name, any, filter, same, option, position, below}
use Rattle.definitions.specs.Sheet.Relations.{Relation, is_total, number_of}
use Rattle.definitions.specs.Sheet.Formula.{Formula, Formulas, literal, negation, implication, conjunction, disjunction, exists, forall, nil, cons, variables_of, sort_of}
use Rattle.definitions.specs.Sheet.Sheets.{Question, relations_of, first_chosen}

-- A literal has a relation's number, and is its tuple or, where `positive` is false, its not-tuple. A variable is its level:
-- how many quantifiers stand around the one that binds it. A quantifier has the level and the sort of its variable.
mutual
  pub data Tree : Type 0 where
    leaf : (positive : Bool) → (relation : ℕ) → (levels : List ℕ) → Tree
    forall_node exists_node : (level sort : ℕ) → Tree → Tree
    and_node or_node : Trees → Tree

  pub data Trees : Type 0 where
    end : Trees
    ◌then◌ : Tree → Trees → Trees

infixr 67 ◌then◌
-- a quantifier over k variables is k quantifiers over one, the first outermost
unfoldable pub nest : (ℕ → ℕ → Tree → Tree) → ℕ → List ℕ → Tree → Tree
nest quantifier level [] t = t
nest quantifier level (s ∷ sorts) t = quantifier level s (nest quantifier (suc level) sorts t)

-- (7 refuses a relation that is unknown, 8 a variable that is not bound: neither is ever given number 0 or level 0 for that.)
unfoldable pub leaf_of : Bool → List Relation → List Name → Name → List Name → Tree
leaf_of positive rs scope r vs = leaf positive (option (number_of rs r) zero (λ k. k)) (map (λ v. option (position (same v) scope) zero (λ k. k)) vs)

-- Negation is pushed inward until only literals are negated, and `implies` is an `or` whose first part is negated. `as_is` is the
-- tree of a formula, `negated` that of its negation, where `and` and `or`, `exists` and `forall` change places; a variable keeps its
-- sort. Both take the relations, the types, and the variables bound around.
unfoldable mutual
  pub as_is : List Relation → (types scope : List Name) → Formula → Tree
  as_is rs types scope (literal r vs) = leaf_of true rs scope r vs
  as_is rs types scope (negation f) = negated rs types scope f
  as_is rs types scope (implication f g) = or_node (negated rs types scope f then as_is rs types scope g then end)
  as_is rs types scope (conjunction fs) = and_node (all_as_is rs types scope fs)
  as_is rs types scope (disjunction fs) = or_node (all_as_is rs types scope fs)
  as_is rs types scope (exists qs f) = nest exists_node (length scope) (map (sort_of types) qs) (as_is rs types (scope ++ variables_of qs) f)
  as_is rs types scope (forall qs f) = nest forall_node (length scope) (map (sort_of types) qs) (as_is rs types (scope ++ variables_of qs) f)

  pub negated : List Relation → (types scope : List Name) → Formula → Tree
  negated rs types scope (literal r vs) = leaf_of false rs scope r vs
  negated rs types scope (negation f) = as_is rs types scope f
  negated rs types scope (implication f g) = and_node (as_is rs types scope f then negated rs types scope g then end)
  negated rs types scope (conjunction fs) = or_node (all_negated rs types scope fs)
  negated rs types scope (disjunction fs) = and_node (all_negated rs types scope fs)
  negated rs types scope (exists qs f) = nest forall_node (length scope) (map (sort_of types) qs) (negated rs types (scope ++ variables_of qs) f)
  negated rs types scope (forall qs f) = nest exists_node (length scope) (map (sort_of types) qs) (negated rs types (scope ++ variables_of qs) f)

  pub all_as_is : List Relation → (types scope : List Name) → Formulas → Trees
  all_as_is rs types scope nil = end
  all_as_is rs types scope (cons f fs) = as_is rs types scope f then all_as_is rs types scope fs

  pub all_negated : List Relation → (types scope : List Name) → Formulas → Trees
  all_negated rs types scope nil = end
  all_negated rs types scope (cons f fs) = negated rs types scope f then all_negated rs types scope fs

-- For each total kind, in order, "for all a some b", each of its place's sort; where there is one, the root is an `and` of the rule and all of these.
unfoldable pub totalities : ℕ → List Relation → Trees
totalities r [] = end
totalities r (k ∷ ks) =
    if is_total k.kind then forall_node 0 k.firsts (exists_node 1 k.seconds (leaf true r (0 ∷ 1 ∷ []))) then totalities (suc r) ks else totalities (suc r) ks

unfoldable pub joined : Tree → Trees → Tree
joined t end = t
joined t (u then us) = and_node (t then u then us)

unfoldable pub tree_of : Question → Tree
tree_of q = joined (as_is (relations_of q) q.types [] q.rule.formula) (totalities (first_chosen q) q.chosen)

-- ---- the nodes of a tree are its non-literal subtrees, each before its parts and these from the left; their preorder numbers
-- are their indexes in this list
unfoldable mutual
  pub nodes : Tree → List Tree
  nodes (leaf p r ls) = []
  nodes (forall_node d s t) = forall_node d s t ∷ nodes t
  nodes (exists_node d s t) = exists_node d s t ∷ nodes t
  nodes (and_node ts) = and_node ts ∷ nodes_all ts
  nodes (or_node ts) = or_node ts ∷ nodes_all ts

  pub nodes_all : Trees → List Tree
  nodes_all end = []
  nodes_all (t then ts) = nodes t ++ nodes_all ts

-- the parts of a node, each with its preorder number (of no meaning for a literal), where the node's own is v
pub record Part : Type 0 where
  pub node : ℕ
  pub tree : Tree

unfoldable pub parts_from : ℕ → Trees → List Part
parts_from v end = []
parts_from v (t then ts) = record { node = v; tree = t } ∷ parts_from (v + length (nodes t)) ts

unfoldable pub parts : ℕ → Tree → List Part
parts v (leaf p r ls) = []
parts v (forall_node d s t) = record { node = suc v; tree = t } ∷ []
parts v (exists_node d s t) = record { node = suc v; tree = t } ∷ []
parts v (and_node ts) = parts_from (suc v) ts
parts v (or_node ts) = parts_from (suc v) ts

unfoldable pub how_many : Trees → ℕ
how_many end = zero
how_many (t then ts) = suc (how_many ts)

unfoldable pub is_forall : Tree → Bool
is_forall (leaf p r ls) = false
is_forall (forall_node d s t) = true
is_forall (exists_node d s t) = false
is_forall (and_node ts) = false
is_forall (or_node ts) = false

-- the sort of a quantifier's variable (of no meaning at another node)
unfoldable pub node_sort : Tree → ℕ
node_sort (leaf p r ls) = zero
node_sort (forall_node d s t) = s
node_sort (exists_node d s t) = s
node_sort (and_node ts) = zero
node_sort (or_node ts) = zero

-- the free variables of a node, outermost-bound first: the levels that occur free in it, of which there are few enough since
-- few quantifiers nest
unfoldable mutual
  pub occurs : ℕ → Tree → Bool
  occurs l (leaf p r ls) = any (eqb l) ls
  occurs l (forall_node d s t) = not (eqb l d) && occurs l t
  occurs l (exists_node d s t) = not (eqb l d) && occurs l t
  occurs l (and_node ts) = occurs_in l ts
  occurs l (or_node ts) = occurs_in l ts

  pub occurs_in : ℕ → Trees → Bool
  occurs_in l end = false
  occurs_in l (t then ts) = occurs l t || occurs_in l ts

unfoldable pub free : Tree → List ℕ
free t = filter (λ l. occurs l t) (below nesting_limit)
