-- "Atom numbers don't move": of any case, with whatever types, the atoms are those of the case without its types, number for number.
use Prim.Native.Nat.{ℕ, zero, suc, ◌*◌, ◌^◌}
use Rattle.std.specs.Prelude.{◌≡◌, Bool, true, false, not, ◌&&◌, ◌||◌, eqb, length, if◌then◌else◌}
use Rattle.std.proofs.Math.Path.{refl, ap, ap₂, fun_ext}
use Rattle.std.proofs.Common.{sym, ◌∙◌}
use Rattle.std.proofs.Math.Option.{Option, none, some}
use mathlib.Core.List.{List, [], ◌∷◌, ◌++◌, map, append_assoc}
use Rattle.definitions.specs.Limits.{nesting_limit}
use Rattle.definitions.specs.Lists.{option, listed, same, position, filter, flat_map, map_from, below}
use Rattle.definitions.specs.Sheet.Relations.{Relation, built_in, is_total, number_of}
use Rattle.definitions.specs.Sheet.Formula.{Quantified, Formula, Formulas, literal, negation, implication, conjunction, disjunction, exists, forall, nil, cons, variables_of, sort_of}
use Rattle.definitions.specs.Sheet.Sheets.{relations, relations_of, first_chosen}
use Rattle.definitions.specs.Problem.Truth.{Case}
use Rattle.definitions.specs.Problem.Tree.{Tree, Trees, leaf, forall_node, exists_node, and_node, or_node, end, ◌then◌, nest, leaf_of, as_is, negated, all_as_is, all_negated, totalities, joined, tree_of, nodes, nodes_all, is_forall, occurs, occurs_in, free}
use Rattle.definitions.specs.Problem.Atoms.{Block, Atom, guess, proof, goal, holds_node, problem_of, problem_with, rows_of, tuples_of, first_tuples, last_tuples, node_width, relation_blocks, relations_blocks, nodes_blocks, last_blocks, lasts_blocks, atom_blocks}

-- the tree with every variable over all elements
unfoldable mutual
  pub bare : Tree → Tree
  bare (leaf b r ls) = leaf b r ls
  bare (forall_node d s t) = forall_node d 0 (bare t)
  bare (exists_node d s t) = exists_node d 0 (bare t)
  bare (and_node ts) = and_node (bares ts)
  bare (or_node ts) = or_node (bares ts)

  pub bares : Trees → Trees
  bares end = end
  bares (t then ts) = bare t then bares ts

mutual
  unfolding occurs bare

  occurs_same : (l : ℕ) (t : Tree) → occurs l (bare t) ≡ occurs l t
  occurs_same l (leaf b r ls) = refl
  occurs_same l (forall_node d s t) = ap (λ (b : Bool). not (eqb l d) && b) (occurs_same l t)
  occurs_same l (exists_node d s t) = ap (λ (b : Bool). not (eqb l d) && b) (occurs_same l t)
  occurs_same l (and_node ts) = occurs_all l ts
  occurs_same l (or_node ts) = occurs_all l ts

  occurs_all : (l : ℕ) (ts : Trees) → occurs_in l (bares ts) ≡ occurs_in l ts
  occurs_all l end = refl
  occurs_all l (t then ts) = ap₂ ◌||◌ (occurs_same l t) (occurs_all l ts)

free_same : (t : Tree) → free (bare t) ≡ free t
unfolding free
free_same t = ap (λ (f : ℕ → Bool). filter f (below nesting_limit)) (fun_ext (λ l. occurs_same l t))

forall_same : (t : Tree) → is_forall (bare t) ≡ is_forall t
unfolding is_forall bare
forall_same (leaf b r ls) = refl
forall_same (forall_node d s t) = refl
forall_same (exists_node d s t) = refl
forall_same (and_node ts) = refl
forall_same (or_node ts) = refl

width_same : (n : ℕ) (t : Tree) → node_width n (bare t) ≡ node_width n t
unfolding node_width rows_of
width_same n t = ap₂ (λ (b : Bool) (ls : List ℕ). if b then n ^ length ls * n else n ^ length ls) (forall_same t) (free_same t)

map_append : {A B : Type 0} (f : A → B) (xs ys : List A) → map f (xs ++ ys) ≡ map f xs ++ map f ys
map_append f [] ys = refl
map_append f (x ∷ xs) ys = ap (λ (l : List _). f x ∷ l) (map_append f xs ys)

mutual
  unfolding nodes bare

  nodes_same : (t : Tree) → nodes (bare t) ≡ map bare (nodes t)
  nodes_same (leaf b r ls) = refl
  nodes_same (forall_node d s t) = ap (λ (l : List Tree). forall_node d 0 (bare t) ∷ l) (nodes_same t)
  nodes_same (exists_node d s t) = ap (λ (l : List Tree). exists_node d 0 (bare t) ∷ l) (nodes_same t)
  nodes_same (and_node ts) = ap (λ (l : List Tree). and_node (bares ts) ∷ l) (nodes_all_lem ts)
  nodes_same (or_node ts) = ap (λ (l : List Tree). or_node (bares ts) ∷ l) (nodes_all_lem ts)

  nodes_all_lem : (ts : Trees) → nodes_all (bares ts) ≡ map bare (nodes_all ts)
  nodes_all_lem end = refl
  nodes_all_lem (t then ts) = ap₂ ◌++◌ (nodes_same t) (nodes_all_lem ts) ∙ sym (map_append bare (nodes t) (nodes_all ts))

abbrev node_block : ℕ → ℕ → Tree → Block Atom
node_block n v t = record { width = node_width n t; item = holds_node v }

blocks_from : (n v : ℕ) (ts : List Tree) → map_from (node_block n) v (map bare ts) ≡ map_from (node_block n) v ts
unfolding map_from
blocks_from n v [] = refl
blocks_from n v (t ∷ ts) = ap₂ (λ (w : ℕ) (l : List (Block Atom)). record { width = w; item = holds_node v } ∷ l) (width_same n t) (blocks_from n (suc v) ts)

-- ---- a case without its types: no `type` and no `member` line, no type of a variable in the rule, and none of a `choose`
unfoldable pub plain_variable : Quantified → Quantified
plain_variable q = record { variable = q.variable; type = none }

unfoldable mutual
  pub plain_formula : Formula → Formula
  plain_formula (literal r vs) = literal r vs
  plain_formula (negation f) = negation (plain_formula f)
  plain_formula (implication f g) = implication (plain_formula f) (plain_formula g)
  plain_formula (conjunction fs) = conjunction (plain_formulas fs)
  plain_formula (disjunction fs) = disjunction (plain_formulas fs)
  plain_formula (exists qs f) = exists (map plain_variable qs) (plain_formula f)
  plain_formula (forall qs f) = forall (map plain_variable qs) (plain_formula f)

  pub plain_formulas : Formulas → Formulas
  plain_formulas nil = nil
  plain_formulas (cons f fs) = cons (plain_formula f) (plain_formulas fs)

unfoldable pub plain_choice : Relation → Relation
plain_choice k = record { name = k.name; arity = k.arity; kind = k.kind; firsts = 0; seconds = 0 }

unfoldable pub plain_case : Case → Case
plain_case c =
    let q = c.question in
    record {
      question = record { rels = q.rels; types = []; chosen = map plain_choice q.chosen; every = q.every; rule = record { at = q.rule.at; text = q.rule.text; formula = plain_formula q.rule.formula } };
      site = record { size = c.site.size; members = []; facts = c.site.facts };
    }

-- its tree is the bare one
number_same : (bs ls : List Relation) (r : List ℕ) → number_of (map plain_choice bs ++ ls) r ≡ number_of (bs ++ ls) r
unfolding number_of position plain_choice
number_same [] ls r = refl
number_same (b ∷ bs) ls r = ap (λ (o : Option ℕ). if same b.name r then some zero else option o none (λ k. some (suc k))) (number_same bs ls r)

number_after : (js ks ls : List Relation) (r : List ℕ) → number_of ks r ≡ number_of ls r → number_of (js ++ ks) r ≡ number_of (js ++ ls) r
unfolding number_of position
number_after [] ks ls r e = e
number_after (j ∷ js) ks ls r e = ap (λ (o : Option ℕ). if same j.name r then some zero else option o none (λ k. some (suc k))) (number_after js ks ls r e)

nest_bare : (quantifier : ℕ → ℕ → Tree → Tree) → ((d s : ℕ) (t : Tree) → bare (quantifier d s t) ≡ quantifier d 0 (bare t)) → (types : List (List ℕ)) (qs : List Quantified) (d : ℕ) (t : Tree)
    → nest quantifier d (map (sort_of []) (map plain_variable qs)) (bare t) ≡ bare (nest quantifier d (map (sort_of types) qs) t)
unfolding nest sort_of plain_variable option
nest_bare quantifier h types [] d t = refl
nest_bare quantifier h types (q ∷ qs) d t = ap (quantifier d 0) (nest_bare quantifier h types qs (suc d) t) ∙ sym (h d _ _)

forall_bare : (d s : ℕ) (t : Tree) → bare (forall_node d s t) ≡ forall_node d 0 (bare t)
unfolding bare
forall_bare d s t = refl

exists_bare : (d s : ℕ) (t : Tree) → bare (exists_node d s t) ≡ exists_node d 0 (bare t)
unfolding bare
exists_bare d s t = refl

variables_same : (qs : List Quantified) → variables_of (map plain_variable qs) ≡ variables_of qs
unfolding variables_of plain_variable
variables_same [] = refl
variables_same (q ∷ qs) = ap (λ (l : List (List ℕ)). q.variable ∷ l) (variables_same qs)

module _ (rs ks : List Relation) (last : Option Relation) (types : List (List ℕ)) where
  abbrev named : List Relation
  named = relations rs ks last

  abbrev plain : List Relation
  plain = relations rs (map plain_choice ks) last

  number_stays : (r : List ℕ) → number_of plain r ≡ number_of named r
  unfolding relations
  number_stays r = number_after built_in (rs ++ (map plain_choice ks ++ listed last)) (rs ++ (ks ++ listed last)) r (number_after rs (map plain_choice ks ++ listed last) (ks ++ listed last) r (number_same ks (listed last) r))

  leaf_bare : (b : Bool) (scope : List (List ℕ)) (r : List ℕ) (vs : List (List ℕ)) → leaf_of b plain scope r vs ≡ bare (leaf_of b named scope r vs)
  unfolding leaf_of bare
  leaf_bare b scope r vs = ap (λ (o : Option ℕ). leaf b (option o zero (λ k. k)) (map (λ v. option (position (same v) scope) zero (λ k. k)) vs)) (number_stays r)

  mutual
    unfolding as_is bare plain_formula

    as_bare : (f : Formula) (scope : List (List ℕ)) → as_is plain [] scope (plain_formula f) ≡ bare (as_is named types scope f)
    as_bare (literal r vs) scope = leaf_bare true scope r vs
    as_bare (negation f) scope = neg_bare f scope
    as_bare (implication f g) scope = ap₂ (λ (t u : Tree). or_node (t then u then end)) (neg_bare f scope) (as_bare g scope)
    as_bare (conjunction fs) scope = ap and_node (all_bare fs scope)
    as_bare (disjunction fs) scope = ap or_node (all_bare fs scope)
    as_bare (exists qs f) scope =
        ap (λ (vs : List (List ℕ)). nest exists_node (length scope) (map (sort_of []) (map plain_variable qs)) (as_is plain [] (scope ++ vs) (plain_formula f))) (variables_same qs)
        ∙ ap (nest exists_node (length scope) (map (sort_of []) (map plain_variable qs))) (as_bare f (scope ++ variables_of qs)) ∙ nest_bare exists_node exists_bare types qs (length scope) _
    as_bare (forall qs f) scope =
        ap (λ (vs : List (List ℕ)). nest forall_node (length scope) (map (sort_of []) (map plain_variable qs)) (as_is plain [] (scope ++ vs) (plain_formula f))) (variables_same qs)
        ∙ ap (nest forall_node (length scope) (map (sort_of []) (map plain_variable qs))) (as_bare f (scope ++ variables_of qs)) ∙ nest_bare forall_node forall_bare types qs (length scope) _

    neg_bare : (f : Formula) (scope : List (List ℕ)) → negated plain [] scope (plain_formula f) ≡ bare (negated named types scope f)
    neg_bare (literal r vs) scope = leaf_bare false scope r vs
    neg_bare (negation f) scope = as_bare f scope
    neg_bare (implication f g) scope = ap₂ (λ (t u : Tree). and_node (t then u then end)) (as_bare f scope) (neg_bare g scope)
    neg_bare (conjunction fs) scope = ap or_node (allneg_bare fs scope)
    neg_bare (disjunction fs) scope = ap and_node (allneg_bare fs scope)
    neg_bare (exists qs f) scope =
        ap (λ (vs : List (List ℕ)). nest forall_node (length scope) (map (sort_of []) (map plain_variable qs)) (negated plain [] (scope ++ vs) (plain_formula f))) (variables_same qs)
        ∙ ap (nest forall_node (length scope) (map (sort_of []) (map plain_variable qs))) (neg_bare f (scope ++ variables_of qs)) ∙ nest_bare forall_node forall_bare types qs (length scope) _
    neg_bare (forall qs f) scope =
        ap (λ (vs : List (List ℕ)). nest exists_node (length scope) (map (sort_of []) (map plain_variable qs)) (negated plain [] (scope ++ vs) (plain_formula f))) (variables_same qs)
        ∙ ap (nest exists_node (length scope) (map (sort_of []) (map plain_variable qs))) (neg_bare f (scope ++ variables_of qs)) ∙ nest_bare exists_node exists_bare types qs (length scope) _

    all_bare : (fs : Formulas) (scope : List (List ℕ)) → all_as_is plain [] scope (plain_formulas fs) ≡ bares (all_as_is named types scope fs)
    all_bare nil scope = refl
    all_bare (cons f fs) scope = ap₂ ◌then◌ (as_bare f scope) (all_bare fs scope)

    allneg_bare : (fs : Formulas) (scope : List (List ℕ)) → all_negated plain [] scope (plain_formulas fs) ≡ bares (all_negated named types scope fs)
    allneg_bare nil scope = refl
    allneg_bare (cons f fs) scope = ap₂ ◌then◌ (neg_bare f scope) (allneg_bare fs scope)

totals_bare : (r : ℕ) (ks : List Relation) → totalities r (map plain_choice ks) ≡ bares (totalities r ks)
unfolding totalities bare plain_choice
totals_bare r [] = refl
totals_bare r (k ∷ ks) = by_test (is_total k.kind) (totals_bare (suc r) ks)
  where
    by_test : (b : Bool) → totalities (suc r) (map plain_choice ks) ≡ bares (totalities (suc r) ks)
        → (if b then forall_node 0 0 (exists_node 1 0 (leaf true r (0 ∷ 1 ∷ []))) then totalities (suc r) (map plain_choice ks) else totalities (suc r) (map plain_choice ks))
        ≡ bares (if b then forall_node 0 k.firsts (exists_node 1 k.seconds (leaf true r (0 ∷ 1 ∷ []))) then totalities (suc r) ks else totalities (suc r) ks)
    by_test true h = ap (λ (ts : Trees). forall_node 0 0 (exists_node 1 0 (leaf true r (0 ∷ 1 ∷ []))) then ts) h
    by_test false h = h

joined_bare : (t : Tree) (ts : Trees) → joined (bare t) (bares ts) ≡ bare (joined t ts)
unfolding joined bare
joined_bare t end = refl
joined_bare t (u then us) = refl

tree_bare : (c : Case) → tree_of (plain_case c).question ≡ bare (tree_of c.question)
unfolding tree_of plain_case relations_of first_chosen
tree_bare c =
    let q = c.question in
    ap₂ joined (as_bare q.rels q.chosen q.every q.types q.rule.formula []) (totals_bare (first_chosen q) q.chosen)
    ∙ joined_bare (as_is (relations_of q) q.types [] q.rule.formula) (totalities (first_chosen q) q.chosen)

-- blocks of relations that are made of a relation's arity and kind alone
module _ (blocks : ℕ → Relation → List (Block Atom)) (blind : (r : ℕ) (k : Relation) → blocks r (plain_choice k) ≡ blocks r k) where
  of_choices : (r : ℕ) (ks ls : List Relation) → map_from blocks r (map plain_choice ks ++ ls) ≡ map_from blocks r (ks ++ ls)
  unfolding map_from
  of_choices r [] ls = refl
  of_choices r (k ∷ ks) ls = ap₂ (λ (b : List (Block Atom)) (l : List (List (Block Atom))). b ∷ l) (blind r k) (of_choices (suc r) ks ls)

  of_all : (r : ℕ) (js ks ls : List Relation) → map_from blocks r (js ++ (map plain_choice ks ++ ls)) ≡ map_from blocks r (js ++ (ks ++ ls))
  unfolding map_from
  of_all r [] ks ls = of_choices r ks ls
  of_all r (j ∷ js) ks ls = ap (λ (l : List (List (Block Atom))). blocks r j ∷ l) (of_all (suc r) js ks ls)

  of_relations : (rs ks : List Relation) (last : Option Relation) → flat_map (λ (bs : List (Block Atom)). bs) (map_from blocks zero (relations rs (map plain_choice ks) last)) ≡ flat_map (λ (bs : List (Block Atom)). bs) (map_from blocks zero (relations rs ks last))
  unfolding relations
  of_relations rs ks last = ap (flat_map (λ (bs : List (Block Atom)). bs))
      (ap (map_from blocks zero) (sym (append_assoc built_in rs (map plain_choice ks ++ listed last))) ∙ of_all zero (built_in ++ rs) ks (listed last) ∙ ap (map_from blocks zero) (append_assoc built_in rs (ks ++ listed last)))

relations_same : (n : ℕ) (rs ks : List Relation) (last : Option Relation) → relations_blocks n (relations rs (map plain_choice ks) last) ≡ relations_blocks n (relations rs ks last)
unfolding relations_blocks relation_blocks plain_choice first_tuples tuples_of
relations_same n rs ks last = of_relations (relation_blocks n) (λ r k. refl) rs ks last

lasts_same : (n : ℕ) (rs ks : List Relation) (last : Option Relation) → lasts_blocks n (relations rs (map plain_choice ks) last) ≡ lasts_blocks n (relations rs ks last)
unfolding lasts_blocks last_blocks plain_choice last_tuples tuples_of
lasts_same n rs ks last = of_relations (last_blocks n) (λ r k. refl) rs ks last

nodes_stay : (n : ℕ) (t : Tree) → nodes_blocks n (nodes (bare t)) ≡ nodes_blocks n (nodes t)
unfolding nodes_blocks
nodes_stay n t = ap (map_from (node_block n) zero) (nodes_same t) ∙ blocks_from n zero (nodes t)

-- the atoms of a case, block by block, are those of the same case without its types
pub atoms_stay : (c : Case) → atom_blocks (problem_of c) ≡ atom_blocks (problem_of (plain_case c))
unfolding problem_of problem_with atom_blocks relations_of plain_case
atoms_stay c =
    let q = c.question in
    ap₂ (λ (l m : List (Block Atom)). record { width = 1; item = λ _. guess } ∷ record { width = 1; item = λ _. proof } ∷ record { width = 1; item = λ _. goal } ∷ (l ++ m))
    (sym (relations_same c.site.size q.rels q.chosen q.every))
    (ap₂ ◌++◌ (sym (ap (λ (t : Tree). nodes_blocks c.site.size (nodes t)) (tree_bare c) ∙ nodes_stay c.site.size (tree_of q))) (sym (lasts_same c.site.size q.rels q.chosen q.every)))
