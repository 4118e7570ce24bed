-- The tree of a formula as it stands or under a negation, by its form; how many rows it has. Assumes nothing.
use Rattle.std.specs.Prelude.{ℕ, zero, suc, ◌+◌, ◌≤◌, ◌<◌, ◌≡◌, Bool, not, List, [], ◌∷◌, ◌++◌, map, length, get_or}
use Rattle.std.proofs.Common.{arith, sym, ap, ◌∙◌, append_assoc, append-nil, length-append}
use Rattle.std.proofs.Math.Path.{refl}
use Rattle.std.proofs.Math.Bool.{true, false}
use Rattle.std.proofs.lemmas.List.{length-map}
use Rattle.definitions.specs.Sheet.Relations.{Relation}
use Rattle.definitions.specs.Sheet.Formula.{Formula, Formulas, literal, negation, implication, conjunction, disjunction, exists, forall, nil, cons, Join, ands, ors, Quant, somes, everys, join, quant, Quantified, variables_of, forms, forms_all, sort_of}
use Rattle.definitions.specs.Problem.Tree.{Tree, Trees, leaf, forall_node, exists_node, and_node, or_node, end, ◌then◌, nest, leaf_of, as_is, negated, all_as_is, all_negated, nodes, nodes_all, how_many}
use Rattle.rule_nodes.specs.Postorder.{post, post_all, inner, inner_all, quant_row, join_row}
use Rattle.rule_nodes.specs.declared.Row.{Row}

-- `true`: as it stands; `false`: under a negation
unfoldable pub tree_in : Bool → List Relation → (types scope : List (List ℕ)) → Formula → Tree
tree_in true rs types sc f = as_is rs types sc f
tree_in false rs types sc f = negated rs types sc f

unfoldable pub trees_in : Bool → List Relation → (types scope : List (List ℕ)) → Formulas → Trees
trees_in true rs types sc fs = all_as_is rs types sc fs
trees_in false rs types sc fs = all_negated rs types sc fs

-- what `and`, `or`, `exists` and `forall` become, and the kinds of their rows
abbrev pub join_node : Bool → Join → Trees → Tree
join_node true ands ts = and_node ts
join_node true ors ts = or_node ts
join_node false ands ts = or_node ts
join_node false ors ts = and_node ts

abbrev pub join_kind : Bool → Join → ℕ
join_kind true ands = 2
join_kind true ors = 3
join_kind false ands = 3
join_kind false ors = 2

abbrev pub quant_node : Bool → Quant → ℕ → ℕ → Tree → Tree
quant_node true somes d σ t = exists_node d σ t
quant_node true everys d σ t = forall_node d σ t
quant_node false somes d σ t = forall_node d σ t
quant_node false everys d σ t = exists_node d σ t

abbrev pub quant_kind : Bool → Quant → ℕ
quant_kind true somes = 1
quant_kind true everys = 0
quant_kind false somes = 0
quant_kind false everys = 1

module _ (rs : List Relation) (types sc : List (List ℕ)) where
  pub tree_lit : (b : Bool) (n : List ℕ) (vs : List (List ℕ)) → tree_in b rs types sc (literal n vs) ≡ leaf_of b rs sc n vs
  unfolding tree_in as_is
  tree_lit true n vs = refl
  tree_lit false n vs = refl

  pub tree_neg : (b : Bool) (f : Formula) → tree_in b rs types sc (negation f) ≡ tree_in (not b) rs types sc f
  unfolding tree_in as_is
  tree_neg true f = refl
  tree_neg false f = refl

  pub tree_imp : (b : Bool) (f g : Formula) → tree_in b rs types sc (implication f g) ≡ join_node b ors (tree_in (not b) rs types sc f then tree_in b rs types sc g then end)
  unfolding tree_in as_is
  tree_imp true f g = refl
  tree_imp false f g = refl

  pub tree_join : (b : Bool) (j : Join) (fs : Formulas) → tree_in b rs types sc (join j fs) ≡ join_node b j (trees_in b rs types sc fs)
  unfolding tree_in trees_in as_is
  tree_join true ands fs = refl
  tree_join true ors fs = refl
  tree_join false ands fs = refl
  tree_join false ors fs = refl

  pub trees_nil : (b : Bool) → trees_in b rs types sc nil ≡ end
  unfolding trees_in as_is
  trees_nil true = refl
  trees_nil false = refl

  pub trees_cons : (b : Bool) (f : Formula) (fs : Formulas) → trees_in b rs types sc (cons f fs) ≡ (tree_in b rs types sc f then trees_in b rs types sc fs)
  unfolding tree_in trees_in as_is
  trees_cons true f fs = refl
  trees_cons false f fs = refl

  pub tree_quant : (b : Bool) (k : Quant) (qs : List Quantified) (f : Formula) → tree_in b rs types sc (quant k qs f) ≡ nest (quant_node b k) (length sc) (map (sort_of types) qs) (tree_in b rs types (sc ++ variables_of qs) f)
  unfolding tree_in as_is
  tree_quant true somes qs f = refl
  tree_quant true everys qs f = refl
  tree_quant false somes qs f = refl
  tree_quant false everys qs f = refl

-- ---- rows
pub post_join : (b : Bool) (j : Join) (v : ℕ) (ts : Trees) → post v (join_node b j ts) ≡ post_all (suc v) ts ++ (join_row (join_kind b j) v (how_many ts) ∷ [])
unfolding post
post_join true ands v ts = refl
post_join true ors v ts = refl
post_join false ands v ts = refl
post_join false ors v ts = refl

post_quant : (b : Bool) (q : Quant) (v d σ : ℕ) (t : Tree) → post v (quant_node b q d σ t) ≡ post (suc v) t ++ (quant_row (quant_kind b q) v d σ ∷ [])
unfolding post
post_quant true somes v d σ t = refl
post_quant true everys v d σ t = refl
post_quant false somes v d σ t = refl
post_quant false everys v d σ t = refl

-- the rows of k quantifiers one inside the other, the innermost first; their sorts stand by level
unfoldable pub chain : ℕ → ℕ → ℕ → List ℕ → ℕ → List Row
chain kind v d sorts zero = []
chain kind v d sorts (suc k) = quant_row kind (v + k) (d + k) (get_or sorts (d + k) 0) ∷ chain kind v d sorts k

chain_out : (kind v d : ℕ) (sorts : List ℕ) (k : ℕ) → chain kind (suc v) (suc d) sorts k ++ (quant_row kind v d (get_or sorts d 0) ∷ []) ≡ chain kind v d sorts (suc k)
unfolding chain
chain_out kind v d sorts zero = let e : v + 0 ≡ v = omega arith in let h : d + 0 ≡ d = omega arith in rw (e, h)
chain_out kind v d sorts (suc k) =
    let e : suc v + k ≡ v + suc k = omega arith in
    let h : suc d + k ≡ d + suc k = omega arith in
    ap (λ (l : List Row). quant_row kind (suc v + k) (suc d + k) (get_or sorts (suc d + k) 0) ∷ l) (chain_out kind v d sorts k) ∙ rw (e, h)

-- these sorts stand there from level d on
abbrev pub Sorted : ℕ → (ks sorts : List ℕ) → Type 0
Sorted d ks sorts = (i : ℕ) → i < length ks → get_or sorts (d + i) 0 ≡ get_or ks i 0

sorted_later : (d σ : ℕ) (ks sorts : List ℕ) → Sorted d (σ ∷ ks) sorts → (get_or sorts d 0 ≡ σ) × Sorted (suc d) ks sorts
sorted_later d σ ks sorts h =
    let z : d + 0 ≡ d = omega arith in
    (ap (λ (n : ℕ). get_or sorts n 0) (sym z) ∙ h 0 (omega arith), λ i l. let y : suc d + i ≡ d + suc i = omega arith in ap (λ (n : ℕ). get_or sorts n 0) y ∙ h (suc i) (omega arith))

pub post_nest : (b : Bool) (q : Quant) (v d : ℕ) (ks sorts : List ℕ) (t : Tree) → Sorted d ks sorts → post v (nest (quant_node b q) d ks t) ≡ post (v + length ks) t ++ chain (quant_kind b q) v d sorts (length ks)
unfolding nest chain
post_nest b q v d [] sorts t h = let e : v + 0 ≡ v = omega arith in rw e (sym (append-nil (post v t)))
post_nest b q v d (σ ∷ ks) sorts t h =
    let k = length ks in
    let e : suc v + k ≡ v + suc k = omega arith in
    let s = sorted_later d σ ks sorts h in
    post_quant b q v d σ (nest (quant_node b q) (suc d) ks t)
    ∙ ap (λ (l : List Row). l ++ (quant_row (quant_kind b q) v d σ ∷ [])) (post_nest b q (suc v) (suc d) ks sorts t s.1)
    ∙ append_assoc (post (suc v + k) t) (chain (quant_kind b q) (suc v) (suc d) sorts k) (quant_row (quant_kind b q) v d σ ∷ [])
    ∙ ap (λ (n : ℕ). post (suc v + k) t ++ (chain (quant_kind b q) (suc v) (suc d) sorts k ++ (quant_row (quant_kind b q) v d n ∷ []))) (sym s.0)
    ∙ ap (λ (l : List Row). post (suc v + k) t ++ l) (chain_out (quant_kind b q) v d sorts k)
    ∙ ap (λ (n : ℕ). post n t ++ chain (quant_kind b q) v d sorts (suc k)) e

-- ---- how many
pub nodes_join : (b : Bool) (j : Join) (ts : Trees) → length (nodes (join_node b j ts)) ≡ suc (length (nodes_all ts))
unfolding nodes
nodes_join true ands ts = refl
nodes_join true ors ts = refl
nodes_join false ands ts = refl
nodes_join false ors ts = refl

nodes_quant : (b : Bool) (q : Quant) (d σ : ℕ) (t : Tree) → length (nodes (quant_node b q d σ t)) ≡ suc (length (nodes t))
unfolding nodes
nodes_quant true somes d σ t = refl
nodes_quant true everys d σ t = refl
nodes_quant false somes d σ t = refl
nodes_quant false everys d σ t = refl

pub nodes_nest : (b : Bool) (q : Quant) (d : ℕ) (ks : List ℕ) (t : Tree) → length (nodes (nest (quant_node b q) d ks t)) ≡ length ks + length (nodes t)
unfolding nest
nodes_nest b q d [] t = omega arith
nodes_nest b q d (σ ∷ ks) t = omega (arith, nodes_quant b q d σ (nest (quant_node b q) (suc d) ks t), nodes_nest b q (suc d) ks t)

inner_join : (b : Bool) (j : Join) (ts : Trees) → inner (join_node b j ts) ≡ inner_all ts + how_many ts
unfolding inner
inner_join true ands ts = refl
inner_join true ors ts = refl
inner_join false ands ts = refl
inner_join false ors ts = refl

inner_quant : (b : Bool) (q : Quant) (d σ : ℕ) (t : Tree) → inner (quant_node b q d σ t) ≡ inner t + 1
unfolding inner
inner_quant true somes d σ t = refl
inner_quant true everys d σ t = refl
inner_quant false somes d σ t = refl
inner_quant false everys d σ t = refl

inner_nest : (b : Bool) (q : Quant) (d : ℕ) (ks : List ℕ) (t : Tree) → inner (nest (quant_node b q) d ks t) ≡ inner t + length ks
unfolding nest
inner_nest b q d [] t = omega arith
inner_nest b q d (σ ∷ ks) t = omega (arith, inner_quant b q d σ (nest (quant_node b q) (suc d) ks t), inner_nest b q (suc d) ks t)

one : (l : List Row) (x : Row) (n : ℕ) → length l ≡ suc n → length (l ++ (x ∷ [])) ≡ suc (n + 1)
one l x n e = omega (arith, length-append l (x ∷ []))

last : (l : List Row) (x : Row) (n : ℕ) → length l ≡ n → length (l ++ (x ∷ [])) ≡ suc n
last l x n e = omega (arith, length-append l (x ∷ []))

mutual
  unfolding post inner how_many

  pub length_post : (v : ℕ) (t : Tree) → length (post v t) ≡ suc (inner t)
  length_post v (leaf p r ls) = refl
  length_post v (forall_node d σ t) = one (post (suc v) t) _ (inner t) (length_post (suc v) t)
  length_post v (exists_node d σ t) = one (post (suc v) t) _ (inner t) (length_post (suc v) t)
  length_post v (and_node ts) = last (post_all (suc v) ts) _ (inner_all ts + how_many ts) (length_post_all (suc v) ts)
  length_post v (or_node ts) = last (post_all (suc v) ts) _ (inner_all ts + how_many ts) (length_post_all (suc v) ts)

  pub length_post_all : (v : ℕ) (ts : Trees) → length (post_all v ts) ≡ inner_all ts + how_many ts
  length_post_all v end = refl
  length_post_all v (t then ts) = omega (arith, length-append (post v t) (post_all (v + length (nodes t)) ts), length_post v t, length_post_all (v + length (nodes t)) ts)

-- ---- a tree has no more rows than its formula has forms
join_le : (b : Bool) (j : Join) (ts : Trees) (n : ℕ) → inner_all ts + how_many ts ≤ n → suc (inner (join_node b j ts)) ≤ 1 + n
join_le b j ts n h = omega (arith, inner_join b j ts)

nest_le : (b : Bool) (q : Quant) (d : ℕ) (ks : List ℕ) (n : ℕ) (t : Tree) → suc (inner t) ≤ n → suc (inner (nest (quant_node b q) d ks t)) ≤ length ks + n
nest_le b q d ks n t h = omega (arith, inner_nest b q d ks t)

two_le : (t u : Tree) (n m : ℕ) → suc (inner t) ≤ n → suc (inner u) ≤ m → inner_all (t then u then end) + how_many (t then u then end) ≤ n + m
unfolding inner how_many
two_le t u n m a b = omega arith

cons_le : (t : Tree) (ts : Trees) (n m : ℕ) → suc (inner t) ≤ n → inner_all ts + how_many ts ≤ m → inner_all (t then ts) + how_many (t then ts) ≤ n + m
unfolding inner how_many
cons_le t ts n m a b = omega arith

join_two : (b : Bool) (t u : Tree) (n m : ℕ) → suc (inner t) ≤ n → suc (inner u) ≤ m → suc (inner (join_node b ors (t then u then end))) ≤ 1 + n + m
join_two b t u n m h k = omega (arith, join_le b ors (t then u then end) (n + m) (two_le t u n m h k))

none_le : inner_all end + how_many end ≤ 0
unfolding inner how_many
none_le = omega arith

mutual
  unfolding forms inner leaf_of

  pub rows_le : (b : Bool) (rs : List Relation) (types sc : List (List ℕ)) (f : Formula) → suc (inner (tree_in b rs types sc f)) ≤ forms f
  rows_le b rs types sc (literal n vs) = rw (tree_lit rs types sc b n vs) (omega arith)
  rows_le b rs types sc (negation f) = rw (tree_neg rs types sc b f) (omega (arith, rows_le (not b) rs types sc f))
  rows_le b rs types sc (implication f g) = rw (tree_imp rs types sc b f g) (join_two b (tree_in (not b) rs types sc f) (tree_in b rs types sc g) (forms f) (forms g) (rows_le (not b) rs types sc f) (rows_le b rs types sc g))
  rows_le b rs types sc (conjunction fs) = rw (tree_join rs types sc b ands fs) (join_le b ands (trees_in b rs types sc fs) (forms_all fs) (rows_le_all b rs types sc fs))
  rows_le b rs types sc (disjunction fs) = rw (tree_join rs types sc b ors fs) (join_le b ors (trees_in b rs types sc fs) (forms_all fs) (rows_le_all b rs types sc fs))
  rows_le b rs types sc (exists qs f) =
      rw (tree_quant rs types sc b somes qs f) (omega (arith, length-map qs (sort_of types), nest_le b somes (length sc) (map (sort_of types) qs) (forms f) (tree_in b rs types (sc ++ variables_of qs) f) (rows_le b rs types (sc ++ variables_of qs) f)))
  rows_le b rs types sc (forall qs f) =
      rw (tree_quant rs types sc b everys qs f) (omega (arith, length-map qs (sort_of types), nest_le b everys (length sc) (map (sort_of types) qs) (forms f) (tree_in b rs types (sc ++ variables_of qs) f) (rows_le b rs types (sc ++ variables_of qs) f)))

  pub rows_le_all : (b : Bool) (rs : List Relation) (types sc : List (List ℕ)) (fs : Formulas) → inner_all (trees_in b rs types sc fs) + how_many (trees_in b rs types sc fs) ≤ forms_all fs
  rows_le_all b rs types sc nil = rw (trees_nil rs types sc b) (none_le)
  rows_le_all b rs types sc (cons f fs) = rw (trees_cons rs types sc b f fs) (cons_le (tree_in b rs types sc f) (trees_in b rs types sc fs) (forms f) (forms_all fs) (rows_le b rs types sc f) (rows_le_all b rs types sc fs))
