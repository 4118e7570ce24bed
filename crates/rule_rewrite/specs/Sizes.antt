-- The tree of a formula that is accepted has a table: few levels, each below 4, and relations that there are. Assumes nothing.
use Prim.Native.Nat.{ℕ, zero, suc, ◌+◌, ◌≤◌, ◌<◌}
use Rattle.std.proofs.Common.{arith, length-append, eqb-true}
use Rattle.std.specs.Prelude.{◌≡◌, refl, Bool, true, false, not, ◌&&◌, ◌||◌, length, get_or, eqb}
use Rattle.std.proofs.Math.Option.{Option, none, some}
use mathlib.Core.List.{List, [], ◌∷◌, ◌++◌, map}
use Rattle.std.proofs.lemmas.List.{length-map}
use Rattle.definitions.specs.Lists.{any, same, option, position}
use Rattle.definitions.specs.Sheet.Relations.{Relation, fixed, number_of}
use Rattle.definitions.specs.Sheet.Formula.{Formula, Formulas, literal, negation, implication, conjunction, disjunction, exists, forall, nil, cons, Join, ands, ors, Quant, somes, everys, nesting, nesting_all, is_known, are_known, Quantified, variables_of, type_number, sort_named, sort_of}
use Rattle.definitions.specs.Problem.Tree.{Tree, Trees, end, ◌then◌, nest, leaf_of}
use Rattle.laws.specs.Writing.{and_l, and_r}
use Rattle.read_names.proofs.Laws.{position_some}
use Rattle.read_rule.specs.Said.{length_variables}
use Rattle.rule_nodes.specs.Postorder.{Small, AllSmall}
use Rattle.rule_rewrite.specs.Trees.{tree_in, trees_in, join_node, quant_node, tree_lit, tree_neg, tree_imp, tree_join, trees_nil, trees_cons, tree_quant}

-- no relation has more than 3 places
unfoldable pub FewPlaces : List Relation → Type 0
FewPlaces [] = Unit {0}
FewPlaces (r ∷ rs) = (r.arity ≤ 3) × FewPlaces rs

-- ... and sorts of eight types at the most
unfoldable pub FewSorts : List Relation → Type 0
FewSorts [] = Unit {0}
FewSorts (r ∷ rs) = (r.firsts ≤ 8) × (r.seconds ≤ 8) × FewSorts rs

-- ---- literals
position_lt : {A : Type 0} (p : A → Bool) (xs : List A) (d : A) (n : ℕ) → length xs ≤ n → 0 < n → option (position p xs) zero (λ k. k) < n
unfolding option
position_lt p xs d n h o = by_option (position p xs) refl
  where
    by_option : (i : Option ℕ) → position p xs ≡ i → option i zero (λ k. k) < n
    by_option none e = o
    by_option (some i) e = omega (arith, (position_some p xs i d e).0)

type_low : (types : List (List ℕ)) (name : List ℕ) (i : ℕ) → type_number types name ≡ some i → i < length types
unfolding type_number
type_low types name i e = (position_some (λ t. same t name) types i [] e).0

levels_low : (sc vs : List (List ℕ)) (i : ℕ) → length sc ≤ 4 → get_or (map (λ v. option (position (same v) sc) zero (λ k. k)) vs) i 0 < 4
levels_low sc [] zero h = omega arith
levels_low sc [] (suc i) h = omega arith
levels_low sc (v ∷ vs) zero h = position_lt (same v) sc [] 4 h (omega arith)
levels_low sc (v ∷ vs) (suc i) h = levels_low sc vs i h

pub known_few : (rs : List Relation) (n : List ℕ) (m : ℕ) → FewPlaces rs → any (λ (k : Relation). same k.name n && eqb k.arity m) rs ≡ true → m ≤ 3
unfolding FewPlaces any
known_few [] n m h e = let z : ◌≡◌ {A = ℕ} 0 1 = cc in absurd (omega arith)
known_few (r ∷ rs) n m h e = by_test (same r.name n) (eqb r.arity m) refl e (known_few rs n m h.1)
  where
    by_test : (a b : Bool) → eqb r.arity m ≡ b → ((a && b) || any (λ (k : Relation). same k.name n && eqb k.arity m) rs) ≡ true → (any (λ (k : Relation). same k.name n && eqb k.arity m) rs ≡ true → m ≤ 3) → m ≤ 3
    by_test true true q x f = omega (arith, eqb-true r.arity m q, h.0)
    by_test true false q x f = f x
    by_test false b q x f = f x

-- ---- sorts
sort_low : (types : List (List ℕ)) (v : List ℕ) (t : Option (List ℕ)) (n : ℕ) → length types ≤ n → sort_of types (record { variable = v; type = t }) ≤ n
unfolding sort_of sort_named option
sort_low types v none n h = omega arith
sort_low types v (some name) n h = by_option (type_number types name) refl
  where
    by_option : (o : Option ℕ) → type_number types name ≡ o → option o zero suc ≤ n
    by_option none e = omega arith
    by_option (some i) e = omega (arith, type_low types name i e)

sorts_low : (types : List (List ℕ)) (n : ℕ) → length types ≤ n → (qs : List Quantified) (i : ℕ) → get_or (map (sort_of types) qs) i 0 ≤ n
sorts_low types n h [] zero = omega arith
sorts_low types n h [] (suc i) = omega arith
sorts_low types n h (q ∷ qs) zero = sort_low types q.variable q.type n h
sorts_low types n h (q ∷ qs) (suc i) = sorts_low types n h qs i

-- ---- quantifiers
small_quant : (rels : ℕ) (b : Bool) (q : Quant) (d σ : ℕ) (t : Tree) → d < 4 → σ ≤ 8 → Small rels t → Small rels (quant_node b q d σ t)
unfolding Small
small_quant rels true somes d σ t h k s = (h, k, s)
small_quant rels true everys d σ t h k s = (h, k, s)
small_quant rels false somes d σ t h k s = (h, k, s)
small_quant rels false everys d σ t h k s = (h, k, s)

small_nest : (rels : ℕ) (b : Bool) (q : Quant) (d : ℕ) (ks : List ℕ) (t : Tree) → d + length ks ≤ 4 → ((i : ℕ) → get_or ks i 0 ≤ 8) → Small rels t → Small rels (nest (quant_node b q) d ks t)
unfolding nest
small_nest rels b q d [] t h l s = s
small_nest rels b q d (σ ∷ ks) t h l s = small_quant rels b q d σ (nest (quant_node b q) (suc d) ks t) (omega arith) (l 0) (small_nest rels b q (suc d) ks t (omega arith) (λ i. l (suc i)) s)

small_join : (rels : ℕ) (b : Bool) (j : Join) (ts : Trees) → AllSmall rels ts → Small rels (join_node b j ts)
unfolding Small
small_join rels true ands ts s = s
small_join rels true ors ts s = s
small_join rels false ands ts s = s
small_join rels false ors ts s = s

small_two : (rels : ℕ) (t u : Tree) → Small rels t → Small rels u → AllSmall rels (t then u then end)
unfolding Small
small_two rels t u a b = (a, (b, tt))

module _ (rs : List Relation) (few : FewPlaces rs) (some_rels : 0 < length rs) (types : List (List ℕ)) (few-types : length types ≤ 8) where
  small_lit : (b : Bool) (sc : List (List ℕ)) (n : List ℕ) (vs : List (List ℕ)) → any (λ (k : Relation). same k.name n && eqb k.arity (length vs)) rs ≡ true → length sc ≤ 4 → Small (length rs) (leaf_of b rs sc n vs)
  unfolding leaf_of Small number_of
  small_lit b sc n vs e h = (position_lt (λ (r : Relation). same r.name n) rs (fixed [] 0) (length rs) (omega arith) some_rels, rw (length-map vs (λ v. option (position (same v) sc) zero (λ k. k))) (known_few rs n (length vs) few e), λ i. levels_low sc vs i h)

  mutual
    unfolding nesting is_known Small

    pub tree_small : (b : Bool) (sc : List (List ℕ)) (f : Formula) → is_known rs f ≡ true → length sc + nesting f ≤ 4 → Small (length rs) (tree_in b rs types sc f)
    tree_small b sc (literal n vs) e h = rw (tree_lit rs types sc b n vs) (small_lit b sc n vs e (omega arith))
    tree_small b sc (negation f) e h = rw (tree_neg rs types sc b f) (tree_small (not b) sc f e h)
    tree_small b sc (implication f g) e h =
        rw (tree_imp rs types sc b f g) (small_join (length rs) b ors (tree_in (not b) rs types sc f then tree_in b rs types sc g then end)
        (small_two (length rs) (tree_in (not b) rs types sc f) (tree_in b rs types sc g)
        (tree_small (not b) sc f (and_l (is_known rs f) (is_known rs g) e) (omega arith))
        (tree_small b sc g (and_r (is_known rs f) (is_known rs g) e) (omega arith))))
    tree_small b sc (conjunction fs) e h = rw (tree_join rs types sc b ands fs) (small_join (length rs) b ands (trees_in b rs types sc fs) (trees_small b sc fs e h))
    tree_small b sc (disjunction fs) e h = rw (tree_join rs types sc b ors fs) (small_join (length rs) b ors (trees_in b rs types sc fs) (trees_small b sc fs e h))
    tree_small b sc (exists qs f) e h =
        rw (tree_quant rs types sc b somes qs f) (small_nest (length rs) b somes (length sc) (map (sort_of types) qs)
        (tree_in b rs types (sc ++ variables_of qs) f) (omega (arith, length-map qs (sort_of types))) (sorts_low types 8 few-types qs)
        (tree_small b (sc ++ variables_of qs) f e (omega (arith, length-append sc (variables_of qs), length_variables qs))))
    tree_small b sc (forall qs f) e h =
        rw (tree_quant rs types sc b everys qs f) (small_nest (length rs) b everys (length sc) (map (sort_of types) qs)
        (tree_in b rs types (sc ++ variables_of qs) f) (omega (arith, length-map qs (sort_of types))) (sorts_low types 8 few-types qs)
        (tree_small b (sc ++ variables_of qs) f e (omega (arith, length-append sc (variables_of qs), length_variables qs))))

    trees_small : (b : Bool) (sc : List (List ℕ)) (fs : Formulas) → are_known rs fs ≡ true → length sc + nesting_all fs ≤ 4 → AllSmall (length rs) (trees_in b rs types sc fs)
    trees_small b sc nil e h = rw (trees_nil rs types sc b) tt
    trees_small b sc (cons f fs) e h = rw (trees_cons rs types sc b f fs) (tree_small b sc f (and_l (is_known rs f) (are_known rs fs) e) (omega arith), trees_small b sc fs (and_r (is_known rs f) (are_known rs fs) e) (omega arith))
