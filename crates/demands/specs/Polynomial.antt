-- The bound as a polynomial in the number of elements: its terms are fixed by the question alone, and no exponent is above 4.
use Rattle.std.specs.Prelude.{ℕ, zero, suc, ◌+◌, ◌*◌, ◌^◌, ◌<◌, ◌≤◌, ◌≡◌, refl, Bool, true, false, eqb, length, if◌then◌else◌}
use Rattle.std.proofs.Common.{ap, ap₂, ◌∙◌, arith, pow-suc, one-mul, eq-eqb}
use Rattle.std.proofs.Math.Option.{Option, none}
use mathlib.Core.List.Memᴰ
use mathlib.Core.List.{List, [], ◌∷◌, ◌++◌, map, Memᴰ}
use Rattle.std.proofs.Math.Nat.{pow-zero}
use Rattle.definitions.specs.Lists.{option, flat_map, map_from, below, sum}
use Rattle.definitions.specs.Sheet.Relations.{Relation, is_chosen, is_function}
use Rattle.definitions.specs.Sheet.Sheets.{relations_of}
use Rattle.definitions.specs.Problem.Truth.{Case, every_tuples, values}
use Rattle.definitions.specs.Problem.Tree.{Tree, leaf, forall_node, exists_node, and_node, or_node, tree_of, nodes, occurs, free, is_forall}
use Rattle.definitions.specs.Problem.Atoms.{problem_of, problem_with, tuples_of, rows_of, node_width, count_of, holds_node, nodes_blocks, node_atoms}
use Rattle.definitions.specs.Problem.Built.{most_picks, bound, pick_exponent, node_exponent, bound_exponents, polynomial, bound_polynomial}
use Rattle.meaning.specs.Shown.{four_free}
use Rattle.laws.specs.Lists.{length_below, mem_below}
use Rattle.laws.specs.Repeats.{filter_lt}
use Rattle.meaning.specs.Parts.{Within}

value_append : (ks ls : List ℕ) (n : ℕ) → polynomial (ks ++ ls) n ≡ polynomial ks n + polynomial ls n
unfolding polynomial sum
value_append [] ls n = omega arith
value_append (k ∷ ks) ls n = let e = value_append ks ls n in omega arith

pow_one : (n : ℕ) → n ^ 1 ≡ n
pow_one n = pow-suc n 0 ∙ ap (λ (x : ℕ). x * n) (pow-zero n) ∙ one-mul n

most_value : (n : ℕ) (k : Relation) → most_picks n k ≡ polynomial (pick_exponent k) n
unfolding most_picks pick_exponent polynomial sum tuples_of
most_value n k = by_test (is_function k.kind) (is_chosen k.kind)
  where
    by_test : (f c : Bool) → (if f then n else if c then n ^ k.arity else zero) ≡ sum (map (λ x. n ^ x) (if f then 1 ∷ [] else if c then k.arity ∷ [] else []))
    by_test true c = let e = pow_one n in omega arith
    by_test false true = omega arith
    by_test false false = refl

picks_value : (n : ℕ) (ks : List Relation) → sum (map (most_picks n) ks) ≡ polynomial (flat_map pick_exponent ks) n
unfolding sum flat_map polynomial
picks_value n [] = refl
picks_value n (k ∷ ks) =
    let a = most_value n k in
    let b = picks_value n ks in
    let c = value_append (pick_exponent k) (flat_map pick_exponent ks) n in
    omega arith

nodes_value : (n v : ℕ) (ts : List Tree) → count_of (map_from (λ v t. record { width = node_width n t; item = holds_node v }) v ts) ≡ polynomial (map node_exponent ts) n
unfolding count_of map_from polynomial sum node_width node_exponent rows_of
nodes_value n v [] = refl
nodes_value n v (t ∷ ts) = by_test (is_forall t) (nodes_value n (suc v) ts)
  where
    by_test : (b : Bool) → count_of (map_from (λ v t. record { width = node_width n t; item = holds_node v }) (suc v) ts)
        ≡ polynomial (map node_exponent ts) n → (if b then n ^ length (free t) * n else n ^ length (free t)) + count_of
        (map_from (λ v t. record { width = node_width n t; item = holds_node v }) (suc v) ts)
        ≡ n ^ (if b then suc (length (free t)) else length (free t)) + polynomial (map node_exponent ts) n
    by_test true h = let e = pow-suc n (length (free t)) in omega arith
    by_test false h = omega arith

-- without an `every` line there are no tuples of it, and one value
none_tuples : (c : Case) → c.question.every ≡ none → (every_tuples c ≡ 0) × (values c ≡ 1)
unfolding values every_tuples option
none_tuples c e = let z = ap (λ (o : Option Relation). option o zero (λ (k : Relation). c.site.size ^ k.arity)) e in (z, ap (λ (x : ℕ). 2 ^ x) z)

-- whatever the site holds, without an `every` line the bound is this polynomial in the number of elements
pub bound_value : (c : Case) → c.question.every ≡ none → bound (problem_of c) ≡ bound_polynomial c.question c.site.size
unfolding bound node_atoms nodes_blocks problem_of problem_with bound_exponents bound_polynomial
bound_value c e =
    let (z, v) = none_tuples c e in
    let H : ℕ = count_of (map_from (λ v t. record { width = node_width c.site.size t; item = holds_node v }) zero (nodes (tree_of c.question))) in
    let w : values c * (H + every_tuples c + 1) ≡ 1 * (H + 0 + 1) = ap₂ (λ (x y : ℕ). x * (H + y + 1)) v z in
    let a = picks_value c.site.size (relations_of c.question) in
    let b = nodes_value c.site.size zero (nodes (tree_of c.question)) in
    let d = value_append (flat_map pick_exponent (relations_of c.question)) (map node_exponent (nodes (tree_of c.question))) c.site.size in
    omega arith

-- ---- the degree
-- a quantifier's own level is not free in it
bound_level : (d σ : ℕ) (t : Tree) → d < 4 → length (free (forall_node d σ t)) < 4
unfolding free occurs
bound_level d σ t l = let a = filter_lt (λ l. occurs l (forall_node d σ t)) (below 4) d (mem_below 4 d l) (let e : eqb d d ≡ true = eq-eqb d d refl in rw e refl) in let b = length_below 4 in omega arith

pub node_degree : (t : Tree) → Within t → node_exponent t ≤ 4
unfolding node_exponent is_forall Within
node_degree (leaf p r ls) w = four_free (leaf p r ls)
node_degree (forall_node d σ t) w = bound_level d σ t w.0
node_degree (exists_node d σ t) w = four_free (exists_node d σ t)
node_degree (and_node ts) w = four_free (and_node ts)
node_degree (or_node ts) w = four_free (or_node ts)

pub pick_degree : (k : Relation) → k.arity ≤ 3 → (x : ℕ) → Memᴰ x (pick_exponent k) → x ≤ 3
unfolding pick_exponent
pick_degree k h x m = by_test (is_function k.kind) (is_chosen k.kind) m
  where
    by_test : (f c : Bool) → Memᴰ x (if f then 1 ∷ [] else if c then k.arity ∷ [] else []) → x ≤ 3
    by_test true c m = let e = Memᴰ.eq_of_singleton m in omega arith
    by_test false true m = let e = Memᴰ.eq_of_singleton m in omega arith
    by_test false false m = absurd (Memᴰ.not-nil m)
