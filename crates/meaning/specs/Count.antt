-- How many the built steps are: picks, 1, and for each round its true node atoms, its end and its marks; and at most the bound.
use Prim.Native.Nat.{ℕ, zero, suc, ◌+◌, ◌-◌, ◌*◌, ◌/◌, ◌%◌, ◌^◌, ◌<◌, ◌≤◌}
use Rattle.std.specs.Prelude.{◌≡◌, Bool, not, if◌then◌else◌}
use Rattle.std.proofs.Math.Path.{refl, ap, subst}
use Rattle.std.proofs.Common.{sym, ap₂, ◌∙◌, zero-add, le_of_eq, div-add-mod', mul-le-mul_left}
use Rattle.std.proofs.Math.Bool.{true, false}
use mathlib.Core.List.{List, [], ◌∷◌, ◌++◌, map, Memᴰ}
use native.Mathlib.Omega.{arith}
use Rattle.std.proofs.Math.Nat.{add-zero, le_trans, pow-succ', one-le-pow, mul-one, suc-mul, mul-add}
use Rattle.std.proofs.Math.Dec.{T}
use Rattle.std.proofs.Math.ListN.{length, get_or, length-append, length-map}
use Rattle.definitions.specs.Lists.{is_some, filter, flat_map, from, below, sum, map_from}
use Rattle.definitions.specs.Sheet.Relations.{Relation, Tuple, is_chosen, is_universal, is_function, is_injective}
use Rattle.definitions.specs.Sheet.Sheets.{every_number}
use Rattle.definitions.specs.Problem.Truth.{every_tuples, values, is_odd, every_value}
use Rattle.definitions.specs.Problem.Tree.{Tree}
use Rattle.definitions.specs.Problem.Atoms.{Problem, relation_at, tuples_of, node_width, Block, Atom, count_of, holds_node, first_tuples, relation_blocks, relations_blocks, nodes_blocks, lasts_blocks, node_atoms, atom_blocks, atoms}
use Rattle.laws.specs.Blocks.{count_append}
use Rattle.definitions.specs.Problem.Actions.{begin_proof, finish, action_number}
use Rattle.definitions.specs.Problem.Built.{is_true_at, step_for, true_rows, node_steps, chosen_numbers, is_picked, picked_rows, marks_from, marks_after, round_steps, built_actions, built_steps, true_atoms, built_count, most_picks, bound}
use Rattle.laws.specs.Booleans.{T_of}
use Rattle.laws.specs.Lists.{below_lt, filter_mem, length_below, map_mem, mem_below}
use Rattle.laws.specs.Tuples.{among_mem}
use Rattle.laws.specs.Repeats.{Once, filter_le, once_below, once_filter, once_map, pigeon}
use Rattle.laws.specs.Numbers.{no_relation, chosen_early}
use Rattle.meaning.specs.Means.{Good}
use Rattle.meaning.specs.Valid.{pair_of}
use Rattle.meaning.specs.Sound.{tup, OfKinds, tuple_at}
use Rattle.meaning.specs.Pairs.{set_of, tuple_of, pairs, tuples_once, picked_in, in_picked}
use Rattle.laws.specs.Digits.{is_odd_lem, is_even}
use Rattle.meaning.specs.Values.{no_tuples, one_value, with_zero}
use Rattle.meaning.specs.Complete.{built_are}

-- ---- how many marks there are in all: for each value but the last a mark-in, and a mark-out for each of these
sum_pairs : (f : ℕ → ℕ) (a n : ℕ) → sum (map f (from (2 * a) (2 * n))) ≡ sum (map (λ q. f (2 * q) + f (suc (2 * q))) (from a n))
unfolding sum from
sum_pairs f a zero = refl
sum_pairs f a (suc n) =
    let e : 2 * suc n ≡ suc (suc (2 * n)) = omega arith in
    let g : suc (suc (2 * a)) ≡ 2 * suc a = omega arith in
    let h : sum (map f (from (suc (suc (2 * a))) (2 * n))) ≡ sum (map f (from (2 * suc a) (2 * n))) = ap (λ (x : ℕ). sum (map f (from x (2 * n)))) g in
    let i = sum_pairs f (suc a) n in
    ap (λ (x : ℕ). sum (map f (from (2 * a) x))) e ∙ omega arith

sum_two : (g f : ℕ → ℕ) → ((q : ℕ) → f q ≡ 2 + g q) → (ks : List ℕ) → sum (map f ks) ≡ 2 * length ks + sum (map g ks)
unfolding sum
sum_two g f h [] = refl
sum_two g f h (k ∷ ks) = let a = h k in let b = sum_two g f h ks in omega arith

one_more : (r left i q : ℕ) → length (marks_from r (suc left) i (2 * q)) + length (marks_from r (suc left) i (suc (2 * q))) ≡ 2 + length (marks_from r left (suc i) q)
unfolding marks_from
one_more r left i q =
    let a : is_odd (2 * q) ≡ false = is_even (2 * q) (omega arith) in
    let b : is_odd (suc (2 * q)) ≡ true = is_odd_lem (suc (2 * q)) (omega arith) in
    let c : suc (2 * q) / 2 ≡ q = omega arith in
    rw (a, b, c) (omega arith)

no_marks : (r i : ℕ) → sum (map (λ m. length (marks_from r zero i m)) (from 0 1)) ≡ 0
unfolding sum from marks_from
no_marks r i = refl

pub marks_total : (r left i : ℕ) → sum (map (λ m. length (marks_from r left i m)) (below (2 ^ left))) ≡ 2 * (2 ^ left - 1)
unfolding below
marks_total r zero i = no_marks r i
marks_total r (suc left) i =
    let e = pow-succ' 2 left in
    let a = sum_pairs (λ m. length (marks_from r (suc left) i m)) 0 (2 ^ left) in
    let b = sum_two (λ m. length (marks_from r left (suc i) m)) _ (one_more r left i) (from 0 (2 ^ left)) in
    let c = marks_total r left (suc i) in
    let d = length_below (2 ^ left) in
    let f = one-le-pow left 2 (omega arith) in
    ap (λ (x : ℕ). sum (map (λ m. length (marks_from r (suc left) i m)) (from 0 x))) e ∙ a ∙ b ∙ rest (2 ^ left) (2 ^ suc left) e f _ c _ d
  where
    rest : (n m : ℕ) → m ≡ 2 * n → 1 ≤ n → (s : ℕ) → s ≡ 2 * (n - 1) → (l : ℕ) → l ≡ n → 2 * l + s ≡ 2 * (m - 1)
    rest n m e h s f l g = omega arith

-- and so at most one for each tuple and each value
marks_few : (c : ℕ) → 2 * (2 ^ c - 1) ≤ 2 ^ c * c
marks_few zero = omega arith
marks_few (suc zero) = omega arith
marks_few (suc (suc c)) =
    let a : 2 ^ suc (suc c) * 2 ≤ 2 ^ suc (suc c) * suc (suc c) = mul-le-mul_left (2 ^ suc (suc c)) (omega arith) in
    omega arith

module _ (p : Problem) (G : Good p) (F : List Tuple) (K : OfKinds p G F) where
  pub pairs_length : Once F → length (pairs p F) ≡ length F
  pairs_length o =
      let a = length-map (pairs p F) (tuple_of p) in
      let b = pigeon (map (tuple_of p) (pairs p F)) F (tuples_once p G F) (picked_in p F) in
      let c = pigeon F (map (tuple_of p) (pairs p F)) o (in_picked p G F K.inside) in
      omega arith

  nodes_length : (P : List Tuple) (ts : List Tree) (v : ℕ) → length (node_steps p P v ts) ≡ sum (map (λ t. length (true_rows p P t)) ts)
  unfolding node_steps sum
  nodes_length P [] v = refl
  nodes_length P (t ∷ ts) v =
      let a = length-append (node_steps p P (suc v) ts) (map (step_for p P v t) (true_rows p P t)) in
      let b = length-map (true_rows p P t) (step_for p P v t) in
      let c = nodes_length P ts (suc v) in
      omega arith

  rounds_length : (ks : List ℕ) → length (flat_map (round_steps p F) ks) ≡ sum (map (λ k. true_atoms p (F ++ every_value p.source k)) ks) + length ks + sum (map (λ k. length (marks_after p k)) ks)
  unfolding flat_map sum round_steps true_atoms
  rounds_length [] = refl
  rounds_length (k ∷ ks) =
      let a = length-append (round_steps p F k) (flat_map (round_steps p F) ks) in
      let b = length-append (node_steps p (F ++ every_value p.source k) zero p.node_list) (finish p ∷ marks_after p k) in
      let c = nodes_length (F ++ every_value p.source k) p.node_list zero in
      let d = rounds_length ks in
      omega arith

  marks_length : sum (map (λ k. length (marks_after p k)) (below (values p.source))) ≡ 2 * (values p.source - 1)
  unfolding marks_after values
  marks_length = marks_total (every_number p.source.question) (every_tuples p.source) 0

  pub built_length : Once F → length (built_steps p F) ≡ built_count p F
  unfolding built_steps built_count
  built_length o =
      let a = length-map (built_actions p F) (action_number p) in
      let b = ap length (built_are p G F K) in
      let c = length-append (map (set_of) (pairs p F)) (begin_proof ∷ flat_map (round_steps p F) (below (values p.source))) in
      let d = length-map (pairs p F) (set_of) in
      let e = rounds_length (below (values p.source)) in
      let f = length_below (values p.source) in
      let g = pairs_length o in
      let h = marks_length in
      omega arith

  -- ---- the bound
  true_le : (P : List Tuple) (ts : List Tree) (v : ℕ) → sum (map (λ t. length (true_rows p P t)) ts) ≤ count_of (map_from (λ v t. record { width = node_width p.size t; item = holds_node v }) v ts)
  unfolding sum count_of map_from true_rows
  true_le P [] v = omega arith
  true_le P (t ∷ ts) v =
      let a = filter_le (is_true_at p P t) (below (node_width p.size t)) in
      let b = length_below (node_width p.size t) in
      let c = true_le P ts (suc v) in
      omega arith

  rounds_le : (ks : List ℕ) → sum (map (λ k. true_atoms p (F ++ every_value p.source k)) ks) ≤ length ks * node_atoms p
  unfolding sum true_atoms node_atoms nodes_blocks
  rounds_le [] = omega arith
  rounds_le (k ∷ ks) =
      let a = true_le (F ++ every_value p.source k) p.node_list zero in
      let b = rounds_le ks in
      let c = suc-mul (length ks) (count_of (map_from (λ v t. record { width = node_width p.size t; item = holds_node v }) zero p.node_list)) in
      omega arith

  -- of a function kind at most n
  fun_le : (r : ℕ) → r < length p.relations → T (is_function (relation_at p r).kind) → length (picked_rows p F r) ≤ p.size
  unfolding picked_rows is_picked
  fun_le r l f =
      let a = length-map (picked_rows p F r) (λ row. row / p.size) in
      let b = pigeon (map (λ row. row / p.size) (picked_rows p F r)) (below p.size) (once_map (λ row. row / p.size) (picked_rows p F r) alike (once_filter (is_picked p F r) (below (tuples_of p.size (relation_at p r))) (once_below (tuples_of p.size (relation_at p r)))))
      (λ x m. let (row, mr, e) = map_mem (λ row. row / p.size) (picked_rows p F r) x m in mem_below p.size x (subst (λ (z : ℕ). z < p.size) (sym e) (at row mr).1)) in
      let c = length_below p.size in
      omega arith
    where
      at : (row : ℕ) → Memᴰ row (picked_rows p F r) → Memᴰ (tup r (row / p.size ∷ row % p.size ∷ [])) F × (row / p.size < p.size)
      at row m =
          let q = filter_mem (is_picked p F r) (below (tuples_of p.size (relation_at p r))) row m in
          let s = pair_of p G r row l (below_lt (tuples_of p.size (relation_at p r)) row q.0) f in
          (subst (λ (xs : List ℕ). Memᴰ (tup r xs) F) s.0 (among_mem (tuple_at p r row) F q.1), s.1)

      alike : (x y : ℕ) → Memᴰ x (picked_rows p F r) → Memᴰ y (picked_rows p F r) → x / p.size ≡ y / p.size → x ≡ y
      alike x y mx my e =
          let g : x % p.size ≡ y % p.size = K.fun r (x / p.size) (x % p.size) (y % p.size) f (at x mx).0 (subst (λ (z : ℕ). Memᴰ (tup r (z ∷ y % p.size ∷ [])) F) (sym e) (at y my).0) in
          sym (div-add-mod' x p.size) ∙ ap₂ (λ (a b : ℕ). a * p.size + b) e g ∙ div-add-mod' y p.size

  rows_le : (r : ℕ) → r < length p.relations → T (is_chosen (relation_at p r).kind) → length (picked_rows p F r) ≤ most_picks p.size (relation_at p r)
  unfolding most_picks picked_rows
  rows_le r l c = by_test (is_function (relation_at p r).kind) refl (is_chosen (relation_at p r).kind) c
    where
      by_test : (b : Bool) → is_function (relation_at p r).kind ≡ b → (d : Bool) → T d → length (picked_rows p F r) ≤ (if b then p.size else if d then tuples_of p.size (relation_at p r) else zero)
      by_test true e d t = fun_le r l (T_of e)
      by_test false e true t = le_trans (filter_le (is_picked p F r) (below (tuples_of p.size (relation_at p r)))) (le_of_eq (length_below (tuples_of p.size (relation_at p r))))
      by_test false e false t = absurd t

  abbrev pair_with : ℕ → ℕ → ℕ × ℕ
  pair_with r row = (r, row)

  abbrev row_pairs : ℕ → List ℕ → List (ℕ × ℕ)
  row_pairs r l = map (pair_with r) l

  sets_most : (ks : List Relation) (a : ℕ) → ((j : ℕ) → j < length ks → (a + j < length p.relations)
      × (relation_at p (a + j) ≡ get_or ks j no_relation)) → length
      (flat_map (λ r. row_pairs r (picked_rows p F r)) (filter (λ r. is_chosen (relation_at p r).kind) (from a (length ks)))) ≤ sum
      (map (most_picks p.size) ks)
  unfolding from filter flat_map sum
  sets_most [] a h = omega arith
  sets_most (k ∷ ks) a h =
      let z : a + 0 ≡ a = add-zero a in
      let q = h 0 (omega arith) in
      let e : relation_at p a ≡ k = ap (relation_at p) (sym z) ∙ q.1 in
      let l : a < length p.relations = subst (λ (x : ℕ). x < length p.relations) z q.0 in
      from_this l e (is_chosen (relation_at p a).kind) refl (sets_most ks (suc a) (λ j i. let s : a + suc j ≡ suc a + j = omega arith in subst (λ (x : ℕ). (x < length p.relations) × (relation_at p x ≡ get_or ks j no_relation)) s (h (suc j) (omega arith))))
    where
      from_this : a < length p.relations → relation_at p a ≡ k → (b : Bool) → is_chosen (relation_at p a).kind ≡ b → length (flat_map (λ r. row_pairs r (picked_rows p F r)) (filter (λ r. is_chosen (relation_at p r).kind) (from (suc a) (length ks)))) ≤ sum (map (most_picks p.size) ks)
          → length (flat_map (λ r. row_pairs r (picked_rows p F r)) (if b then a ∷ filter (λ r. is_chosen (relation_at p r).kind) (from (suc a) (length ks)) else filter (λ r. is_chosen (relation_at p r).kind) (from (suc a) (length ks)))) ≤ most_picks p.size k + sum (map (most_picks p.size) ks)
      from_this l e true c r =
          let x = length-append (row_pairs a (picked_rows p F a)) (flat_map (λ r. row_pairs r (picked_rows p F r)) (filter (λ r. is_chosen (relation_at p r).kind) (from (suc a) (length ks)))) in
          let y = length-map (picked_rows p F a) (pair_with a) in
          let w : length (picked_rows p F a) ≤ most_picks p.size k = subst (λ (q : Relation). length (picked_rows p F a) ≤ most_picks p.size q) e (rows_le a l (T_of c)) in
          omega arith
      from_this l e false c r = omega arith

  pub pairs_le : length (pairs p F) ≤ sum (map (most_picks p.size) p.relations)
  unfolding pairs chosen_numbers below relation_at
  pairs_le = sets_most p.relations 0 (λ j l. (subst (λ (x : ℕ). x < length p.relations) (sym (zero-add j)) l, ap (λ (x : ℕ). get_or p.relations x no_relation) (zero-add j)))

  -- whatever is picked, each round has at most a step for each node atom, one for each tuple, and one
  pub built_most : built_count p F ≤ length F + 1 + values p.source * (node_atoms p + every_tuples p.source + 1)
  unfolding built_count values
  built_most =
      let c = rounds_le (below (2 ^ every_tuples p.source)) in
      let d = length_below (2 ^ every_tuples p.source) in
      let e : length (below (2 ^ every_tuples p.source)) * node_atoms p ≡ 2 ^ every_tuples p.source * node_atoms p = ap (λ (x : ℕ). x * node_atoms p) d in
      let f = marks_few (every_tuples p.source) in
      let g = mul-add (2 ^ every_tuples p.source) (node_atoms p + every_tuples p.source) 1 in
      let h = mul-add (2 ^ every_tuples p.source) (node_atoms p) (every_tuples p.source) in
      let i = mul-one (2 ^ every_tuples p.source) in
      omega arith

  pub built_bound : Once F → built_count p F ≤ bound p
  unfolding bound
  built_bound o =
      let a = pairs_length o in
      let b = pairs_le in
      let c = built_most in
      omega arith

-- ---- without an `every` line the bound is below the number of atoms, so built steps are never too many
most_le : (n r : ℕ) (k : Relation) → most_picks n k ≤ count_of (relation_blocks n r k)
unfolding most_picks relation_blocks first_tuples count_of
most_le n r k = by_test (is_function k.kind) (is_chosen k.kind) (is_universal k.kind) (chosen_early k.kind) (if is_injective k.kind then n else zero)
  where
    by_test : (f c u : Bool) → (T c → T u → ⊥) → (w : ℕ) → (if f then n else if c then tuples_of n k else zero) ≤ (if u then zero else tuples_of n k) + ((if u then zero else tuples_of n k) + ((if f then n else zero) + (w + zero)))
    by_test true c u h w = omega arith
    by_test false true true h w = absurd (h tt tt)
    by_test false true false h w = omega arith
    by_test false false u h w = omega arith

mosts_le : (n r : ℕ) (ks : List Relation) → sum (map (most_picks n) ks) ≤ count_of (flat_map (λ (bs : List (Block Atom)). bs) (map_from (relation_blocks n) r ks))
unfolding sum flat_map map_from count_of
mosts_le n r [] = omega arith
mosts_le n r (k ∷ ks) =
    let a = most_le n r k in
    let b = mosts_le n (suc r) ks in
    let c = count_append (relation_blocks n r k) (flat_map (λ (bs : List (Block Atom)). bs) (map_from (relation_blocks n) (suc r) ks)) in
    omega arith

pub bound_plain : (p : Problem) (G : Good p) → T (not (is_some p.source.question.every)) → bound p ≡ sum (map (most_picks p.size) p.relations) + node_atoms p + 2
unfolding bound
bound_plain p G n = rw (one_value p G n, no_tuples p G n) (omega arith)

pub count_plain : (p : Problem) (G : Good p) → T (not (is_some p.source.question.every)) → (F : List Tuple) → built_count p F ≡ length F + true_atoms p F + 2
unfolding built_count sum below from
count_plain p G n F = let e = ap (true_atoms p) (with_zero p G F) in rw (one_value p G n) (omega arith)

pub bound_below : (p : Problem) (G : Good p) → T (not (is_some p.source.question.every)) → bound p < atoms p
unfolding atoms atom_blocks node_atoms relations_blocks count_of
bound_below p G n =
    let e = bound_plain p G n in
    let a = mosts_le p.size zero p.relations in
    let b = count_append (relations_blocks p.size p.relations) (nodes_blocks p.size p.node_list ++ lasts_blocks p.size p.relations) in
    let c = count_append (nodes_blocks p.size p.node_list) (lasts_blocks p.size p.relations) in
    omega arith
