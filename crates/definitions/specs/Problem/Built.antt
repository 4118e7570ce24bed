-- Document 01, "Actions": the built steps, their count and the bound; "The words of demand 3": true node atoms; and document 02, job 12: a
-- round for each value of the `every` relation.
use Rattle.std.specs.Prelude.{ℕ, zero, suc, ◌+◌, ◌-◌, ◌*◌, ◌/◌, ◌%◌, ◌^◌, Bool, true, false, not, ◌&&◌, ◌||◌, List, [], ◌∷◌, ◌++◌, map, length, get_or, if◌then◌else◌}
use Rattle.definitions.specs.Lists.{Steps, all, any, filter, option, position, below, is_in, up_to, sum, flat_map}
use Rattle.definitions.specs.Sheet.Relations.{Relation, Tuple, is_among, is_chosen, is_function}
use Rattle.definitions.specs.Sheet.Sheets.{Question, relations_of, every_number}
use Rattle.definitions.specs.Problem.Truth.{Case, holds, members_of, every_tuples, values, is_odd, every_value}
use Rattle.definitions.specs.Problem.Tree.{Tree, Trees, leaf, forall_node, exists_node, and_node, or_node, end, ◌then◌, Part, parts, tree_of, nodes, free, is_forall}
use Rattle.definitions.specs.Problem.Atoms.{Problem, relation_at, tuples_of, node_width, places_of, node_atoms}
use Rattle.definitions.specs.Problem.Actions.{Action, set, begin_proof, prove_and, prove_or, prove_exists, prove_forall, prove_goal, mark_in, mark_out, finish, action_number, Values, with_value, values_at}

-- whether a part of the tree is so at values of its levels
unfoldable mutual
  pub tree_holds : Case → List Tuple → Values → Tree → Bool
  tree_holds c picks e (leaf true r ls) = holds c picks r (map e ls)
  tree_holds c picks e (leaf false r ls) = not (holds c picks r (map e ls))
  tree_holds c picks e (forall_node d s t) = all (λ x. tree_holds c picks (with_value e d x) t) (members_of c s)
  tree_holds c picks e (exists_node d s t) = any (λ x. tree_holds c picks (with_value e d x) t) (members_of c s)
  tree_holds c picks e (and_node ts) = trees_hold c picks e ts
  tree_holds c picks e (or_node ts) = some_holds c picks e ts

  pub trees_hold : Case → List Tuple → Values → Trees → Bool
  trees_hold c picks e end = true
  trees_hold c picks e (t then ts) = tree_holds c picks e t && trees_hold c picks e ts

  pub some_holds : Case → List Tuple → Values → Trees → Bool
  some_holds c picks e end = false
  some_holds c picks e (t then ts) = tree_holds c picks e t || some_holds c picks e ts

-- A node atom is true if its subtree is so at the values of its row; that of a `forall` at z, an element of its range, if what is
-- under it is so at every one up to z.
unfoldable pub is_true_at : Problem → List Tuple → Tree → ℕ → Bool
is_true_at p picks (leaf q r ls) row = false
is_true_at p picks (forall_node d s t) row =
    let e = values_at p.size (forall_node d s t) (row / p.size) in
    is_in (row % p.size) (p.range s)
    && all (λ x. tree_holds p.source picks (with_value e d x) t) (up_to (p.range s) (row % p.size))
is_true_at p picks (exists_node d s t) row = tree_holds p.source picks (values_at p.size (exists_node d s t) row) (exists_node d s t)
is_true_at p picks (and_node ts) row = tree_holds p.source picks (values_at p.size (and_node ts) row) (and_node ts)
is_true_at p picks (or_node ts) row = tree_holds p.source picks (values_at p.size (or_node ts) row) (or_node ts)

-- the index of the first part, or of the least element, that makes an atom true
unfoldable pub least : {A : Type 0} → (A → Bool) → List A → ℕ
least test xs = option (position test xs) zero (λ i. i)

-- the step of a true atom (a literal has none, and is never asked)
unfoldable pub step_for : Problem → List Tuple → ℕ → Tree → ℕ → Action
step_for p picks v (leaf q r ls) row = prove_goal
step_for p picks v (forall_node d s t) row = prove_forall v (row / p.size) (row % p.size)
step_for p picks v (exists_node d s t) row =
    let e = values_at p.size (exists_node d s t) row in
    prove_exists v row (get_or (p.range s) (least (λ x. tree_holds p.source picks (with_value e d x) t) (p.range s)) 0)
step_for p picks v (and_node ts) row = prove_and v row
step_for p picks v (or_node ts) row =
    let e = values_at p.size (or_node ts) row in
    prove_or v row (least (λ (q : Part). tree_holds p.source picks e q.tree) (parts v (or_node ts)))

-- the rows of a node's true atoms, in order; and the steps that prove them, later nodes first
unfoldable pub true_rows : Problem → List Tuple → Tree → List ℕ
true_rows p picks t = filter (is_true_at p picks t) (below (node_width p.size t))

unfoldable pub node_steps : Problem → List Tuple → ℕ → List Tree → List Action
node_steps p picks v [] = []
node_steps p picks v (t ∷ ts) = node_steps p picks (suc v) ts ++ map (step_for p picks v t) (true_rows p picks t)

-- the numbers of the `choose` relations, the rows of a relation's picks
unfoldable pub chosen_numbers : Problem → List ℕ
chosen_numbers p = filter (λ r. is_chosen (relation_at p r).kind) (below (length p.relations))

unfoldable pub is_picked : Problem → List Tuple → ℕ → ℕ → Bool
is_picked p picks r row = is_among (record { relation = r; places = places_of p.size (relation_at p r).arity row }) picks

unfoldable pub picked_rows : Problem → List Tuple → ℕ → List ℕ
picked_rows p picks r = filter (is_picked p picks r) (below (tuples_of p.size (relation_at p r)))

-- the set actions of the picks, in the order of the atoms
unfoldable pub set_steps : Problem → List Tuple → List Action
set_steps p picks = flat_map (λ r. map (set r) (picked_rows p picks r)) (chosen_numbers p)

-- The marks between a round and the next, from tuple i of relation r on, with `left` tuples left and m the digits of the round's value from
-- there on: a tuple that is in goes out, and the mark moves on; the first that is out goes in. After the last value all go out.
unfoldable pub marks_from : (r left i m : ℕ) → List Action
marks_from r zero i m = []
marks_from r (suc left) i m = if is_odd m then mark_out r i ∷ marks_from r left (suc i) (m / 2) else mark_in r i ∷ []

unfoldable pub marks_after : Problem → ℕ → List Action
marks_after p k = marks_from (every_number p.source.question) (every_tuples p.source) zero k

-- the round of value k: every node atom that is true then is proved once, the round ends (or the goal is proved), and the marks go on
unfoldable pub round_steps : Problem → List Tuple → ℕ → List Action
round_steps p picks k = node_steps p (picks ++ every_value p.source k) zero p.node_list ++ (finish p ∷ marks_after p k)

-- "Built steps": the picks are set, the proof begins, and there is a round for each value of the `every` relation. Without an `every` line that
-- is one round, which ends by proving the goal.
unfoldable pub built_actions : Problem → List Tuple → List Action
built_actions p picks = set_steps p picks ++ (begin_proof ∷ flat_map (round_steps p picks) (below (values p.source)))

unfoldable pub built_steps : Problem → List Tuple → Steps
built_steps p picks = map (action_number p) (built_actions p picks)

-- how many there are: picks and one; the true node atoms of each round; a round's end for each value; a mark-in and a mark-out for each value but
-- one. Without an `every` line: picks, true node atoms, and two.
unfoldable pub true_atoms : Problem → List Tuple → ℕ
true_atoms p tuples = sum (map (λ t. length (true_rows p tuples t)) p.node_list)

unfoldable pub built_count : Problem → List Tuple → ℕ
built_count p picks =
    let rounds = values p.source in
    length picks + 1 + (sum (map (λ k. true_atoms p (picks ++ every_value p.source k)) (below rounds)) + rounds + 2 * (rounds - 1))

-- The bound: all tuples of each plain `choose`, n for each function kind, one; and for each value all node atoms, a mark for each tuple of the
-- `every` relation, one. Without an `every` line: the most picks, all node atoms, and two.
unfoldable pub most_picks : ℕ → Relation → ℕ
most_picks n k = if is_function k.kind then n else if is_chosen k.kind then tuples_of n k else zero

unfoldable pub bound : Problem → ℕ
bound p = sum (map (most_picks p.size) p.relations) + 1 + values p.source * (node_atoms p + every_tuples p.source + 1)

-- ---- the bound, where there is no `every` line, as a polynomial in the number of elements, its terms fixed by the question alone: a power of n
-- for each `choose` and each node, and the constant two

unfoldable pub pick_exponent : Relation → List ℕ
pick_exponent k = if is_function k.kind then 1 ∷ [] else if is_chosen k.kind then k.arity ∷ [] else []

unfoldable pub node_exponent : Tree → ℕ
node_exponent t = if is_forall t then suc (length (free t)) else length (free t)

unfoldable pub bound_exponents : Question → List ℕ
bound_exponents q = flat_map pick_exponent (relations_of q) ++ map node_exponent (nodes (tree_of q))

unfoldable pub polynomial : List ℕ → ℕ → ℕ
polynomial exponents n = sum (map (λ k. n ^ k) exponents)

unfoldable pub bound_polynomial : Question → ℕ → ℕ
bound_polynomial q n = polynomial (bound_exponents q) n + 2
