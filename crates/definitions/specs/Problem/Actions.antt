-- Document 01, "Actions": their order and numbers, what they need, add and remove; and document 02, job 12: the rounds of an `every` line.
use Rattle.std.specs.Prelude.{ℕ, zero, suc, ◌+◌, ◌*◌, ◌/◌, ◌%◌, Bool, true, false, ◌&&◌, List, [], ◌∷◌, ◌++◌, map, length, get_or, take, drop, eqb, ltb, if◌then◌else◌}
use Rattle.std.proofs.Math.Option.{Option}
use Rattle.definitions.specs.Lists.{option, map_from, filter, is_in, below, rank, before, greatest}
use Rattle.definitions.specs.Sheet.Relations.{Relation, is_chosen, is_function, is_injective}
use Rattle.definitions.specs.Problem.Tree.{Tree, leaf, forall_node, exists_node, and_node, or_node, Part, parts, how_many, node_sort, free}
use Rattle.definitions.specs.Sheet.Sheets.{every_number}
use Rattle.definitions.specs.Problem.Atoms.{Problem, relation_at, node_at, tuples_of, rows_of, node_width, last_tuples, row_of, places_of, Block, item_at, count_of, Atom, guess, proof, goal, tuple, not_tuple, free_domain, free_range, holds_node, marked}

-- An action and its details: a relation by its number, a node by its preorder number, a row as the number of a tuple or of the
-- values of a node's free variables, and the part, element or z that is chosen.
pub data Action : Type 0 where
  set : (relation row : ℕ) → Action
  begin_proof : Action
  prove_and : (node row : ℕ) → Action
  prove_or : (node row part : ℕ) → Action
  prove_exists : (node row element : ℕ) → Action
  prove_forall : (node row z : ℕ) → Action
  prove_goal : Action
  round_end : Action
  mark_in mark_out : (relation row : ℕ) → Action

-- an action in the paper's numbers: its kind in this order, its relation or node, its row, and its part, element or z; what its kind
-- does not have is 0
unfoldable pub action_kind : Action → ℕ
action_kind (set r row) = 0
action_kind begin_proof = 1
action_kind (prove_and v row) = 2
action_kind (prove_or v row i) = 3
action_kind (prove_exists v row x) = 4
action_kind (prove_forall v row z) = 5
action_kind prove_goal = 6
action_kind round_end = 7
action_kind (mark_in r row) = 8
action_kind (mark_out r row) = 9

unfoldable pub action_subject : Action → ℕ
action_subject (set r row) = r
action_subject begin_proof = 0
action_subject (prove_and v row) = v
action_subject (prove_or v row i) = v
action_subject (prove_exists v row x) = v
action_subject (prove_forall v row z) = v
action_subject prove_goal = 0
action_subject round_end = 0
action_subject (mark_in r row) = r
action_subject (mark_out r row) = r

unfoldable pub action_row : Action → ℕ
action_row (set r row) = row
action_row begin_proof = 0
action_row (prove_and v row) = row
action_row (prove_or v row i) = row
action_row (prove_exists v row x) = row
action_row (prove_forall v row z) = row
action_row prove_goal = 0
action_row round_end = 0
action_row (mark_in r row) = row
action_row (mark_out r row) = row

unfoldable pub action_choice : Action → ℕ
action_choice (set r row) = 0
action_choice begin_proof = 0
action_choice (prove_and v row) = 0
action_choice (prove_or v row i) = i
action_choice (prove_exists v row x) = x
action_choice (prove_forall v row z) = z
action_choice prove_goal = 0
action_choice round_end = 0
action_choice (mark_in r row) = 0
action_choice (mark_out r row) = 0

-- ---- order and numbers: the set actions of every `choose`; begin-proof; node by node, each row by row, with the part, element
-- or z running fastest; prove-goal, or in its place, where there is an `every` line, round-end; every mark-in, every mark-out of that relation

-- how many actions a node has at each value of its free variables, and the action of a part, element or z there. (A literal is not a
-- node: it has no actions, and what stands for one is never asked for.)
unfoldable pub choices : (ℕ → List ℕ) → Tree → ℕ
choices R (leaf p r ls) = zero
choices R (forall_node d s t) = length (R s)
choices R (exists_node d s t) = length (R s)
choices R (and_node ts) = 1
choices R (or_node ts) = how_many ts

unfoldable pub prove_node : (ℕ → List ℕ) → Tree → ℕ → ℕ → ℕ → Action
prove_node R (leaf p r ls) v row i = prove_goal
prove_node R (forall_node d s t) v row i = prove_forall v row (get_or (R s) i 0)
prove_node R (exists_node d s t) v row i = prove_exists v row (get_or (R s) i 0)
prove_node R (and_node ts) v row i = prove_and v row
prove_node R (or_node ts) v row i = prove_or v row i

-- whether a tuple may be set: that of a function kind where its first and its second place are of their sorts. (Such a kind has arity 2,
-- so its row is n times the first place plus the second.)
unfoldable pub is_settable : ℕ → (ℕ → List ℕ) → Relation → ℕ → Bool
is_settable n R k row = if is_function k.kind then is_in (row / n) (R k.firsts) && is_in (row % n) (R k.seconds) else true

-- the rows of the tuples that a relation's set actions set, in order
unfoldable pub set_rows : ℕ → (ℕ → List ℕ) → Relation → List ℕ
set_rows n R k = if is_chosen k.kind then filter (is_settable n R k) (below (tuples_of n k)) else []

unfoldable pub sets_of : ℕ → (ℕ → List ℕ) → Relation → ℕ
sets_of n R k = length (set_rows n R k)

unfoldable pub set_blocks : ℕ → (ℕ → List ℕ) → List Relation → List (Block Action)
set_blocks n R ks = map_from (λ r k. record { width = sets_of n R k; item = λ i. set r (get_or (set_rows n R k) i 0) }) zero ks

unfoldable pub proofs_of : ℕ → (ℕ → List ℕ) → Tree → ℕ
proofs_of n R t = rows_of n t * choices R t

unfoldable pub proof_blocks : ℕ → (ℕ → List ℕ) → List Tree → List (Block Action)
proof_blocks n R ts =
    map_from (λ v t. record { width = proofs_of n R t; item = λ i. prove_node R t v (i / choices R t) (i % choices R t) }) zero ts

unfoldable pub finish : Problem → Action
finish p = option p.source.question.every prove_goal (λ _. round_end)

unfoldable pub mark_blocks : (ℕ → ℕ → Action) → ℕ → List Relation → List (Block Action)
mark_blocks mark n ks = map_from (λ r k. record { width = last_tuples n k; item = mark r }) zero ks

unfoldable pub action_blocks : Problem → List (Block Action)
action_blocks p =
    set_blocks p.size p.range p.relations
    ++ (record { width = 1; item = λ _. begin_proof }
    ∷ (proof_blocks p.size p.range p.node_list
    ++ (record { width = 1; item = λ _. finish p } ∷ (mark_blocks mark_in p.size p.relations ++ mark_blocks mark_out p.size p.relations))))

unfoldable pub actions : Problem → ℕ
actions p = count_of (action_blocks p)

-- the action of a number, if there is one
unfoldable pub action_at : Problem → ℕ → Option Action
action_at p i = item_at (action_blocks p) i

-- the number of an action: the actions before its relation or node, and its place there. (The order stands here and in
-- `action_blocks`; `laws`, `Numbers`, shows that these are one.)
unfoldable pub set_start : Problem → ℕ → ℕ
set_start p r = count_of (set_blocks p.size p.range (take r p.relations))

unfoldable pub proof_start : Problem → ℕ → ℕ
proof_start p v = set_start p (length p.relations) + 1 + count_of (proof_blocks p.size p.range (take v p.node_list))

unfoldable pub proof_number : Problem → ℕ → ℕ → ℕ → ℕ
proof_number p v row i = proof_start p v + row * choices p.range (node_at p v) + i

-- how many mark-ins, and so how many mark-outs, there are before those of a relation
unfoldable pub marks_before : Problem → ℕ → ℕ
marks_before p r = count_of (mark_blocks mark_in p.size (take r p.relations))

-- the range of a quantifier's variable
unfoldable pub range_at : Problem → ℕ → List ℕ
range_at p v = p.range (node_sort (node_at p v))

unfoldable pub action_number : Problem → Action → ℕ
action_number p (set r row) = set_start p r + rank (set_rows p.size p.range (relation_at p r)) row
action_number p begin_proof = set_start p (length p.relations)
action_number p (prove_and v row) = proof_number p v row zero
action_number p (prove_or v row i) = proof_number p v row i
action_number p (prove_exists v row x) = proof_number p v row (rank (range_at p v) x)
action_number p (prove_forall v row z) = proof_number p v row (rank (range_at p v) z)
action_number p prove_goal = proof_start p (length p.node_list)
action_number p round_end = proof_start p (length p.node_list)
action_number p (mark_in r row) = proof_start p (length p.node_list) + 1 + marks_before p r + row
action_number p (mark_out r row) = proof_start p (length p.node_list) + 1 + marks_before p (length p.relations) + marks_before p r + row

-- ---- the atom that stands for a part at values of the variables: of a literal its tuple or not-tuple, of a `forall` the one at
-- the greatest element of its range, of any other node its own

-- values of levels: of a node's free variables, and with one more
abbrev pub Values : Type 0
Values = ℕ → ℕ

unfoldable pub values_in : List ℕ → List ℕ → Values
values_in [] xs l = zero
values_in (d ∷ ds) [] l = zero
values_in (d ∷ ds) (x ∷ xs) l = if eqb l d then x else values_in ds xs l

unfoldable pub with_value : Values → ℕ → ℕ → Values
with_value e d x l = if eqb l d then x else e l

unfoldable pub values_at : ℕ → Tree → ℕ → Values
values_at n t row = values_in (free t) (places_of n (length (free t)) row)

unfoldable pub part_atom : ℕ → (ℕ → List ℕ) → Values → ℕ → Tree → Atom
part_atom n R e v (leaf true r ls) = tuple r (row_of n (map e ls))
part_atom n R e v (leaf false r ls) = not_tuple r (row_of n (map e ls))
part_atom n R e v (forall_node d s t) = holds_node v (row_of n (map e (free (forall_node d s t))) * n + greatest (R s))
part_atom n R e v (exists_node d s t) = holds_node v (row_of n (map e (free (exists_node d s t))))
part_atom n R e v (and_node ts) = holds_node v (row_of n (map e (free (and_node ts))))
part_atom n R e v (or_node ts) = holds_node v (row_of n (map e (free (or_node ts))))

unfoldable pub part_atoms : ℕ → (ℕ → List ℕ) → Values → List Part → List Atom
part_atoms n R e ps = map (λ (q : Part). part_atom n R e q.node q.tree) ps

-- the atom of the part under a quantifier, at an element (of no meaning at another node)
unfoldable pub under_atom : ℕ → (ℕ → List ℕ) → ℕ → Tree → ℕ → ℕ → Atom
under_atom n R v (leaf p r ls) row x = goal
under_atom n R v (forall_node d s t) row x = part_atom n R (with_value (values_at n (forall_node d s t) row) d x) (suc v) t
under_atom n R v (exists_node d s t) row x = part_atom n R (with_value (values_at n (exists_node d s t) row) d x) (suc v) t
under_atom n R v (and_node ts) row x = goal
under_atom n R v (or_node ts) row x = goal

-- ---- what an action needs, adds and removes

-- the free atoms that a set action uses up: of its first place for a function kind, of its second for an injective one. These
-- kinds have arity 2, so the row is n times the first place plus the second.
unfoldable pub free_atoms : ℕ → Relation → ℕ → ℕ → List Atom
free_atoms n k r row =
    (if is_function k.kind then free_domain r (row / n) ∷ [] else [])
    ++ (if is_injective k.kind then free_range r (row % n) ∷ [] else [])

-- what proving a `forall` up to z needs: the part at z, and where its range has an element y before z the atom "true up to y"
unfoldable pub forall_needs : ℕ → (ℕ → List ℕ) → ℕ → Tree → ℕ → ℕ → List Atom
forall_needs n R v t row z =
    under_atom n R v t row z ∷ option (before (R (node_sort t)) z) [] (λ y. holds_node v (row * n + y) ∷ [])

-- needs: a set action the guess phase, its not-tuple and its free atoms; begin-proof the guess phase; a node's action the proof
-- phase and, for `and`, all parts, for `or` the chosen part, for `exists` the part at the chosen element, for `forall` as said above;
-- prove-goal and round-end the root alone; a mark-in the mark of its tuple, which is out, a mark-out that of one which is in
unfoldable pub root_atom : Problem → Atom
root_atom p = part_atom p.size p.range (λ _. zero) zero p.root

unfoldable pub needs : Problem → Action → List Atom
needs p (set r row) = guess ∷ not_tuple r row ∷ free_atoms p.size (relation_at p r) r row
needs p begin_proof = guess ∷ []
needs p (prove_and v row) = proof ∷ part_atoms p.size p.range (values_at p.size (node_at p v) row) (parts v (node_at p v))
needs p (prove_or v row i) = proof ∷ take 1 (drop i (part_atoms p.size p.range (values_at p.size (node_at p v) row) (parts v (node_at p v))))
needs p (prove_exists v row x) = proof ∷ under_atom p.size p.range v (node_at p v) row x ∷ []
needs p (prove_forall v row z) = proof ∷ forall_needs p.size p.range v (node_at p v) row z
needs p prove_goal = root_atom p ∷ []
needs p round_end = root_atom p ∷ []
needs p (mark_in r row) = marked r row ∷ not_tuple r row ∷ []
needs p (mark_out r row) = marked r row ∷ tuple r row ∷ []

-- the mark of tuple i, and the goal past the last tuple
unfoldable pub mark_or_goal : Problem → ℕ → ℕ → Atom
mark_or_goal p r i = if ltb i (tuples_of p.size (relation_at p r)) then marked r i else goal

-- adds: the tuple; the proof phase; the node's atom; the goal; round-end the first mark; a mark-in the tuple and the proof phase, a mark-out the
-- not-tuple and the next mark or the goal
unfoldable pub adds : Problem → Action → List Atom
adds p (set r row) = tuple r row ∷ []
adds p begin_proof = proof ∷ []
adds p (prove_and v row) = holds_node v row ∷ []
adds p (prove_or v row i) = holds_node v row ∷ []
adds p (prove_exists v row x) = holds_node v row ∷ []
adds p (prove_forall v row z) = holds_node v (row * p.size + z) ∷ []
adds p prove_goal = goal ∷ []
adds p round_end = mark_or_goal p (every_number p.source.question) zero ∷ []
adds p (mark_in r row) = tuple r row ∷ proof ∷ []
adds p (mark_out r row) = not_tuple r row ∷ mark_or_goal p r (suc row) ∷ []

-- the atoms of all nodes, where the first one's number is v
unfoldable pub nodes_atoms : ℕ → ℕ → List Tree → List Atom
nodes_atoms n v [] = []
nodes_atoms n v (t ∷ ts) = map (holds_node v) (below (node_width n t)) ++ nodes_atoms n (suc v) ts

-- removes: a set action all it needs but the guess phase; begin-proof the guess phase; round-end the proof phase and every node's atoms; a mark-in
-- and a mark-out all they need; the others nothing
unfoldable pub removes : Problem → Action → List Atom
removes p (set r row) = not_tuple r row ∷ free_atoms p.size (relation_at p r) r row
removes p begin_proof = guess ∷ []
removes p (prove_and v row) = []
removes p (prove_or v row i) = []
removes p (prove_exists v row x) = []
removes p (prove_forall v row z) = []
removes p prove_goal = []
removes p round_end = proof ∷ nodes_atoms p.size zero p.node_list
removes p (mark_in r row) = marked r row ∷ not_tuple r row ∷ []
removes p (mark_out r row) = marked r row ∷ tuple r row ∷ []
