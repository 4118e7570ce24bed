-- Document 01, "Atoms": their order and numbers, and which are initially true; and document 02, job 12: the atoms of an `every` line.
use Rattle.std.specs.Prelude.{ℕ, zero, suc, ◌+◌, ◌-◌, ◌*◌, ◌/◌, ◌^◌, Bool, true, false, not, List, [], ◌∷◌, ◌++◌, map, length, take, get_or, ltb, if◌then◌else◌}
use Rattle.std.proofs.Math.Option.{Option, none, some}
use Rattle.definitions.specs.Lists.{Words, option, flat_map, map_from, below}
use Rattle.definitions.specs.Sheet.Relations.{Relation, fixed, is_function, is_injective, is_universal}
unfoldable pub use Rattle.definitions.specs.Problem.Rows.{row_of, places_of}
use Rattle.definitions.specs.Sheet.Sheets.{relations_of}
use Rattle.definitions.specs.Problem.Truth.{Case, holds, members_of}
use Rattle.definitions.specs.Problem.Tree.{Tree, leaf, tree_of, nodes, free, is_forall}

-- ---- blocks: a run of numbers, each standing for an item; a list of blocks numbers the items one after another

pub record Block (A : Type 0) : Type 0 where
  pub width : ℕ
  pub item : ℕ → A

unfoldable pub item_at : {A : Type 0} → List (Block A) → ℕ → Option A
item_at [] i = none
item_at (b ∷ bs) i = if ltb i b.width then some (b.item i) else item_at bs (i - b.width)

unfoldable pub count_of : {A : Type 0} → List (Block A) → ℕ
count_of [] = zero
count_of (b ∷ bs) = b.width + count_of bs

-- ---- the grounded problem of a case: its elements, the range of each sort, all relations in the order of their numbers, its tree,
-- and the tree's non-literal nodes in preorder

pub record Problem : Type 0 where
  pub source : Case
  pub size : ℕ
  pub range : ℕ → List ℕ
  pub relations : List Relation
  pub root : Tree
  pub node_list : List Tree

unfoldable pub problem_with : Case → Tree → Problem
problem_with c t = record { source = c; size = c.site.size; range = members_of c; relations = relations_of c.question; root = t; node_list = nodes t }

unfoldable pub problem_of : Case → Problem
problem_of c = problem_with c (tree_of c.question)

-- (No atom or action has a number of a relation, or of a node, that is not there.)
unfoldable pub relation_at : Problem → ℕ → Relation
relation_at p r = get_or p.relations r (fixed [] zero)

unfoldable pub node_at : Problem → ℕ → Tree
node_at p v = get_or p.node_list v (leaf true zero [])

-- how many tuples a relation has, and how many values the free variables of a node have
unfoldable pub tuples_of : ℕ → Relation → ℕ
tuples_of n k = n ^ k.arity

unfoldable pub rows_of : ℕ → Tree → ℕ
rows_of n t = n ^ length (free t)

-- a node has an atom for each value of its free variables; a `forall` has one more place, z, as the last
unfoldable pub node_width : ℕ → Tree → ℕ
node_width n t = if is_forall t then rows_of n t * n else rows_of n t

-- ---- the atoms, "Numbered in this order": three of the phases; for each relation in the order of the numbers its tuples, its
-- not-tuples, for a function kind an atom for each first place still free, for an injective kind one for each second place still
-- free; for each node its own; for the `every` relation its tuples, its not-tuples and a mark for each tuple, which come last
pub data Atom : Type 0 where
  guess proof goal : Atom
  tuple not_tuple : (relation row : ℕ) → Atom
  free_domain free_range : (relation element : ℕ) → Atom
  holds_node : (node row : ℕ) → Atom
  marked : (relation row : ℕ) → Atom

-- how many tuples of a relation have their atoms before the nodes, and how many after them
unfoldable pub first_tuples : ℕ → Relation → ℕ
first_tuples n k = if is_universal k.kind then zero else tuples_of n k

unfoldable pub last_tuples : ℕ → Relation → ℕ
last_tuples n k = if is_universal k.kind then tuples_of n k else zero

unfoldable pub relation_blocks : ℕ → ℕ → Relation → List (Block Atom)
relation_blocks n r k =
    record { width = first_tuples n k; item = tuple r }
    ∷ record { width = first_tuples n k; item = not_tuple r }
    ∷ record { width = if is_function k.kind then n else zero; item = free_domain r }
    ∷ record { width = if is_injective k.kind then n else zero; item = free_range r }
    ∷ []

unfoldable pub relations_blocks : ℕ → List Relation → List (Block Atom)
relations_blocks n ks = flat_map (λ (bs : List (Block Atom)). bs) (map_from (relation_blocks n) zero ks)

unfoldable pub nodes_blocks : ℕ → List Tree → List (Block Atom)
nodes_blocks n ts = map_from (λ v t. record { width = node_width n t; item = holds_node v }) zero ts

unfoldable pub last_blocks : ℕ → ℕ → Relation → List (Block Atom)
last_blocks n r k =
    record { width = last_tuples n k; item = tuple r }
    ∷ record { width = last_tuples n k; item = not_tuple r }
    ∷ record { width = last_tuples n k; item = marked r }
    ∷ []

unfoldable pub lasts_blocks : ℕ → List Relation → List (Block Atom)
lasts_blocks n ks = flat_map (λ (bs : List (Block Atom)). bs) (map_from (last_blocks n) zero ks)

unfoldable pub atom_blocks : Problem → List (Block Atom)
atom_blocks p =
    record { width = 1; item = λ _. guess }
    ∷ record { width = 1; item = λ _. proof }
    ∷ record { width = 1; item = λ _. goal }
    ∷ (relations_blocks p.size p.relations ++ (nodes_blocks p.size p.node_list ++ lasts_blocks p.size p.relations))

unfoldable pub atoms : Problem → ℕ
atoms p = count_of (atom_blocks p)

unfoldable pub node_atoms : Problem → ℕ
node_atoms p = count_of (nodes_blocks p.size p.node_list)

-- the number of an atom: the atoms before its relation or node, and its place there. (The order stands here and in `atom_blocks`;
-- `laws`, `Numbers`, shows that these are one.)
unfoldable pub relation_start : Problem → ℕ → ℕ
relation_start p r = 3 + count_of (relations_blocks p.size (take r p.relations))

unfoldable pub node_start : Problem → ℕ → ℕ
node_start p v = relation_start p (length p.relations) + count_of (nodes_blocks p.size (take v p.node_list))

unfoldable pub last_start : Problem → ℕ → ℕ
last_start p r = node_start p (length p.node_list) + count_of (lasts_blocks p.size (take r p.relations))

unfoldable pub tuple_start : Problem → ℕ → ℕ
tuple_start p r = if is_universal (relation_at p r).kind then last_start p r else relation_start p r

unfoldable pub atom_number : Problem → Atom → ℕ
atom_number p guess = 0
atom_number p proof = 1
atom_number p goal = 2
atom_number p (tuple r row) = tuple_start p r + row
atom_number p (not_tuple r row) = tuple_start p r + tuples_of p.size (relation_at p r) + row
atom_number p (free_domain r x) = relation_start p r + 2 * tuples_of p.size (relation_at p r) + x
atom_number p (free_range r y) = relation_start p r + 2 * tuples_of p.size (relation_at p r) + p.size + y
atom_number p (holds_node v row) = node_start p v + row
atom_number p (marked r row) = last_start p r + 2 * tuples_of p.size (relation_at p r) + row

-- ---- "Initially true": the guess phase; of each tuple it or its not-tuple, by whether it holds while nothing is picked; every
-- free atom
unfoldable pub tuple_holds : Problem → ℕ → ℕ → Bool
tuple_holds p r row = holds p.source [] r (places_of p.size (relation_at p r).arity row)

unfoldable pub is_initial : Problem → Atom → Bool
is_initial p guess = true
is_initial p proof = false
is_initial p goal = false
is_initial p (tuple r row) = tuple_holds p r row
is_initial p (not_tuple r row) = not (tuple_holds p r row)
is_initial p (free_domain r x) = true
is_initial p (free_range r y) = true
is_initial p (holds_node v row) = false
is_initial p (marked r row) = false

-- A state says of each atom's number whether it holds; beyond the last atom nothing does.
abbrev pub State : Type 0
State = ℕ → Bool

unfoldable pub initial : Problem → State
initial p = let blocks = atom_blocks p in λ i. option (item_at blocks i) false (is_initial p)

-- ---- a state as 64-bit words: atom i is binary digit i mod 64 of word i div 64, and digits of no atom are 0
unfoldable pub words_for : ℕ → ℕ
words_for k = (k + 63) / 64

-- the k bits of a set of numbers from i on, as a number
unfoldable pub bits_from : (ℕ → Bool) → ℕ → ℕ → ℕ
bits_from s i zero = zero
bits_from s i (suc k) = (if s i then 1 else zero) + 2 * bits_from s (suc i) k

unfoldable pub state_words : Problem → State → Words
state_words p s = map (λ j. bits_from s (64 * j) 64) (below (words_for (atoms p)))
