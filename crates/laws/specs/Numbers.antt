-- The problem's atoms and actions, and their numbers: a number decodes to the atom or action whose number it is, and every number
-- below the count decodes. Where each relation's and each node's numbers start, and those of the `every` relation.
use Prim.Native.Nat.{ℕ, zero, suc, ◌+◌, ◌-◌, ◌*◌, ◌/◌, ◌%◌, ◌<◌, ◌≤◌}
use Rattle.std.specs.Prelude.{◌≡◌, ◌⊎◌, Bool, false, not, get_or, take, if◌then◌else◌}
use Rattle.std.proofs.Math.Path.{refl, sym, ap, ap₂, subst}
use Rattle.std.proofs.Common.{◌∙◌, inl, inr, add-zero, take_all}
use Rattle.std.proofs.Math.Logic.{⊎_elim}
use Rattle.std.proofs.Math.Bool.{true}
use Rattle.std.proofs.Math.Option.{Option, none, some}
use mathlib.Core.List.{List, [], ◌∷◌, ◌++◌, Memᴰ}
use native.Mathlib.Omega.{arith}
use Rattle.std.proofs.Math.Nat.{mul-zero, div-add-mod', div-one, mul-one}
use Rattle.std.proofs.Math.Arith.{digits_lt, digits_div, digits_mod}
use Rattle.std.proofs.Math.Dec.{T}
use Rattle.std.proofs.Math.ListN.{length}
use Rattle.definitions.specs.Lists.{option, is_some, flat_map, map_from, rank}
use Rattle.definitions.specs.Sheet.Relations.{Kind, static, plain, Fun, PFun, Inj, PInj, universal, is_chosen, is_universal, is_function, is_injective, Relation, fixed}
use Rattle.definitions.specs.Problem.Tree.{Tree, Trees, leaf, forall_node, exists_node, and_node, or_node, how_many, node_sort}
use Rattle.definitions.specs.Problem.Atoms.{Block, item_at, count_of, Problem, relation_at, node_at, tuples_of, rows_of, node_width, Atom, guess, proof, goal, tuple}
use Rattle.definitions.specs.Problem.Atoms.{not_tuple, free_domain, free_range, holds_node, marked, first_tuples, last_tuples, relation_blocks, relations_blocks, nodes_blocks, last_blocks, lasts_blocks, atom_blocks, atoms}
use Rattle.definitions.specs.Problem.Atoms.{node_atoms, relation_start, node_start, last_start, tuple_start, atom_number}
use Rattle.definitions.specs.Problem.Actions.{Action, set, begin_proof, prove_and, prove_or, prove_exists, prove_forall, prove_goal, round_end, mark_in, mark_out, choices, prove_node, set_rows, sets_of, set_blocks, proofs_of, proof_blocks, finish, mark_blocks, action_blocks, actions, action_at, set_start, proof_start, proof_number, marks_before, range_at, action_number}
use Rattle.laws.specs.Booleans.{T_of, T_true}
use Rattle.laws.specs.Lists.{some_eq, get_or_mem}
use Rattle.laws.specs.Repeats.{Once}
use Rattle.laws.specs.Members.{rank_lt, rank_select, select_rank}
use Rattle.laws.specs.SetRows.{row_below, set_row_lem, once_sets}
use Rattle.laws.specs.Blocks.{count_nil, count_cons, count_append, item_here, item_past, item_cases, item_one, item_lt, item_some, item_none, item_left, item_right, item_append, groups, next_start, at_start, of_start, one_each}

pub inj_fun : (k : Kind) → T (is_injective k) → T (is_function k)
unfolding is_injective is_function
inj_fun static t = t
inj_fun plain t = t
inj_fun Fun t = tt
inj_fun PFun t = tt
inj_fun Inj t = tt
inj_fun PInj t = tt
inj_fun universal t = t

-- a function kind is not that of an `every` line
pub fun_early : (k : Kind) → T (is_function k) → is_universal k ≡ false
unfolding is_function is_universal
fun_early static t = refl
fun_early plain t = refl
fun_early Fun t = refl
fun_early PFun t = refl
fun_early Inj t = refl
fun_early PInj t = refl
fun_early universal t = absurd t

-- nor is a chosen one
pub chosen_early : (k : Kind) → T (is_chosen k) → T (is_universal k) → ⊥
unfolding is_universal is_chosen
chosen_early static c u = u
chosen_early plain c u = u
chosen_early Fun c u = u
chosen_early PFun c u = u
chosen_early Inj c u = u
chosen_early PInj c u = u
chosen_early universal c u = c

pub first_width : (n : ℕ) (k : Relation) → is_universal k.kind ≡ false → first_tuples n k ≡ tuples_of n k
unfolding first_tuples
first_width n k e = rw e refl

pub last_width_lem : (n : ℕ) (k : Relation) → is_universal k.kind ≡ true → last_tuples n k ≡ tuples_of n k
unfolding last_tuples
last_width_lem n k e = rw e refl

-- a row among the first tuples is one of a relation that is not of an `every` line, one among the last of that
in_first : (n : ℕ) (k : Relation) (x : ℕ) → x < first_tuples n k → (is_universal k.kind ≡ false) × (x < tuples_of n k)
unfolding first_tuples
in_first n k x h = by_test (is_universal k.kind) h
  where
    by_test : (b : Bool) → x < (if b then zero else tuples_of n k) → (b ≡ false) × (x < tuples_of n k)
    by_test true h = absurd (omega arith)
    by_test false h = (refl, h)

in_last : (n : ℕ) (k : Relation) (x : ℕ) → x < last_tuples n k → (is_universal k.kind ≡ true) × (x < tuples_of n k)
unfolding last_tuples
in_last n k x h = by_test (is_universal k.kind) h
  where
    by_test : (b : Bool) → x < (if b then tuples_of n k else zero) → (b ≡ true) × (x < tuples_of n k)
    by_test true h = (refl, h)
    by_test false h = absurd (omega arith)

-- what `relation_at` and `node_at` give past the end
abbrev pub no_relation : Relation
no_relation = fixed [] zero

abbrev pub no_node : Tree
no_node = leaf true zero []

-- ---- the problem's atoms
unfoldable pub IsAtom : Problem → Atom → Type 0
IsAtom p guess = Unit {0}
IsAtom p proof = Unit {0}
IsAtom p goal = Unit {0}
IsAtom p (tuple r row) = (r < length p.relations) × (row < tuples_of p.size (relation_at p r))
IsAtom p (not_tuple r row) = (r < length p.relations) × (row < tuples_of p.size (relation_at p r))
IsAtom p (free_domain r x) = (r < length p.relations) × T (is_function (relation_at p r).kind) × (x < p.size)
IsAtom p (free_range r y) = (r < length p.relations) × T (is_injective (relation_at p r).kind) × (y < p.size)
IsAtom p (holds_node v row) = (v < length p.node_list) × (row < node_width p.size (node_at p v))
IsAtom p (marked r row) = (r < length p.relations) × T (is_universal (relation_at p r).kind) × (row < tuples_of p.size (relation_at p r))

-- ---- and its actions
unfoldable pub IsAction : Problem → Action → Type 0
IsAction p (set r row) = (r < length p.relations) × T (is_chosen (relation_at p r).kind) × Memᴰ row (set_rows p.size p.range (relation_at p r))
IsAction p begin_proof = Unit {0}
IsAction p (prove_and v row) = (v < length p.node_list) × (row < rows_of p.size (node_at p v)) × ((ts : Trees) × (node_at p v ≡ and_node ts))
IsAction p (prove_or v row i) = (v < length p.node_list) × (row < rows_of p.size (node_at p v)) × ((ts : Trees) × (node_at p v ≡ or_node ts) × (i < how_many ts))
IsAction p (prove_exists v row x) = (v < length p.node_list) × (row < rows_of p.size (node_at p v)) × ((d : ℕ) × (s : ℕ) × (t : Tree) × (node_at p v ≡ exists_node d s t) × Memᴰ x (p.range s))
IsAction p (prove_forall v row z) = (v < length p.node_list) × (row < rows_of p.size (node_at p v)) × ((d : ℕ) × (s : ℕ) × (t : Tree) × (node_at p v ≡ forall_node d s t) × Memᴰ z (p.range s))
IsAction p prove_goal = T (not (is_some p.source.question.every))
IsAction p round_end = T (is_some p.source.question.every)
IsAction p (mark_in r row) = (r < length p.relations) × T (is_universal (relation_at p r).kind) × (row < tuples_of p.size (relation_at p r))
IsAction p (mark_out r row) = (r < length p.relations) × T (is_universal (relation_at p r).kind) × (row < tuples_of p.size (relation_at p r))

-- ---- the lists of blocks are of one form
abbrev node_block : ℕ → ℕ → Tree → Block Atom
node_block n v t = record { width = node_width n t; item = holds_node v }

abbrev set_block : ℕ → (ℕ → List ℕ) → ℕ → Relation → Block Action
set_block n R r k = record { width = sets_of n R k; item = λ i. set r (get_or (set_rows n R k) i 0) }

abbrev proof_block : ℕ → (ℕ → List ℕ) → ℕ → Tree → Block Action
proof_block n R v t = record { width = proofs_of n R t; item = λ i. prove_node R t v (i / choices R t) (i % choices R t) }

relations_form : (n : ℕ) (ks : List Relation) → relations_blocks n ks ≡ groups (relation_blocks n) 0 ks
unfolding relations_blocks groups
relations_form n ks = refl

abbrev mark_block : (ℕ → ℕ → Action) → ℕ → ℕ → Relation → Block Action
mark_block mark n r k = record { width = last_tuples n k; item = mark r }

lasts_form : (n : ℕ) (ks : List Relation) → lasts_blocks n ks ≡ groups (last_blocks n) 0 ks
unfolding lasts_blocks groups
lasts_form n ks = refl

marks_form : (mark : ℕ → ℕ → Action) (n : ℕ) (ks : List Relation) → mark_blocks mark n ks ≡ groups (λ r k. mark_block mark n r k ∷ []) 0 ks
unfolding mark_blocks
marks_form mark n ks = one_each (mark_block mark n) 0 ks

nodes_form : (n : ℕ) (ts : List Tree) → nodes_blocks n ts ≡ groups (λ v t. node_block n v t ∷ []) 0 ts
unfolding nodes_blocks
nodes_form n ts = one_each (node_block n) 0 ts

sets_form : (n : ℕ) (R : ℕ → List ℕ) (ks : List Relation) → set_blocks n R ks ≡ groups (λ r k. set_block n R r k ∷ []) 0 ks
unfolding set_blocks
sets_form n R ks = one_each (set_block n R) 0 ks

proofs_form : (n : ℕ) (R : ℕ → List ℕ) (ts : List Tree) → proof_blocks n R ts ≡ groups (λ v t. proof_block n R v t ∷ []) 0 ts
unfolding proof_blocks
proofs_form n R ts = one_each (proof_block n R) 0 ts

-- as many mark-ins as mark-outs
marks_same : (mark mark' : ℕ → ℕ → Action) (n r : ℕ) (ks : List Relation) → count_of (map_from (mark_block mark n) r ks) ≡ count_of (map_from (mark_block mark' n) r ks)
unfolding count_of map_from
marks_same mark mark' n r [] = refl
marks_same mark mark' n r (k ∷ ks) = ap (λ (x : ℕ). last_tuples n k + x) (marks_same mark mark' n (suc r) ks)

one_count : {A : Type 0} (b : Block A) → count_of (b ∷ []) ≡ b.width
one_count {A} b = let e = count_cons b [] in let z = count_nil A in omega arith

no_blocks : {A K : Type 0} (f : ℕ → K → List (Block A)) → count_of (groups f 0 []) ≡ 0
unfolding groups flat_map map_from
no_blocks {A} f = count_nil A

-- how many atoms a relation has
unfoldable pub relation_width : ℕ → Relation → ℕ
relation_width n k = first_tuples n k + (first_tuples n k + ((if is_function k.kind then n else zero) + (if is_injective k.kind then n else zero)))

pub relation_width_lem : (n r : ℕ) (k : Relation) → count_of (relation_blocks n r k) ≡ relation_width n k
unfolding relation_blocks relation_width count_of
relation_width_lem n r k = omega arith

-- and how many behind the nodes
unfoldable pub last_width : ℕ → Relation → ℕ
last_width n k = last_tuples n k + (last_tuples n k + last_tuples n k)

pub last_blocks_width : (n r : ℕ) (k : Relation) → count_of (last_blocks n r k) ≡ last_width n k
unfolding last_blocks last_width count_of
last_blocks_width n r k = omega arith

-- ---- the four blocks of a relation
module _ (n r : ℕ) (k : Relation) where
  abbrev b₁ : Block Atom
  b₁ = record { width = first_tuples n k; item = tuple r }

  abbrev b₂ : Block Atom
  b₂ = record { width = first_tuples n k; item = not_tuple r }

  abbrev b₃ : Block Atom
  b₃ = record { width = if is_function k.kind then n else zero; item = free_domain r }

  abbrev b₄ : Block Atom
  b₄ = record { width = if is_injective k.kind then n else zero; item = free_range r }

  in_tuples : (i : ℕ) → i < first_tuples n k → item_at (relation_blocks n r k) i ≡ some (tuple r i)
  unfolding relation_blocks
  in_tuples i h = item_here b₁ (b₂ ∷ b₃ ∷ b₄ ∷ []) i h

  in_nots : (i : ℕ) → i < first_tuples n k → item_at (relation_blocks n r k) (first_tuples n k + i) ≡ some (not_tuple r i)
  unfolding relation_blocks
  in_nots i h = item_past b₁ (b₂ ∷ b₃ ∷ b₄ ∷ []) i ∙ item_here b₂ (b₃ ∷ b₄ ∷ []) i h

  in_domain : (i : ℕ) → T (is_function k.kind) → i < n → item_at (relation_blocks n r k) (first_tuples n k + (first_tuples n k + i)) ≡ some (free_domain r i)
  unfolding relation_blocks
  in_domain i f h =
      let e : is_function k.kind ≡ true = T_true (is_function k.kind) f in
      item_past b₁ (b₂ ∷ b₃ ∷ b₄ ∷ []) (first_tuples n k + i) ∙ item_past b₂ (b₃ ∷ b₄ ∷ []) i ∙ item_here b₃ (b₄ ∷ []) i (rw e h)

  in_range : (i : ℕ) → T (is_injective k.kind) → i < n → item_at (relation_blocks n r k) (first_tuples n k + (first_tuples n k + (n + i))) ≡ some (free_range r i)
  unfolding relation_blocks
  in_range i f h =
      let e : is_function k.kind ≡ true = T_true (is_function k.kind) (inj_fun k.kind f) in
      let g : is_injective k.kind ≡ true = T_true (is_injective k.kind) f in
      item_past b₁ (b₂ ∷ b₃ ∷ b₄ ∷ []) (first_tuples n k + (n + i)) ∙ item_past b₂ (b₃ ∷ b₄ ∷ []) (n + i)
      ∙ ap (λ (w : ℕ). item_at (b₃ ∷ b₄ ∷ []) (w + i)) (rw e refl) ∙ item_past b₃ (b₄ ∷ []) i ∙ item_here b₄ [] i (rw g h)

  -- every number that decodes there is one of these four
  pub data In (a : Atom) (i : ℕ) : Type 0 where
    at_tuple : (x : ℕ) → x < first_tuples n k → a ≡ tuple r x → i ≡ x → In a i
    at_not : (x : ℕ) → x < first_tuples n k → a ≡ not_tuple r x → i ≡ first_tuples n k + x → In a i
    at_domain : (x : ℕ) → T (is_function k.kind) → x < n → a ≡ free_domain r x → i ≡ first_tuples n k + (first_tuples n k + x) → In a i
    at_range : (x : ℕ) → T (is_injective k.kind) → x < n → a ≡ free_range r x → i ≡ first_tuples n k + (first_tuples n k + (n + x)) → In a i

  kind_part : (b : Bool) (x : ℕ) → x < (if b then n else zero) → T b × (x < n)
  kind_part true x h = (tt, h)
  kind_part false x h = absurd (omega arith)

  kind_width : T (is_injective k.kind) → b₃.width ≡ n
  kind_width f = let e : is_function k.kind ≡ true = T_true (is_function k.kind) (inj_fun k.kind f) in rw e refl

  four : (a : Atom) (i : ℕ) → item_at (relation_blocks n r k) i ≡ some a → In a i
  unfolding relation_blocks
  four a i e = ⊎_elim
      (λ q. at_tuple i q.0 q.1 refl)
      (λ q. ⊎_elim
      (λ s. at_not (i - first_tuples n k) s.0 s.1 (omega (arith, q.0)))
      (λ s. ⊎_elim
      (λ u. let f = kind_part (is_function k.kind) (i - first_tuples n k - first_tuples n k) u.0 in at_domain (i - first_tuples n k - first_tuples n k) f.0 f.1 u.1 (omega (arith, q.0, s.0)))
      (λ u. let z = item_one b₄ (i - first_tuples n k - first_tuples n k - b₃.width) a u.1 in
      let f = kind_part (is_injective k.kind) (i - first_tuples n k - first_tuples n k - b₃.width) z.0 in
      let w = kind_width f.0 in
      at_range (i - first_tuples n k - first_tuples n k - b₃.width) f.0 f.1 z.1 (omega (arith, q.0, s.0, u.0, w)))
      (item_cases b₃ (b₄ ∷ []) (i - first_tuples n k - first_tuples n k) a s.1))
      (item_cases b₂ (b₃ ∷ b₄ ∷ []) (i - first_tuples n k) a q.1))
      (item_cases b₁ (b₂ ∷ b₃ ∷ b₄ ∷ []) i a e)

-- ---- the three blocks of a relation behind the nodes
module _ (n r : ℕ) (k : Relation) where
  abbrev c₁ : Block Atom
  c₁ = record { width = last_tuples n k; item = tuple r }

  abbrev c₂ : Block Atom
  c₂ = record { width = last_tuples n k; item = not_tuple r }

  abbrev c₃ : Block Atom
  c₃ = record { width = last_tuples n k; item = marked r }

  last_tuples_lem : (i : ℕ) → i < last_tuples n k → item_at (last_blocks n r k) i ≡ some (tuple r i)
  unfolding last_blocks
  last_tuples_lem i h = item_here c₁ (c₂ ∷ c₃ ∷ []) i h

  last_nots : (i : ℕ) → i < last_tuples n k → item_at (last_blocks n r k) (last_tuples n k + i) ≡ some (not_tuple r i)
  unfolding last_blocks
  last_nots i h = item_past c₁ (c₂ ∷ c₃ ∷ []) i ∙ item_here c₂ (c₃ ∷ []) i h

  last_marks : (i : ℕ) → i < last_tuples n k → item_at (last_blocks n r k) (last_tuples n k + (last_tuples n k + i)) ≡ some (marked r i)
  unfolding last_blocks
  last_marks i h = item_past c₁ (c₂ ∷ c₃ ∷ []) (last_tuples n k + i) ∙ item_past c₂ (c₃ ∷ []) i ∙ item_here c₃ [] i h

  pub data InLast (a : Atom) (i : ℕ) : Type 0 where
    last_tuple : (x : ℕ) → x < last_tuples n k → a ≡ tuple r x → i ≡ x → InLast a i
    last_not : (x : ℕ) → x < last_tuples n k → a ≡ not_tuple r x → i ≡ last_tuples n k + x → InLast a i
    last_mark : (x : ℕ) → x < last_tuples n k → a ≡ marked r x → i ≡ last_tuples n k + (last_tuples n k + x) → InLast a i

  three : (a : Atom) (i : ℕ) → item_at (last_blocks n r k) i ≡ some a → InLast a i
  unfolding last_blocks
  three a i e = ⊎_elim
      (λ q. last_tuple i q.0 q.1 refl)
      (λ q. ⊎_elim
      (λ s. last_not (i - last_tuples n k) s.0 s.1 (omega (arith, q.0)))
      (λ s. let z = item_one c₃ (i - last_tuples n k - last_tuples n k) a s.1 in last_mark (i - last_tuples n k - last_tuples n k) z.0 z.1 (omega (arith, q.0, s.0)))
      (item_cases c₂ (c₃ ∷ []) (i - last_tuples n k) a q.1))
      (item_cases c₁ (c₂ ∷ c₃ ∷ []) i a e)

module _ (p : Problem) where
  -- all blocks of relations, nodes, sets and proofs, up to some relation or node
  abbrev R : List Relation → List (Block Atom)
  R ks = groups (relation_blocks p.size) 0 ks

  abbrev N : List Tree → List (Block Atom)
  N ts = groups (λ v t. node_block p.size v t ∷ []) 0 ts

  abbrev L : List Relation → List (Block Atom)
  L ks = groups (last_blocks p.size) 0 ks

  abbrev M : (ℕ → ℕ → Action) → List Relation → List (Block Action)
  M mark ks = groups (λ r k. mark_block mark p.size r k ∷ []) 0 ks

  abbrev S : List Relation → List (Block Action)
  S ks = groups (λ r k. set_block p.size p.range r k ∷ []) 0 ks

  abbrev Q : List Tree → List (Block Action)
  Q ts = groups (λ v t. proof_block p.size p.range v t ∷ []) 0 ts

  all_relations : take (length p.relations) p.relations ≡ p.relations
  all_relations = take_all (length p.relations) p.relations (omega arith)

  all_nodes : take (length p.node_list) p.node_list ≡ p.node_list
  all_nodes = take_all (length p.node_list) p.node_list (omega arith)

  -- ---- where atoms start
  relation_start_lem : (r : ℕ) → relation_start p r ≡ 3 + count_of (R (take r p.relations))
  unfolding relation_start
  relation_start_lem r = ap (λ (bs : List (Block Atom)). 3 + count_of bs) (relations_form p.size (take r p.relations))

  relation_end : relation_start p (length p.relations) ≡ 3 + count_of (R p.relations)
  relation_end = relation_start_lem (length p.relations) ∙ ap (λ (ks : List Relation). 3 + count_of (R ks)) all_relations

  node_start_lem : (v : ℕ) → node_start p v ≡ 3 + count_of (R p.relations) + count_of (N (take v p.node_list))
  unfolding node_start
  node_start_lem v = ap₂ (λ (x : ℕ) (bs : List (Block Atom)). x + count_of bs) relation_end (nodes_form p.size (take v p.node_list))

  node_end : node_start p (length p.node_list) ≡ 3 + count_of (R p.relations) + count_of (N p.node_list)
  node_end = node_start_lem (length p.node_list) ∙ ap (λ (ts : List Tree). 3 + count_of (R p.relations) + count_of (N ts)) all_nodes

  last_start_lem : (r : ℕ) → last_start p r ≡ 3 + count_of (R p.relations) + count_of (N p.node_list) + count_of (L (take r p.relations))
  unfolding last_start
  last_start_lem r = ap₂ (λ (x : ℕ) (bs : List (Block Atom)). x + count_of bs) node_end (lasts_form p.size (take r p.relations))

  last_end : last_start p (length p.relations) ≡ 3 + count_of (R p.relations) + count_of (N p.node_list) + count_of (L p.relations)
  last_end = last_start_lem (length p.relations) ∙ ap (λ (ks : List Relation). 3 + count_of (R p.relations) + count_of (N p.node_list) + count_of (L ks)) all_relations

  pub relation_first : relation_start p 0 ≡ 3
  relation_first = let a = relation_start_lem 0 in let b = no_blocks (relation_blocks p.size) in omega arith

  pub relation_next : (r : ℕ) → r < length p.relations → relation_start p (suc r) ≡ relation_start p r + relation_width p.size (relation_at p r)
  unfolding relation_at
  relation_next r l =
      let a = relation_start_lem r in
      let b = relation_start_lem (suc r) in
      let c = next_start (relation_blocks p.size) p.relations no_relation r l in
      let d = relation_width_lem p.size r (get_or p.relations r no_relation) in
      omega arith

  pub node_first : node_start p 0 ≡ relation_start p (length p.relations)
  node_first = let a = node_start_lem 0 in let b = no_blocks (λ v t. node_block p.size v t ∷ []) in let c = relation_end in omega arith

  pub node_next : (v : ℕ) → v < length p.node_list → node_start p (suc v) ≡ node_start p v + node_width p.size (node_at p v)
  unfolding node_at
  node_next v l =
      let a = node_start_lem v in
      let b = node_start_lem (suc v) in
      let c = next_start (λ v t. node_block p.size v t ∷ []) p.node_list no_node v l in
      let d = one_count (node_block p.size v (get_or p.node_list v no_node)) in
      omega arith

  pub last_first : last_start p 0 ≡ node_start p (length p.node_list)
  last_first = let a = last_start_lem 0 in let b = no_blocks (last_blocks p.size) in let c = node_end in omega arith

  pub last_next : (r : ℕ) → r < length p.relations → last_start p (suc r) ≡ last_start p r + last_width p.size (relation_at p r)
  unfolding relation_at
  last_next r l =
      let a = last_start_lem r in
      let b = last_start_lem (suc r) in
      let c = next_start (last_blocks p.size) p.relations no_relation r l in
      let d = last_blocks_width p.size r (get_or p.relations r no_relation) in
      omega arith

  -- ---- the atoms' blocks, and their end
  abbrev phases : List (Block Atom)
  phases = record { width = 1; item = λ _. guess } ∷ record { width = 1; item = λ _. proof } ∷ record { width = 1; item = λ _. goal } ∷ []

  atoms_form : atom_blocks p ≡ phases ++ (R p.relations ++ (N p.node_list ++ L p.relations))
  unfolding atom_blocks
  atoms_form =
      ap₂ (λ (bs cs : List (Block Atom)). phases ++ (bs ++ cs)) (relations_form p.size p.relations)
      (ap₂ (λ (bs cs : List (Block Atom)). bs ++ cs) (nodes_form p.size p.node_list) (lasts_form p.size p.relations))

  phases_count : count_of phases ≡ 3
  unfolding count_of
  phases_count = refl

  pub atoms_end : last_start p (length p.relations) ≡ atoms p
  unfolding atoms
  atoms_end =
      let a = last_end in
      let b = ap count_of atoms_form in
      let c = count_append phases (R p.relations ++ (N p.node_list ++ L p.relations)) in
      let d = count_append (R p.relations) (N p.node_list ++ L p.relations) in
      let f = count_append (N p.node_list) (L p.relations) in
      let e = phases_count in
      omega arith

  pub node_atoms_lem : node_start p 0 + node_atoms p ≡ node_start p (length p.node_list)
  unfolding node_atoms
  node_atoms_lem =
      let a = node_end in
      let b = node_first in
      let c = relation_end in
      let e = ap count_of (nodes_form p.size p.node_list) in
      omega arith

  -- a start is at most the end
  relations_le : (d r : ℕ) → r + d ≡ length p.relations → relation_start p r ≤ relation_start p (length p.relations)
  relations_le zero r e = let q : r ≡ length p.relations = omega arith in rw q (omega arith)
  relations_le (suc d) r e = let n = relation_next r (omega arith) in let q = relations_le d (suc r) (omega arith) in omega arith

  lasts_le : (d r : ℕ) → r + d ≡ length p.relations → last_start p r ≤ atoms p
  lasts_le zero r e = let q : r ≡ length p.relations = omega arith in rw q (let z = atoms_end in omega arith)
  lasts_le (suc d) r e = let n = last_next r (omega arith) in let q = lasts_le d (suc r) (omega arith) in omega arith

  pub last_le : (r : ℕ) → r ≤ length p.relations → last_start p r ≤ atoms p
  last_le r l = lasts_le (length p.relations - r) r (omega arith)

  nodes_le : (d v : ℕ) → v + d ≡ length p.node_list → node_start p v ≤ node_start p (length p.node_list)
  nodes_le zero v e = let q : v ≡ length p.node_list = omega arith in rw q (omega arith)
  nodes_le (suc d) v e = let n = node_next v (omega arith) in let q = nodes_le d (suc v) (omega arith) in omega arith

  pub relation_le : (r : ℕ) → r ≤ length p.relations → relation_start p r ≤ node_start p 0
  relation_le r l = let q = relations_le (length p.relations - r) r (omega arith) in let f = node_first in omega arith

  pub node_le : (v : ℕ) → v ≤ length p.node_list → node_start p v ≤ atoms p
  node_le v l = let a = nodes_le (length p.node_list - v) v (omega arith) in let b = last_first in let c = last_le 0 (omega arith) in omega arith

  pub node_below : (v row : ℕ) → v < length p.node_list → row < node_width p.size (node_at p v) → node_start p v + row < atoms p
  node_below v row h b = let e = node_next v h in let q = node_le (suc v) (omega arith) in omega arith

  pub three_atoms : 3 ≤ atoms p
  three_atoms = let a = relation_first in let q = relation_le 0 (omega arith) in let z = node_le 0 (omega arith) in omega arith

  -- a relation's tuples start with it, or behind the nodes
  pub early_start : (r : ℕ) → is_universal (relation_at p r).kind ≡ false → tuple_start p r ≡ relation_start p r
  unfolding tuple_start
  early_start r e = rw e refl

  pub late_start : (r : ℕ) → is_universal (relation_at p r).kind ≡ true → tuple_start p r ≡ last_start p r
  unfolding tuple_start
  late_start r e = rw e refl

  -- ---- a number of a relation or a node decodes to its atom
  relation_atom : (r i : ℕ) (a : Atom) → r < length p.relations → item_at (relation_blocks p.size r (relation_at p r)) i ≡ some a → item_at (atom_blocks p) (relation_start p r + i) ≡ some a
  unfolding relation_at
  relation_atom r i a l e =
      let w : relation_start p r + i ≡ count_of phases + (count_of (R (take r p.relations)) + i) = let s = relation_start_lem r in let f = phases_count in omega arith in
      ap₂ item_at atoms_form w ∙ item_right phases (R p.relations ++ (N p.node_list ++ L p.relations)) (count_of (R (take r p.relations)) + i)
      ∙ item_left (R p.relations) (N p.node_list ++ L p.relations) (count_of (R (take r p.relations)) + i) a (at_start (relation_blocks p.size) p.relations no_relation r i a l e)

  node_atom : (v row : ℕ) → v < length p.node_list → row < node_width p.size (node_at p v) → item_at (atom_blocks p) (node_start p v + row) ≡ some (holds_node v row)
  unfolding node_at
  node_atom v row l h =
      let w : node_start p v + row ≡ count_of phases + (count_of (R p.relations) + (count_of (N (take v p.node_list)) + row)) = let s = node_start_lem v in let f = phases_count in omega arith in
      ap₂ item_at atoms_form w ∙ item_right phases (R p.relations ++ (N p.node_list ++ L p.relations)) (count_of (R p.relations) + (count_of (N (take v p.node_list)) + row))
      ∙ item_right (R p.relations) (N p.node_list ++ L p.relations) (count_of (N (take v p.node_list)) + row)
      ∙ item_left (N p.node_list) (L p.relations) (count_of (N (take v p.node_list)) + row) (holds_node v row)
      (at_start (λ v t. node_block p.size v t ∷ []) p.node_list no_node v row (holds_node v row) l (item_here (node_block p.size v (get_or p.node_list v no_node)) [] row h))

  last_atom : (r i : ℕ) (a : Atom) → r < length p.relations → item_at (last_blocks p.size r (relation_at p r)) i ≡ some a → item_at (atom_blocks p) (last_start p r + i) ≡ some a
  unfolding relation_at
  last_atom r i a l e =
      let w : last_start p r + i ≡ count_of phases + (count_of (R p.relations) + (count_of (N p.node_list) + (count_of (L (take r p.relations)) + i))) = let s = last_start_lem r in let f = phases_count in omega arith in
      ap₂ item_at atoms_form w ∙ item_right phases (R p.relations ++ (N p.node_list ++ L p.relations)) (count_of (R p.relations) + (count_of (N p.node_list) + (count_of (L (take r p.relations)) + i)))
      ∙ item_right (R p.relations) (N p.node_list ++ L p.relations) (count_of (N p.node_list) + (count_of (L (take r p.relations)) + i))
      ∙ item_right (N p.node_list) (L p.relations) (count_of (L (take r p.relations)) + i)
      ∙ at_start (last_blocks p.size) p.relations no_relation r i a l e

  tuple_atom : (r row : ℕ) → r < length p.relations → row < tuples_of p.size (relation_at p r) → (b : Bool) → is_universal (relation_at p r).kind ≡ b → item_at (atom_blocks p) (tuple_start p r + row) ≡ some (tuple r row)
  tuple_atom r row l h true e =
      let w = last_width_lem p.size (relation_at p r) e in
      ap (λ (x : ℕ). item_at (atom_blocks p) (x + row)) (late_start r e) ∙ last_atom r row (tuple r row) l (last_tuples_lem p.size r (relation_at p r) row (omega arith))
  tuple_atom r row l h false e =
      let w = first_width p.size (relation_at p r) e in
      ap (λ (x : ℕ). item_at (atom_blocks p) (x + row)) (early_start r e) ∙ relation_atom r row (tuple r row) l (in_tuples p.size r (relation_at p r) row (omega arith))

  not_atom : (r row : ℕ) → r < length p.relations → row < tuples_of p.size (relation_at p r) → (b : Bool) → is_universal (relation_at p r).kind ≡ b → item_at (atom_blocks p) (tuple_start p r + tuples_of p.size (relation_at p r) + row) ≡ some (not_tuple r row)
  not_atom r row l h true e =
      let w = last_width_lem p.size (relation_at p r) e in
      let s = late_start r e in
      let q : tuple_start p r + tuples_of p.size (relation_at p r) + row ≡ last_start p r + (last_tuples p.size (relation_at p r) + row) = omega arith in
      ap (item_at (atom_blocks p)) q ∙ last_atom r (last_tuples p.size (relation_at p r) + row) (not_tuple r row) l (last_nots p.size r (relation_at p r) row (omega arith))
  not_atom r row l h false e =
      let w = first_width p.size (relation_at p r) e in
      let s = early_start r e in
      let q : tuple_start p r + tuples_of p.size (relation_at p r) + row ≡ relation_start p r + (first_tuples p.size (relation_at p r) + row) = omega arith in
      ap (item_at (atom_blocks p)) q ∙ relation_atom r (first_tuples p.size (relation_at p r) + row) (not_tuple r row) l (in_nots p.size r (relation_at p r) row (omega arith))

  -- an atom's number decodes to it
  pub atom_at : (a : Atom) → IsAtom p a → item_at (atom_blocks p) (atom_number p a) ≡ some a
  unfolding IsAtom atom_number atom_blocks
  atom_at guess v = item_here (record { width = 1; item = λ _. guess }) _ 0 (omega arith)
  atom_at proof v = item_past (record { width = 1; item = λ _. guess }) _ 0 ∙ item_here (record { width = 1; item = λ _. proof }) _ 0 (omega arith)
  atom_at goal v = item_past (record { width = 1; item = λ _. guess }) _ 1 ∙ item_past (record { width = 1; item = λ _. proof }) _ 0 ∙ item_here (record { width = 1; item = λ _. goal }) _ 0 (omega arith)
  atom_at (tuple r row) v = tuple_atom r row v.0 v.1 (is_universal (relation_at p r).kind) refl
  atom_at (not_tuple r row) v = not_atom r row v.0 v.1 (is_universal (relation_at p r).kind) refl
  atom_at (free_domain r x) v =
      let T : ℕ = first_tuples p.size (relation_at p r) in
      let w = first_width p.size (relation_at p r) (fun_early (relation_at p r).kind v.1) in
      let e : relation_start p r + 2 * tuples_of p.size (relation_at p r) + x ≡ relation_start p r + (T + (T + x)) = omega arith in
      ap (item_at (atom_blocks p)) e ∙ relation_atom r (T + (T + x)) (free_domain r x) v.0 (in_domain p.size r (relation_at p r) x v.1 v.2)
  atom_at (free_range r y) v =
      let T : ℕ = first_tuples p.size (relation_at p r) in
      let w = first_width p.size (relation_at p r) (fun_early (relation_at p r).kind (inj_fun (relation_at p r).kind v.1)) in
      let e : relation_start p r + 2 * tuples_of p.size (relation_at p r) + p.size + y ≡ relation_start p r + (T + (T + (p.size + y))) = omega arith in
      ap (item_at (atom_blocks p)) e ∙ relation_atom r (T + (T + (p.size + y))) (free_range r y) v.0 (in_range p.size r (relation_at p r) y v.1 v.2)
  atom_at (holds_node v row) h = node_atom v row h.0 h.1
  atom_at (marked r row) v =
      let T : ℕ = last_tuples p.size (relation_at p r) in
      let w = last_width_lem p.size (relation_at p r) (T_true (is_universal (relation_at p r).kind) v.1) in
      let e : last_start p r + 2 * tuples_of p.size (relation_at p r) + row ≡ last_start p r + (T + (T + row)) = omega arith in
      ap (item_at (atom_blocks p)) e ∙ last_atom r (T + (T + row)) (marked r row) v.0 (last_marks p.size r (relation_at p r) row (omega (arith, v.2)))

  -- so numbers tell the problem's atoms apart, and are below the count
  pub atom_injective : (a b : Atom) → IsAtom p a → IsAtom p b → atom_number p a ≡ atom_number p b → a ≡ b
  atom_injective a b v w e = some_eq (sym (atom_at a v) ∙ ap (item_at (atom_blocks p)) e ∙ atom_at b w)

  pub atom_below : (a : Atom) → IsAtom p a → atom_number p a < atoms p
  unfolding atoms
  atom_below a v = item_lt (atom_blocks p) (atom_number p a) a (atom_at a v)

  pub tuple_below : (r row : ℕ) → r < length p.relations → row < tuples_of p.size (relation_at p r) → tuple_start p r + row < atoms p
  unfolding IsAtom atom_number
  tuple_below r row h b = atom_below (tuple r row) (h, b)

  -- what decodes is an atom of the problem, and the number is its number
  in_relation : (r i : ℕ) (a : Atom) → r < length p.relations → In p.size r (relation_at p r) a i → IsAtom p a × (atom_number p a ≡ relation_start p r + i)
  unfolding IsAtom atom_number
  in_relation r i a l (at_tuple x h e q) =
      let (u, b) = in_first p.size (relation_at p r) x h in
      let s = early_start r u in
      (subst (IsAtom p) (sym e) (l, b), ap (atom_number p) e ∙ omega arith)
  in_relation r i a l (at_not x h e q) =
      let (u, b) = in_first p.size (relation_at p r) x h in
      let s = early_start r u in
      let w = first_width p.size (relation_at p r) u in
      (subst (IsAtom p) (sym e) (l, b), ap (atom_number p) e ∙ omega arith)
  in_relation r i a l (at_domain x f h e q) = let w = first_width p.size (relation_at p r) (fun_early (relation_at p r).kind f) in (subst (IsAtom p) (sym e) (l, f, h), ap (atom_number p) e ∙ omega arith)
  in_relation r i a l (at_range x f h e q) = let w = first_width p.size (relation_at p r) (fun_early (relation_at p r).kind (inj_fun (relation_at p r).kind f)) in (subst (IsAtom p) (sym e) (l, f, h), ap (atom_number p) e ∙ omega arith)

  in_lasts : (r i : ℕ) (a : Atom) → r < length p.relations → InLast p.size r (relation_at p r) a i → IsAtom p a × (atom_number p a ≡ last_start p r + i)
  unfolding IsAtom atom_number
  in_lasts r i a l (last_tuple x h e q) =
      let (u, b) = in_last p.size (relation_at p r) x h in
      let s = late_start r u in
      (subst (IsAtom p) (sym e) (l, b), ap (atom_number p) e ∙ omega arith)
  in_lasts r i a l (last_not x h e q) =
      let (u, b) = in_last p.size (relation_at p r) x h in
      let s = late_start r u in
      let w = last_width_lem p.size (relation_at p r) u in
      (subst (IsAtom p) (sym e) (l, b), ap (atom_number p) e ∙ omega arith)
  in_lasts r i a l (last_mark x h e q) =
      let (u, b) = in_last p.size (relation_at p r) x h in
      let w = last_width_lem p.size (relation_at p r) u in
      (subst (IsAtom p) (sym e) (l, T_of u, b), ap (atom_number p) e ∙ omega arith)

  -- the item of a single number
  single : (b : Atom) (i : ℕ) (a : Atom) → IsAtom p b → (bs : List (Block Atom)) → item_at (record { width = 1; item = λ _. b } ∷ bs) i ≡ some a → (IsAtom p a × (a ≡ b) × (i ≡ 0)) ⊎ ((j : ℕ) × (i ≡ suc j) × (item_at bs j ≡ some a))
  single b i a v bs e = ⊎_elim
      (λ q. inl (subst (IsAtom p) (sym q.1) v, q.1, omega (arith, q.0)))
      (λ q. inr (i - 1, omega (arith, q.0), q.1))
      (item_cases (record { width = 1; item = λ _. b }) bs i a e)

  atom_of_lem : (i : ℕ) (a : Atom) → item_at (atom_blocks p) i ≡ some a → IsAtom p a × (atom_number p a ≡ i)
  unfolding IsAtom atom_number node_at relation_at
  atom_of_lem i a e = first (single guess i a tt _ (ap (λ (bs : List (Block Atom)). item_at bs i) (sym atoms_form) ∙ e))
    where
      nodes : (i j : ℕ) → i ≡ 3 + count_of (R p.relations) + j → item_at (N p.node_list) j ≡ some a → IsAtom p a × (atom_number p a ≡ i)
      nodes i j h q =
          let (v, l, s) = of_start (λ v t. node_block p.size v t ∷ []) p.node_list no_node j a q in
          let o = item_one (node_block p.size v (get_or p.node_list v no_node)) s.0 a s.2 in
          let k = node_start_lem v in
          (subst (IsAtom p) (sym o.1) (l, o.0), ap (atom_number p) o.1 ∙ omega (arith, k, h, s.1))

      relations : (i j : ℕ) → i ≡ 3 + j → item_at (R p.relations) j ≡ some a → IsAtom p a × (atom_number p a ≡ i)
      relations i j h q =
          let (r, l, s) = of_start (relation_blocks p.size) p.relations no_relation j a q in
          let o = in_relation r s.0 a l (four p.size r (get_or p.relations r no_relation) a s.0 s.2) in
          let k = relation_start_lem r in
          (o.0, o.1 ∙ omega (arith, k, h, s.1))

      lasts : (i j : ℕ) → i ≡ 3 + count_of (R p.relations) + count_of (N p.node_list) + j → item_at (L p.relations) j ≡ some a → IsAtom p a × (atom_number p a ≡ i)
      lasts i j h q =
          let (r, l, s) = of_start (last_blocks p.size) p.relations no_relation j a q in
          let o = in_lasts r s.0 a l (three p.size r (get_or p.relations r no_relation) a s.0 s.2) in
          let k = last_start_lem r in
          (o.0, o.1 ∙ omega (arith, k, h, s.1))

      later : (i j : ℕ) → i ≡ 3 + count_of (R p.relations) + j → item_at (N p.node_list ++ L p.relations) j ≡ some a → IsAtom p a × (atom_number p a ≡ i)
      later i j h q = ⊎_elim (λ s. nodes i j h s) (λ s. lasts i s.0 (omega (arith, s.1)) s.2) (item_append (N p.node_list) (L p.relations) j a q)

      rest : (i j : ℕ) → i ≡ 3 + j → item_at (R p.relations ++ (N p.node_list ++ L p.relations)) j ≡ some a → IsAtom p a × (atom_number p a ≡ i)
      rest i j h q = ⊎_elim (λ s. relations i j h s) (λ s. later i s.0 (omega (arith, s.1)) s.2) (item_append (R p.relations) (N p.node_list ++ L p.relations) j a q)

      third : (i j : ℕ) → i ≡ suc (suc j) → (IsAtom p a × (a ≡ goal) × (j ≡ 0)) ⊎ ((k : ℕ) × (j ≡ suc k) × (item_at (R p.relations ++ (N p.node_list ++ L p.relations)) k ≡ some a)) → IsAtom p a × (atom_number p a ≡ i)
      third i j h (inl q) = (q.0, ap (atom_number p) q.1 ∙ omega (arith, q.2))
      third i j h (inr q) = rest i q.0 (omega (arith, q.1)) q.2

      second : (i j : ℕ) → i ≡ suc j → (IsAtom p a × (a ≡ proof) × (j ≡ 0)) ⊎ ((k : ℕ) × (j ≡ suc k) × (item_at (record { width = 1; item = λ _. goal } ∷ (R p.relations ++ (N p.node_list ++ L p.relations))) k ≡ some a)) → IsAtom p a × (atom_number p a ≡ i)
      second i j h (inl q) = (q.0, ap (atom_number p) q.1 ∙ omega (arith, q.2))
      second i j h (inr q) = third i q.0 (omega (arith, q.1)) (single goal q.0 a tt _ q.2)

      first : (IsAtom p a × (a ≡ guess) × (i ≡ 0)) ⊎ ((k : ℕ) × (i ≡ suc k) × (item_at (record { width = 1; item = λ _. proof } ∷ record { width = 1; item = λ _. goal } ∷ (R p.relations ++ (N p.node_list ++ L p.relations))) k ≡ some a)) → IsAtom p a × (atom_number p a ≡ i)
      first (inl q) = (q.0, ap (atom_number p) q.1 ∙ omega (arith, q.2))
      first (inr q) = second i q.0 q.1 (single proof q.0 a tt _ q.2)

  pub atom_is : (i : ℕ) (a : Atom) → item_at (atom_blocks p) i ≡ some a → IsAtom p a
  atom_is i a e = (atom_of_lem i a e).0

  pub atom_number_lem : (i : ℕ) (a : Atom) → item_at (atom_blocks p) i ≡ some a → atom_number p a ≡ i
  atom_number_lem i a e = (atom_of_lem i a e).1

  pub atom_some : (i : ℕ) → i < atoms p → (a : Atom) × (item_at (atom_blocks p) i ≡ some a)
  unfolding atoms
  atom_some i h = item_some (atom_blocks p) i h

  -- ---- where actions start
  set_start_lem : (r : ℕ) → set_start p r ≡ count_of (S (take r p.relations))
  unfolding set_start
  set_start_lem r = ap count_of (sets_form p.size p.range (take r p.relations))

  set_end : set_start p (length p.relations) ≡ count_of (S p.relations)
  set_end = set_start_lem (length p.relations) ∙ ap (λ (ks : List Relation). count_of (S ks)) all_relations

  proof_start_lem : (v : ℕ) → proof_start p v ≡ count_of (S p.relations) + 1 + count_of (Q (take v p.node_list))
  unfolding proof_start
  proof_start_lem v = ap₂ (λ (x : ℕ) (bs : List (Block Action)). x + 1 + count_of bs) set_end (proofs_form p.size p.range (take v p.node_list))

  proof_end : proof_start p (length p.node_list) ≡ count_of (S p.relations) + 1 + count_of (Q p.node_list)
  proof_end = proof_start_lem (length p.node_list) ∙ ap (λ (ts : List Tree). count_of (S p.relations) + 1 + count_of (Q ts)) all_nodes

  pub set_first : set_start p 0 ≡ 0
  set_first = let a = set_start_lem 0 in let b = no_blocks (λ r k. set_block p.size p.range r k ∷ []) in omega arith

  pub set_next : (r : ℕ) → r < length p.relations → set_start p (suc r) ≡ set_start p r + sets_of p.size p.range (relation_at p r)
  unfolding relation_at
  set_next r l =
      let a = set_start_lem r in
      let b = set_start_lem (suc r) in
      let c = next_start (λ r k. set_block p.size p.range r k ∷ []) p.relations no_relation r l in
      let d = one_count (set_block p.size p.range r (get_or p.relations r no_relation)) in
      omega arith

  pub proof_first : proof_start p 0 ≡ set_start p (length p.relations) + 1
  proof_first = let a = proof_start_lem 0 in let b = no_blocks (λ v t. proof_block p.size p.range v t ∷ []) in let c = set_end in omega arith

  pub proof_next : (v : ℕ) → v < length p.node_list → proof_start p (suc v) ≡ proof_start p v + proofs_of p.size p.range (node_at p v)
  unfolding node_at
  proof_next v l =
      let a = proof_start_lem v in
      let b = proof_start_lem (suc v) in
      let c = next_start (λ v t. proof_block p.size p.range v t ∷ []) p.node_list no_node v l in
      let d = one_count (proof_block p.size p.range v (get_or p.node_list v no_node)) in
      omega arith

  -- ---- the actions' blocks, and their end
  abbrev begins : Block Action
  begins = record { width = 1; item = λ _. begin_proof }

  abbrev ends : Block Action
  ends = record { width = 1; item = λ _. finish p }

  -- all mark-ins and all mark-outs; round-end or prove-goal, and these; the nodes' actions and all that
  abbrev marks : List (Block Action)
  marks = M mark_in p.relations ++ M mark_out p.relations

  abbrev proofs : List (Block Action)
  proofs = Q p.node_list ++ (ends ∷ marks)

  actions_form : action_blocks p ≡ S p.relations ++ (begins ∷ (Q p.node_list ++ (ends ∷ (M mark_in p.relations ++ M mark_out p.relations))))
  unfolding action_blocks
  actions_form =
      ap₂ (λ (bs cs : List (Block Action)). bs ++ (begins ∷ cs)) (sets_form p.size p.range p.relations)
      (ap₂ (λ (bs cs : List (Block Action)). bs ++ (ends ∷ cs)) (proofs_form p.size p.range p.node_list)
      (ap₂ (λ (bs cs : List (Block Action)). bs ++ cs) (marks_form mark_in p.size p.relations) (marks_form mark_out p.size p.relations)))

  -- where marks start
  mark_start : (r : ℕ) → marks_before p r ≡ count_of (M mark_in (take r p.relations))
  unfolding marks_before
  mark_start r = ap count_of (marks_form mark_in p.size (take r p.relations))

  mark_end : marks_before p (length p.relations) ≡ count_of (M mark_in p.relations)
  mark_end = mark_start (length p.relations) ∙ ap (λ (ks : List Relation). count_of (M mark_in ks)) all_relations

  out_start : (ks : List Relation) → count_of (M mark_out ks) ≡ count_of (M mark_in ks)
  unfolding mark_blocks
  out_start ks = sym (ap count_of (marks_form mark_out p.size ks)) ∙ marks_same mark_out mark_in p.size 0 ks ∙ ap count_of (marks_form mark_in p.size ks)

  pub mark_first : marks_before p 0 ≡ 0
  mark_first = let a = mark_start 0 in let b = no_blocks (λ r k. mark_block mark_in p.size r k ∷ []) in omega arith

  pub mark_next : (r : ℕ) → r < length p.relations → marks_before p (suc r) ≡ marks_before p r + last_tuples p.size (relation_at p r)
  unfolding relation_at
  mark_next r l =
      let a = mark_start r in
      let b = mark_start (suc r) in
      let c = next_start (λ r k. mark_block mark_in p.size r k ∷ []) p.relations no_relation r l in
      let d = one_count (mark_block mark_in p.size r (get_or p.relations r no_relation)) in
      omega arith

  pub actions_end : actions p ≡ proof_start p (length p.node_list) + 1 + 2 * marks_before p (length p.relations)
  unfolding actions
  actions_end =
      let a = ap count_of actions_form in
      let b = count_append (S p.relations) (begins ∷ proofs) in
      let c = count_cons begins proofs in
      let d = count_append (Q p.node_list) (ends ∷ marks) in
      let e = count_cons ends marks in
      let f = proof_end in
      let g = count_append (M mark_in p.relations) (M mark_out p.relations) in
      let h = out_start p.relations in
      let i = mark_end in
      omega arith

  -- ---- a number decodes to its action
  set_at : (r i : ℕ) → r < length p.relations → i < sets_of p.size p.range (relation_at p r) → action_at p (set_start p r + i) ≡ some (set r (get_or (set_rows p.size p.range (relation_at p r)) i 0))
  unfolding action_at relation_at
  set_at r i l h = ap₂ (λ (bs : List (Block Action)) (x : ℕ). item_at bs (x + i)) actions_form (set_start_lem r)
      ∙ item_left (S p.relations) (begins ∷ proofs) (count_of (S (take r p.relations)) + i) _
      (at_start (λ r k. set_block p.size p.range r k ∷ []) p.relations no_relation r i _ l (item_here (set_block p.size p.range r (get_or p.relations r no_relation)) [] i h))

  begin_at : action_at p (set_start p (length p.relations)) ≡ some begin_proof
  unfolding action_at
  begin_at = ap₂ item_at actions_form (set_end ∙ sym (add-zero (count_of (S p.relations))))
      ∙ item_right (S p.relations) (begins ∷ proofs) 0 ∙ item_here begins proofs 0 (omega arith)

  past_begin : (j : ℕ) → item_at (action_blocks p) (count_of (S p.relations) + 1 + j) ≡ item_at proofs j
  past_begin j = let w : count_of (S p.relations) + 1 + j ≡ count_of (S p.relations) + (1 + j) = omega arith in
      ap₂ item_at actions_form w ∙ item_right (S p.relations) (begins ∷ proofs) (1 + j) ∙ item_past begins proofs j

  past_goal : (j : ℕ) → item_at (action_blocks p) (proof_start p (length p.node_list) + 1 + j) ≡ item_at marks j
  past_goal j = let w : proof_start p (length p.node_list) + 1 + j ≡ count_of (S p.relations) + 1 + (count_of (Q p.node_list) + (1 + j)) = let s = proof_end in omega arith in
      ap (item_at (action_blocks p)) w ∙ past_begin (count_of (Q p.node_list) + (1 + j)) ∙ item_right (Q p.node_list) (ends ∷ marks) (1 + j) ∙ item_past ends marks j

  proof_at : (v j : ℕ) → v < length p.node_list → j < proofs_of p.size p.range (node_at p v) → action_at p (proof_start p v + j) ≡ some (prove_node p.range (node_at p v) v (j / choices p.range (node_at p v)) (j % choices p.range (node_at p v)))
  unfolding action_at node_at
  proof_at v j l h =
      let w : proof_start p v + j ≡ count_of (S p.relations) + 1 + (count_of (Q (take v p.node_list)) + j) = let s = proof_start_lem v in omega arith in
      ap (item_at (action_blocks p)) w ∙ past_begin (count_of (Q (take v p.node_list)) + j)
      ∙ item_left (Q p.node_list) (ends ∷ marks) (count_of (Q (take v p.node_list)) + j) _
      (at_start (λ v t. proof_block p.size p.range v t ∷ []) p.node_list no_node v j _ l (item_here (proof_block p.size p.range v (get_or p.node_list v no_node)) [] j h))

  goal_at : action_at p (proof_start p (length p.node_list)) ≡ some (finish p)
  unfolding action_at
  goal_at =
      let w : proof_start p (length p.node_list) ≡ count_of (S p.relations) + 1 + (count_of (Q p.node_list) + 0) = let s = proof_end in omega arith in
      ap (item_at (action_blocks p)) w ∙ past_begin (count_of (Q p.node_list) + 0) ∙ item_right (Q p.node_list) (ends ∷ marks) 0 ∙ item_here ends marks 0 (omega arith)

  in_at : (r row : ℕ) → r < length p.relations → row < last_tuples p.size (relation_at p r) → action_at p (proof_start p (length p.node_list) + 1 + marks_before p r + row) ≡ some (mark_in r row)
  unfolding action_at relation_at
  in_at r row l h =
      let w : proof_start p (length p.node_list) + 1 + marks_before p r + row ≡ proof_start p (length p.node_list) + 1 + (count_of (M mark_in (take r p.relations)) + row) = let s = mark_start r in omega arith in
      ap (item_at (action_blocks p)) w ∙ past_goal (count_of (M mark_in (take r p.relations)) + row)
      ∙ item_left (M mark_in p.relations) (M mark_out p.relations) (count_of (M mark_in (take r p.relations)) + row) _
      (at_start (λ r k. mark_block mark_in p.size r k ∷ []) p.relations no_relation r row _ l (item_here (mark_block mark_in p.size r (get_or p.relations r no_relation)) [] row h))

  out_at : (r row : ℕ) → r < length p.relations → row < last_tuples p.size (relation_at p r) → action_at p (proof_start p (length p.node_list) + 1 + marks_before p (length p.relations) + marks_before p r + row) ≡ some (mark_out r row)
  unfolding action_at relation_at
  out_at r row l h =
      let w : proof_start p (length p.node_list) + 1 + marks_before p (length p.relations) + marks_before p r + row ≡ proof_start p (length p.node_list) + 1 + (count_of (M mark_in p.relations) + (count_of (M mark_out (take r p.relations)) + row)) =
      let s = mark_start r in let e = mark_end in let o = out_start (take r p.relations) in omega arith in
      ap (item_at (action_blocks p)) w ∙ past_goal (count_of (M mark_in p.relations) + (count_of (M mark_out (take r p.relations)) + row))
      ∙ item_right (M mark_in p.relations) (M mark_out p.relations) (count_of (M mark_out (take r p.relations)) + row)
      ∙ at_start (λ r k. mark_block mark_out p.size r k ∷ []) p.relations no_relation r row _ l (item_here (mark_block mark_out p.size r (get_or p.relations r no_relation)) [] row h)

  -- the same, for a number between two starts
  pub at_set : (k r : ℕ) → r < length p.relations → set_start p r ≤ k → k < set_start p (suc r) → action_at p k ≡ some (set r (get_or (set_rows p.size p.range (relation_at p r)) (k - set_start p r) 0))
  at_set k r l a b =
      let e : k ≡ set_start p r + (k - set_start p r) = omega arith in
      let n = set_next r l in
      ap (action_at p) e ∙ set_at r (k - set_start p r) l (omega arith)

  pub at_begin : (k : ℕ) → k ≡ set_start p (length p.relations) → action_at p k ≡ some begin_proof
  at_begin k e = ap (action_at p) e ∙ begin_at

  pub at_proof : (k v : ℕ) → v < length p.node_list → proof_start p v ≤ k → k < proof_start p (suc v)
      → action_at p k ≡ some (prove_node p.range (node_at p v) v ((k - proof_start p v) / choices p.range (node_at p v)) ((k - proof_start p v) % choices p.range (node_at p v)))
  at_proof k v l a b =
      let e : k ≡ proof_start p v + (k - proof_start p v) = omega arith in
      let n = proof_next v l in
      ap (action_at p) e ∙ proof_at v (k - proof_start p v) l (omega arith)

  pub at_goal : (k : ℕ) → k ≡ proof_start p (length p.node_list) → action_at p k ≡ some (finish p)
  at_goal k e = ap (action_at p) e ∙ goal_at

  pub at_mark_in : (k r : ℕ) → r < length p.relations → proof_start p (length p.node_list) + 1 + marks_before p r ≤ k → k < proof_start p (length p.node_list) + 1 + marks_before p (suc r)
      → action_at p k ≡ some (mark_in r (k - (proof_start p (length p.node_list) + 1 + marks_before p r)))
  at_mark_in k r l a b =
      let s : ℕ = proof_start p (length p.node_list) + 1 + marks_before p r in
      let e : k ≡ s + (k - s) = omega arith in
      let n = mark_next r l in
      ap (action_at p) e ∙ in_at r (k - s) l (omega arith)

  pub at_mark_out : (k r : ℕ) → r < length p.relations → proof_start p (length p.node_list) + 1 + marks_before p (length p.relations) + marks_before p r ≤ k → k < proof_start p (length p.node_list) + 1 + marks_before p (length p.relations) + marks_before p (suc r)
      → action_at p k ≡ some (mark_out r (k - (proof_start p (length p.node_list) + 1 + marks_before p (length p.relations) + marks_before p r)))
  at_mark_out k r l a b =
      let s : ℕ = proof_start p (length p.node_list) + 1 + marks_before p (length p.relations) + marks_before p r in
      let e : k ≡ s + (k - s) = omega arith in
      let n = mark_next r l in
      ap (action_at p) e ∙ out_at r (k - s) l (omega arith)

  pub at_none : (k : ℕ) → actions p ≤ k → action_at p k ≡ none
  unfolding action_at actions
  at_none k h = item_none (action_blocks p) k h

  -- the action that ends a round: prove-goal without an `every` line, round-end with one
  pub finish_goal : T (not (is_some p.source.question.every)) → finish p ≡ prove_goal
  unfolding finish option is_some
  finish_goal t = by_option p.source.question.every t
    where
      by_option : (o : Option Relation) → T (not (is_some o)) → option o prove_goal (λ _. round_end) ≡ prove_goal
      by_option none t = refl
      by_option (some e) t = absurd t

  pub finish_round : T (is_some p.source.question.every) → finish p ≡ round_end
  unfolding finish option is_some
  finish_round t = by_option p.source.question.every t
    where
      by_option : (o : Option Relation) → T (is_some o) → option o prove_goal (λ _. round_end) ≡ round_end
      by_option none t = absurd t
      by_option (some e) t = refl

  pub finish_is : IsAction p (finish p) × (action_number p (finish p) ≡ proof_start p (length p.node_list))
  unfolding finish option is_some IsAction action_number
  finish_is = by_option p.source.question.every refl
    where
      by_option : (o : Option Relation) → p.source.question.every ≡ o → IsAction p (option o prove_goal (λ _. round_end)) × (action_number p (option o prove_goal (λ _. round_end)) ≡ proof_start p (length p.node_list))
      by_option none e = (rw e tt, refl)
      by_option (some k) e = (rw e tt, refl)

  -- an action's number decodes to it
  range_at_lem : (v : ℕ) (s : Tree) → node_at p v ≡ s → range_at p v ≡ p.range (node_sort s)
  unfolding range_at
  range_at_lem v s e = ap (λ (t : Tree). p.range (node_sort t)) e

  prove_at : (v row i : ℕ) (s : Tree) → node_at p v ≡ s → v < length p.node_list → row < rows_of p.size (node_at p v) → i < choices p.range s → action_at p (proof_number p v row i) ≡ some (prove_node p.range s v row i)
  unfolding proof_number proofs_of
  prove_at v row i s e l h g =
      let c : i < choices p.range (node_at p v) = subst (λ (x : Tree). i < choices p.range x) (sym e) g in
      let w : proof_start p v + row * choices p.range (node_at p v) + i ≡ proof_start p v + (row * choices p.range (node_at p v) + i) = omega arith in
      ap (action_at p) w ∙ proof_at v (row * choices p.range (node_at p v) + i) l (digits_lt h c)
      ∙ ap some (ap₂ (prove_node p.range (node_at p v) v) (digits_div row c) (digits_mod row c) ∙ ap (λ (x : Tree). prove_node p.range x v row i) e)

  pub action_at_lem : (a : Action) → IsAction p a → action_at p (action_number p a) ≡ some a
  unfolding IsAction action_number choices prove_node node_sort sets_of
  action_at_lem (set r row) v =
      let rows : List ℕ = set_rows p.size p.range (relation_at p r) in
      set_at r (rank rows row) v.0 (rank_lt rows row v.2) ∙ ap (λ (x : ℕ). some (set r x)) (select_rank rows row v.2)
  action_at_lem begin_proof v = begin_at
  action_at_lem (prove_and v row) (l, h, (ts, e)) = prove_at v row 0 (and_node ts) e l h (omega arith)
  action_at_lem (prove_or v row i) (l, h, (ts, e, g)) = prove_at v row i (or_node ts) e l h g
  action_at_lem (prove_exists v row x) (l, h, (d, s, t, e, g)) =
      ap (λ (ms : List ℕ). action_at p (proof_number p v row (rank ms x))) (range_at_lem v (exists_node d s t) e)
      ∙ prove_at v row (rank (p.range s) x) (exists_node d s t) e l h (rank_lt (p.range s) x g)
      ∙ ap (λ (y : ℕ). some (prove_exists v row y)) (select_rank (p.range s) x g)
  action_at_lem (prove_forall v row z) (l, h, (d, s, t, e, g)) =
      ap (λ (ms : List ℕ). action_at p (proof_number p v row (rank ms z))) (range_at_lem v (forall_node d s t) e)
      ∙ prove_at v row (rank (p.range s) z) (forall_node d s t) e l h (rank_lt (p.range s) z g)
      ∙ ap (λ (y : ℕ). some (prove_forall v row y)) (select_rank (p.range s) z g)
  action_at_lem prove_goal v = goal_at ∙ ap some (finish_goal v)
  action_at_lem round_end v = goal_at ∙ ap some (finish_round v)
  action_at_lem (mark_in r row) v = in_at r row v.0 (subst (λ (x : ℕ). row < x) (sym (last_width_lem p.size (relation_at p r) (T_true (is_universal (relation_at p r).kind) v.1))) v.2)
  action_at_lem (mark_out r row) v = out_at r row v.0 (subst (λ (x : ℕ). row < x) (sym (last_width_lem p.size (relation_at p r) (T_true (is_universal (relation_at p r).kind) v.1))) v.2)

  -- the row of a set action is one of its relation's
  pub set_below : (r row : ℕ) → IsAction p (set r row) → row < tuples_of p.size (relation_at p r)
  unfolding IsAction
  set_below r row v = (set_row_lem p.size p.range (relation_at p r) row v.2).1

  -- and its places, of a function kind, are of their sorts
  pub set_typed : (r row : ℕ) → IsAction p (set r row) → T (is_function (relation_at p r).kind) → Memᴰ (row / p.size) (p.range (relation_at p r).firsts) × Memᴰ (row % p.size) (p.range (relation_at p r).seconds)
  unfolding IsAction
  set_typed r row v = (set_row_lem p.size p.range (relation_at p r) row v.2).2

  -- what decodes is an action of the problem, and where no range has an element twice the number is its number
  abbrev pub Alone : Type 0
  Alone = (s : ℕ) → Once (p.range s)

  in_node : (v j : ℕ) (s : Tree) → node_at p v ≡ s → v < length p.node_list → j < proofs_of p.size p.range s
      → IsAction p (prove_node p.range s v (j / choices p.range s) (j % choices p.range s))
      × (Alone → action_number p (prove_node p.range s v (j / choices p.range s) (j % choices p.range s)) ≡ proof_start p v + j)
  unfolding IsAction action_number proof_number proofs_of choices prove_node node_sort
  in_node v j (leaf q r ls) e l h = absurd (let z = mul-zero (rows_of p.size (leaf q r ls)) in omega arith)
  in_node v j (and_node ts) e l h = let b = row_below j (rows_of p.size (and_node ts)) 1 h in ((l, rw e b.0, (ts, e)), λ U. rw e (let d = div-one j in let m = mul-one (j / 1) in omega arith))
  in_node v j (or_node ts) e l h = let b = row_below j (rows_of p.size (or_node ts)) (how_many ts) h in ((l, rw e b.0, (ts, e, b.1)), λ U. rw e (let d = div-add-mod' j (how_many ts) in omega arith))
  in_node v j (exists_node d s t) e l h =
      let b = row_below j (rows_of p.size (exists_node d s t)) (length (p.range s)) h in
      let w : range_at p v ≡ p.range s = range_at_lem v (exists_node d s t) e in
      ((l, rw e b.0, (d, s, t, e, get_or_mem (p.range s) (j % length (p.range s)) 0 b.1)), λ U. rw (e, w) (let q = rank_select (p.range s) (j % length (p.range s)) (U s) b.1 in let d = div-add-mod' j (length (p.range s)) in omega arith))
  in_node v j (forall_node d s t) e l h =
      let b = row_below j (rows_of p.size (forall_node d s t)) (length (p.range s)) h in
      let w : range_at p v ≡ p.range s = range_at_lem v (forall_node d s t) e in
      ((l, rw e b.0, (d, s, t, e, get_or_mem (p.range s) (j % length (p.range s)) 0 b.1)), λ U. rw (e, w) (let q = rank_select (p.range s) (j % length (p.range s)) (U s) b.1 in let d = div-add-mod' j (length (p.range s)) in omega arith))

  set_of : (k : ℕ) (a : Action) → item_at (S p.relations) k ≡ some a → IsAction p a × (action_number p a ≡ k)
  unfolding IsAction action_number sets_of relation_at
  set_of k a e =
      let (r, l, s) = of_start (λ r k. set_block p.size p.range r k ∷ []) p.relations no_relation k a e in
      let o = item_one (set_block p.size p.range r (get_or p.relations r no_relation)) s.0 a s.2 in
      let rows : List ℕ = set_rows p.size p.range (get_or p.relations r no_relation) in
      let m : Memᴰ (get_or rows s.0 0) rows = get_or_mem rows s.0 0 o.0 in (
        subst (IsAction p) (sym o.1) (l, (set_row_lem p.size p.range (get_or p.relations r no_relation) _ m).0, m),
        ap (action_number p) o.1 ∙ ap₂ (λ (x y : ℕ). x + y) (set_start_lem r) (rank_select rows s.0 (once_sets p.size p.range (get_or p.relations r no_relation)) o.0) ∙ sym s.1,
      )

  proof_of : (k j : ℕ) (a : Action) → k ≡ count_of (S p.relations) + 1 + j → item_at (Q p.node_list) j ≡ some a → IsAction p a × (Alone → action_number p a ≡ k)
  unfolding node_at
  proof_of k j a h e =
      let (v, l, s) = of_start (λ v t. proof_block p.size p.range v t ∷ []) p.node_list no_node j a e in
      let o = item_one (proof_block p.size p.range v (get_or p.node_list v no_node)) s.0 a s.2 in
      let q = in_node v s.0 (get_or p.node_list v no_node) refl l o.0 in
      let z = proof_start_lem v in
      (subst (IsAction p) (sym o.1) q.0, λ U. ap (action_number p) o.1 ∙ q.1 U ∙ omega (arith, z, h, s.1))

  mark_of : (k j : ℕ) (a : Action) → k ≡ proof_start p (length p.node_list) + 1 + j → item_at marks j ≡ some a → IsAction p a × (action_number p a ≡ k)
  unfolding IsAction action_number relation_at
  mark_of k j a h e = ⊎_elim
      (λ q. let (r, l, s) = of_start (λ r k. mark_block mark_in p.size r k ∷ []) p.relations no_relation j a q in
      let o = item_one (mark_block mark_in p.size r (get_or p.relations r no_relation)) s.0 a s.2 in
      let (u, b) = in_last p.size (get_or p.relations r no_relation) s.0 o.0 in
      let m = mark_start r in
      (subst (IsAction p) (sym o.1) (l, T_of u, b), ap (action_number p) o.1 ∙ omega (arith, m, h, s.1)))
      (λ q. let (r, l, s) = of_start (λ r k. mark_block mark_out p.size r k ∷ []) p.relations no_relation q.0 a q.2 in
      let o = item_one (mark_block mark_out p.size r (get_or p.relations r no_relation)) s.0 a s.2 in
      let (u, b) = in_last p.size (get_or p.relations r no_relation) s.0 o.0 in
      let m = mark_start r in
      let n = mark_end in
      let t = out_start (take r p.relations) in
      (subst (IsAction p) (sym o.1) (l, T_of u, b), ap (action_number p) o.1 ∙ omega (arith, m, n, t, h, q.1, s.1)))
      (item_append (M mark_in p.relations) (M mark_out p.relations) j a e)

  action_of_lem : (k : ℕ) (a : Action) → action_at p k ≡ some a → IsAction p a × (Alone → action_number p a ≡ k)
  unfolding action_at IsAction action_number
  action_of_lem k a e = ⊎_elim (λ q. let o = set_of k a q in (o.0, λ U. o.1)) (λ q. past q) (item_append (S p.relations) (begins ∷ proofs) k a (ap (λ (bs : List (Block Action)). item_at bs k) (sym actions_form) ∙ e))
    where
      last : (j : ℕ) → k ≡ count_of (S p.relations) + 1 + j → (item_at (Q p.node_list) j ≡ some a) ⊎ ((i : ℕ) × (j ≡ count_of (Q p.node_list) + i) × (item_at (ends ∷ marks) i ≡ some a)) → IsAction p a × (Alone → action_number p a ≡ k)
      last j h (inl q) = proof_of k j a h q
      last j h (inr q) =
          let z = proof_end in
          let f = finish_is in
          ⊎_elim
          (λ o. (subst (IsAction p) (sym o.1) f.0, λ U. ap (action_number p) o.1 ∙ f.1 ∙ omega (arith, z, h, q.1, o.0)))
          (λ o. let m = mark_of k (q.0 - 1) a (omega (arith, z, h, q.1, o.0)) o.1 in (m.0, λ U. m.1))
          (item_cases ends marks q.0 a q.2)

      past : (j : ℕ) × (k ≡ count_of (S p.relations) + j) × (item_at (begins ∷ proofs) j ≡ some a) → IsAction p a × (Alone → action_number p a ≡ k)
      past q = ⊎_elim
          (λ b. let z = set_end in (subst (IsAction p) (sym b.1) tt, λ U. ap (action_number p) b.1 ∙ omega (arith, z, q.1, b.0)))
          (λ b. last (q.0 - 1) (omega (arith, q.1, b.0)) (item_append (Q p.node_list) (ends ∷ marks) (q.0 - 1) a b.1))
          (item_cases begins proofs q.0 a q.2)

  pub action_is : (k : ℕ) (a : Action) → action_at p k ≡ some a → IsAction p a
  action_is k a e = (action_of_lem k a e).0

  pub action_number_lem : Alone → (k : ℕ) (a : Action) → action_at p k ≡ some a → action_number p a ≡ k
  action_number_lem U k a e = (action_of_lem k a e).1 U

  pub action_below : (k : ℕ) (a : Action) → action_at p k ≡ some a → k < actions p
  unfolding action_at actions
  action_below k a e = item_lt (action_blocks p) k a e

  pub action_some : (k : ℕ) → k < actions p → (a : Action) × (action_at p k ≡ some a)
  unfolding action_at actions
  action_some k h = item_some (action_blocks p) k h
