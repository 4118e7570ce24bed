-- One walk of a tree: it visits every node once, in preorder, and its counts are the numbers of atoms and of actions.
use Prim.Native.Nat.{ℕ, zero, suc, ◌+◌, ◌*◌, ◌^◌}
use Rattle.std.specs.Prelude.{◌≡◌, Bool, ◌&&◌, ◌||◌, length, if◌then◌else◌}
use Rattle.std.proofs.Math.Path.{refl, ap}
use Rattle.std.proofs.Common.{sym, ap₂, ◌∙◌, mul-one, length-append}
use Rattle.std.proofs.Math.Bool.{true, false}
use Rattle.std.proofs.Math.Option.{Option, none, some}
use mathlib.Core.List.{List, [], ◌∷◌, ◌++◌, map}
use native.Mathlib.Omega.{arith}
use Rattle.std.proofs.Math.Dec.{leb, ltb}
use borrow.Author.Tests.{lt-ltb, ltb-false, le-leb, leb-false}
use Rattle.std.proofs.lemmas.List.{length-map}
use Rattle.definitions.specs.Lists.{option, is_some, map_from, from, below, sum}
use Rattle.definitions.specs.Limits.{CaseLimits}
use Rattle.definitions.specs.Refusal.{Result, refused, accepted, ◌>>=◌, refuse_if}
use Rattle.definitions.specs.Sheet.Relations.{Relation}
use Rattle.definitions.specs.Problem.Truth.{Case, every_tuples, values}
use Rattle.definitions.specs.Problem.Tree.{Tree, Trees, leaf, forall_node, exists_node, and_node, or_node, end, ◌then◌, Part, is_forall, nodes, nodes_all, tree_of}
use Rattle.definitions.specs.Problem.Atoms.{Problem, problem_of, problem_with, Block, count_of, rows_of, node_width, relations_blocks, nodes_blocks, lasts_blocks, atom_blocks, atoms, node_atoms}
use Rattle.definitions.specs.Problem.Actions.{Action, begin_proof, mark_in, mark_out, choices, proofs_of, set_blocks, proof_blocks, finish, mark_blocks, action_blocks, actions}
use Rattle.definitions.specs.Problem.Built.{most_picks, bound}
use Rattle.definitions.specs.Sheet.Sheets.{Label}
use Rattle.definitions.specs.Reply.Outcome.{Sizes, sizes_of, CaseRead, read_filed, read_case, too_many_values, ground, sizes, Ready, asked, nothing}
use Rattle.definitions.specs.Reply.Tally.{no_walk, then_walk, visit, walk, walk_all, walked, Tally, tally_of, tally}
use Rattle.laws.specs.Booleans.{or_both}
use Rattle.laws.specs.Lists.{from_append}
use Rattle.laws.specs.Blocks.{count_append}

-- ---- the nodes that are visited, and the numbers they are given
abbrev trees_of : List Part → List Tree
trees_of ps = map (λ (q : Part). q.tree) ps

abbrev numbers_of : List Part → List ℕ
numbers_of ps = map (λ (q : Part). q.node) ps

map_append : {A B : Type 0} (f : A → B) (l m : List A) → map f (l ++ m) ≡ map f l ++ map f m
map_append f [] m = refl
map_append f (x ∷ l) m = ap (◌∷◌ (f x)) (map_append f l m)

module _ (n : ℕ) (R : ℕ → List ℕ) where
  mutual
    unfolding walk no_walk then_walk visit nodes

    pub walk_nodes : (v : ℕ) (t : Tree) → trees_of (walk n R v t).visited ≡ nodes t
    walk_nodes v (leaf p r ls) = refl
    walk_nodes v (forall_node d s t) = ap (◌∷◌ (forall_node d s t)) (walk_nodes (suc v) t)
    walk_nodes v (exists_node d s t) = ap (◌∷◌ (exists_node d s t)) (walk_nodes (suc v) t)
    walk_nodes v (and_node ts) = ap (◌∷◌ (and_node ts)) (all_nodes (suc v) ts)
    walk_nodes v (or_node ts) = ap (◌∷◌ (or_node ts)) (all_nodes (suc v) ts)

    all_nodes : (v : ℕ) (ts : Trees) → trees_of (walk_all n R v ts).visited ≡ nodes_all ts
    all_nodes v end = refl
    all_nodes v (t then ts) =
        let w = v + length (walk n R v t).visited in
        map_append (λ (q : Part). q.tree) (walk n R v t).visited (walk_all n R w ts).visited ∙ ap₂ ◌++◌ (walk_nodes v t) (all_nodes w ts)

  pub walk_length : (v : ℕ) (t : Tree) → length (walk n R v t).visited ≡ length (nodes t)
  walk_length v t = sym (length-map (walk n R v t).visited (λ (q : Part). q.tree)) ∙ ap length (walk_nodes v t)

  mutual
    unfolding walk no_walk then_walk visit nodes from

    pub walk_visits : (v : ℕ) (t : Tree) → numbers_of (walk n R v t).visited ≡ from v (length (nodes t))
    walk_visits v (leaf p r ls) = refl
    walk_visits v (forall_node d s t) = ap (◌∷◌ v) (walk_visits (suc v) t)
    walk_visits v (exists_node d s t) = ap (◌∷◌ v) (walk_visits (suc v) t)
    walk_visits v (and_node ts) = ap (◌∷◌ v) (all_visits (suc v) ts)
    walk_visits v (or_node ts) = ap (◌∷◌ v) (all_visits (suc v) ts)

    all_visits : (v : ℕ) (ts : Trees) → numbers_of (walk_all n R v ts).visited ≡ from v (length (nodes_all ts))
    all_visits v end = refl
    all_visits v (t then ts) =
        let k = length (walk n R v t).visited in
        let e : k ≡ length (nodes t) = walk_length v t in
        map_append (λ (q : Part). q.node) (walk n R v t).visited (walk_all n R (v + k) ts).visited
        ∙ ap₂ ◌++◌ (walk_visits v t) (all_visits (v + k) ts)
        ∙ ap (λ (x : ℕ). from v (length (nodes t)) ++ from (v + x) (length (nodes_all ts))) e
        ∙ sym (from_append v (length (nodes t)) (length (nodes_all ts)))
        ∙ ap (from v) (sym (length-append (nodes t) (nodes_all ts)))

  -- ---- atoms and actions
  sum_append : (f : Tree → ℕ) (l m : List Tree) → sum (map f (l ++ m)) ≡ sum (map f l) + sum (map f m)
  unfolding sum
  sum_append f [] m = omega arith
  sum_append f (x ∷ l) m = let e = sum_append f l m in omega arith

  mutual
    unfolding walk no_walk then_walk visit nodes sum node_width is_forall

    pub walk_atoms : (v : ℕ) (t : Tree) → (walk n R v t).atom_count ≡ sum (map (node_width n) (nodes t))
    walk_atoms v (leaf p r ls) = refl
    walk_atoms v (forall_node d s t) = ap (◌+◌ (rows_of n (forall_node d s t) * n)) (walk_atoms (suc v) t)
    walk_atoms v (exists_node d s t) = ap₂ ◌+◌ (mul-one (rows_of n (exists_node d s t))) (walk_atoms (suc v) t)
    walk_atoms v (and_node ts) = ap₂ ◌+◌ (mul-one (rows_of n (and_node ts))) (all_atoms (suc v) ts)
    walk_atoms v (or_node ts) = ap₂ ◌+◌ (mul-one (rows_of n (or_node ts))) (all_atoms (suc v) ts)

    all_atoms : (v : ℕ) (ts : Trees) → (walk_all n R v ts).atom_count ≡ sum (map (node_width n) (nodes_all ts))
    all_atoms v end = refl
    all_atoms v (t then ts) = ap₂ ◌+◌ (walk_atoms v t) (all_atoms (v + length (walk n R v t).visited) ts) ∙ sym (sum_append (node_width n) (nodes t) (nodes_all ts))

  mutual
    unfolding walk no_walk then_walk visit nodes sum proofs_of choices

    pub walk_actions : (v : ℕ) (t : Tree) → (walk n R v t).action_count ≡ sum (map (proofs_of n R) (nodes t))
    walk_actions v (leaf p r ls) = refl
    walk_actions v (forall_node d s t) = ap (◌+◌ (proofs_of n R (forall_node d s t))) (walk_actions (suc v) t)
    walk_actions v (exists_node d s t) = ap (◌+◌ (proofs_of n R (exists_node d s t))) (walk_actions (suc v) t)
    walk_actions v (and_node ts) = ap (◌+◌ (proofs_of n R (and_node ts))) (all_actions (suc v) ts)
    walk_actions v (or_node ts) = ap (◌+◌ (proofs_of n R (or_node ts))) (all_actions (suc v) ts)

    all_actions : (v : ℕ) (ts : Trees) → (walk_all n R v ts).action_count ≡ sum (map (proofs_of n R) (nodes_all ts))
    all_actions v end = refl
    all_actions v (t then ts) = ap₂ ◌+◌ (walk_actions v t) (all_actions (v + length (walk n R v t).visited) ts) ∙ sym (sum_append (proofs_of n R) (nodes t) (nodes_all ts))

-- ---- the same as counts of blocks
pub count_sum : {A K : Type 0} (f : ℕ → K → Block A) (g : K → ℕ) → ((r : ℕ) (k : K) → (f r k).width ≡ g k) → (r : ℕ) (ks : List K) → count_of (map_from f r ks) ≡ sum (map g ks)
unfolding count_of map_from sum
count_sum f g h r [] = refl
count_sum f g h r (k ∷ ks) = ap₂ ◌+◌ (h r k) (count_sum f g h (suc r) ks)

module _ (p : Problem) where
  pub node_atoms_lem : node_atoms p ≡ sum (map (node_width p.size) p.node_list)
  unfolding node_atoms nodes_blocks
  node_atoms_lem = count_sum _ (node_width p.size) (λ r t. refl) 0 p.node_list

  pub node_actions : count_of (proof_blocks p.size p.range p.node_list) ≡ sum (map (proofs_of p.size p.range) p.node_list)
  unfolding proof_blocks
  node_actions = count_sum _ (proofs_of p.size p.range) (λ r t. refl) 0 p.node_list

  pub atoms_parts : atoms p ≡ 3 + (count_of (relations_blocks p.size p.relations) + (sum (map (node_width p.size) p.node_list) + count_of (lasts_blocks p.size p.relations)))
  unfolding atoms atom_blocks count_of node_atoms
  atoms_parts =
      let a = count_append (relations_blocks p.size p.relations) (nodes_blocks p.size p.node_list ++ lasts_blocks p.size p.relations) in
      let c = count_append (nodes_blocks p.size p.node_list) (lasts_blocks p.size p.relations) in
      let b = node_atoms_lem in
      omega arith

  pub actions_parts : actions p
      ≡ count_of (set_blocks p.size p.range p.relations) + (1 + (sum (map (proofs_of p.size p.range) p.node_list) + (1 + (count_of (mark_blocks mark_in p.size p.relations) + count_of (mark_blocks mark_out p.size p.relations)))))
  unfolding actions action_blocks count_of
  actions_parts =
      let marks : List (Block Action) = mark_blocks mark_in p.size p.relations ++ mark_blocks mark_out p.size p.relations in
      let last : List (Block Action) = record { width = 1; item = λ _. finish p } ∷ marks in
      let a = count_append (set_blocks p.size p.range p.relations) (record { width = 1; item = λ _. begin_proof } ∷ (proof_blocks p.size p.range p.node_list ++ last)) in
      let b = count_append (proof_blocks p.size p.range p.node_list) last in
      let e = count_append (mark_blocks mark_in p.size p.relations) (mark_blocks mark_out p.size p.relations) in
      let d = node_actions in
      omega arith

  pub bound_parts : bound p ≡ sum (map (most_picks p.size) p.relations) + 1 + values p.source * (sum (map (node_width p.size) p.node_list) + every_tuples p.source + 1)
  unfolding bound
  bound_parts = ap (λ (x : ℕ). sum (map (most_picks p.size) p.relations) + 1 + values p.source * (x + every_tuples p.source + 1)) node_atoms_lem

module _ (c : Case) where
  pub visited_are : trees_of (walked (problem_of c)).visited ≡ nodes (tree_of c.question)
  unfolding walked problem_of problem_with
  visited_are = walk_nodes _ _ zero (tree_of c.question)

  pub visited_once : numbers_of (walked (problem_of c)).visited ≡ below (length (nodes (tree_of c.question)))
  unfolding walked problem_of problem_with below
  visited_once = walk_visits _ _ zero (tree_of c.question)

tally_eq : (n : ℕ) (y : Bool) (m : ℕ) {i j a b d e f g : ℕ} → i ≡ j → a ≡ b → d ≡ e → f ≡ g
    → ◌≡◌ {A = Tally} (record { node_count = i; has_every = y; tuples = m; sizes = record { elements = n; atom_count = a; action_count = d; step_bound = f } }) (record { node_count = j; has_every = y; tuples = m; sizes = record { elements = n; atom_count = b; action_count = e; step_bound = g } })
tally_eq n y m p q r s = rw (p, q, r, s) refl

-- the bound as it is told: 0 where the `every` relation has more tuples than 23 allows
unfoldable pub told_bound : Case → ℕ
told_bound c = if leb (every_tuples c) 8 then bound (problem_of c) else zero

unfoldable pub told_sizes : Case → Sizes
told_sizes c = record { elements = c.site.size; atom_count = atoms (problem_of c); action_count = actions (problem_of c); step_bound = told_bound c }

-- ---- the tally of a case, whatever its size: its nodes, its atoms, its actions and its bound
pub tally_is : (c : Case) → tally_of (problem_of c) ≡ record { node_count = length (nodes (tree_of c.question)); has_every = is_some c.question.every; tuples = every_tuples c; sizes = told_sizes c }
unfolding tally_of walked told_sizes told_bound problem_of problem_with
tally_is c =
    let p = problem_of c in
    let n = p.size in
    let R = p.range in
    let t = tree_of c.question in
    let a : (walk n R zero t).atom_count ≡ sum (map (node_width n) (nodes t)) = walk_atoms n R zero t in
    let b : (walk n R zero t).action_count ≡ sum (map (proofs_of n R) (nodes t)) = walk_actions n R zero t in
    tally_eq n (is_some c.question.every) (every_tuples c) (walk_length n R zero t)
    (ap (λ (x : ℕ). 3 + (count_of (relations_blocks n p.relations) + (x + count_of (lasts_blocks n p.relations)))) a ∙ sym (atoms_parts p))
    (ap (λ (x : ℕ). count_of (set_blocks n R p.relations) + (1 + (x + (1 + (count_of (mark_blocks mark_in n p.relations) + count_of (mark_blocks mark_out n p.relations)))))) b ∙ sym (actions_parts p))
    (ap (λ (x : ℕ). if leb (every_tuples c) 8 then x else zero) (ap (λ (x : ℕ). sum (map (most_picks n) p.relations) + 1 + values c * (x + every_tuples c + 1)) a ∙ sym (bound_parts p)))

-- ---- the sizes that a call answers are the tally's, where they are within the limits
abbrev pub within : CaseLimits → Tally → Result Sizes
within L t =
    refuse_if (ltb L.atoms t.sizes.atom_count || ltb L.actions t.sizes.action_count) 11 zero
    >>= λ _. refuse_if (t.has_every && (ltb 8 t.tuples || ltb L.steps t.sizes.step_bound)) 23 zero >>= λ _. accepted t.sizes

module _ (L : CaseLimits) where
  limited : (c : Case) (labels : List Label) (b d e : Bool) (s : Sizes) → d ≡ e → (d ≡ false → sizes_of (problem_of c) ≡ s)
      → (refuse_if b 11 zero >>= (λ _. refuse_if d 23 zero >>= λ _. accepted (problem_of c)) >>= (λ p. accepted (record { case = c; labels = labels; problem = p; third = tt })) >>= λ (r : Ready (Unit {0})). accepted (sizes_of r.problem)) ≡ (refuse_if b 11 zero >>= λ _. refuse_if e 23 zero >>= λ _. accepted s)
  unfolding refuse_if ◌>>=◌
  limited c labels true d e s q h = refl
  limited c labels false d e s q h = rw (sym q) (by_test d h)
    where
      by_test : (d : Bool) → (d ≡ false → sizes_of (problem_of c) ≡ s) → (refuse_if d 23 zero >>= (λ _. accepted (problem_of c)) >>= (λ p. accepted (record { case = c; labels = labels; problem = p; third = tt })) >>= λ (r : Ready (Unit {0})). accepted (sizes_of r.problem)) ≡ (refuse_if d 23 zero >>= λ _. accepted s)
      by_test true h = refl
      by_test false h = ap accepted (h refl)

  -- the bound is told wherever 23 has to look at it
  told_alike : (c : Case) → too_many_values L (problem_of c) ≡ (is_some c.question.every && (ltb 8 (every_tuples c) || ltb L.steps (told_bound c)))
  unfolding too_many_values told_bound problem_of problem_with
  told_alike c = ap (λ (b : Bool). is_some c.question.every && b) (by_test (leb (every_tuples c) 8) refl)
    where
      by_test : (b : Bool) → leb (every_tuples c) 8 ≡ b → (ltb 8 (every_tuples c) || ltb L.steps (bound (problem_of c))) ≡ (ltb 8 (every_tuples c) || ltb L.steps (if b then bound (problem_of c) else zero))
      by_test true e = refl
      by_test false e = let h : ltb 8 (every_tuples c) ≡ true = lt-ltb 8 (every_tuples c) (leb-false (every_tuples c) 8 e) in rw h refl

  told_sizes_lem : (c : Case) → too_many_values L (problem_of c) ≡ false → sizes_of (problem_of c) ≡ told_sizes c
  unfolding too_many_values sizes_of told_sizes told_bound problem_of problem_with every_tuples option is_some
  told_sizes_lem c e = ap (λ (b : ℕ). record { elements = c.site.size; atom_count = atoms (problem_of c); action_count = actions (problem_of c); step_bound = b }) (by_option c.question.every e)
    where
      by_option : (o : Option Relation) → (is_some o && (ltb 8 (option o zero (λ (k : Relation). c.site.size ^ k.arity)) || ltb L.steps (bound (problem_of c)))) ≡ false
          → bound (problem_of c) ≡ (if leb (option o zero (λ (k : Relation). c.site.size ^ k.arity)) 8 then bound (problem_of c) else zero)
      by_option none e = refl
      by_option (some k) e = let h : leb (c.site.size ^ k.arity) 8 ≡ true = le-leb (c.site.size ^ k.arity) 8 (ltb-false 8 (c.site.size ^ k.arity) (or_both (ltb 8 (c.site.size ^ k.arity)) (ltb L.steps (bound (problem_of c))) e).0) in rw h refl

  pub sizes_tally : (question site : List ℕ) → sizes L question site ≡ (tally L question site >>= within L)
  unfolding sizes asked nothing tally read_case ground told_sizes ◌>>=◌
  sizes_tally question site = by_result (read_filed L question site)
    where
      by_result : (m : Result CaseRead)
          → (m >>= (λ r. ground L r.case >>= λ p. accepted (record { case = r.case; labels = r.labels; problem = p; third = tt })) >>= λ (r : Ready (Unit {0})). accepted (sizes_of r.problem)) ≡ (m >>= (λ r. accepted r.case) >>= (λ c. accepted (tally_of (problem_of c))) >>= within L)
      by_result (refused k place) = refl
      by_result (accepted r) =
          let c : Case = r.case in
          limited c r.labels (ltb L.atoms (atoms (problem_of c)) || ltb L.actions (actions (problem_of c))) (too_many_values L (problem_of c)) (is_some c.question.every && (ltb 8 (every_tuples c) || ltb L.steps (told_bound c))) (told_sizes c) (told_alike c) (told_sizes_lem c)
          ∙ ap (within L) (sym (tally_is c))
