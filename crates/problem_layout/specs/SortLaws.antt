-- No sort in a tree is greater than k: nor is one of its nodes, of their parts and of the tree itself.
use Rattle.std.specs.Prelude.{true, [], ℕ, suc, ◌+◌, ◌≤◌, ◌<◌, get_or}
use native.Mathlib.Omega.{arith}
use Rattle.std.proofs.Math.ListN.{length}
use Rattle.definitions.specs.Problem.Tree.{Tree, Trees, leaf, forall_node, exists_node, and_node, or_node, end, ◌then◌, Part, parts, parts_from, nodes, nodes_all, node_sort}
use Rattle.laws.specs.Sorts.{Sorted, SortedAll}
use Rattle.rule_nodes.specs.Bounds.{Each, each_at, each_append}
use Rattle.problem_table.specs.Of.{no_part}

module _ (k : ℕ) where
  pub sort_within : (t : Tree) → Sorted k t → node_sort t ≤ k
  unfolding Sorted node_sort
  sort_within (leaf p r ls) s = omega arith
  sort_within (forall_node d σ t) s = s.0
  sort_within (exists_node d σ t) s = s.0
  sort_within (and_node ts) s = omega arith
  sort_within (or_node ts) s = omega arith

  mutual
    unfolding Sorted nodes Each

    each_node : (t : Tree) → Sorted k t → Each (Sorted k) (leaf true 0 []) (nodes t)
    each_node (leaf p r ls) s = tt
    each_node (forall_node d σ t) s = (s, each_node t s.1)
    each_node (exists_node d σ t) s = (s, each_node t s.1)
    each_node (and_node ts) s = (s, each_among ts s)
    each_node (or_node ts) s = (s, each_among ts s)

    each_among : (ts : Trees) → SortedAll k ts → Each (Sorted k) (leaf true 0 []) (nodes_all ts)
    each_among end s = tt
    each_among (t then ts) s = each_append (Sorted k) (leaf true 0 []) (nodes t) (nodes_all ts) (each_node t s.0) (each_among ts s.1)

  each_from : (v : ℕ) (ts : Trees) → SortedAll k ts → Each (λ (q : Part). Sorted k q.tree) no_part (parts_from v ts)
  unfolding Sorted parts_from Each
  each_from v end s = tt
  each_from v (t then ts) s = (s.0, each_from (v + length (nodes t)) ts s.1)

  each_part : (v : ℕ) (t : Tree) → Sorted k t → Each (λ (q : Part). Sorted k q.tree) no_part (parts v t)
  unfolding Sorted parts Each
  each_part v (leaf p r ls) s = tt
  each_part v (forall_node d σ t) s = (s.1, tt)
  each_part v (exists_node d σ t) s = (s.1, tt)
  each_part v (and_node ts) s = each_from (suc v) ts s
  each_part v (or_node ts) s = each_from (suc v) ts s

  pub node_sorted : (t : Tree) → Sorted k t → (v : ℕ) → v < length (nodes t) → Sorted k (get_or (nodes t) v (leaf true 0 []))
  node_sorted t s v h = each_at (Sorted k) (leaf true 0 []) (nodes t) (each_node t s) v h

  pub part_sorted : (v : ℕ) (t : Tree) → Sorted k t → (i : ℕ) → i < length (parts v t) → Sorted k (get_or (parts v t) i no_part).tree
  part_sorted v t s i h = each_at (λ (q : Part). Sorted k q.tree) no_part (parts v t) (each_part v t s) i h
