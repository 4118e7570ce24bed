-- No exponent of the bound is above 4.
use Rattle.std.specs.Prelude.{ℕ, ◌≤◌, get_or}
use Rattle.std.proofs.Common.{sym, subst, ⊎_elim, arith}
use mathlib.Core.List.Memᴰ
use mathlib.Core.List.{Memᴰ}
use Rattle.definitions.specs.Lists.{flat_map}
use Rattle.definitions.specs.Sheet.Sheets.{relations_of}
use Rattle.definitions.specs.Problem.Truth.{Case}
use Rattle.definitions.specs.Problem.Tree.{Tree, tree_of, nodes}
use Rattle.definitions.specs.Problem.Atoms.{problem_of, problem_with, node_at}
use Rattle.definitions.specs.Problem.Built.{pick_exponent, node_exponent, bound_exponents}
use Rattle.laws.specs.Lists.{flat_mem, map_mem, mem_get_or}
use Rattle.laws.specs.Numbers.{no_node}
use Rattle.laws.specs.Reader.{Accepted}
use Rattle.meaning.specs.Means.{here_at}
use Rattle.meaning.specs.Grounded.{good, relation_cases}
use Rattle.demands.specs.Polynomial.{node_degree, pick_degree}

pub degree : (c : Case) → Accepted c → (x : ℕ) → Memᴰ x (bound_exponents c.question) → x ≤ 4
unfolding bound_exponents problem_of problem_with node_at
degree c A x m = ⊎_elim
    (λ q. let (k, mk, mx) = flat_mem pick_exponent (relations_of c.question) x q in let h = pick_degree k (relation_cases c A k mk).1 x mx in omega arith)
    (λ q. let (t, mt, e) = map_mem node_exponent (nodes (tree_of c.question)) x q in
    let (v, l, f) = mem_get_or (nodes (tree_of c.question)) t no_node mt in
    subst (λ (y : ℕ). y ≤ 4) (sym e) (subst (λ (s : Tree). node_exponent s ≤ 4) f (node_degree (get_or (nodes (tree_of c.question)) v no_node) (here_at (problem_of c) (good c A) v l).within)))
    (Memᴰ.append_cases (flat_map pick_exponent (relations_of c.question)) m)
