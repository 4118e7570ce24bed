-- Which actions a quantifier has: one for each member of its variable's range at each value of its free variables, and no others; and
-- what those of a `forall` need, from the least member to the next.
use Prim.Native.Nat.{ℕ, suc, ◌+◌, ◌-◌, ◌*◌, ◌<◌}
use Rattle.std.specs.Prelude.{◌≡◌, refl, ◌↔◌, length, get_or}
use Rattle.std.proofs.Math.Path.{ap}
use Rattle.std.proofs.Common.{◌∙◌}
use Rattle.std.proofs.Math.Option.{Option, some}
use mathlib.Core.List.{List, [], ◌∷◌, Memᴰ}
use native.Mathlib.Omega.{arith}
use Rattle.definitions.specs.Lists.{option, before}
use Rattle.definitions.specs.Problem.Truth.{Case, members_of}
use Rattle.definitions.specs.Problem.Tree.{Tree, forall_node, exists_node, node_sort}
use Rattle.definitions.specs.Problem.Atoms.{Problem, Atom, proof, holds_node, problem_of, problem_with, node_at, rows_of}
use Rattle.definitions.specs.Problem.Actions.{prove_exists, prove_forall, action_at, under_atom, forall_needs, needs}
use Rattle.laws.specs.Numbers.{IsAction, action_at_lem, action_is}
use Rattle.laws.specs.Members.{before_first, before_next}
use Rattle.laws.specs.Reader.{Accepted, accepted_range}

module _ (c : Case) where
  abbrev p : Problem
  p = problem_of c

  pub exists_actions : (v row x : ℕ)
      → ((k : ℕ) × (action_at (problem_of c) k ≡ some (prove_exists v row x)))
      ↔ ((v < length (problem_of c).node_list) × (row < rows_of (problem_of c).size (node_at (problem_of c) v)) × ((d : ℕ) × (s : ℕ) × (t : Tree) × (node_at (problem_of c) v ≡ exists_node d s t) × Memᴰ x (members_of c s)))
  unfolding IsAction problem_of problem_with
  exists_actions v row x = ((λ q. action_is p q.0 (prove_exists v row x) q.1), (λ h. (_, action_at_lem p (prove_exists v row x) h)))

  pub forall_actions : (v row z : ℕ)
      → ((k : ℕ) × (action_at (problem_of c) k ≡ some (prove_forall v row z)))
      ↔ ((v < length (problem_of c).node_list) × (row < rows_of (problem_of c).size (node_at (problem_of c) v)) × ((d : ℕ) × (s : ℕ) × (t : Tree) × (node_at (problem_of c) v ≡ forall_node d s t) × Memᴰ z (members_of c s)))
  unfolding IsAction problem_of problem_with
  forall_actions v row z = ((λ q. action_is p q.0 (prove_forall v row z) q.1), (λ h. (_, action_at_lem p (prove_forall v row z) h)))

  -- what a `forall` needs, by the place of the member in the range
  module _ (A : Accepted c) (v row d s : ℕ) (t : Tree) (is : node_at (problem_of c) v ≡ forall_node d s t) where
    abbrev Up : Option ℕ → ℕ → List Atom
    Up o z = proof ∷ under_atom c.site.size (members_of c) v (forall_node d s t) row z ∷ option o [] (λ y. holds_node v (row * c.site.size + y) ∷ [])

    chain : (z : ℕ) → needs (problem_of c) (prove_forall v row z) ≡ Up (before (members_of c s) z) z
    unfolding needs forall_needs node_sort problem_of problem_with
    chain z = ap (λ (u : Tree). proof ∷ forall_needs c.site.size (members_of c) v u row z) is

    pub forall_least : needs (problem_of c) (prove_forall v row (get_or (members_of c s) 0 0)) ≡ proof ∷ under_atom c.site.size (members_of c) v (forall_node d s t) row (get_or (members_of c s) 0 0) ∷ []
    unfolding option
    forall_least = chain (get_or (members_of c s) 0 0) ∙ ap (λ (o : Option ℕ). Up o (get_or (members_of c s) 0 0)) (before_first (members_of c s) (accepted_range c A s).ascends 0 refl)

    pub forall_next : (i : ℕ) → suc i < length (members_of c s)
        → needs (problem_of c) (prove_forall v row (get_or (members_of c s) (suc i) 0))
        ≡ proof ∷ under_atom c.site.size (members_of c) v (forall_node d s t) row (get_or (members_of c s) (suc i) 0) ∷ holds_node v (row * c.site.size + get_or (members_of c s) i 0) ∷ []
    unfolding option
    forall_next i h =
        let q : suc i - 1 ≡ i = omega arith in
        chain (get_or (members_of c s) (suc i) 0)
        ∙ ap (λ (o : Option ℕ). Up o (get_or (members_of c s) (suc i) 0)) (before_next (members_of c s) (accepted_range c A s).ascends (suc i) (omega arith) h ∙ ap (λ (j : ℕ). some (get_or (members_of c s) j 0)) q)
