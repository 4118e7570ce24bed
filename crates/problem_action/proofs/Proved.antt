-- The action of a node's number is the one that is found: what stands on `said_proof` of `Found`.
use Rattle.std.specs.Prelude.{◌≡◌, List}
use Rattle.std.proofs.Math.Path.{ap}
use Rattle.std.proofs.Common.{◌∙◌}
use Prim.Native.Nat.{ℕ, ◌+◌, ◌-◌, ◌/◌, ◌%◌, ◌≤◌, ◌<◌}
use native.Mathlib.Omega.{arith}
use Rattle.std.proofs.Math.ListN.{get_or}
use Rattle.definitions.specs.Problem.Atoms.{Problem, node_at}
use Rattle.definitions.specs.Problem.Actions.{choices, prove_node, action_at, proof_start}
use Rattle.laws.specs.Numbers.{at_proof}
use Rattle.problem_table.specs.Lines.{node_place, nodes_in, node_line}
use Rattle.problem_table.specs.Of.{Is, said, act_of}
use Rattle.problem_table.specs.declared.NodeLine.{NodeLine}
use Rattle.problem_action.specs.Decoded.{proof_in}
use Rattle.problem_action.specs.Found.{said_proof, acts_at, inside, line}

module _ (p : Problem) (w : List ℕ) (is : Is p w) (k : ℕ) (v : ℕ) (h : v < nodes_in w) (a : get_or w (node_place v) 0 ≤ k) (b : k < get_or w (node_place (v + 1)) 0) where
  pub found_proof : (x : NodeLine) → x ≡ node_line w v → proof_in w v (k - get_or w (node_place v) 0) x ≡ act_of (action_at p k)
  unfolding act_of
  found_proof x l =
      let e : get_or w (node_place v) 0 ≡ proof_start p v = acts_at p w is v (omega (arith, is.nodes)) in
      let q = inside p w is k v h a b in
      rw (at_proof p k v (omega (arith, is.nodes)) q.0 q.1, l)
      (said_proof p w v (k - get_or w (node_place v) 0) (node_line w v) (node_at p v) (line p w is k v h a b) q.2
      ∙ ap (λ (x : ℕ). said (prove_node p.range (node_at p v) v ((k - x) / choices p.range (node_at p v)) ((k - x) % choices p.range (node_at p v)))) e)
