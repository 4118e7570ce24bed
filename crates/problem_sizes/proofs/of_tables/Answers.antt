-- `problem_sizes::of_tables` meets its contract.
use Prim.Native.Nat.{◌≤◌, ◌^◌}
use native.Mathlib.Omega.{arith}
use Rattle.problem_sizes.specs.SumLaws.{relation_counts, node_counts, size_small, tallied}
use Rattle.problem_sizes.proofs.of_tables.Goals as goal
use Rattle.problem_sizes.proofs.of_tables.Goals.{After-every_tuples-tuples}

-- the sums that are added
sums : (c : After-every_tuples-tuples) → let b = c.of_relations-b.result in let w = c.of_nodes-w.result in (b.atoms ≤ 2 ^ 30) × (b.sets ≤ 2 ^ 29) × (b.picks ≤ 2 ^ 29) × (w.atoms ≤ 2 ^ 36) × (w.actions ≤ 2 ^ 36) × (c.every_tuples-tuples.result ≤ 64 ^ 4)
sums c =
    let b = relation_counts c.args.n c.requires.1 c.args.ranges.count c.args.g c.requires.4.count c.requires.2 c.args.g.count _ _ _ (omega arith) c.of_relations-b.ensures in
    let w = node_counts c.args.n c.requires.1 c.args.ranges.count c.args.t c.requires.4.count c.requires.3 c.args.t.count _ _ _ (omega arith) c.of_nodes-w.ensures in
    (b.0, b.1, b.2, w.0, w.1, size_small c.args.n c.args.g _ c.requires.1 c.requires.2 c.every_tuples-tuples.ensures)

pub overflow_add-atoms : goal.overflow_add-atoms
overflow_add-atoms c = omega (arith, sums (goal.at.overflow_add-atoms c).After-every_tuples-tuples)

pub overflow_mul-atoms : goal.overflow_mul-atoms
overflow_mul-atoms c = omega (arith, sums (goal.at.overflow_mul-atoms c).After-every_tuples-tuples)

pub overflow_add-atoms-2 : goal.overflow_add-atoms-2
overflow_add-atoms-2 c = omega (arith, sums (goal.at.overflow_add-atoms-2 c).After-every_tuples-tuples)

pub overflow_add-actions : goal.overflow_add-actions
overflow_add-actions c = omega (arith, sums (goal.at.overflow_add-actions c).After-every_tuples-tuples)

pub overflow_add-actions-2 : goal.overflow_add-actions-2
overflow_add-actions-2 c = omega (arith, sums (goal.at.overflow_add-actions-2 c).After-every_tuples-tuples)

pub overflow_add-actions-3 : goal.overflow_add-actions-3
overflow_add-actions-3 c = omega (arith, sums (goal.at.overflow_add-actions-3 c).After-every_tuples-tuples)

pub overflow_mul-actions : goal.overflow_mul-actions
overflow_mul-actions c = omega (arith, sums (goal.at.overflow_mul-actions c).After-every_tuples-tuples)

pub overflow_add-actions-4 : goal.overflow_add-actions-4
overflow_add-actions-4 c = omega (arith, sums (goal.at.overflow_add-actions-4 c).After-every_tuples-tuples)

pub bound_of-bound-requires : goal.bound_of-bound-requires
bound_of-bound-requires c = (omega (arith, sums (goal.at.bound_of-bound-requires c).After-every_tuples-tuples), omega (arith, sums (goal.at.bound_of-bound-requires c).After-every_tuples-tuples))

pub returns : goal.returns
returns c =
    λ p w k ra is. tallied c.args.n p w k
    c.args.ranges c.args.g
    c.args.t ra is c.requires.3
    c.requires.0 _ _ _ _ _ _ _
    c.of_relations-b.ensures c.of_nodes-w.ensures
    c.every_tuples-tuples.ensures _ c.bound_of-bound.ensures
