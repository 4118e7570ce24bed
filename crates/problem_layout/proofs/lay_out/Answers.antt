-- `problem_layout::lay_out` meets its contract.
use Prim.Native.Nat.{◌+◌, ◌^◌, ◌≤◌, ◌<◌}
use native.Mathlib.Omega.{arith}
use Rattle.problem_layout.specs.LaidLaws.{rel_bound, set_bound, node_bound}
use Rattle.problem_layout.specs.StartsAre.{laid}
use Rattle.problem_layout.proofs.lay_out.Goals as goal
use Rattle.problem_layout.proofs.lay_out.Goals.{After-node_starts-s, After-relation_starts-r}

-- what the relations have is few, and what the nodes have
low : (c : After-relation_starts-r) → let r = c.relation_starts-r.result in (r.at ≤ 2 ^ 30) × (r.sets < 2 ^ 30)
low c =
    let r = c.relation_starts-r.ensures in let a = rel_bound _ _ c.requires.1 c.requires.2 c.args.g.count in
    let b = set_bound _ _ c.requires.1 c.requires.2 c.args.ranges.count c.requires.4.count c.args.g.count in
    (omega (arith, r.at_is, c.requires.2.count), omega (arith, r.set_is, c.requires.2.count))

high : (c : After-node_starts-s) → let r = c.relation_starts-r.result in (r.at ≤ 2 ^ 30) × (r.sets < 2 ^ 30) → c.node_starts-s.result.at ≤ 2 ^ 40
high c q =
    let e = c.node_starts-s.ensures in let a = node_bound _ c.args.ranges.count _ c.relation_starts-r.result.at (c.relation_starts-r.result.sets + 1) c.requires.1 c.requires.4.count c.requires.3 c.args.t.count in
    omega (arith, e.at_is, c.requires.3.few)

pub overflow_add-first : goal.overflow_add-first
overflow_add-first c = omega (arith, low (goal.at.overflow_add-first c).After-relation_starts-r)

pub node_starts-s-requires : goal.node_starts-s-requires
node_starts-s-requires c = let q = low (goal.at.node_starts-s-requires c).After-relation_starts-r in (c.requires.0, c.requires.1, c.requires.3, omega arith, omega arith, c.requires.4)

pub last_starts-e-requires : goal.last_starts-e-requires
last_starts-e-requires c = (c.requires.0, c.requires.1, c.requires.2, (high (goal.at.last_starts-e-requires c).After-node_starts-s (low (goal.at.last_starts-e-requires c).After-relation_starts-r)))

pub returns : goal.returns
returns c =
    let q = c.requires in λ p w k ra is. laid _ p w k _ _ _ ra is q.0 q.2 q.3 _ _ _ _ _ _ _ _ _ _ _ _ _ _ c.relation_starts-r.ensures c.node_starts-s.ensures
    c.last_starts-e.ensures.0 c.last_starts-e.ensures.1
