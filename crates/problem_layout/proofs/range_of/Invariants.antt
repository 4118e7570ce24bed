-- `problem_layout::range_of` meets its contract.
use Prim.Native.Nat.{◌+◌, ◌*◌, ◌<◌, ◌≤◌}
use Rattle.bits.specs.Table.{bit}
use Rattle.problem_layout.specs.RangeLaws.{Counted}
use Rattle.problem_layout.proofs.range_of.Given as goal

abbrev pub invariant-loop-x : goal.invariant-loop-x
invariant-loop-x l = (l.x ≤ l.n) × Counted (λ y. bit l.members (64 * l.k + y)) l.n l.x l.count l.top × (l.k < 8)
