-- `problem_layout::fill_members` meets its contract.
use Prim.Native.Nat.{◌+◌, ◌*◌, ◌<◌, ◌≤◌}
use Rattle.bits.specs.Table.{bit}
use Rattle.problem_layout.specs.RangeLaws.{Written}
use Rattle.problem_layout.proofs.fill_members.Given as goal

abbrev pub invariant-loop-x : goal.invariant-loop-x
invariant-loop-x l = (l.x ≤ l.n) × Written (λ y. bit l.members (64 * l.k + y)) l.at l.initial.table l.table l.i l.x × (l.k < 8)
