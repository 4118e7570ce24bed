-- `step_prove::first_member` meets its contract.
use Prim.Native.Nat.{ℕ, ◌+◌, ◌-◌, ◌*◌, ◌≤◌}
use mathlib.Core.Path.{◌≡◌}
use lib.ListN.{get_or}
use Rattle.bits.specs.Table.{bit}
use Rattle.step_prove.specs.Tries.{first_from}
use Rattle.step_prove.proofs.first_member.Given as goal

abbrev pub invariant-loop-i : goal.invariant-loop-i
invariant-loop-i l = (l.i ≤ l.fn.count) ×
    (first_from (λ (x : ℕ). bit l.state (l.start + get_or l.table (l.range + x) 0 * l.stride)) 0 l.count ≡ first_from
    (λ (x : ℕ). bit l.state (l.start + get_or l.table (l.range + x) 0 * l.stride)) l.i (l.count - l.i))
