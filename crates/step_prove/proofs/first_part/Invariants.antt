-- `step_prove::first_part` meets its contract.
use Prim.Native.Nat.{ℕ, ◌+◌, ◌-◌, ◌≤◌}
use mathlib.Core.Path.{◌≡◌}
use Rattle.bits.specs.Table.{bit}
use Rattle.rows.specs.Values.{value_in}
use Rattle.problem_table.specs.Lines.{part_at}
use Rattle.step_prove.specs.Tries.{first_from}
use Rattle.step_prove.proofs.first_part.Given as goal

abbrev pub invariant-loop-i : goal.invariant-loop-i
invariant-loop-i l = (l.i ≤ l.tries) × (first_from
    (λ (x : ℕ). bit l.state (part_at l.table (value_in l.env) (l.first + x))) 0 l.tries ≡ first_from
    (λ (x : ℕ). bit l.state (part_at l.table (value_in l.env) (l.first + x))) l.i (l.tries - l.i))
