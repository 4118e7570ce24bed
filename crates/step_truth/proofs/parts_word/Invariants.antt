-- `step_truth::parts_word` meets its contract.
use Prim.Native.Nat.{ℕ, zero, ◌+◌, ◌-◌, ◌<◌, ◌≤◌}
use Rattle.bits.specs.Table.{digit, bit, turned}
use Rattle.definitions.specs.Lists.{any, from}
use Rattle.definitions.specs.Problem.Actions.{with_value}
use Rattle.problem_table.specs.Lines.{part_at}
use Rattle.rows.specs.Values.{value_in}
use mathlib.Core.Bool.{◌||◌}
use mathlib.Core.Path.{◌≡◌}
use Rattle.step_truth.proofs.parts_word.Given as goal

abbrev pub invariant-loop-i : goal.invariant-loop-i
invariant-loop-i l = (l.i ≤ l.many) × ((x : ℕ) → x < l.lanes → (digit l.acc x || any (λ (j : ℕ). turned l.flip (bit l.state (part_at l.table (with_value (value_in l.env) l.level x) (l.first + j)))) (from l.i (l.many - l.i)))
    ≡ any (λ (j : ℕ). turned l.flip (bit l.state (part_at l.table (with_value (value_in l.env) l.level x) (l.first + j)))) (from zero l.many))
