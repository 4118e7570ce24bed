-- `problem_table::parts_hold` meets its contract.
use Prim.Native.Nat.{ℕ, ◌+◌, ◌-◌, ◌≤◌}
use mathlib.Core.Path.{◌≡◌}
use mathlib.Core.Bool.{Bool}
use mathlib.Core.List.{map}
use Rattle.definitions.specs.Lists.{all, from}
use Rattle.bits.specs.Table.{bit}
use Rattle.rows.specs.Values.{value_in}
use Rattle.problem_table.specs.Lines.{part_at}
use Rattle.problem_table.proofs.parts_hold.Given as goal

abbrev pub invariant-loop-k : goal.invariant-loop-k
invariant-loop-k l = let hold : (a m : ℕ) → Bool = λ a m. all (bit l.state) (map (part_at l.table (value_in l.env)) (from a m)) in (l.k ≤ l.many) × (hold l.first l.many ≡ hold (l.first + l.k) (l.many - l.k))
