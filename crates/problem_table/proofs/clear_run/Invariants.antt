-- `problem_table::clear_run` meets its contract.
use mathlib.Core.Path.{◌≡◌}
use mathlib.Core.Bool.{false}
use Prim.Native.Nat.{◌-◌, ◌≤◌, ◌<◌}
use Rattle.bits.specs.Table.{bit, paste}
use Rattle.problem_table.proofs.clear_run.Given as goal

abbrev pub invariant-loop-k : goal.invariant-loop-k
invariant-loop-k l = (l.start < l.k → l.k ≤ l.end) × (bit l.words ≡ paste (bit l.initial.words) l.start (λ i. false) 0 (l.k - l.start))

abbrev pub decreases-loop-k : goal.decreases-loop-k
decreases-loop-k l = l.end - l.k
