-- `is_bound` meets its contract.
use mathlib.Core.Path.{◌≡◌}
use Prim.Native.Nat.{◌-◌, ◌≤◌}
use lib.Seq.{slice}
use Rattle.definitions.specs.Sheet.Formula.{is_bound}
use Rattle.read_rule.specs.Seen.{names, spans}
use Rattle.read_rule.proofs.is_bound.Given as goal

abbrev pub invariant-loop-i : goal.invariant-loop-i
invariant-loop-i l = (l.i ≤ l.sc.n) × (is_bound (names l.s l.sc) (slice l.a l.e l.s) ≡ is_bound (spans l.s l.sc.from l.sc.to (l.sc.n - l.i) l.i) (slice l.a l.e l.s))
