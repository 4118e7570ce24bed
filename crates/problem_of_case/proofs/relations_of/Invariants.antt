-- `problem_of_case::relations_of` meets its contract.
use Prim.Native.Nat.{◌≤◌}
use mathlib.Core.Path.{◌≡◌}
use lib.ListN.{length}
use Rattle.problem_of_case.specs.NumberedLaws.{Filled}
use Rattle.problem_of_case.proofs.relations_of.Given as goal

abbrev pub invariant-loop-r : goal.invariant-loop-r
invariant-loop-r l = (l.r ≤ l.count) × (l.count ≤ 18) × (length l.arity ≡ 18) × (length l.kind ≡ 18) × (length l.firsts ≡ 18) × (length l.seconds ≡ 18) × Filled l.count l.g.arity l.g.kind l.g.firsts l.g.seconds l.r l.arity l.kind l.firsts l.seconds
