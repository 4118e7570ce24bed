-- `read_plan::set_name` meets its contract. Assumes nothing.
use mathlib.Core.Path.{◌≡◌}
use Prim.Native.Nat.{◌≤◌}
use lib.Seq.{slice}
use Rattle.problem_table.specs.Lines.{relations_in}
use Rattle.read_plan.specs.Domain.{NoneBefore}
use Rattle.read_plan.proofs.set_name.Given as goal

abbrev pub invariant-loop-r : goal.invariant-loop-r
invariant-loop-r l = (l.r ≤ l.rels) × (l.rels ≡ relations_in l.table) × NoneBefore l.question l.names l.table (slice l.a l.e l.s) l.r
